-- The first of a list of causes that applies is the refusal: one law about such lists, both ways. Then each cause by the tests that the code makes.
-- Assumes nothing.
use mathlib.Core.Path.{◌≡◌, refl, sym, ◌∙◌}
use mathlib.Core.Bool.{true, false}
use mathlib.Core.List.{List, [], ◌∷◌}
use mathlib.Core.Option.{Option, none, some}
use Prim.Native.Nat.{ℕ, zero, suc}
use lib.Dec.{ltb}
use lib.ListN.{get_or, take}
use Rattle.rules.specs.Scan.{lowest}
use Rattle.rules.specs.Rows.{row_count, depth}
use Rattle.rules.specs.Names.{count_of_pairs, bad_name_words, bad_pair}
use Rattle.rules.specs.Refusals.{bad_row_words, bad_row, bad_size, bad_shape, cause1, cause2, cause3, cause4, cause5, second_default, cause10, cause6, causes}
use Rattle.rules.specs.Refusals.{first_cause, refusal, WellFormed}
use Rattle.rules.proofs.Test.{case-of, case-found, clash}

-- ---- lists of causes

-- none of them applies
abbrev pub NoneOf : List (ℕ × Option ℕ) → Type 0
NoneOf [] = Unit {0}
NoneOf (c ∷ cs) = (c.1 ≡ none) × NoneOf cs

abbrev nth : List (ℕ × Option ℕ) → ℕ → ℕ × Option ℕ
nth cs k = get_or cs k (0, none)

-- the cause at place k, from 0, applies, and none before it
first_at : (cs : List (ℕ × Option ℕ)) (k i : ℕ) → NoneOf (take k cs) → (nth cs k).1 ≡ some i → first_cause cs ≡ some ((nth cs k).0, i)
unfolding first_cause
first_at [] k i h e = absurd (clash (cc))
first_at (c ∷ cs) zero i h e = rw (e, first_cause)
first_at (c ∷ cs) (suc k) i h e = rw (h.0, first_cause) (first_at cs k i h.1 e)

none_first : (cs : List (ℕ × Option ℕ)) → NoneOf cs → first_cause cs ≡ none
unfolding first_cause
none_first [] h = refl
none_first (c ∷ cs) h = rw (h.0, first_cause) (none_first cs h.1)

first-none : (cs : List (ℕ × Option ℕ)) → first_cause cs ≡ none → NoneOf cs
unfolding first_cause
first-none [] e = tt
first-none (c ∷ cs) e = case-found c.1
    (λ i f. let z : some (c.0, i) ≡ none = rw (f, first_cause) at e in absurd (clash (cc)))
    (λ f. (f, first-none cs (rw (f, first_cause) at e)))

-- ---- the refusal
module _ (w p b : List ℕ) where
  pub refused-at : (k i : ℕ) → NoneOf (take k (causes w p b)) → (nth (causes w p b) k).1 ≡ some i → refusal w p b ≡ some ((nth (causes w p b) k).0, i)
  unfolding refusal
  refused-at = first_at (causes w p b)

  pub accepted : NoneOf (causes w p b) → WellFormed w p b
  unfolding refusal
  accepted = none_first (causes w p b)

  pub none-applies : WellFormed w p b → NoneOf (causes w p b)
  unfolding refusal
  none-applies = first-none (causes w p b)

-- ---- each cause by its tests
module _ (w : List ℕ) where
  pub bad-1 : bad_row_words w ≡ true → cause1 w ≡ some 0
  unfolding cause1
  bad-1 t = rw t

  pub good-1 : bad_row_words w ≡ false → cause1 w ≡ none
  unfolding cause1
  good-1 t = rw t

  pub bad-size-5 : (r : ℕ) → lowest (bad_size w) (row_count w) ≡ some r → cause5 w ≡ some r
  unfolding cause5
  bad-size-5 r e = rw (e, cause5)

  pub is-5 : lowest (bad_size w) (row_count w) ≡ none → cause5 w ≡ lowest (bad_shape w) (row_count w)
  unfolding cause5
  is-5 e = rw (e, cause5)

  pub is-10 : cause10 w ≡ lowest (second_default w) (row_count w)
  unfolding cause10
  is-10 = refl

  pub is-6 : cause6 w ≡ lowest (λ r. ltb 100 (depth w r)) (row_count w)
  unfolding cause6
  is-6 = refl

module _ (p b : List ℕ) where
  pub bad-2 : bad_name_words p b ≡ true → cause2 p b ≡ some 0
  unfolding cause2
  bad-2 t = rw t

  pub good-2 : bad_name_words p b ≡ false → cause2 p b ≡ none
  unfolding cause2
  good-2 t = rw t

  pub is-3 : cause3 p b ≡ lowest (bad_pair p b) (count_of_pairs p)
  unfolding cause3
  is-3 = refl

pub is-4 : (w p : List ℕ) → cause4 w p ≡ lowest (bad_row w p) (row_count w)
unfolding cause4
is-4 w p = refl

-- ---- of a well-formed body no test finds anything
pub record NoCause (w p b : List ℕ) : Type 0 where
  pub row_words : bad_row_words w ≡ false
  pub name-words : bad_name_words p b ≡ false
  pub pairs : lowest (bad_pair p b) (count_of_pairs p) ≡ none
  pub rows : lowest (bad_row w p) (row_count w) ≡ none
  pub sizes : lowest (bad_size w) (row_count w) ≡ none
  pub shapes : lowest (bad_shape w) (row_count w) ≡ none
  pub defaults : lowest (second_default w) (row_count w) ≡ none
  pub depths : lowest (λ r. ltb 100 (depth w r)) (row_count w) ≡ none

-- a cause that doesn't apply, and a test of it that passed
neither : {A : Type 0} {o : Option ℕ} {i : ℕ} → o ≡ none → o ≡ some i → A
neither e f = absurd (clash (cc))

pub no-cause : (w p b : List ℕ) → WellFormed w p b → NoCause w p b
no-cause w p b wf =
    let (e1, (e2, (e3, (e4, (e5, (e10, (e6, _))))))) = none-applies w p b wf in
    let sizes = case-found (lowest (bad_size w) (row_count w)) (λ r e. neither e5 (bad-size-5 w r e)) (λ e. e) in
    record {
      row_words = case-of (bad_row_words w) (λ t. neither e1 (bad-1 w t)) (λ f. f);
      name-words = case-of (bad_name_words p b) (λ t. neither e2 (bad-2 p b t)) (λ f. f);
      pairs = sym (is-3 p b) ∙ e3;
      rows = sym (is-4 w p) ∙ e4;
      sizes = sizes;
      shapes = sym (is-5 w sizes) ∙ e5;
      defaults = sym (is-10 w) ∙ e10;
      depths = sym (is-6 w) ∙ e6;
    }
