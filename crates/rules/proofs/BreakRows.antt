-- The laws of a labelled break or continue: which rows are one, what its target is, and when the target is of the kind that it needs.
-- Assumes nothing.
use mathlib.Core.Path.{◌≡◌}
use mathlib.Core.Bool.{Bool, true, false, ◌&&◌}
use mathlib.Core.List.{List, [], ◌∷◌}
use mathlib.Core.Option.{none, some}
use Prim.Native.Nat.{ℕ, suc, ◌<◌}
use lib.Dec.{ltb}
use borrow.Author.Tests.{ltb-true, lt-ltb}
use Rattle.rules.specs.Rows.{name, end}
use Rattle.rules.specs.Class.{break, continue, one_of, class}
use Rattle.rules.specs.Scope.{around}
use Rattle.rules.specs.Labels.{needs, labels, last_in_run, in_block_of, target, valid_target, labelled_break}
use Rattle.rules.specs.Law.{LawfulTarget}
use Rattle.rules.proofs.Test.{case-of, case-found, clash, and-true}
use Rattle.rules.proofs.Scan.{highest-found, found-highest, none-highest}

module _ (w p b : List ℕ) where
  -- ---- target: the innermost of the labelled statements around the branch that have its name
  pub record Target (g t : ℕ) : Type 0 where
    pub before : t < g
    pub reaches : g < end w t
    pub names : labels w p b g t ≡ true
    pub last : last_in_run w p b t ≡ true
    pub in_block : in_block_of w p b t g ≡ true

  abbrev aims_at : ℕ → ℕ → Bool
  aims_at g t = around w g t && (labels w p b g t && (last_in_run w p b t && in_block_of w p b t g))

  aims-is : (g t : ℕ) → Target g t → aims_at g t ≡ true
  aims-is g t x = rw (lt-ltb g (end w t) x.reaches, x.names, x.last, x.in_block)

  is-aims : (g t : ℕ) → t < g → aims_at g t ≡ true → Target g t
  is-aims g t h u =
      let a = and-true (around w g t) (labels w p b g t && (last_in_run w p b t && in_block_of w p b t g)) u in
      let c = and-true (labels w p b g t) (last_in_run w p b t && in_block_of w p b t g) a.1 in
      let d = and-true (last_in_run w p b t) (in_block_of w p b t g) c.1 in
      record { before = h; reaches = ltb-true g (end w t) a.0; names = c.0; last = d.0; in_block = d.1 }

  pub is-target : (g t : ℕ) → target w p b g ≡ some t → Target g t
  unfolding target
  is-target g t e = let x = highest-found (aims_at g) g t e in is-aims g t x.0 x.1

  pub target_is : (g t : ℕ) → Target g t → ((s : ℕ) → t < s → Target g s → ⊥) → target w p b g ≡ some t
  unfolding target
  target_is g t x above = found-highest (aims_at g) g t x.before (aims-is g t x)
      (λ s h m. case-of (aims_at g s) (λ u. absurd (above s h (is-aims g s m u))) (λ f. f))

  pub none-target : (g : ℕ) → ((t : ℕ) → Target g t → ⊥) → target w p b g ≡ none
  unfolding target
  none-target g never = none-highest (aims_at g) g (λ t h. case-of (aims_at g t) (λ u. absurd (never t (is-aims g t h u))) (λ f. f))

  -- ---- valid_target
  pub valid-found : (g t : ℕ) → target w p b g ≡ some t → valid_target w p b g ≡ needs (class w g) (class w (suc t))
  unfolding valid_target
  valid-found g t e = rw (e, valid_target)

  pub valid-none : (g : ℕ) → target w p b g ≡ none → valid_target w p b g ≡ false
  unfolding valid_target
  valid-none g e = rw (e, valid_target)

  pub valid-is : (g : ℕ) → LawfulTarget w p b g → valid_target w p b g ≡ true
  valid-is g (t, e, n) = rw (valid-found g t e, n)

  pub is-valid : (g : ℕ) → valid_target w p b g ≡ true → LawfulTarget w p b g
  is-valid g v = case-found (target w p b g)
      (λ t e. (t, e, rw (valid-found g t e) at v))
      (λ e. absurd (clash (cc (valid-none g e))))

  -- ---- labelled_break
  pub record LabelledBreak (r : ℕ) : Type 0 where
    pub breaks : one_of (break ∷ continue ∷ []) (class w r) ≡ true
    pub has-name : 0 < name w r

  pub labelled-is : (r : ℕ) → LabelledBreak r → labelled_break w p b r ≡ true
  unfolding labelled_break
  labelled-is r x = rw (x.breaks, lt-ltb 0 (name w r) x.has-name, labelled_break)

  pub is-labelled : (r : ℕ) → labelled_break w p b r ≡ true → LabelledBreak r
  unfolding labelled_break
  is-labelled r t =
      let y = and-true (one_of (break ∷ continue ∷ []) (class w r)) (ltb 0 (name w r)) t in
      record { breaks = y.0; has-name = ltb-true 0 (name w r) y.1 }

  pub not-labelled : (r : ℕ) → (LabelledBreak r → ⊥) → labelled_break w p b r ≡ false
  not-labelled r n = case-of (labelled_break w p b r) (λ t. absurd (n (is-labelled r t))) (λ f. f)

  -- a row of another class
  pub other-labelled : (r : ℕ) → one_of (break ∷ continue ∷ []) (class w r) ≡ false → labelled_break w p b r ≡ false
  other-labelled r f = not-labelled r (λ x. clash (cc x.breaks))
