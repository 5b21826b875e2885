-- The bindings of the walk, one word a row: those of rows before x are known, the others 0. One row further, the words before it stay unless the row is
-- a label.
-- Assumes nothing.
use mathlib.Core.Path.{◌≡◌, sym, ◌∙◌, ap}
use mathlib.Core.Bool.{true, false}
use mathlib.Core.List.{List}
use mathlib.Core.Option.{none, some}
use Prim.Native.Nat.{ℕ, suc, ◌≤◌, ◌<◌}
use native.Mathlib.Omega.{arith}
use native.Mathlib.Decide.{ℕ_discrete, dec_lt}
use lib.Dec.{ltb}
use lib.ListN.{length, get_or, take, drop, set, length-set}
use lib.Seq.{ext_get_or, length-take-le, get_or-take, get_or-set_same, get_or-set_other, drop-set-lt}
use borrow.Author.Tests.{lt-ltb, le-ltb}
use Rattle.rules.specs.Rows.{row_count}
use Rattle.rules.specs.Class.{goto, class}
use Rattle.rules.specs.Labels.{is_class, is_label, earlier, later, word, binding}
use Rattle.rules.proofs.Test.{case-of, case-found, clash}
use Rattle.rules.proofs.Each.{each-length, each_at}
use Rattle.rules.proofs.ClassTests.{one-is, one-not}
use Rattle.rules.proofs.Every.{is_one}
use Rattle.rules.proofs.LabelRows.{is-labels}
use Rattle.rules.proofs.GotoRows.{is_later, later-parts, is_later_lem, later_first, later-is, later-none, none-later}
use Rattle.walk_state.specs.Walk.{binding_at, bindings_at}

module _ (w p b : List ℕ) where
  -- ---- the words at x
  abbrev pub word_at : ℕ → ℕ → ℕ
  word_at x g = elim (ltb g x) [ true ↦ binding_at w p b x g | false ↦ 0 ]

  pub word-before : (x g : ℕ) → g < x → word_at x g ≡ binding_at w p b x g
  word-before x g l = rw (lt-ltb g x l, word_at)

  pub word-from : (x g : ℕ) → x ≤ g → word_at x g ≡ 0
  word-from x g l = rw (le-ltb g x l, word_at)

  pub bindings_length : (x : ℕ) → length (bindings_at w p b x) ≡ row_count w
  unfolding bindings_at
  bindings_length x = each-length (word_at x) (row_count w)

  pub bindings-at : (x g : ℕ) → g < row_count w → get_or (bindings_at w p b x) g 0 ≡ word_at x g
  unfolding bindings_at
  bindings-at x g h = each_at (word_at x) (row_count w) g h

  -- the first words of a list are these when they are one by one
  pub bindings-are : (x : ℕ) (t : List ℕ) → row_count w ≤ length t → ((g : ℕ) → g < row_count w → get_or t g 0 ≡ word_at x g)
      → take (row_count w) t ≡ bindings_at w p b x
  bindings-are x t h e =
      let n = length-take-le (row_count w) t h in
      ext_get_or 0 (take (row_count w) t) (bindings_at w p b x) (n ∙ sym (bindings_length x))
      (λ g l. get_or-take (row_count w) t g 0 (omega arith) ∙ e g (omega arith) ∙ sym (bindings-at x g (omega arith)))

  pub are-bindings : (x : ℕ) (t : List ℕ) (g : ℕ) → take (row_count w) t ≡ bindings_at w p b x → g < row_count w → get_or t g 0 ≡ word_at x g
  are-bindings x t g e h = sym (get_or-take (row_count w) t g 0 h) ∙ ap (λ (l : List ℕ). get_or l g 0) e ∙ bindings-at x g h

  pub bindings_zero : (t : List ℕ) → row_count w ≤ length t → ((g : ℕ) → g < row_count w → get_or t g 0 ≡ 0) → take (row_count w) t ≡ bindings_at w p b 0
  bindings_zero t h e = bindings-are 0 t h (λ g l. e g l ∙ sym (word-from 0 g (omega arith)))

  -- ---- the binding of a row
  pub at-goto : (x g d : ℕ) → class w g ≡ goto → earlier w p b g ≡ some d → binding_at w p b x g ≡ suc d
  unfolding binding_at
  at-goto x g d c e = rw (one-is (class w g) goto c, e, binding_at)

  pub at-later : (x g : ℕ) → class w g ≡ goto → earlier w p b g ≡ none → binding_at w p b x g ≡ word (later w p b x g)
  unfolding binding_at
  at-later x g c e = rw (one-is (class w g) goto c, e, binding_at)

  pub at_other : (x g : ℕ) → (class w g ≡ goto → ⊥) → binding_at w p b x g ≡ binding w p b g
  unfolding binding_at
  at_other x g n = rw (one-not (class w g) goto n, binding_at)

  -- ---- later, one row further
  pub later_same : (x g : ℕ) → is_later w p b g x ≡ false → later w p b (suc x) g ≡ later w p b x g
  later_same x g f = case-found (later w p b x g)
      (λ r e.
      let i = is_later_lem w p b x g r e in
      later-is w p b (suc x) g r (omega (arith, i.0)) i.1 (λ k h. later_first w p b x g r k e h) ∙ sym e)
      (λ e. none-later w p b (suc x) g (λ k h. elim (ℕ_discrete k x) [
        | yes i ↦ rw i f
        | no n ↦ later-none w p b x g k e (omega arith)
      ]) ∙ sym e)

  pub later-found : (x g : ℕ) → is_later w p b g x ≡ true → later w p b x g ≡ none → later w p b (suc x) g ≡ some x
  later-found x g t e = later-is w p b (suc x) g x (omega arith) t (λ k h. later-none w p b x g k e h)

  pub later-kept : (x g r : ℕ) → later w p b x g ≡ some r → later w p b (suc x) g ≡ some r
  later-kept x g r e =
      let i = is_later_lem w p b x g r e in
      later-is w p b (suc x) g r (omega (arith, i.0)) i.1 (λ k h. later_first w p b x g r k e h)

  -- no label, no later
  pub not-later : (x g : ℕ) → is_label w p b x ≡ false → is_later w p b g x ≡ false
  not-later x g n = case-of (is_later w p b g x)
      (λ t. absurd (clash (cc (is-labels w p b g x (later-parts w p b g x t).1).0)))
      (λ f. f)

  -- and none of the rows before the goto is later
  pub later-own : (g : ℕ) → later w p b (suc g) g ≡ none
  later-own g = none-later w p b (suc g) g (λ k h. case-of (is_later w p b g k)
      (λ t. let l = (later-parts w p b g k t).0 in absurd (omega arith))
      (λ f. f))

  -- ---- one row further: the words before it
  pub binding-same : (x g : ℕ) → is_later w p b g x ≡ false → binding_at w p b (suc x) g ≡ binding_at w p b x g
  binding-same x g f = case-of (is_class w goto g)
      (λ t. goto-same (is_one (class w g) goto t))
      (λ t. other-same (λ e. clash (cc (one-is (class w g) goto e))))
    where
      goto-same : class w g ≡ goto → binding_at w p b (suc x) g ≡ binding_at w p b x g
      goto-same c = case-found (earlier w p b g)
          (λ d e. at-goto (suc x) g d c e ∙ sym (at-goto x g d c e))
          (λ e. at-later (suc x) g c e ∙ ap word (later_same x g f) ∙ sym (at-later x g c e))

      other-same : (class w g ≡ goto → ⊥) → binding_at w p b (suc x) g ≡ binding_at w p b x g
      other-same n = at_other (suc x) g n ∙ sym (at_other x g n)

  -- a row that is no label: its own word is set, the others stay
  module _ (x : ℕ) (row : x < row_count w) (n : is_label w p b x ≡ false) (t : List ℕ) (room : row_count w ≤ length t)
      (bound : take (row_count w) t ≡ bindings_at w p b x) where
    others : (g : ℕ) → g < row_count w → (g ≡ x → ⊥) → get_or t g 0 ≡ word_at (suc x) g
    others g h o = are-bindings x t g bound h ∙ elim (dec_lt g x) [
      | yes l ↦ word-before x g l ∙ sym (binding-same x g (not-later x g n)) ∙ sym (word-before (suc x) g (omega arith))
      | no m ↦ word-from x g (omega arith) ∙ sym (word-from (suc x) g (omega arith))
    ]

    pub bindings-set : (v : ℕ) → v ≡ binding_at w p b (suc x) x → take (row_count w) (set t x v) ≡ bindings_at w p b (suc x)
    bindings-set v e = bindings-are (suc x) (set t x v) (rw length-set room)
        (λ g h. elim (ℕ_discrete g x) [
          | yes i ↦ rw i (get_or-set_same t x v 0 (omega arith) ∙ e ∙ sym (word-before (suc x) x (omega arith)))
          | no o ↦ get_or-set_other t x g v 0 o ∙ others g h o
        ])

    pub bindings_kept : (v : ℕ) → drop (row_count w) (set t x v) ≡ drop (row_count w) t
    bindings_kept v = drop-set-lt (row_count w) t x v row

    -- a row that binds nothing
    pub bindings-same : binding_at w p b (suc x) x ≡ 0 → take (row_count w) t ≡ bindings_at w p b (suc x)
    bindings-same e = bindings-are (suc x) t room
        (λ g h. elim (ℕ_discrete g x) [
          | yes i ↦ rw i (are-bindings x t x bound row ∙ word-from x x (omega arith) ∙ sym e ∙ sym (word-before (suc x) x (omega arith)))
          | no o ↦ others g h o
        ])
