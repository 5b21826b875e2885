-- The laws of `use_at`, the label that a branch before row x is bound to: a row that is no branch, or from x on, has none, and one row further only what the row
-- itself resolves or binds is new. And what `used_by` and `contains` answer of one entry more.
-- Assumes nothing.
use mathlib.Core.Path.{◌≡◌, refl, sym, ◌∙◌}
use mathlib.Core.Bool.{true, false, ◌||◌}
use mathlib.Core.Logic.{◌⊎◌, inl, inr}
use mathlib.Core.List.{List, ◌∷◌}
use Prim.Native.Nat.{ℕ, suc, ◌≤◌, ◌<◌}
use native.Mathlib.Omega.{arith}
use native.Mathlib.Decide.{dec_lt, ℕ_discrete}
use lib.Dec.{ltb, eqb}
use borrow.Author.Tests.{lt-ltb, le-ltb, eqb-true, eq-eqb, ne_eqb}
use Rattle.rules.specs.Class.{is_branch, class}
use Rattle.rules.proofs.Test.{case-of, or-true}
use Rattle.walk_state.specs.Walk.{binding_at}
use Rattle.goscript.specs.Syntax.{any, contains}
use Rattle.goscript.specs.Checker.{Use, used_by}
use Rattle.goscript.proofs.Walking.{use_at}

-- ---- one entry more
module _ (us : List Use) (i o g : ℕ) where
  pub used-own : i ≡ g → used_by (record { identifier = i; object = o } ∷ us) g ≡ suc o
  unfolding used_by
  used-own e = rw (eq-eqb i g e, used_by)

  pub used-other : (i ≡ g → ⊥) → used_by (record { identifier = i; object = o } ∷ us) g ≡ used_by us g
  unfolding used_by
  used-other n = rw (ne_eqb i g n, used_by)

module _ (d o : ℕ) (os : List ℕ) where
  pub contains-more : contains d (o ∷ os) ≡ (eqb d o || contains d os)
  unfolding contains any
  contains-more = refl

  pub contains-own : d ≡ o → contains d (o ∷ os) ≡ true
  contains-own e = contains-more ∙ rw (eq-eqb d o e)

  pub contains-kept : contains d os ≡ true → contains d (o ∷ os) ≡ true
  contains-kept t = contains-more ∙ case-of (eqb d o) (λ u. rw u) (λ u. rw u t)

  pub contains-cases : contains d (o ∷ os) ≡ true → (d ≡ o) ⊎ (contains d os ≡ true)
  contains-cases t = elim (or-true (eqb d o) (contains d os) (sym contains-more ∙ t)) [ inl u ↦ inl (eqb-true d o u) | inr u ↦ inr u ]

-- ---- below one more
pub below_other : (r x : ℕ) → (r ≡ x → ⊥) → ltb r (suc x) ≡ ltb r x
below_other r x n = elim (dec_lt r x) [
  | yes l ↦ lt-ltb r (suc x) (omega arith) ∙ sym (lt-ltb r x l)
  | no m ↦ le-ltb r (suc x) (omega arith) ∙ sym (le-ltb r x (omega arith))
]

module _ (w p b : List ℕ) where
  pub use-branch : (x g : ℕ) → g < x → is_branch (class w g) ≡ true → use_at w p b x g ≡ binding_at w p b x g
  unfolding use_at
  use-branch x g h t = rw (lt-ltb g x h, t, use_at)

  pub use-from : (x g : ℕ) → x ≤ g → use_at w p b x g ≡ 0
  unfolding use_at
  use-from x g h = rw (le-ltb g x h, use_at)

  pub use-none : (x g : ℕ) → is_branch (class w g) ≡ false → use_at w p b x g ≡ 0
  unfolding use_at
  use-none x g f = case-of (ltb g x) (λ t. rw (t, f, use_at)) (λ t. rw (t, use_at))

  -- another row than x, whose binding stays where it stands before x
  pub use_kept : (x g : ℕ) → (g ≡ x → ⊥) → (g < x → binding_at w p b (suc x) g ≡ binding_at w p b x g) → use_at w p b (suc x) g ≡ use_at w p b x g
  use_kept x g n e = elim (dec_lt g x) [
    | yes l ↦ case-of (is_branch (class w g))
        (λ t. use-branch (suc x) g (omega arith) t ∙ e l ∙ sym (use-branch x g l t))
        (λ f. use-none (suc x) g f ∙ sym (use-none x g f))
    | no m ↦ use-from (suc x) g (omega arith) ∙ sym (use-from x g (omega arith))
  ]

  -- the row x itself, where it is bound to nothing
  use-own : (x : ℕ) → (is_branch (class w x) ≡ true → binding_at w p b (suc x) x ≡ 0) → use_at w p b (suc x) x ≡ use_at w p b x x
  use-own x h = case-of (is_branch (class w x))
      (λ t. use-branch (suc x) x (omega arith) t ∙ h t)
      (λ f. use-none (suc x) x f)
      ∙ sym (use-from x x (omega arith))

  -- so every row
  pub use-same : (x g : ℕ) → (is_branch (class w x) ≡ true → binding_at w p b (suc x) x ≡ 0)
      → (g < x → binding_at w p b (suc x) g ≡ binding_at w p b x g) → use_at w p b (suc x) g ≡ use_at w p b x g
  use-same x g h e = elim (ℕ_discrete g x) [ yes i ↦ rw i (use-own x h) | no n ↦ use_kept x g n e ]
