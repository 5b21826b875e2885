-- A test of one class passes exactly at that class, since `is-class` reads a class off its number. A branch is one of four classes.
-- Assumes nothing.
use mathlib.Core.Path.{◌≡◌, refl}
use mathlib.Core.Bool.{true, false}
use mathlib.Core.List.{List, [], ◌∷◌}
use lib.Dec.{eqb}
use borrow.Author.Tests.{eq-eqb}
use Rattle.rules.specs.Class.{Class, break, continue, goto, fallthrough, code, one_of, is_branch}
use Rattle.rules.proofs.Test.{case-of}
use Rattle.rules.proofs.Every.{is-class, is_one}

module _ (c : Class) where
  -- one class: `is_one` of Every.antt gives the class of a test that passes
  pub one-is : (d : Class) → c ≡ d → one_of (d ∷ []) c ≡ true
  one-is d e = rw (e, eq-eqb (code d) (code d) refl)

  pub one-not : (d : Class) → (c ≡ d → ⊥) → one_of (d ∷ []) c ≡ false
  one-not d n = case-of (one_of (d ∷ []) c) (λ t. absurd (n (is_one c d t))) (λ f. f)

  -- by the first class that passes, or by the rest
  pub by-class : {G : Type 0} (d : Class) (ds : List Class) → one_of (d ∷ ds) c ≡ true → (c ≡ d → G) → (one_of ds c ≡ true → G) → G
  by-class d ds t f g = case-of (eqb (code c) (code d)) (λ e. f (is-class c d e)) (λ e. g (rw e at t))

  pub by-branch : {G : Type 0} → is_branch c ≡ true → (c ≡ break → G) → (c ≡ continue → G) → (c ≡ goto → G) → (c ≡ fallthrough → G) → G
  by-branch t f g h k = by-class break (continue ∷ goto ∷ fallthrough ∷ []) t f
      (λ t. by-class continue (goto ∷ fallthrough ∷ []) t g (λ t. by-class goto (fallthrough ∷ []) t h (λ t. k (is_one c fallthrough t))))

  pub by-break : {G : Type 0} → one_of (break ∷ continue ∷ []) c ≡ true → (c ≡ break → G) → (c ≡ continue → G) → G
  by-break t f g = by-class break (continue ∷ []) t f (λ t. g (is_one c continue t))

  pub break-branch : one_of (break ∷ continue ∷ []) c ≡ true → is_branch c ≡ true
  break-branch t = by-break t (λ e. rw e) (λ e. rw e)

  pub branch-goto : c ≡ goto → is_branch c ≡ true
  branch-goto e = rw e

  pub branch-fallthrough : c ≡ fallthrough → is_branch c ≡ true
  branch-fallthrough e = rw e
