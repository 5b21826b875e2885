-- What a row's own words say of its class: each rule is one test over the table of the allowed details, and the row before tells only Blocks apart.
-- Assumes nothing.
use mathlib.Core.Path.{◌≡◌, refl, sym, ◌∙◌, ap}
use mathlib.Core.Bool.{Bool, true, false, ◌&&◌, not}
use mathlib.Core.List.{List, [], ◌∷◌}
use Prim.Native.Nat.{ℕ, zero, suc}
use lib.Dec.{eqb}
use borrow.Author.Tests.{ne_eqb, not-true}
use Rattle.rules.specs.Scan.{lowest}
use Rattle.rules.specs.Rows.{kind, detail}
use Rattle.rules.specs.Class.{Class, empty, labeled, break, block, if_else, select, for, one_of, is_switch, is_breakable, is_branch, is_statement, detail_allowed}
use Rattle.rules.specs.Class.{class_of, base, following, class}
use Rattle.rules.specs.Labels.{is_class}
use Rattle.rules.proofs.Test.{and-true}
use Rattle.rules.proofs.Every.{every, implies, implied, same, same-eq, class_at, of-class, of-classes, is_one}
use Rattle.rules.proofs.Details.{of-allowed}
use Rattle.rules.proofs.ByKind.{among, switches}
use Rattle.rules.proofs.Classes.{no_block, is_block_lem}
use Rattle.rules.proofs.Shape.{opens}
use Rattle.rules.proofs.ClassRules.{class-rule}
use Rattle.rules.proofs.Lists.{own-breakable, branch-kind}

-- the test holds of every allowed kind and detail
abbrev pub Tabled : (ℕ → ℕ → Bool) → Type 0
Tabled P = every 21 (λ k. every 4 (λ d. implies (detail_allowed k d) (P k d))) ≡ true

-- a rule of the class and of what the row's own words say: the row before tells only Blocks apart
relates : (w : List ℕ) (r : ℕ) (R : Class → Class → Bool) → every 23 (λ j. R (class_at j) (class_at j)) ≡ true
    → every 23 (λ i. every 23 (λ j. R (class_at j) (following (class_at i) (class_at j)))) ≡ true → R (base w r) (class w r) ≡ true
unfolding class
relates w zero R e f = of-class (λ c. R c c) e (base w zero)
relates w (suc q) R e f = of-classes (λ b c. R c (following b c)) f (base w q) (base w (suc q))

-- what a table says of the class of a row that is no Block
module _ (w : List ℕ) (r : ℕ) (a : detail_allowed (kind w r) (detail w r) ≡ true) where
  by-words : (P : ℕ → ℕ → Bool) (Q : Class → Bool) → Tabled (λ k d. implies (P k d) (Q (class_of k d)))
      → eqb (kind w r) 12 ≡ false → P (kind w r) (detail w r) ≡ true → Q (class w r) ≡ true
  unfolding base
  by-words P Q e n t =
      ap Q (no_block w r a n)
      ∙ implied (P (kind w r) (detail w r)) (Q (class_of (kind w r) (detail w r)))
      (of-allowed (λ k d. implies (P k d) (Q (class_of k d))) e (kind w r) (detail w r) a) t

  -- ---- the class by the kind
  pub labeled-kind : kind w r ≡ 3 → class w r ≡ labeled
  unfolding every lowest detail_allowed class_of
  labeled-kind k = is_one (class w r) labeled (by-words (λ k d. eqb k 3) (one_of (labeled ∷ [])) refl (rw k) (rw k))

  pub else-kind : kind w r ≡ 13 → (detail w r ≡ 0 → ⊥) → class w r ≡ if_else
  unfolding every lowest detail_allowed class_of
  else-kind k n =
      is_one (class w r) if_else
      (by-words (λ k d. eqb k 13 && not (eqb d 0)) (one_of (if_else ∷ [])) refl (rw k) (rw (k, ne_eqb (detail w r) 0 n)))

  pub for-kind : kind w r ≡ 19 → (detail w r ≡ 1 → ⊥) → class w r ≡ for
  unfolding every lowest detail_allowed class_of
  for-kind k n =
      is_one (class w r) for (by-words (λ k d. eqb k 19 && not (eqb d 1)) (one_of (for ∷ [])) refl (rw k) (rw (k, ne_eqb (detail w r) 1 n)))

  -- a switch, which is no Select, and a Select
  pub switch-kind : (n : ℕ) → kind w r ≡ n → among switches n ≡ true → eqb n 12 ≡ false → (opens (class w r) ≡ true) × (false ≡ is_class w select r)
  unfolding every lowest detail_allowed class_of
  switch-kind n k s o =
      let t = by-words (λ k d. among switches k) (λ c. is_switch c && not (one_of (select ∷ []) c)) refl (rw k o) (rw k s) in
      let u = and-true (is_switch (class w r)) (not (is_class w select r)) t in
      (rw u.0, sym (not-true (is_class w select r) u.1))

  pub select-kind : kind w r ≡ 18 → (opens (class w r) ≡ true) × (true ≡ is_class w select r)
  unfolding every lowest detail_allowed class_of
  select-kind k =
      let t = is_one (class w r) select (by-words (λ k d. eqb k 18) (one_of (select ∷ [])) refl (rw k) (rw k)) in (rw t, rw t)

  -- of Branches the first detail is a break's
  pub break-detail : kind w r ≡ 11 → eqb (detail w r) 0 ≡ is_class w break r
  unfolding every lowest detail_allowed class_of base
  break-detail k =
      same-eq (eqb (detail w r) 0) (is_class w break r)
      (ap (λ (c : Class). same (eqb (detail w r) 0) (one_of (break ∷ []) c)) (no_block w r a (rw k))
      ∙ implied (eqb (kind w r) 11) (same (eqb (detail w r) 0) (one_of (break ∷ []) (class_of (kind w r) (detail w r))))
      (of-allowed (λ k d. implies (eqb k 11) (same (eqb d 0) (one_of (break ∷ []) (class_of k d)))) refl (kind w r) (detail w r) a) (rw k))

  -- ---- of any row, a Block too

  -- a Block that is a statement is that of a list
  pub block-kind : kind w r ≡ 12 → is_statement (class w r) ≡ true → class w r ≡ block
  unfolding every lowest
  block-kind k s =
      is_one (class w r) block (implied (one_of (block ∷ []) (base w r) && is_statement (class w r)) (is_class w block r)
      (relates w r (λ b c. implies (one_of (block ∷ []) b && is_statement c) (one_of (block ∷ []) c)) refl refl) (rw (is_block_lem w r a k, s)))

  pub breakable-words : is_breakable (class_of (kind w r) (detail w r)) ≡ is_breakable (class w r)
  unfolding base
  breakable-words = sym (own-breakable w r)

  -- by the kind alone
  by-any-kind : (P : ℕ → Bool) (Q : Class → Bool) → Tabled (λ k d. same (P k) (Q (class_of k d)))
      → Q (base w r) ≡ Q (class w r) → P (kind w r) ≡ Q (class w r)
  unfolding base
  by-any-kind P Q e f = same-eq (P (kind w r)) (Q (base w r)) (of-allowed (λ k d. same (P k) (Q (class_of k d))) e (kind w r) (detail w r) a) ∙ f

  pub empty-kind : eqb (kind w r) 2 ≡ is_class w empty r
  unfolding every lowest detail_allowed class_of
  empty-kind = by-any-kind (λ k. eqb k 2) (one_of (empty ∷ [])) refl
      (same-eq _ _ (relates w r (λ b c. same (one_of (empty ∷ []) b) (one_of (empty ∷ []) c)) refl refl))

  pub other-no-break : (kind w r ≡ 11 → ⊥) → is_class w break r ≡ false
  unfolding every lowest
  other-no-break n = not-true (is_class w break r)
      (class-rule (λ c. not (is_branch c)) (λ c. not (one_of (break ∷ []) c)) refl (class w r) (rw (← branch-kind w r a, ne_eqb (kind w r) 11 n)))
