-- What a row's kind and detail say of its class, by one test over the table of the allowed details: the tests of the walk do not tell the Block of a switch
-- or Select apart.
-- Assumes nothing.
use mathlib.Core.Path.{◌≡◌, refl, sym, ◌∙◌}
use mathlib.Core.Bool.{Bool, true, false, ◌&&◌, ◌||◌, not, and-false}
use mathlib.Core.List.{List, [], ◌∷◌}
use Prim.Native.Nat.{ℕ, zero, suc, ◌<◌}
use lib.Dec.{eqb}
use borrow.Author.Tests.{eq-eqb, ne_eqb}
use Rattle.rules.specs.Scan.{lowest}
use Rattle.rules.specs.Rows.{row_count, kind, detail}
use Rattle.rules.specs.Class.{Class, declaration, labeled, one_of, is_branch, detail_allowed, class_of, following, base, class}
use Rattle.rules.specs.Scope.{is_block, holds_items}
use Rattle.rules.specs.Body.{Body}
use Rattle.rules.specs.Labels.{is_class, is_label}
use Rattle.rules.proofs.Test.{clash}
use Rattle.rules.proofs.Every.{every, same, same-eq, implies, class_at, of-classes, is_one}
use Rattle.rules.proofs.Details.{of-allowed}
use Rattle.rules.proofs.ClassTests.{one-is}
use Rattle.rules.proofs.LabelRows.{other-label}

own-words : (P : Class → Bool) → every 23 (λ i. every 23 (λ j. same (P (following (class_at i) (class_at j))) (P (class_at j)))) ≡ true
    → (w : List ℕ) (r : ℕ) → P (class w r) ≡ P (base w r)
unfolding class
own-words P e w zero = refl
own-words P e w (suc q) =
    same-eq (P (following (base w q) (base w (suc q)))) (P (base w (suc q))) (of-classes (λ b c. same (P (following b c)) (P c)) e (base w q) (base w (suc q)))

by-words : (T : ℕ → ℕ → Bool) (P : Class → Bool)
    → every 21 (λ k. every 4 (λ d. implies (detail_allowed k d) (same (T k d) (P (class_of k d))))) ≡ true
    → every 23 (λ i. every 23 (λ j. same (P (following (class_at i) (class_at j))) (P (class_at j)))) ≡ true
    → {w p b : List ℕ} → Body w p b → (x : ℕ) → x < row_count w → T (kind w x) (detail w x) ≡ P (class w x)
unfolding base
by-words T P e f {w} body x h =
    same-eq (T (kind w x) (detail w x)) (P (class_of (kind w x) (detail w x)))
    (of-allowed (λ k d. same (T k d) (P (class_of k d))) e (kind w x) (detail w x) (body.details x h))
    ∙ sym (own-words P f w x)

-- a row of another class is no label
pub unlabelled : (w p b : List ℕ) (x : ℕ) → is_class w labeled x ≡ false → is_label w p b x ≡ false
unlabelled w p b x f = other-label w p b x (λ c. clash (cc (one-is (class w x) labeled c)))

module _ {w p b : List ℕ} (body : Body w p b) {x : ℕ} (h : x < row_count w) where
  label-words : eqb (kind w x) 3 ≡ is_class w labeled x
  unfolding every lowest detail_allowed class_of
  label-words = by-words (λ k d. eqb k 3) (one_of (labeled ∷ [])) refl refl body x h

  branch-words : eqb (kind w x) 11 ≡ is_branch (class w x)
  unfolding every lowest detail_allowed class_of
  branch-words = by-words (λ k d. eqb k 11) is_branch refl refl body x h

  block_words : eqb (kind w x) 12 ≡ is_block (class w x)
  unfolding every lowest detail_allowed class_of
  block_words = by-words (λ k d. eqb k 12) is_block refl refl body x h

  block-detail : (eqb (kind w x) 12 && not (eqb (detail w x) 1)) ≡ is_block (class w x)
  unfolding every lowest detail_allowed class_of
  block-detail = by-words (λ k d. eqb k 12 && not (eqb d 1)) is_block refl refl body x h

  declaration-words : ((eqb (kind w x) 1 || eqb (kind w x) 7) && eqb (detail w x) 1) ≡ is_class w declaration x
  unfolding every lowest detail_allowed class_of
  declaration-words = by-words (λ k d. (eqb k 1 || eqb k 7) && eqb d 1) (one_of (declaration ∷ [])) refl refl body x h

  items-words : (eqb (kind w x) 12 || (eqb (kind w x) 14 || eqb (kind w x) 17)) ≡ holds_items (class w x)
  unfolding every lowest detail_allowed class_of
  items-words = by-words (λ k d. eqb k 12 || (eqb k 14 || eqb k 17)) holds_items refl refl body x h

  -- ---- by the kind
  pub is-labeled : kind w x ≡ 3 → class w x ≡ labeled
  is-labeled i = is_one (class w x) labeled (sym label-words ∙ eq-eqb (kind w x) 3 i)

  pub no-labeled : (kind w x ≡ 3 → ⊥) → is_class w labeled x ≡ false
  no-labeled n = sym label-words ∙ ne_eqb (kind w x) 3 n

  pub is-branch : kind w x ≡ 11 → is_branch (class w x) ≡ true
  is-branch i = sym branch-words ∙ eq-eqb (kind w x) 11 i

  pub no-branch : (kind w x ≡ 11 → ⊥) → is_branch (class w x) ≡ false
  no-branch n = sym branch-words ∙ ne_eqb (kind w x) 11 n

  pub is-block : kind w x ≡ 12 → is_block (class w x) ≡ true
  is-block i = sym block_words ∙ eq-eqb (kind w x) 12 i

  pub no_block : (kind w x ≡ 12 → ⊥) → is_block (class w x) ≡ false
  no_block n = sym block_words ∙ ne_eqb (kind w x) 12 n

  -- a label or a branch holds no items and declares nothing
  pub no_items : {k : ℕ} → kind w x ≡ k → (eqb k 12 || (eqb k 14 || eqb k 17)) ≡ false → holds_items (class w x) ≡ false
  no_items e f = sym items-words ∙ rw (e, f)

  pub no-declaration : {k : ℕ} → kind w x ≡ k → (eqb k 1 || eqb k 7) ≡ false → is_class w declaration x ≡ false
  no-declaration e f = sym declaration-words ∙ rw (e, f)

  -- ---- by the code's test of the detail, and by that of the kind k which it has read
  pub is-declaration : {k : ℕ} → true ≡ eqb (detail w x) 1 → k ≡ kind w x → true ≡ (eqb k 1 || eqb k 7) → is_class w declaration x ≡ true
  is-declaration m e q = sym declaration-words ∙ rw (sym e, sym q, sym m)

  pub unmarked-declares : false ≡ eqb (detail w x) 1 → is_class w declaration x ≡ false
  unmarked-declares m = sym declaration-words ∙ rw (sym m, and-false)

  pub marked-block : true ≡ eqb (detail w x) 1 → is_block (class w x) ≡ false
  marked-block m = sym block-detail ∙ rw (sym m, and-false)
