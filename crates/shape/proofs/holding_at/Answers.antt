-- But for a Block, the row's own kind says what stands below it, and of an If the detail too; a Block is left to `block_holding`.
-- Assumes nothing.
use mathlib.Core.Path.{◌≡◌, refl, sym}
use mathlib.Core.Bool.{true, false}
use mathlib.Core.List.{List, [], ◌∷◌}
use mathlib.Core.Logic.{inl, inr}
use Prim.Native.Nat.{ℕ}
use native.Mathlib.Omega.{arith}
use lib.Dec.{eqb}
use borrow.Author.Rules.{rules}
use Rattle.rules.specs.Rows.{kind, detail}
use Rattle.rules.specs.Class.{block, class_of, detail_allowed, base, class}
use Rattle.rules.specs.Refusals.{nothing, body, branches, holding}
use Rattle.rules.proofs.ByKind.{NoneOf, holders}
use Rattle.rules.proofs.Classes.{is_block_lem, row-holding, leaf-holding, branches-holding, if-holding}
use Rattle.rows.specs.declared.kinds.Kind.TheVariants.{Labeled, Block, If, Case, Switch, TypeSwitch, Comm, Select, For, Range}
use Rattle.rows.proofs.Numbers.{is-kind, none-of}
use Rattle.rows.proofs.Marks.{marked, unmarked}
use Rattle.shape.specs.DetailedTo.{DetailedTo}
use Rattle.shape.proofs.holding_at.Goals as goal

module _ (w : List ℕ) (r : ℕ) (d : DetailedTo w r) where
  allowed : detail_allowed (kind w r) (detail w r) ≡ true
  allowed = d r (omega arith)

  a_block : kind w r ≡ 12 → base w r ≡ block
  a_block e = is_block_lem w r allowed e

  numbered : (n : ℕ) → eqb n 12 ≡ false → eqb n 13 ≡ false → kind w r ≡ n → holding (class_of n 0) ≡ holding (class w r)
  numbered n f g e = sym (row-holding w r allowed n e f g)

  with-else : kind w r ≡ 13 → detail w r ≡ 1 → branches ≡ holding (class w r)
  with-else e o = sym (branches-holding w r allowed e o)

  without-else : kind w r ≡ 13 → (detail w r ≡ 1 → ⊥) → body ≡ holding (class w r)
  without-else e n = sym (if-holding w r allowed e n)

  other : NoneOf holders (kind w r) → nothing ≡ holding (class w r)
  other n = sym (leaf-holding w r allowed n)

pub block_holding-requires : goal.block_holding-requires
block_holding-requires c = (c.requires.0, c.requires.1, a_block _ _ c.requires.1 (is-kind c.kind_at.ensures c.in-Block.is))

pub returns-in-Labeled : goal.returns-in-Labeled
unfolding class_of
returns-in-Labeled c = numbered _ _ c.requires.1 3 refl refl (is-kind c.kind_at.ensures c.in-Labeled.is)

pub returns-then-with_else : goal.returns-then-with_else
returns-then-with_else c =
    with-else _ _ c.requires.1 (is-kind c.kind_at.ensures c.in-If.is) (marked c.is_marked-with_else.ensures c.if-with_else.true)

pub returns-else-with_else : goal.returns-else-with_else
returns-else-with_else c =
    without-else _ _ c.requires.1 (is-kind c.kind_at.ensures c.in-If.is) (unmarked c.is_marked-with_else.ensures c.if-with_else.false)

pub returns-in-Case : goal.returns-in-Case
unfolding class_of
returns-in-Case c =
    elim c.in-Case.is [
      | inl e ↦ numbered _ _ c.requires.1 14 refl refl (is-kind c.kind_at.ensures e)
      | inr e ↦ numbered _ _ c.requires.1 17 refl refl (is-kind c.kind_at.ensures e)
    ]

pub returns-in-Switch : goal.returns-in-Switch
unfolding class_of
returns-in-Switch c =
    elim c.in-Switch.is [
      | inl e ↦ numbered _ _ c.requires.1 15 refl refl (is-kind c.kind_at.ensures e)
      | inr (inl e) ↦ numbered _ _ c.requires.1 16 refl refl (is-kind c.kind_at.ensures e)
      | inr (inr (inl e)) ↦ numbered _ _ c.requires.1 18 refl refl (is-kind c.kind_at.ensures e)
      | inr (inr (inr (inl e))) ↦ numbered _ _ c.requires.1 19 refl refl (is-kind c.kind_at.ensures e)
      | inr (inr (inr (inr e))) ↦ numbered _ _ c.requires.1 20 refl refl (is-kind c.kind_at.ensures e)
    ]

pub returns-in_default : goal.returns-in_default
returns-in_default c =
    other _ _ c.requires.1
    (none-of c.kind_at.result (Range ∷ For ∷ Select ∷ Comm ∷ TypeSwitch ∷ Switch ∷ Case ∷ If ∷ Block ∷ Labeled ∷ []) c.kind_at.ensures (search rules))
