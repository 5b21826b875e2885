-- A Block right after a switch or Select, by the kind of the row before, is the Block of it; any other Block holds a list.
-- Assumes nothing.
use mathlib.Core.Path.{◌≡◌, refl, sym}
use mathlib.Core.Bool.{true}
use mathlib.Core.List.{List, [], ◌∷◌}
use mathlib.Core.Logic.{inl, inr}
use Prim.Native.Nat.{ℕ, ◌-◌, ◌<◌}
use native.Mathlib.Omega.{arith}
use borrow.Author.Rules.{rules}
use Rattle.rules.specs.Rows.{kind, detail}
use Rattle.rules.specs.Class.{block, detail_allowed, base, class}
use Rattle.rules.specs.Refusals.{statements, cases, comms, holding}
use Rattle.rules.proofs.ByKind.{among, NoneOf, switches}
use Rattle.rules.proofs.Classes.{root-block, switch-block, select-block, list-block}
use Rattle.rows.specs.declared.kinds.Kind.TheVariants.{Switch, TypeSwitch, Select}
use Rattle.rows.proofs.Numbers.{is-kind, none-of}
use Rattle.shape.specs.DetailedTo.{DetailedTo}
use Rattle.shape.proofs.block_holding.Goals as goal

module _ (w : List ℕ) (r : ℕ) (d : DetailedTo w r) (b : base w r ≡ block) (z : r ≡ 0 → ⊥) where
  later : 0 < r
  later = omega arith

  allowed : detail_allowed (kind w (r - 1)) (detail w (r - 1)) ≡ true
  allowed = d (r - 1) (omega arith)

  after-switch : (n : ℕ) → among switches n ≡ true → kind w (r - 1) ≡ n → cases ≡ holding (class w r)
  after-switch n m e = sym (switch-block w r b later allowed n e m)

  after-select : kind w (r - 1) ≡ 18 → comms ≡ holding (class w r)
  after-select e = sym (select-block w r b later allowed e)

  after-other : NoneOf (18 ∷ switches) (kind w (r - 1)) → statements ≡ holding (class w r)
  after-other n = sym (list-block w r b later allowed n)

pub returns-then-row-eq0 : goal.returns-then-row-eq0
returns-then-row-eq0 c = sym (root-block c.args.rows.now c.args.row.0 c.requires.2 c.if-row-eq0.true)

pub returns-in-Switch : goal.returns-in-Switch
returns-in-Switch c =
    let after = after-switch _ _ c.requires.1 c.requires.2 c.if-row-eq0.false in
    elim c.in-Switch.is [ inl e ↦ after 15 refl (is-kind c.kind_at.ensures e) | inr e ↦ after 16 refl (is-kind c.kind_at.ensures e) ]

pub returns-in-Select : goal.returns-in-Select
returns-in-Select c = after-select _ _ c.requires.1 c.requires.2 c.if-row-eq0.false (is-kind c.kind_at.ensures c.in-Select.is)

pub returns-in_default : goal.returns-in_default
returns-in_default c =
    after-other _ _ c.requires.1 c.requires.2 c.if-row-eq0.false
    (none-of c.kind_at.result (Select ∷ TypeSwitch ∷ Switch ∷ []) c.kind_at.ensures (search rules))
