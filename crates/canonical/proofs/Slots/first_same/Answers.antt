use Rattle.std.proofs.Common.{◌∙◌, arith, refl}
use Rattle.std.proofs.lemmas.Nat.{mod_below}
use Rattle.canonical.proofs.Chain.{chain-start, chain-falls, chain-found, chain_next, chain-other, chain-end}
use Rattle.canonical.proofs.Numbering.{number_small}
use Rattle.canonical.proofs.Slots.first_same.Goals as goal
use Rattle.canonical.proofs.Slots.first_same.Goals.{else-self-m-via-then-self-m+else-same, else-self-m-via-else-self-m}

pub loop-m-init : goal.loop-m-init
loop-m-init g c =
    chain-start _ _ _ _ _ _ (c.from-m.ensures ∙ c.requires.linked.head_at _ (mod_below c.args.key g.row.SLOTS c.requires.some_slots))

pub returns-then-same : goal.returns-then-same
returns-then-same g c =
    chain-found _ _ _ _ _ _ _ _ _ c.requires.linked _ c.loop-m.invariant c.loop-m-test.true _ c.same.ensures c.if-same.true

pub loop-m-smaller : goal.loop-m-smaller
loop-m-smaller g c =
    omega (arith, c.from-m-in-loop-m.ensures, chain-falls _ _ _ _ _ _ _ _ _ c.requires.linked _ c.loop-m.invariant c.loop-m-test.true)

pub loop-m-preserved : goal.loop-m-preserved
loop-m-preserved g c =
    let i = c.loop-m.invariant in
    let z = c.loop-m-test.true in
    rw c.from-m-in-loop-m.ensures (elim c.else-self-m.branch [
      | else-self-m-via-then-self-m+else-same w ↦
          chain_next _ _ _ _ _ _ _ _ _ c.requires.linked _ i z _ c.requires.hashed refl _ w.same.ensures w.if-same.false
      | else-self-m-via-else-self-m w ↦
          chain-other _ _ _ _ _ _ _ _ _ c.requires.linked _ i z _ c.requires.hashed refl w.if-self-m.false
    ])

pub overflow_add-result : goal.overflow_add-result
overflow_add-result g c = omega (arith, number_small _ _ c.args.names.ok)

pub overflow_cast-result : goal.overflow_cast-result
overflow_cast-result g c = omega (arith, number_small _ _ c.args.names.ok)

pub returns : goal.returns
returns g c =
    chain-end _ _ _ _ _ _ _ _ _ c.requires.linked _ c.loop-m.invariant _ c.requires.hashed refl c.requires.room.0 (omega arith)
