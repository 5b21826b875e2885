use mathlib.Core.Path.{refl, sym, ◌∙◌}
use native.Mathlib.Omega.{arith}
use Rattle.names.proofs.Turns.{before-lengths, before-next, first-other}
use Rattle.names.proofs.order.bytes_before.Goals as goal

pub loop-i-init : goal.loop-i-init
loop-i-init c = refl

pub returns-then-a-i : goal.returns-then-a-i
returns-then-a-i c =
    let s = c.args in
    first-other s.a.now s.b.now c.loop-i.i (omega arith) (omega arith) c.if-a-i.true ∙ sym c.loop-i.invariant

pub loop-i-preserved : goal.loop-i-preserved
loop-i-preserved c =
    let s = c.args in
    c.loop-i.invariant ∙ before-next s.a.now s.b.now c.loop-i.i (omega arith) (omega arith) c.if-a-i.false

pub returns : goal.returns
returns c =
    let s = c.args in
    before-lengths s.a.now s.b.now c.loop-i.i (λ h. omega arith) (λ h. omega arith) ∙ sym c.loop-i.invariant
