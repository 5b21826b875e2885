use mathlib.Core.Path.{sym, ◌∙◌}
use Rattle.body.proofs.Seconds.{looks, looks_on, looked}
use Rattle.body.proofs.defaults.next_default.Goals as goal

pub loop-c-init : goal.loop-c-init
loop-c-init c = looks _ _ _

pub loop-c-preserved : goal.loop-c-preserved
loop-c-preserved c =
    looks_on c.loop-c.invariant c.loop-c-test.true (sym c.is_default.ensures ∙ c.if-is_default.false) c.size-c.ensures

pub returns : goal.returns
returns c = looked c.loop-c.invariant c.loop-c-test.false
