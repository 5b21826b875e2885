use Rattle.names.proofs.Passed.{passed_none, passed-all, passed-next, empty-found, early-found, long-found}
use Rattle.names.proofs.first_bad_pair.Goals as goal

pub loop-i-init : goal.loop-i-init
loop-i-init c = passed_none _ _

pub returns-then-len-eq0 : goal.returns-then-len-eq0
returns-then-len-eq0 c = empty-found _ _ _ _ c.loop-i.invariant c.loop-i-test.true c.if-len-eq0.true

pub returns-then-offset-previous_end : goal.returns-then-offset-previous_end
returns-then-offset-previous_end c =
    early-found _ _ _ _ c.loop-i.invariant c.loop-i-test.true c.if-len-eq0.false c.if-offset-previous_end.true

pub returns-then-bytes-end : goal.returns-then-bytes-end
returns-then-bytes-end c =
    long-found _ _ _ _ c.loop-i.invariant c.loop-i-test.true c.if-len-eq0.false c.if-offset-previous_end.false c.if-bytes-end.true

pub loop-i-preserved : goal.loop-i-preserved
loop-i-preserved c =
    passed-next _ _ _ _ c.loop-i.invariant c.loop-i-test.true c.if-len-eq0.false c.if-offset-previous_end.false c.if-bytes-end.false

pub returns : goal.returns
returns c = passed-all _ _ _ _ c.loop-i.invariant c.loop-i-test.false
