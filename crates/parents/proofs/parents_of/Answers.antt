use Rattle.parents.proofs.Written.{parents-end}
use Rattle.parents.proofs.parents_of.Goals as goal

pub returns : goal.returns
returns c = parents-end c.requires.0.2 _ _ c.loop-r.invariant.2 c.loop-r-test.false
