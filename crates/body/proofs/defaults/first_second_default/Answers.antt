use mathlib.Core.Path.{refl}
use native.Mathlib.Omega.{arith}
use Rattle.body.proofs.Seconds.{lowest-same, lowest-higher, lowest-less, lowest-all, lowest-is}
use Rattle.body.proofs.defaults.first_second_default.Goals as goal
use Rattle.body.proofs.defaults.first_second_default.Goals.{in-Some+then-clause-lowest, in-Some+else-clause-lowest, in_default}

pub loop-r-preserved : goal.loop-r-preserved
loop-r-preserved c = elim c.match-second_default.branch [
  | in-Some+then-clause-lowest w ↦
      rw w.lowest-is
      (lowest-less c.requires.1 c.requires.3 c.loop-r.invariant (omega (arith, c.loop-r.invariant.high)) w.in-Some.ensures
      w.if-clause-lowest.true)
  | in-Some+else-clause-lowest w ↦
      rw w.lowest-is (lowest-higher c.requires.1 c.requires.3 c.loop-r.invariant w.in-Some.ensures w.if-clause-lowest.false)
  | in_default w ↦ rw w.lowest-is (lowest-same c.requires.1 c.requires.3 c.loop-r.invariant w.in_default.ensures)
]

pub returns-then-lowest-count : goal.returns-then-lowest-count
returns-then-lowest-count c =
    lowest-all c.requires.1 c.requires.3 c.loop-r.invariant c.loop-r-test.false refl c.if-lowest-count.true

pub returns : goal.returns
returns c = lowest-is c.requires.1 c.requires.3 c.loop-r.invariant c.loop-r-test.false refl c.if-lowest-count.false
