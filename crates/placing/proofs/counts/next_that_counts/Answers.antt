use mathlib.Core.Path.{sym, ◌∙◌}
use native.Mathlib.Omega.{arith}
use native.Mathlib.Decide.{ℕ_discrete}
use Rattle.placing.proofs.counts.next_that_counts.Goals as goal

pub loop-r-preserved : goal.loop-r-preserved
loop-r-preserved c =
    let n = sym c.counts.ensures ∙ c.if-counts.false in
    record {
      low = omega (arith, c.loop-r.invariant.low);
      high = omega arith;
      none = λ k h m. elim (ℕ_discrete k c.loop-r.r) [ yes e ↦ rw e n | no o ↦ c.loop-r.invariant.none k h (omega arith) ];
    }
