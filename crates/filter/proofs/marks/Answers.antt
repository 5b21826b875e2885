-- The first read and the count of what is left are of the whole input, and `output` is what is defined for it.
-- Assumes nothing.
use native.Mathlib.Omega.{arith}
use Rattle.filter.proofs.Whole.{first_ends, of_input, written}
use Rattle.filter.proofs.marks.Goals as goal

pub returns : goal.returns
returns g c =
    let read = c.in_ok-got.ensures in
    let at_end = first_ends _ _ c.in_ok-got.got _ _ (omega arith) (λ h. read.end (omega arith)) c.read_on-begun.ensures.ended in
    written _ _ _ _ _ c.write_all.ensures.bytes
    (of_input _ _ _ _ _ c.in_ok-length.length c.output.ensures (omega (arith, read.bound.1)) (omega (arith, read.bound.1)) read.bytes
    (λ h. read.end (omega (arith, read.bound.1))) (c.in_ok-length.ensures at_end))
