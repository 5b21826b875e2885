use mathlib.Core.Path.{refl}
use native.Mathlib.Omega.{arith}
use lib.ListN.{length-set}
use Rattle.afters.proofs.Places.{afters-start}
use Rattle.afters.proofs.afters_of.Goals as goal

pub loop-r-init : goal.loop-r-init
loop-r-init c =
    let room = c.requires.rows_in_bounds.1 in
    (omega arith, simp length-set room, refl, afters-start _ c.args.afters.now (omega (arith, room, c.requires.formed.0.2.some_rows)))
