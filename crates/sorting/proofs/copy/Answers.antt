use mathlib.Core.Path.{◌≡◌, refl}
use Prim.Native.Nat.{◌<◌}
use native.Mathlib.Omega.{arith}
use lib.ListN.{length, get_or}
use lib.Seq.{ext_get_or}
use borrow.Author.Rules.{rules}
use Rattle.sorting.proofs.Elements.{stored-all}
use Rattle.sorting.proofs.copy.Goals as goal

pub loop-i-init : goal.loop-i-init
loop-i-init c = (search rules, λ x l. absurd (omega arith))

pub loop-i-preserved : goal.loop-i-preserved
loop-i-preserved c =
    let h : c.loop-i.i < length c.loop-i.to = omega (arith, c.loop-i.invariant.0) in
    (search rules, stored-all (λ x y. y ≡ get_or c.args.from.now x 0) c.loop-i.to _ _ h c.loop-i.invariant.1 refl)

pub returns : goal.returns
returns c = ext_get_or 0 _ _ c.loop-i.invariant.0 (λ x l. c.loop-i.invariant.1 x (omega arith))
