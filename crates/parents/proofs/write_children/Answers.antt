use mathlib.Core.Path.{◌≡◌, refl, ap}
use Prim.Native.Nat.{ℕ, ◌+◌, ◌<◌}
use native.Mathlib.Omega.{arith}
use lib.ListN.{length, length-set}
use Rattle.rules.specs.Rows.{end}
use Rattle.parents.proofs.Written.{inside, written_start, written-more, written-end}
use Rattle.parents.proofs.write_children.Goals as goal

pub loop-c-init : goal.loop-c-init
loop-c-init c =
    (ap (λ (n : ℕ). c.args.r + n) c.size.ensures, refl, written_start c.requires.formed.0.2 _ c.requires.formed.1 _ c.requires.parents_to)

pub loop-c-preserved : goal.loop-c-preserved
loop-c-preserved c =
    let v = c.loop-c.invariant in
    let body = c.requires.formed.0.2 in
    let below : c.loop-c.c < end c.args.rows.now c.args.r = omega (arith, c.loop-c-test.true, v.0) in
    let here : c.loop-c.c < length c.loop-c.parents = omega (arith, inside body c.args.r _ c.requires.formed.1 below, v.1, c.requires.formed.2) in
    let next : c.loop-c.c + c.size-c.result ≡ end c.args.rows.now c.loop-c.c = ap (λ (n : ℕ). c.loop-c.c + n) c.size-c.ensures in
    (v.0, simp length-set v.1, rw next (written-more body _ c.requires.formed.1 c.loop-c.parents c.loop-c.c here v.2 below))

pub returns : goal.returns
returns c =
    let v = c.loop-c.invariant in
    written-end c.requires.formed.0.2 _ c.requires.formed.1 _ _ v.2 (omega (arith, c.loop-c-test.false, v.0))
