-- A row that is no Branch by its kind is none by its class.
-- Assumes nothing.
use mathlib.Core.Path.{◌≡◌, sym, ◌∙◌}
use mathlib.Core.Bool.{false}
use Prim.Native.Nat.{◌<◌}
use native.Mathlib.Omega.{arith}
use lib.ListN.{length}
use borrow.Author.Tests.{ne_eqb}
use Rattle.rules.specs.Class.{is_branch, class}
use Rattle.rules.proofs.Lists.{branch-kind}
use Rattle.rows.specs.declared.kinds.Kind.TheVariants.{Branch}
use Rattle.rows.proofs.Numbers.{eq-false}
use Rattle.destinations.proofs.Places.{formed}
use Rattle.destinations.proofs.Written.{branch-more, other-more}
use Rattle.destinations.proofs.write_destinations.Goals as goal
use Rattle.destinations.proofs.write_destinations.Goals.{then-eq, else-eq}

pub kind_at-requires-clause-allowed : goal.kind_at-requires-clause-allowed
kind_at-requires-clause-allowed c = (formed c.args.faultless.faultless).details _ c.loop-r-test.true

pub loop-r-preserved : goal.loop-r-preserved
loop-r-preserved c =
    let room : c.loop-r.r < length c.loop-r.destinations = omega arith in
    elim c.if-eq.branch [
      | then-eq w ↦ branch-more _ _ _ c.loop-r.destinations _ _ c.loop-r.invariant _ room w.destinations-is w.destination.ensures.0
      | else-eq w ↦
          -- a row of another kind is no Branch
          let no-branch : is_branch (class c.args.faultless.body.rows.now c.loop-r.r) ≡ false =
          sym (branch-kind _ _ ((formed c.args.faultless.faultless).details _ c.loop-r-test.true))
          ∙ ne_eqb _ 11 (eq-false _ Branch c.kind_at.ensures (sym w.if-eq.false ∙ c.eq.ensures)) in
          other-more _ _ _ c.loop-r.destinations _ _ c.loop-r.invariant w.destinations-is no-branch
    ]
