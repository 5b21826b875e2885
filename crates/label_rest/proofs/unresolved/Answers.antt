use mathlib.Core.Path.{sym, ◌∙◌}
use native.Mathlib.Omega.{arith}
use Rattle.rows.specs.declared.kinds.Kind.TheVariants.{Branch}
use Rattle.rows.proofs.Numbers.{eq-true, eq-false}
use Rattle.body.proofs.Facts.{facts_of}
use Rattle.label_rest.proofs.LeftRows.{over-other}
use Rattle.label_rest.proofs.LeftTurns.{over-start, word_read, over-next, over-end, over-reported, over-used}
use Rattle.label_rest.proofs.unresolved.Goals as goal
use Rattle.label_rest.proofs.unresolved.Goals.{then-eq, else-eq}

pub loop-r-init : goal.loop-r-init
loop-r-init c =
    let (at_end, room, zero) = c.requires.at_end in
    over-start _ _ _ _ at_end room zero

pub kind_at-requires-clause-allowed : goal.kind_at-requires-clause-allowed
kind_at-requires-clause-allowed c = (facts_of c.args.body).details _ c.loop-r-test.true

pub unresolved_at-at-requires-clause-row_bound : goal.unresolved_at-at-requires-clause-row_bound
unresolved_at-at-requires-clause-row_bound c =
    let h = c.loop-r-test.true in
    (h, eq-true _ Branch c.kind_at.ensures (sym c.if-eq.true ∙ c.eq.ensures), word_read _ _ _ _ c.requires.at_end.0 h)

pub loop-r-preserved : goal.loop-r-preserved
loop-r-preserved c =
    let x = c.loop-r.invariant in
    let h = c.loop-r-test.true in
    elim c.if-eq.branch [
      | then-eq w ↦ rw (w.at-is, w.sheet-is, w.used-is) (over-next _ _ _ _ _ _ _ _ x w.unresolved_at-at.ensures)
      | else-eq w ↦
          rw (w.at-is, w.sheet-is, w.used-is)
          (over-next _ _ _ _ _ _ _ _ x
          (over-other (facts_of c.args.body) _ _ _ _ h x.state (eq-false _ Branch c.kind_at.ensures (sym w.if-eq.false ∙ c.eq.ensures))))
    ]

pub returns-clause-sheet : goal.returns-clause-sheet
returns-clause-sheet c = over-reported _ _ _ _ (over-end (omega arith) c.loop-r.invariant)

pub returns-clause-used : goal.returns-clause-used
returns-clause-used c = over-used _ _ _ _ (facts_of c.args.body) (over-end (omega arith) c.loop-r.invariant)
