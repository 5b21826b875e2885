-- The label call answers, since there is room; its count and the placing say the rest.
-- Assumes nothing.
use Rattle.body.proofs.Facts.{facts_of}
use Rattle.faultless.proofs.Judging.{judged-refused, judged-faults, judged-placing}
use Rattle.faultless.proofs.judged.Goals as goal

pub placed-requires : goal.placed-requires
placed-requires c = (_, _, facts_of c.args.body)

pub returns-then-faults-eq0 : goal.returns-then-faults-eq0
returns-then-faults-eq0 c =
    judged-placing _ _ _ _ _ _ c.args.body.well_formed c.requires.rows_in_bounds c.labels_of.ensures.bindings _ c.in-Ok.ensures.answer
    c.if-faults-eq0.true _ _ c.placed.ensures c.is_none.ensures

pub returns-else-faults-eq0 : goal.returns-else-faults-eq0
returns-else-faults-eq0 c =
    judged-faults _ _ _ _ _ _ c.args.body.well_formed c.requires.rows_in_bounds c.labels_of.ensures.bindings _ c.in-Ok.ensures.answer c.if-faults-eq0.false

pub returns-in-Err : goal.returns-in-Err
returns-in-Err c =
    absurd (judged-refused _ _ _ _ _ _ c.args.body.well_formed c.requires.rows_in_bounds c.labels_of.ensures.bindings _ _ c.in-Err.ensures.answer)
