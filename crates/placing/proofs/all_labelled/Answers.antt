use Rattle.rows.specs.declared.kinds.Kind.TheVariants.{Branch}
use Rattle.rows.proofs.Numbers.{eq-false}
use Rattle.placing.proofs.Branches.{other-not-bad, named-not-bad}
use Rattle.placing.proofs.Labelled.{none_more, none_found}
use Rattle.placing.proofs.all_labelled.Goals as goal
use Rattle.placing.proofs.all_labelled.Goals.{else-eq-via-then-eq+else-name_word-eq0, else-eq-via-else-eq}

pub loop-r-preserved : goal.loop-r-preserved
loop-r-preserved c = none_more c.args.rows.now c.loop-r.r c.loop-r.invariant (elim c.else-eq.branch [
  | else-eq-via-then-eq+else-name_word-eq0 w ↦ named-not-bad _ _ _ w.name_word.ensures w.if-name_word-eq0.false
  | else-eq-via-else-eq w ↦ other-not-bad _ _ (c.requires.2.details c.loop-r.r c.loop-r-test.true) (eq-false _ Branch c.kind_at.ensures w.if-eq.ensures)
])

pub returns : goal.returns
returns c e = none_found c.args.rows.now _ c.loop-r.invariant c.requires c.loop-r-test.false
