use mathlib.Core.Path.{refl, sym, ◌∙◌}
use Rattle.rows.specs.declared.kinds.Kind.TheVariants.{Branch}
use Rattle.rows.proofs.Numbers.{eq-true, eq-false}
use Rattle.body.proofs.Facts.{facts_of}
use Rattle.breaks.proofs.Search.{at-branch, below, unnamed, held, through, begin, ended, item-call, found, next}
use Rattle.breaks.proofs.+has_break_has_break_items.Goals as goal

-- ---- a row
pub has_break-returns-then-eq : goal.has_break-returns-then-eq
has_break-returns-then-eq t c =
    at-branch (facts_of c.args.body.now) _ c.requires c.kind_at-kind.ensures (eq-true _ Branch refl (sym c.if-eq.true ∙ c.eq.ensures)) _ _ c.is_break.ensures

pub has_break-returns-then-label-eq0 : goal.has_break-returns-then-label-eq0
has_break-returns-then-label-eq0 t c =
    unnamed (facts_of c.args.body.now) c.requires c.kind_at-kind.ensures c.size.ensures c.is_breakable.ensures _ _ c.if-is_breakable.true c.if-label-eq0.true

pub has_break-has_break_items-requires : goal.has_break-has_break_items-requires
has_break-has_break_items-requires t c = below (facts_of c.args.body.now) c.decreases c.requires c.size.ensures

pub has_break-returns-then-is_breakable : goal.has_break-returns-then-is_breakable
has_break-returns-then-is_breakable t c =
    held (facts_of c.args.body.now) c.requires c.kind_at-kind.ensures c.size.ensures c.is_breakable.ensures _ _ c.if-is_breakable.true c.has_break_items.ensures

pub has_break-has_break_items-requires-2 : goal.has_break-has_break_items-requires-2
has_break-has_break_items-requires-2 t c = below (facts_of c.args.body.now) c.decreases c.requires c.size.ensures

pub has_break-returns : goal.has_break-returns
has_break-returns t c =
    through (facts_of c.args.body.now) c.requires c.kind_at-kind.ensures c.size.ensures c.is_breakable.ensures _ _ c.if-is_breakable.false
    (eq-false _ Branch refl (sym c.if-eq.false ∙ c.eq.ensures)) c.has_break_items-2.ensures

-- ---- a list
pub has_break_items-loop-c-init : goal.has_break_items-loop-c-init
has_break_items-loop-c-init t c = begin (facts_of c.args.body.now) c.requires

pub has_break_items-has_break-requires : goal.has_break_items-has_break-requires
has_break_items-has_break-requires t c = item-call (facts_of c.args.body.now) c.loop-c.invariant c.loop-c-test.true c.decreases

pub has_break_items-returns-then-has_break : goal.has_break_items-returns-then-has_break
has_break_items-returns-then-has_break t c =
    found (facts_of c.args.body.now) c.loop-c.invariant c.loop-c-test.true c.has_break.ensures c.if-has_break.true

pub has_break_items-loop-c-preserved : goal.has_break_items-loop-c-preserved
has_break_items-loop-c-preserved t c =
    next (facts_of c.args.body.now) c.loop-c.invariant c.loop-c-test.true c.has_break.ensures c.if-has_break.false c.size-c.ensures

pub has_break_items-returns : goal.has_break_items-returns
has_break_items-returns t c = ended (facts_of c.args.body.now) c.loop-c.invariant c.loop-c-test.false
