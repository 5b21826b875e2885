use mathlib.Core.Path.{sym, ◌∙◌}
use native.Mathlib.Omega.{arith}
use Rattle.rules.proofs.Facts.{body}
use Rattle.rows.specs.declared.kinds.Kind.TheVariants.{Labeled}
use Rattle.rows.proofs.Numbers.{eq-true, eq-false}
use Rattle.tables.proofs.Declaring.{canon-room, placed, declaring-start, declaring-other, declaring-blank, declaring-again}
use Rattle.tables.proofs.Declaring.{declaring-first, declaring-end}
use Rattle.tables.proofs.declared_table.Goals as goal
use Rattle.tables.proofs.declared_table.Goals.{then-eq+then-c-ne0+then-label_rows-c-eq0, then-eq+else-c-ne0, else-c-ne0-via-then-c-ne0+else-label_rows-c-eq0, else-c-ne0-via-else-c-ne0, else-eq}

pub loop-r-init : goal.loop-r-init
loop-r-init c = declaring-start (body _ _ _ c.args.body.well_formed) _ c.requires.pairs_in_bounds.0 c.requires.pairs_in_bounds.1

pub kind_at-requires-clause-allowed : goal.kind_at-requires-clause-allowed
kind_at-requires-clause-allowed c = (body _ _ _ c.args.body.well_formed).details _ c.loop-r-test.true

pub canon_of-c-requires : goal.canon_of-c-requires
canon_of-c-requires c =
    let h = c.loop-r-test.true in
    (h, canon-room (body _ _ _ c.args.body.well_formed) c.requires.body _ h)

-- the row's canonical number has a place
pub bounds-label_rows-c : goal.bounds-label_rows-c
bounds-label_rows-c c =
    (placed (body _ _ _ c.args.body.well_formed) c.requires.body c.loop-r-test.true c.loop-r.invariant _ c.canon_of-c.ensures).place

pub bounds-label_rows-c-then-label_rows-c-eq0 : goal.bounds-label_rows-c-then-label_rows-c-eq0
bounds-label_rows-c-then-label_rows-c-eq0 c =
    (placed (body _ _ _ c.args.body.well_formed) c.requires.body c.loop-r-test.true c.loop-r.invariant _ c.canon_of-c.ensures).place

pub overflow_cast-label_rows : goal.overflow_cast-label_rows
overflow_cast-label_rows c = omega (arith, (body _ _ _ c.args.body.well_formed).most_rows)

pub loop-r-preserved : goal.loop-r-preserved
loop-r-preserved c =
    let b = body _ _ _ c.args.body.well_formed in
    let i = c.loop-r.invariant in
    let h = c.loop-r-test.true in
    let k = c.kind_at.ensures in
    let q = placed b c.requires.body h i in
    elim c.if-eq.branch [
      | then-eq+then-c-ne0+then-label_rows-c-eq0 w ↦
          rw w.label_rows-is (declaring-first b _ _ i h _ (q _ w.canon_of-c.ensures) (eq-true _ Labeled k (sym w.if-eq.true ∙ c.eq.ensures)) w.if-c-ne0.true w.if-label_rows-c-eq0.true)
      | then-eq+else-c-ne0 w ↦
          rw w.label_rows-is (elim w.else-c-ne0.branch [
            | else-c-ne0-via-then-c-ne0+else-label_rows-c-eq0 v ↦ declaring-again b _ _ i h _ (q _ w.canon_of-c.ensures) v.if-label_rows-c-eq0.false
            | else-c-ne0-via-else-c-ne0 v ↦ declaring-blank b _ _ i h _ (q _ w.canon_of-c.ensures) v.if-c-ne0.false
          ])
      | else-eq w ↦ rw w.label_rows-is (declaring-other b _ _ i h (eq-false _ Labeled k (sym w.if-eq.false ∙ c.eq.ensures)))
    ]

pub returns : goal.returns
returns c = declaring-end (body _ _ _ c.args.body.well_formed) _ _ c.loop-r.invariant c.loop-r-test.false
