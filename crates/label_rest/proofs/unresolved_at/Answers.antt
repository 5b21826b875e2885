-- Each way out is one law of the row: the branch is bound to the declared label of its name, or to another, is no goto, or is a goto that is pending
-- at the end.
-- Assumes nothing.
use mathlib.Core.Path.{◌≡◌, sym, ◌∙◌}
use mathlib.Core.List.{List}
use Prim.Native.Nat.{ℕ, ◌<◌}
use native.Mathlib.Omega.{arith}
use lib.ListN.{get_or}
use Rattle.rules.specs.Rows.{row_count, kind, name}
use Rattle.tables.specs.Canon.{CanonTable, DeclaredTable}
use Rattle.walk_state.specs.Walk.{binding_at}
use Rattle.body.specs.declared.Body.{Body}
use Rattle.label_rest.specs.Left.{Left}
use Rattle.rows.specs.declared.details.Branch.TheVariants.{Goto}
use Rattle.rows.proofs.Branches.{ne-true, ne-false}
use Rattle.body.proofs.Facts.{facts_of, allowed}
use Rattle.label_rest.proofs.LeftRows.{canon-fits, count_small, AtBranch, used-fits, declared-fits, sheet-fits, over-bound}
use Rattle.label_rest.proofs.LeftRows.{over-repeated, over-unbound, over-declared, over-blank, over-undeclared}
use Rattle.label_rest.proofs.unresolved_at.Goals as goal
use Rattle.label_rest.proofs.unresolved_at.Goals.{else-c-ne0-via-then-c-ne0+else-label_rows-c-ne0, else-c-ne0-via-else-c-ne0}

pub canon_of-c-requires : goal.canon_of-c-requires
canon_of-c-requires c =
    let row = c.requires.row_bound.0 in
    (row, canon-fits (facts_of c.args.body) c.requires.body.0 _ row)

-- what is known of the branch once its canonical number is read
branch : (b : Body) {cs ds s u : List ℕ} {g faults c v : ℕ} → CanonTable b.pairs.now b.bytes.now cs × DeclaredTable b.rows.now b.pairs.now b.bytes.now ds
    → (g < row_count b.rows.now) × (kind b.rows.now g ≡ 11) × (v ≡ binding_at b.rows.now b.pairs.now b.bytes.now (row_count b.rows.now) g)
    → Left b.rows.now b.pairs.now b.bytes.now g faults s u → c ≡ get_or cs (name b.rows.now g) 0 → AtBranch b.rows.now b.pairs.now b.bytes.now cs ds s u g faults c v
branch b x y left e = record { body = facts_of b; by_name = x.0; by_canon = x.1; row = y.0; kind-is = y.1; left = left; number_is = e; word-is = y.2 }

pub bounds-label_rows-c : goal.bounds-label_rows-c
bounds-label_rows-c c = declared-fits (branch c.args.body c.requires.body c.requires.row_bound c.requires.left c.canon_of-c.ensures)

pub bounds-used-c : goal.bounds-used-c
bounds-used-c c = used-fits (branch c.args.body c.requires.body c.requires.row_bound c.requires.left c.canon_of-c.ensures)

pub returns-then-bound-from : goal.returns-then-bound-from
returns-then-bound-from c =
    over-bound (branch c.args.body c.requires.body c.requires.row_bound c.requires.left c.canon_of-c.ensures) c.if-bound-ne0.true (c.if-bound-from.true ∙ c.from.ensures)

pub returns-else-bound-from : goal.returns-else-bound-from
returns-else-bound-from c =
    over-repeated (branch c.args.body c.requires.body c.requires.row_bound c.requires.left c.canon_of-c.ensures) c.if-bound-ne0.true (λ e. c.if-bound-from.false (e ∙ sym c.from.ensures))

pub branch_at-requires-clause-allowed : goal.branch_at-requires-clause-allowed
branch_at-requires-clause-allowed c = allowed c.args.body _ c.requires.row_bound.0

pub returns-then-ne : goal.returns-then-ne
returns-then-ne c =
    over-unbound (branch c.args.body c.requires.body c.requires.row_bound c.requires.left c.canon_of-c.ensures) c.if-bound-ne0.false
    (ne-true _ Goto c.branch_at.ensures (sym c.if-ne.true ∙ c.ne.ensures))

pub bounds-label_rows-c-then-c-ne0 : goal.bounds-label_rows-c-then-c-ne0
bounds-label_rows-c-then-c-ne0 c = declared-fits (branch c.args.body c.requires.body c.requires.row_bound c.requires.left c.canon_of-c.ensures)

pub bounds-used-c-then-label_rows-c-ne0 : goal.bounds-used-c-then-label_rows-c-ne0
bounds-used-c-then-label_rows-c-ne0 c = used-fits (branch c.args.body c.requires.body c.requires.row_bound c.requires.left c.canon_of-c.ensures)

pub report-requires : goal.report-requires
report-requires c =
    let detail = ne-false _ Goto c.branch_at.ensures (sym c.if-ne.false ∙ c.ne.ensures) in
    (c.requires.row_bound.0, sheet-fits (branch c.args.body c.requires.body c.requires.row_bound c.requires.left c.canon_of-c.ensures) c.if-bound-ne0.false detail)

pub overflow_add-result : goal.overflow_add-result
overflow_add-result c =
    let detail = ne-false _ Goto c.branch_at.ensures (sym c.if-ne.false ∙ c.ne.ensures) in
    omega (arith, count_small (branch c.args.body c.requires.body c.requires.row_bound c.requires.left c.canon_of-c.ensures) c.if-bound-ne0.false detail)

pub returns-then-label_rows-c-ne0 : goal.returns-then-label_rows-c-ne0
returns-then-label_rows-c-ne0 c =
    let detail = ne-false _ Goto c.branch_at.ensures (sym c.if-ne.false ∙ c.ne.ensures) in
    over-declared (branch c.args.body c.requires.body c.requires.row_bound c.requires.left c.canon_of-c.ensures) c.if-bound-ne0.false detail c.if-c-ne0.true
    c.if-label_rows-c-ne0.true _ c.report.ensures

pub report-requires-2 : goal.report-requires-2
report-requires-2 c =
    let detail = ne-false _ Goto c.branch_at.ensures (sym c.if-ne.false ∙ c.ne.ensures) in
    (c.requires.row_bound.0, sheet-fits (branch c.args.body c.requires.body c.requires.row_bound c.requires.left c.canon_of-c.ensures) c.if-bound-ne0.false detail)

pub overflow_add-result-2 : goal.overflow_add-result-2
overflow_add-result-2 c =
    let detail = ne-false _ Goto c.branch_at.ensures (sym c.if-ne.false ∙ c.ne.ensures) in
    omega (arith, count_small (branch c.args.body c.requires.body c.requires.row_bound c.requires.left c.canon_of-c.ensures) c.if-bound-ne0.false detail)

pub returns : goal.returns
returns c =
    let at = branch c.args.body c.requires.body c.requires.row_bound c.requires.left c.canon_of-c.ensures in
    let detail = ne-false _ Goto c.branch_at.ensures (sym c.if-ne.false ∙ c.ne.ensures) in
    elim c.else-c-ne0.branch [
      | else-c-ne0-via-then-c-ne0+else-label_rows-c-ne0 w ↦
          over-undeclared at c.if-bound-ne0.false detail w.if-c-ne0.true w.if-label_rows-c-ne0.false _ c.report-2.ensures
      | else-c-ne0-via-else-c-ne0 w ↦ over-blank at c.if-bound-ne0.false detail w.if-c-ne0.false _ c.report-2.ensures
    ]
