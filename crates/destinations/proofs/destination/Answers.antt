-- By its detail the Branch is of one of four classes, and Places.antt says which place that one goes to.
-- Assumes nothing.
use mathlib.Core.Path.{◌≡◌, refl, ap}
use Prim.Native.Nat.{ℕ, ◌+◌, ◌-◌}
use native.Mathlib.Omega.{arith}
use borrow.Author.Rules.{rules}
use lib.ListN.{get_or}
use Rattle.rules.specs.Rows.{end}
use Rattle.rows.specs.declared.details.Branch.TheVariants.{Break, Continue}
use Rattle.rows.proofs.Branches.{is-branch}
use Rattle.enclosing.specs.Enclosing.{outside}
use Rattle.destinations.proofs.Places.{BreakPlace, ContinuePlace, FallthroughPlace, formed, end_of, on-break, on-continue, on_goto, on-fallthrough}
use Rattle.destinations.proofs.destination.Goals as goal
use Rattle.destinations.proofs.destination.Goals.{After-branch_at, In-Fallthrough, After-size}

pub branch_at-requires-clause-allowed : goal.branch_at-requires-clause-allowed
branch_at-requires-clause-allowed c = (formed c.requires.tables.faultless).details _ c.requires.r_bound.0

-- ---- a break
breaks : (c : After-branch_at) → c.branch_at.result ≡ Break → BreakPlace c.requires.tables c.args.r c.requires.r_bound
breaks c e = on-break c.requires.tables _ c.requires.r_bound (is-branch c.branch_at.ensures e)

pub statement-left-requires : goal.statement-left-requires
statement-left-requires c = (breaks (goal.at.statement-left-requires c).After-branch_at c.in-Break.is).0

pub offset_bounds-around-left : goal.offset_bounds-around-left
offset_bounds-around-left c =
    let f = breaks (goal.at.offset_bounds-around-left c).After-branch_at c.in-Break.is in
    omega (arith, c.statement-left.ensures, f.1, (formed c.requires.tables.faultless).most_rows)

pub bounds-around-left : goal.bounds-around-left
bounds-around-left c =
    let f = breaks (goal.at.bounds-around-left c).After-branch_at c.in-Break.is in
    omega (arith, c.statement-left.ensures, f.1, c.requires.tables.afters_room)

pub returns-in-Break : goal.returns-in-Break
returns-in-Break c =
    let f = breaks (goal.at.returns-in-Break c).After-branch_at c.in-Break.is in
    (rw (c.from.ensures, c.statement-left.ensures) f.2, search rules)

-- ---- a continue
continues : (c : After-branch_at) → c.branch_at.result ≡ Continue → ContinuePlace c.requires.tables c.args.r c.requires.r_bound
continues c e = on-continue c.requires.tables _ c.requires.r_bound (is-branch c.branch_at.ensures e)

pub statement-requires : goal.statement-requires
statement-requires c = (continues (goal.at.statement-requires c).After-branch_at c.in-Continue.is).0

pub overflow_add-result : goal.overflow_add-result
overflow_add-result c =
    let f = continues (goal.at.overflow_add-result c).After-branch_at c.in-Continue.is in
    omega (arith, c.statement.ensures, f.1, (formed c.requires.tables.faultless).most_rows)

pub returns-in-Continue : goal.returns-in-Continue
returns-in-Continue c =
    let f = continues (goal.at.returns-in-Continue c).After-branch_at c.in-Continue.is in
    (f.2 _ (ap (λ (n : ℕ). n + 2) c.statement.ensures), omega (arith, c.statement.ensures, f.1, (formed c.requires.tables.faultless).most_rows))

-- ---- a goto
pub returns-in-Goto : goal.returns-in-Goto
returns-in-Goto c =
    let f = on_goto c.requires.tables _ c.requires.r_bound (is-branch c.branch_at.ensures c.in-Goto.is) in
    (f.1 _ refl, omega (arith, (formed c.requires.tables.faultless).most_rows))

-- ---- a fallthrough, by the Case around it and where that ends
falls : (c : In-Fallthrough) → FallthroughPlace c.requires.tables c.args.r c.requires.r_bound
falls c = on-fallthrough c.requires.tables _ c.requires.r_bound (is-branch c.branch_at.ensures c.in-Fallthrough.is)

next : (c : After-size) →
    let a = c.args in c.from-case.result - 1 + c.size.result ≡ end a.faultless.body.rows.now ((get_or a.around.enclosing.now a.r outside).case - 1)
next c = end_of c.args.faultless.body.rows.now _ _ _ (ap (λ (n : ℕ). n - 1) c.from-case.ensures) c.size.ensures

pub overflow_sub-case : goal.overflow_sub-case
overflow_sub-case c = omega (arith, c.from-case.ensures, (falls (goal.at.overflow_sub-case c).In-Fallthrough).0)

pub size-requires : goal.size-requires
size-requires c = let f = falls (goal.at.size-requires c).In-Fallthrough in omega (arith, c.from-case.ensures, f.0, f.1)

pub overflow_add-next : goal.overflow_add-next
overflow_add-next c =
    let f = falls (goal.at.overflow_add-next c).In-Fallthrough in
    omega (arith, next (goal.at.overflow_add-next c).After-size, f.2, (formed c.requires.tables.faultless).most_rows)

pub overflow_add-result-in-Fallthrough : goal.overflow_add-result-in-Fallthrough
overflow_add-result-in-Fallthrough c =
    let f = falls (goal.at.overflow_add-result-in-Fallthrough c).In-Fallthrough in
    omega (arith, next (goal.at.overflow_add-result-in-Fallthrough c).After-size, f.2, (formed c.requires.tables.faultless).most_rows)

pub returns-in-Fallthrough : goal.returns-in-Fallthrough
returns-in-Fallthrough c =
    let e = next (goal.at.returns-in-Fallthrough c).After-size in
    let f = falls (goal.at.returns-in-Fallthrough c).In-Fallthrough in
    (f.3 _ (ap (λ (n : ℕ). n + 2) e), omega (arith, e, f.2, (formed c.requires.tables.faultless).most_rows))
