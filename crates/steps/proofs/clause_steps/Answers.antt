use mathlib.Core.Path.{◌≡◌, refl, sym, ◌∙◌, ap}
use mathlib.Core.Bool.{◌||◌}
use Prim.Native.Nat.{◌<◌}
use native.Mathlib.Omega.{arith}
use borrow.Author.Rules.{rules}
use lib.ListN.{length, length-set}
use Rattle.rules.specs.Rows.{size, end}
use Rattle.rules.specs.Class.{is_default, class}
use Rattle.steps.proofs.Turns.{clauses-start, clauses-end, clause-room, clauses-more, default, no-default, or-none, or_some}
use Rattle.steps.proofs.clause_steps.Goals as goal
use Rattle.steps.proofs.clause_steps.Goals.{In-loop-c, in-DefaultCase, in_default, then-matches, else-matches}

-- ---- the clause in hand
inside : (c : In-loop-c) → c.loop-c.c < end c.args.rows.now c.args.r
inside c = omega (arith, c.loop-c-test.true, c.size.ensures)

room : (c : In-loop-c) → c.loop-c.end < length c.loop-c.steps
room c =
    let v = c.loop-c.invariant in
    clause-room v.1 (inside c) (omega (arith, v.0, c.requires.2))

some_rows : (c : In-loop-c) → 0 < size c.args.rows.now c.loop-c.c
some_rows c =
    let s = c.requires.0.2.sized in
    s.some_rows c.loop-c.c (omega (arith, inside c, s.within c.args.r c.requires.1))

pub loop-c-init : goal.loop-c-init
loop-c-init c = (refl, clauses-start c.args.rows.now c.args.steps.now c.args.r c.args.first)

pub bounds-steps-end : goal.bounds-steps-end
bounds-steps-end c = room (goal.at.bounds-steps-end c).In-loop-c

pub loop-c-preserved : goal.loop-c-preserved
loop-c-preserved c =
    let v = c.loop-c.invariant in
    let t = (goal.at.loop-c-preserved c).In-loop-c in
    let e = ap is_default c.class_of.ensures in
    let m : c.match-matches.matches ≡ is_default (class c.args.rows.now c.loop-c.c) = elim c.match-matches.branch [
      | in-DefaultCase w ↦ w.matches-is ∙ default c.class_of.result (search rules) ∙ e
      | in_default w ↦ w.matches-is ∙ no-default c.class_of.result (search rules) ∙ e
    ] in
    let found : c.if-matches.default ≡ (c.loop-c.default || is_default (class c.args.rows.now c.loop-c.c)) = elim c.if-matches.branch [
      | then-matches w ↦ w.default-is ∙ or_some _ _ (sym m ∙ w.if-matches.true)
      | else-matches w ↦ w.default-is ∙ or-none _ _ (sym m ∙ w.if-matches.false)
    ] in
    (length-set c.loop-c.steps _ _ ∙ v.0, clauses-more v.1 (inside t) _ (room t) (some_rows t) refl c.size-c.ensures found)

pub returns : goal.returns
returns c = clauses-end c.loop-c.invariant.1 (omega (arith, c.loop-c-test.false, c.size.ensures))
