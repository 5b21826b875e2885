use mathlib.Core.Path.{◌≡◌, refl, sym, ◌∙◌, ap}
use mathlib.Core.Bool.{true}
use mathlib.Core.List.{List}
use mathlib.Core.Logic.{inl, inr}
use Prim.Native.Nat.{ℕ, ◌+◌, ◌≤◌, ◌<◌}
use native.Mathlib.Omega.{arith}
use borrow.Author.Tests.{not-true, eqb-true, leb-true}
use Rattle.std.specs.Prelude.{Option}
use Rattle.rules.specs.Rows.{size}
use Rattle.rules.specs.Class.{class}
use Rattle.rules.specs.Refusals.{holding}
use Rattle.rules.proofs.Facts.{good-row}
use Rattle.shape.specs.DetailedTo.{DetailedTo}
use Rattle.rows.specs.declared.kinds.Kind.{Kind}
use Rattle.row_checks.specs.Parts.{is_list, Items}
use Rattle.row_checks.specs.Right.{Met}
use Rattle.rows_fit.proofs.AnyPairs.{some_pairs, so-many, right-any, right-below-any}
use Rattle.rows_fit.proofs.Listing.{Listed, from_first, List-at, has-none, has-one, no_items, begins, items-right, Item_at, item-call, past-item, to_item, at_item}
use Rattle.rows_fit.proofs.Clauses.{count-first, counts-none, counts-few, Turned, counts_past, counts-run, counts-one}
use Rattle.rows_fit.proofs.Going.{Statement-at, goes_through, Turn, row-known, list-call, past-list, past_row}
use Rattle.rows_fit.proofs.+list_fits_statement_fits.Goals as goal
use Rattle.rows_fit.proofs.+list_fits_statement_fits.Goals.{list_fits-then-is_none, list_fits-else-is_none}
use Rattle.rows_fit.proofs.+list_fits_statement_fits.Goals.{list_fits-Joined-is_none, statement_fits-Else-not-row_allowed}

-- ---- a list

-- what is known of the list, by what the function requires
list_known : {w : List ℕ} {r s d : ℕ} (i : Option Kind) → Met w r d × DetailedTo w r × (is_list (holding (class w r)) ≡ true) × Items i (holding (class w r))
    → s ≡ size w r → List-at w r s d
list_known i q e = record { met = q.0; details = q.1; list = q.2; size_is = e }

-- past a run of plain items the walk stands at the next item, or has come to the end; or it stands at a clause, and that is counted
past-run : {t : ℕ} (c : list_fits-Joined-is_none t) → c.args.depth < 100
    → (c.loop-c.c ≤ c.if-is_none.c)
    × Listed c.args.rows.now (some_pairs c.args.pair_count) c.args.row.0 (c.args.row.0 + c.size.result) c.if-is_none.c
    × Turned c.args.rows.now c.args.row.0 c.loop-c.c c.loop-c.defaults c.if-is_none.c c.if-is_none.defaults
past-run c h =
    let o = c.loop-c.invariant.0 _ refl in
    elim c.if-is_none.branch [
      | list_fits-then-is_none w ↦
          let n = has-none _ _ c.requires.3 w.if-is_none.ensures in
          let x =
          to_item (list_known _ c.requires c.size.ensures) h n o (w.end_of_items-c.ensures (some_pairs _) (so-many _)) w.c-is in
          (x.0, x.1, inl (n, x.0, w.defaults-is))
      | list_fits-else-is_none w ↦
          let n = has-one _ _ c.requires.3 w.if-is_none.ensures in
          let x = at_item o w.c-is in
          (x.0, x.1, inr (n, w.c-is, w.defaults-is ∙ ap (λ (k : ℕ). c.loop-c.defaults + k) w.count_default-defaults.ensures))
    ]

-- what is known of an item before it is walked
item_known : {w p : List ℕ} {r s d c n : ℕ} → List-at w r s d → Listed w p r (r + s) c → c < r + s → n ≡ size w c → 0 < n → c + n ≤ r + s
    → Item_at w p r s d c n
item_known a o l e m h = record { list = a; listed = o; left = l; size_is = e; some_rows = m; within = h }

pub list_fits-returns-then-depth-gt99 : goal.list_fits-returns-then-depth-gt99
list_fits-returns-then-depth-gt99 t c y p e = no_items _ p _ c.size.ensures c.requires.2 (eqb-true _ _ y)

pub list_fits-loop-c-init : goal.list_fits-loop-c-init
list_fits-loop-c-init t c = (from_first (begins (some_pairs _) (list_known _ c.requires c.size.ensures)), count-first (counts-none _ _))

pub list_fits-overflow_add-defaults : goal.list_fits-overflow_add-defaults
list_fits-overflow_add-defaults t c =
    omega (arith, (c.loop-c.invariant.1 _ refl).few, c.count_default-defaults.ensures, counts-few c.args.rows.now c.loop-c.c)

pub list_fits-statement_fits-requires : goal.list_fits-statement_fits-requires
list_fits-statement_fits-requires t c =
    let o = past-run (goal.at.list_fits-statement_fits-requires t c).Joined-is_none (omega arith) in
    let i = item_known (list_known _ c.requires c.size.ensures) o.1 c.if-c-end.true c.size-size.ensures (omega arith) (omega arith) in
    item-call i (omega arith) c.decreases

pub list_fits-loop-c-smaller-then-c-end : goal.list_fits-loop-c-smaller-then-c-end
list_fits-loop-c-smaller-then-c-end t c =
    let o = past-run (goal.at.list_fits-loop-c-smaller-then-c-end t c).Joined-is_none (omega arith) in
    omega (arith, o.0)

pub list_fits-loop-c-preserved-then-c-end : goal.list_fits-loop-c-preserved-then-c-end
list_fits-loop-c-preserved-then-c-end t c =
    let o = past-run (goal.at.list_fits-loop-c-preserved-then-c-end t c).Joined-is_none (omega arith) in
    let i = item_known (list_known _ c.requires c.size.ensures) o.1 c.if-c-end.true c.size-size.ensures (omega arith) (omega arith) in
    let u = c.statement_fits.ensures c.if-not-statement_fits.false (some_pairs _) (so-many _) in (
      from_first (past-item i (c.in-Ok.ensures ∙ c.kind.ensures) (λ d. c.may_be_item.ensures _ d c.requires.2 c.requires.3) c.if-not-may_be_item.false u),
      count-first (counts_past (c.loop-c.invariant.1 _ refl) o.2 (omega (arith, i.left, i.list.size_is)) (good-row _ _ _ u.0.allowed).detailed
          i.size_is i.some_rows),
    )

pub list_fits-loop-c-preserved : goal.list_fits-loop-c-preserved
list_fits-loop-c-preserved t c =
    let k = past-run (goal.at.list_fits-loop-c-preserved t c).Joined-is_none (omega arith) in
    (from_first k.1, count-first (counts-run (c.loop-c.invariant.1 _ refl) k.2 c.loop-c-test.true c.if-c-end.false))

pub list_fits-returns : goal.list_fits-returns
list_fits-returns t c y =
    let i = c.loop-c.invariant in
    let k = list_known _ c.requires c.size.ensures in
    right-below-any _ (items-right k (i.0 _ refl) c.loop-c-test.false
    (counts-one (i.1 _ refl) (omega (arith, k.size_is)) (leb-true _ _ y)))

-- ---- a statement

-- what is known of a row that is allowed
turn_known : {t : ℕ} (c : statement_fits-Else-not-row_allowed t) → c.loop-c.d ≤ 100
    → Turn c.args.rows.now (some_pairs c.args.pair_count) c.args.row.0 c.size.result c.args.depth c.loop-c.c c.loop-c.d
turn_known c h =
    record {
      start = record { met = c.requires.0; later = c.requires.1; size_is = c.size.ensures };
      going = c.loop-c.invariant;
      left = c.loop-c-test.true;
      shallow = h;
      allowed = not-true _ (sym (c.row_allowed.ensures (some_pairs _) (so-many _)) ∙ c.if-not-row_allowed.false);
    }

pub statement_fits-holding_at-holding-requires : goal.statement_fits-holding_at-holding-requires
statement_fits-holding_at-holding-requires t c = row-known (turn_known c (omega arith))

pub statement_fits-list_fits-requires : goal.statement_fits-list_fits-requires
statement_fits-list_fits-requires t c =
    list-call (turn_known (goal.at.statement_fits-list_fits-requires t c).Else-not-row_allowed (omega arith)) c.decreases c.holding_at-holding.ensures
    (sym c.holds_list.ensures ∙ c.if-holds_list.true) _ c.item_kind.ensures

pub statement_fits-loop-c-preserved-then-holds_list : goal.statement_fits-loop-c-preserved-then-holds_list
statement_fits-loop-c-preserved-then-holds_list t c =
    past-list (turn_known (goal.at.statement_fits-loop-c-preserved-then-holds_list t c).Else-not-row_allowed (omega arith))
    (c.list_fits.ensures c.if-not-list_fits.false (some_pairs _) (so-many _)) c.size-c.ensures

pub statement_fits-loop-c-preserved : goal.statement_fits-loop-c-preserved
statement_fits-loop-c-preserved t c =
    past_row (turn_known (goal.at.statement_fits-loop-c-preserved t c).Else-not-row_allowed (omega arith)) c.holding_at-holding.ensures
    (sym c.holds_list.ensures ∙ c.if-holds_list.false) (c.parts_fit.ensures c.if-not-parts_fit.false)

pub statement_fits-returns : goal.statement_fits-returns
statement_fits-returns t c y p e =
    let s : Statement-at c.args.rows.now c.args.row.0 c.size.result c.args.depth =
    record { met = c.requires.0; later = c.requires.1; size_is = c.size.ensures } in
    let a = goes_through s c.loop-c.invariant c.loop-c-test.false in
    (right-any _ a.0 p e, right-below-any _ a.1 p e)
