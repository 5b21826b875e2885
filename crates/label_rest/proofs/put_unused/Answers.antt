use mathlib.Core.Path.{◌≡◌}
use mathlib.Core.List.{List}
use Prim.Native.Nat.{ℕ, ◌*◌, ◌≤◌, ◌<◌}
use native.Mathlib.Omega.{arith}
use lib.ListN.{length, get_or}
use Rattle.rules.specs.Rows.{row_count}
use Rattle.rules.specs.Names.{count_of_pairs}
use Rattle.sorting.specs.Sorted.{Sorted}
use Rattle.tables.specs.Canon.{DeclaredTable}
use Rattle.body.specs.declared.Body.{Body}
use Rattle.label_rest.specs.Rest.{Reported, UnusedTo}
use Rattle.body.proofs.Facts.{facts_of}
use Rattle.label_rest.proofs.UnusedRows.{nines_to, up_to, AtName, nines-start, nines-all, name-within-table, some_word, label-row, fault-fits, fault-small}
use Rattle.label_rest.proofs.UnusedRows.{turn}
use Rattle.label_rest.proofs.put_unused.Goals as goal

pub loop-name-init : goal.loop-name-init
loop-name-init c = nines-start _ _ _ _ _ _ c.requires.reported.0

pub bounds-label_rows-from : goal.bounds-label_rows-from
bounds-label_rows-from c = omega (arith, name-within-table _ _ (facts_of c.args.body) c.requires.body c.requires.sorted.1 c.loop-name-test.true)

-- what is known of the name once the word of its label is read
at_name : (b : Body) {ds s t₀ t : List ℕ} {j at c d : ℕ} → DeclaredTable b.rows.now b.pairs.now b.bytes.now ds
    → Sorted b.pairs.now b.bytes.now s × UnusedTo b.rows.now b.pairs.now b.bytes.now (count_of_pairs b.pairs.now) s
    → row_count b.rows.now * 8 ≤ length t₀ → j < length s → c ≡ get_or s j 0 → d ≡ get_or ds c 0
    → Reported at (nines_to b.rows.now b.pairs.now b.bytes.now (up_to b.pairs.now b.bytes.now s j)) t₀ t
    → AtName b.rows.now b.pairs.now b.bytes.now ds s t₀ t j at c d
at_name b x y room more e f state = record {
  body = facts_of b;
  by_canon = x;
  sorted = y.0;
  all = y.1;
  room = room;
  more = more;
  name-is = e;
  word-is = f;
  state = state;
}

pub overflow_sub-declared : goal.overflow_sub-declared
overflow_sub-declared c =
    some_word (at_name c.args.body c.requires.body c.requires.sorted c.requires.reported.1 c.loop-name-test.true c.from.ensures c.from-declared.ensures c.loop-name.invariant)

pub report-requires : goal.report-requires
report-requires c =
    let n = at_name c.args.body c.requires.body c.requires.sorted c.requires.reported.1 c.loop-name-test.true c.from.ensures c.from-declared.ensures c.loop-name.invariant in
    (label-row n, fault-fits n)

pub overflow_add-at : goal.overflow_add-at
overflow_add-at c =
    omega (arith, fault-small (at_name c.args.body c.requires.body c.requires.sorted c.requires.reported.1 c.loop-name-test.true c.from.ensures c.from-declared.ensures c.loop-name.invariant))

pub loop-name-preserved : goal.loop-name-preserved
loop-name-preserved c =
    turn (at_name c.args.body c.requires.body c.requires.sorted c.requires.reported.1 c.loop-name-test.true c.from.ensures c.from-declared.ensures c.loop-name.invariant)
    _ c.report.ensures

pub returns : goal.returns
returns c =
    let (sorted, all) = c.requires.sorted in
    nines-all _ _ _ _ _ (facts_of c.args.body) sorted all (omega arith) c.loop-name.invariant
