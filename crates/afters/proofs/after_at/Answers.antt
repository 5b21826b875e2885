-- The row is a child of its parent, which its word in the table names, and Places.antt says what comes after it on each of the three ways out.
-- Assumes nothing.
use mathlib.Core.Path.{◌≡◌, sym, ◌∙◌, ap}
use mathlib.Core.Bool.{Bool, true, false}
use mathlib.Core.List.{List}
use mathlib.Core.Logic.{◌⊎◌, inl, inr}
use Prim.Native.Nat.{ℕ, ◌+◌, ◌-◌, ◌≤◌, ◌<◌}
use native.Mathlib.Omega.{arith}
use Rattle.rules.specs.Rows.{row_count, kind, size, end, Child}
use Rattle.rules.specs.Class.{detail_allowed, class_of, is_loop, class}
use Rattle.rules.specs.Scope.{is_list}
use Rattle.rules.specs.Body.{Body}
use Rattle.rules.specs.Walking.{place_of}
use Rattle.rules.proofs.Lists.{own-loop, by-words}
use Rattle.parents.proofs.Reading.{parent-word}
use Rattle.afters.proofs.Places.{place-loop, place-next, place_up}
use Rattle.afters.proofs.after_at.Goals as goal
use Rattle.afters.proofs.after_at.Goals.{After-from-p, else-next-p-via-then-next-p+else-is_list, else-next-p-via-else-next-p}

-- ---- the rows, the row and its parent
abbrev words : After-from-p → List ℕ
words c = c.args.rows.now

abbrev row : After-from-p → ℕ
row c = c.args.r

abbrev parent : After-from-p → ℕ
parent c = c.from-p.result - 1

body : (c : After-from-p) → let f = c.requires.formed.0 in Body (words c) f.0 f.1
body c = c.requires.formed.0.2

up : (c : After-from-p) → (0 < c.from-p.result) × (parent c < row c) × Child (words c) (parent c) (row c)
up c = parent-word (body c) c.args.parents.now _ _ c.requires.formed.1 c.requires.r_nonzero.0 c.requires.r_nonzero.1 c.from-p.ensures

parent_row : (c : After-from-p) → parent c < row_count (words c)
parent_row c = omega (arith, (up c).1)

-- ---- what the calls said of them
loop-told : (c : After-from-p) (k : ℕ) (x : Bool) → k ≡ kind (words c) (parent c) → ((d : ℕ) → detail_allowed k d ≡ true → x ≡ is_loop (class_of k d))
    → x ≡ is_loop (class (words c) (parent c))
loop-told c k x e h = by-words is_loop _ _ k x (own-loop _ (parent c)) e ((body c).details _ (parent_row c)) h

row_ends : (c : After-from-p) (s : ℕ) → s ≡ size (words c) (row c) → (row c + s ≡ end (words c) (row c)) × (end (words c) (row c) ≤ 2000)
row_ends c s e = (ap (λ (n : ℕ). row c + n) e, omega (arith, (body c).sized.within (row c) c.requires.r_nonzero.1, (body c).most_rows))

parent-ends : (c : After-from-p) (s : ℕ) → s ≡ size (words c) (parent c) → parent c + s ≡ end (words c) (parent c)
parent-ends c s e = ap (λ (n : ℕ). parent c + n) e

pub overflow_sub-p : goal.overflow_sub-p
overflow_sub-p c = (up (goal.at.overflow_sub-p c).After-from-p).0

pub kind_at-requires : goal.kind_at-requires
kind_at-requires c =
    let a = (goal.at.kind_at-requires c).After-from-p in record { row_bound = parent_row a; allowed = (body a).details _ (parent_row a) }

pub returns-then-is_loop : goal.returns-then-is_loop
returns-then-is_loop c =
    let a = (goal.at.returns-then-is_loop c).After-from-p in (
      place-loop (body a) _ _ (parent_row a) (up a).2 (sym (loop-told a _ _ c.kind_at.ensures c.is_loop.ensures) ∙ c.if-is_loop.true),
      omega (arith, parent_row a, (body a).most_rows),
    )

pub size-requires-2 : goal.size-requires-2
size-requires-2 c = parent_row (goal.at.size-requires-2 c).After-from-p

pub is_list-requires : goal.is_list-requires
is_list-requires c = let a = (goal.at.is_list-requires c).After-from-p in (parent_row a, (body a).details)

pub returns-then-is_list : goal.returns-then-is_list
returns-then-is_list c =
    let a = (goal.at.returns-then-is_list c).After-from-p in
    let ends = row_ends a _ c.size.ensures in
    let listed = sym c.is_list.ensures ∙ c.if-is_list.true in
    let no_loop = sym (loop-told a _ _ c.kind_at.ensures c.is_loop.ensures) ∙ c.if-is_loop.false in (
      place-next (body a) _ _ (parent_row a) (up a).2 no_loop listed _ ends.0
          (omega (arith, c.if-next-p.true, parent-ends a _ c.size-2.ensures)),
      omega (arith, ends),
    )

pub bounds-afters-p : goal.bounds-afters-p
bounds-afters-p c = let a = (goal.at.bounds-afters-p c).After-from-p in omega (arith, parent_row a)

-- where the place after the parent is taken, it is no list, or the row is its last
pub returns : goal.returns
returns c =
    let a = (goal.at.returns c).After-from-p in
    let no_loop = sym (loop-told a _ _ c.kind_at.ensures c.is_loop.ensures) ∙ c.if-is_loop.false in
    let no_next : (is_list (class (words a) (parent a)) ≡ false) ⊎ (end (words a) (parent a) ≤ end (words a) (row a)) = elim c.else-next-p.branch [
      | else-next-p-via-then-next-p+else-is_list w ↦ inl (sym w.is_list.ensures ∙ w.if-is_list.false)
      | else-next-p-via-else-next-p w ↦ inr (omega (arith, (row_ends a _ c.size.ensures).0, parent-ends a _ c.size-2.ensures))
    ] in
    let there = ap place_of c.from.ensures ∙ c.requires.formed.2 _ (up a).1 in (
      place_up (body a) _ _ (parent_row a) (up a).2 no_loop no_next c.from.result there,
      omega (arith, c.from.ensures, c.type_inv.afters (parent a)),
    )
