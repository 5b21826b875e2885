-- The rule of a switch or Select, clause by clause: at each turn what is left of the clauses, with the default found so far, answers as the row does.
-- Assumes nothing.
use mathlib.Core.Path.{◌≡◌, refl, sym, ◌∙◌}
use mathlib.Core.Bool.{Bool, true, false, ◌||◌, or-true, or-false}
use mathlib.Core.List.{List}
use Prim.Native.Nat.{ℕ, suc, ◌+◌, ◌-◌, ◌*◌, ◌≤◌, ◌<◌}
use native.Mathlib.Omega.{arith}
use native.Mathlib.Numerals.{add-one}
use lib.Dec.{eqb}
use Rattle.rules.specs.Rows.{row_count, detail, size, Item, here}
use Rattle.rules.specs.Class.{select, is_default, class}
use Rattle.rules.specs.Labels.{is_class}
use Rattle.rules.specs.Body.{Body}
use Rattle.rules.proofs.Shape.{opens}
use Rattle.rules.proofs.Nesting.{item-next, item_from}
use Rattle.breaks.specs.Leaves.{label_number, Closed, any_leaves}
use Rattle.returns.specs.Search.{is_terminating_body, is_terminating_list}
use Rattle.breaks.proofs.Ranges.{closed-rest}
use Rattle.returns.proofs.Calls.{ListCall, list-call}
use Rattle.returns.proofs.Clauses.{is_clause, clause-list, left, clause-default, left_ended, left_open, left-broken, left-next, clauses-closed}
use Rattle.returns.proofs.Clauses.{clause-of, left-start}

-- the row r, of size n, is a switch or Select, and t is its measure
pub record Opened (w p b : List ℕ) (t r label n : ℕ) (found : Bool) : Type 0 where
  pub measure : 2 * size w r - 1 ≡ t
  pub body : Body w p b
  pub row : r < row_count w
  pub opening : opens (class w r) ≡ true
  pub found-is : found ≡ is_class w select r
  pub labelled : label ≡ label_number w r
  pub size_is : n ≡ size w r

-- at the clause c of those from `first` on, before e
pub record Walk (w p b : List ℕ) (e label first : ℕ) (found : Bool) (c : ℕ) (so_far : Bool) : Type 0 where
  pub closed : Closed w c e
  pub item : c < e → Item w e first c
  pub same : left w p b e label c so_far ≡ left w p b e label first found

module _ {w p b : List ℕ} {t r label n : ℕ} {found : Bool} (o : Opened w p b t r label n found) where
  two : r + 2 ≡ suc (suc r)
  two = omega arith

  pub begin : Walk w p b (r + n) label (r + 2) found (r + 2) found
  begin = record { closed = rw (o.size_is, two) (clauses-closed o.body r o.row o.opening); item = λ l. here l; same = refl }

  module _ {c : ℕ} {so_far : Bool} (a : Walk w p b (r + n) label (r + 2) found c so_far) where
    whole : left w p b (r + n) label c so_far ≡ is_terminating_body w p b r
    whole = a.same ∙ rw (o.size_is, two, o.found-is, o.labelled) (left-start o.body r o.row o.opening)

    pub ended : r + n ≤ c → so_far ≡ is_terminating_body w p b r
    ended l = sym (left_ended o.body (r + n) label c so_far l) ∙ whole

    module _ (l : c < r + n) where
      pub clause-row : c < row_count w
      clause-row = omega (arith, a.closed.within)

      clause : is_clause (class w c) ≡ true
      clause = clause-of o.body r o.row o.opening c (rw (o.size_is, two) at (a.item l))

      -- the default found so far, after the clause, of which v says whether it is one
      module _ {v d : Bool} (e : v ≡ eqb (detail w c) 1) where
        pub default-here : v ≡ true → d ≡ true → d ≡ so_far || is_default (class w c)
        default-here f g = g ∙ rw (← clause-default o.body c clause-row clause, ← e, f, or-true)

        pub default-before : v ≡ false → d ≡ so_far → d ≡ so_far || is_default (class w c)
        default-before f g = g ∙ sym (rw (← clause-default o.body c clause-row clause, ← e, f, or-false))

      -- m is the clause's size as the code read it, and u and v what the calls answered
      module _ {m : ℕ} (z : m ≡ size w c) where
        pub clause-call : ListCall w t (c + 1) (c + m)
        clause-call =
            let u = (closed-rest o.body a.closed l).order in
            let v = item_from (a.item l) in
            let x = o.measure in
            let y = o.size_is in
            list-call o.body c clause-row (clause-list (class w c) clause) (omega arith) z

        pub is_open : {u : Bool} → u ≡ is_terminating_list w p b (c + m) (c + 1) → u ≡ false → false ≡ is_terminating_body w p b r
        is_open e f = sym (left_open o.body label so_far a.closed l clause (sym (rw (z, add-one c) at e) ∙ f)) ∙ whole

        pub is-left : {v : Bool} → v ≡ any_leaves w p b (c + 1) (c + m) label true → v ≡ true → false ≡ is_terminating_body w p b r
        is-left e f = sym (left-broken o.body label so_far a.closed l clause (sym (rw (z, add-one c) at e) ∙ f)) ∙ whole

        pub next : {u v d : Bool} → u ≡ is_terminating_list w p b (c + m) (c + 1) → u ≡ true → v ≡ any_leaves w p b (c + 1) (c + m) label true → v ≡ false
            → d ≡ so_far || is_default (class w c) → Walk w p b (r + n) label (r + 2) found (c + m) d
        next e f g k i =
            let y = sym (rw (z, add-one c) at e) ∙ f in
            let x = sym (rw (z, add-one c) at g) ∙ k in
            record {
              closed = rw z (closed-rest o.body a.closed l);
              item = rw z (λ j. item-next (a.item l) j);
              same = rw (z, i) (left-next o.body label so_far a.closed l clause y x ∙ a.same);
            }
