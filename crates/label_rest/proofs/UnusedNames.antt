-- The loop that collects the canonical numbers of the labels that nothing used. The two tables say of each number whether it is one, and a number that is one
-- is stored behind those before it, so that each test passes once more. They are no more than the declared labels, since each has a declared label
-- of its own number.
-- Assumes nothing.
use mathlib.Core.Path.{◌≡◌, refl, sym, ◌∙◌, ap}
use mathlib.Core.Bool.{Bool, true, false, ◌&&◌, not}
use mathlib.Core.List.{List}
use mathlib.Core.Option.{none, some}
use Prim.Native.Nat.{ℕ, zero, suc, ◌+◌, ◌-◌, ◌≤◌, ◌<◌}
use native.Mathlib.Numerals.{add-one}
use native.Mathlib.Omega.{arith}
use lib.Dec.{leb, eqb}
use lib.ListN.{length, get_or, take, set}
use lib.Seq.{length-take-le}
use borrow.Author.Tests.{le-leb, lt-leb, leb-true, not-true, eq-eqb, ne_eqb}
use Rattle.rules.specs.Scan.{how_many}
use Rattle.rules.specs.Rows.{row_count}
use Rattle.rules.specs.Names.{count_of_pairs}
use Rattle.rules.specs.Body.{Body}
use Rattle.rules.specs.Labels.{word, declared, used}
use Rattle.rules.proofs.Test.{case-of, case-found, clash, and-true, true-and}
use Rattle.rules.proofs.Scan.{how_many-most, how_many-yes, how_many-no, how_many-le, how_many-lt}
use Rattle.rules.proofs.Found.{found-is, word-found}
use Rattle.sorting.specs.Sorted.{passing}
use Rattle.sorting.proofs.Elements.{passing-store, passing-all}
use Rattle.tables.specs.Canon.{row_canon, declared_for, DeclaredTable}
use Rattle.tables.proofs.Labelling.{is-declared-for}
use Rattle.walk_state.proofs.WalkRoom.{is_declared}
use Rattle.label_rest.specs.Rest.{UsedTable, is_unused, UnusedTo}

-- ---- whether the label of a number is not used
module _ (w p b : List ℕ) (c : ℕ) where
  unused-none : declared_for w p b c ≡ none → is_unused w p b c ≡ false
  unfolding is_unused
  unused-none e = rw (e, is_unused)

  pub unused-some : (d : ℕ) → declared_for w p b c ≡ some d → is_unused w p b c ≡ not (used w p b d)
  unfolding is_unused
  unused-some d e = rw (e, is_unused)

  pub is-unused : is_unused w p b c ≡ true → (d : ℕ) × (declared_for w p b c ≡ some d) × (used w p b d ≡ false)
  is-unused t = case-found (declared_for w p b c)
      (λ d e. (d, e, not-true (used w p b d) (sym (unused-some d e) ∙ t)))
      (λ e. absurd (clash (cc (unused-none e))))

-- as the tables say
module _ {w p b ds u : List ℕ} (by_canon : DeclaredTable w p b ds) (uses : UsedTable w p b u) (c : ℕ) (z : 0 < c) (h : c ≤ count_of_pairs p) where
  no_label : get_or ds c 0 ≡ 0 → is_unused w p b c ≡ false
  no_label e = case-found (declared_for w p b c)
      (λ d f. let g = by_canon.at_canon c z h ∙ ap word f in absurd (omega arith))
      (λ f. unused-none w p b c f)

  its-use : (get_or ds c 0 ≡ 0 → ⊥) → is_unused w p b c ≡ eqb (get_or u c 0) 0
  its-use n =
      let i : suc (get_or ds c 0 - 1) ≡ get_or ds c 0 = omega arith in
      let f = word-found (declared_for w p b c) (get_or ds c 0 - 1) (sym (by_canon.at_canon c z h) ∙ sym i) in
      unused-some w p b c (get_or ds c 0 - 1) f ∙ sym (uses.at_canon c (get_or ds c 0 - 1) z h f)

-- ---- no more than the declared labels
module _ (w p b : List ℕ) where
  -- a declared label with a canonical number up to k
  abbrev is_to : ℕ → ℕ → Bool
  is_to k r = is_declared w p b r && leb (row_canon w p b r) k

  -- what is collected, and passes a test
  abbrev pub passes : (ℕ → Bool) → ℕ → Bool
  passes P i = is_unused w p b (suc i) && P (suc i)

  further : (k r : ℕ) → is_to k r ≡ true → is_to (suc k) r ≡ true
  further k r t =
      let x = and-true (is_declared w p b r) (leb (row_canon w p b r) k) t in
      true-and (is_declared w p b r) (leb (row_canon w p b r) (suc k)) x.0
      (le-leb (row_canon w p b r) (suc k) (omega (arith, leb-true (row_canon w p b r) k x.1)))

module _ {w p b : List ℕ} (body : Body w p b) where
  unused-to : (k : ℕ) → how_many (passes w p b (λ c. true)) k ≤ how_many (is_to w p b k) (row_count w)
  unused-to zero = omega (arith, how_many-most (passes w p b (λ c. true)) 0)
  unused-to (suc k) = case-of (passes w p b (λ c. true) k)
      (λ t.
      let (d, e, u) = is-unused w p b (suc k) (and-true (is_unused w p b (suc k)) true t).0 in
      let (row, label, own, number) = is-declared-for body (suc k) d e in
      let mine : is_declared w p b d ≡ true = rw (label, found-is (declared w p b d) d own) in
      omega (
        arith,
        unused-to k,
        how_many-yes (passes w p b (λ c. true)) k t,
        how_many-lt (is_to w p b k) (is_to w p b (suc k)) (row_count w) d (λ r h. further w p b k r) row
            (rw (mine, lt-leb (row_canon w p b d) k (omega arith)))
            (rw (mine, le-leb (row_canon w p b d) (suc k) (omega arith))),
      ))
      (λ f.
      omega (
        arith,
        unused-to k,
        how_many-no (passes w p b (λ c. true)) k f,
        how_many-le (is_to w p b k) (is_to w p b (suc k)) (row_count w) (λ r h. further w p b k r),
      ))

  pub unused-few : (k : ℕ) (s : List ℕ) → UnusedTo w p b k s → length s ≤ how_many (is_declared w p b) (row_count w)
  unused-few k s all = omega (
    arith,
    passing-all s,
    all (λ c. true),
    unused-to k,
    how_many-le (is_to w p b k) (is_declared w p b) (row_count w) (λ r h t. (and-true (is_declared w p b r) (leb (row_canon w p b r) k) t).0),
  )

-- ---- the loop: n numbers below c are collected, at the start of l
pub record Collected (w p b : List ℕ) (c n : ℕ) (l : List ℕ) : Type 0 where
  pub few : n < c
  pub all : UnusedTo w p b (c - 1) (take n l)

pub collected-start : (w p b l : List ℕ) → Collected w p b 1 0 l
unfolding passing how_many
collected-start w p b l = record { few = omega arith; all = λ P. refl }

pub collected-end : {w p b l : List ℕ} {c n : ℕ} → Body w p b → c ≡ count_of_pairs p + 1 → n ≤ length l → Collected w p b c n l
    → (n ≤ count_of_pairs p) × (n ≤ row_count w) × UnusedTo w p b (count_of_pairs p) (take n l)
collected-end {w} {p} {b} {l} {c} {n} body e room x =
    let i : c - 1 ≡ count_of_pairs p = omega arith in
    let all : UnusedTo w p b (count_of_pairs p) (take n l) = rw i at x.all in (
      omega (arith, x.few),
      omega (arith, unused-few body (count_of_pairs p) (take n l) all, length-take-le n l room, how_many-most (is_declared w p b) (row_count w)),
      all,
    )

-- one turn
module _ {w p b l : List ℕ} {c n : ℕ} (within : c ≤ count_of_pairs p) (state : Collected w p b c n l) where
  number : suc (c - 1) ≡ c
  number = omega (arith, state.few)

  next : (n' : ℕ) (l' : List ℕ) → n' ≤ c → UnusedTo w p b (suc (c - 1)) (take n' l') → Collected w p b (c + 1) n' l'
  next n' l' h all =
      let i : c + 1 - 1 ≡ suc (c - 1) = omega (arith, state.few) in
      record { few = omega arith; all = rw i all }

  -- the number is not one of them
  not-collected : is_unused w p b c ≡ false → Collected w p b (c + 1) n l
  not-collected f = next n l (omega (arith, state.few)) (λ P. state.all P ∙ sym (how_many-no (passes w p b P) (c - 1) (rw (number, f))))

  -- or is one of them
  collected : is_unused w p b c ≡ true → n < length l → Collected w p b (c + 1) (n + 1) (set l n c)
  unfolding passing
  collected t h = next (n + 1) (set l n c) (omega (arith, state.few))
      (λ P. rw (add-one n, passing-store P l n c h) (case-of (P c)
      (λ u. rw (u, passing) (omega (arith, state.all P, how_many-yes (passes w p b P) (c - 1) (rw (number, t, u)))))
      (λ u. rw (u, passing) (omega (arith, state.all P, how_many-no (passes w p b P) (c - 1) (rw (number, t, u)))))))

  module _ {ds u : List ℕ} (by_canon : DeclaredTable w p b ds) (uses : UsedTable w p b u) where
    from : 0 < c
    from = omega (arith, state.few)

    pub turn-none : get_or ds c 0 ≡ 0 → Collected w p b (c + 1) n l
    turn-none e = not-collected (no_label by_canon uses c from within e)

    pub turn-used : (get_or ds c 0 ≡ 0 → ⊥) → (get_or u c 0 ≡ 0 → ⊥) → Collected w p b (c + 1) n l
    turn-used some-label o = not-collected (its-use by_canon uses c from within some-label ∙ ne_eqb (get_or u c 0) 0 o)

    pub turn-unused : (get_or ds c 0 ≡ 0 → ⊥) → get_or u c 0 ≡ 0 → n < length l → Collected w p b (c + 1) (n + 1) (set l n c)
    turn-unused some-label o h = collected (its-use by_canon uses c from within some-label ∙ eq-eqb (get_or u c 0) 0 o) h
