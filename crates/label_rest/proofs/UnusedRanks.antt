-- The canonical numbers of the labels that are not used, sorted by bytes, and the ranks by which the sheet has the 9s. A number and its label have the
-- same bytes, so the label declared for the number is the one declared at its rank; each rank with a 9 is the rank of a number of the list, and the ranks
-- of the list rise, since the list is sorted and holds each number once.
-- Assumes nothing.
use mathlib.Core.Path.{◌≡◌, refl, sym, ◌∙◌, ap}
use mathlib.Core.Bool.{true, false}
use mathlib.Core.Logic.{◌⊎◌, inl, inr}
use mathlib.Core.List.{List, [], ◌∷◌}
use mathlib.Core.Option.{some}
use Prim.Native.Nat.{ℕ, zero, suc, ◌≤◌, ◌<◌}
use native.Mathlib.Omega.{arith}
use native.Mathlib.Decide.{dec_lt, ℕ_discrete}
use lib.Dec.{eqb}
use lib.ListN.{length, get_or}
use borrow.Author.Tests.{eq-eqb, eqb-true}
use Rattle.rules.specs.Rows.{row_count, name}
use Rattle.rules.specs.Names.{count_of_pairs, name_bytes, rank}
use Rattle.rules.specs.Body.{Body}
use Rattle.rules.specs.Labels.{fault, declared_at, used, unused}
use Rattle.rules.proofs.Test.{case-of, case-found, clash, and-true}
use Rattle.rules.proofs.Scan.{some-counted, counted-some, counted-once}
use Rattle.rules.proofs.Order.{same_rank, rank-before, rank_same}
use Rattle.rules.proofs.RowNames.{name-within}
use Rattle.rules.proofs.RankRows.{declared-rank, label_at}
use Rattle.rules.proofs.SheetRows.{unused-none, unused-not, unused-is}
use Rattle.sorting.specs.Sorted.{Sorted}
use Rattle.sorting.proofs.Elements.{passing-at, passing-some, passing-one}
use Rattle.tables.specs.Canon.{row_canon, declared_for}
use Rattle.tables.proofs.Canons.{canonical, canon-own, canon-same}
use Rattle.tables.proofs.Labelling.{row-canon-within, label-numbered, declared-canon, is-declared-for}
use Rattle.label_rest.specs.Rest.{is_unused, UnusedTo}
use Rattle.label_rest.proofs.UnusedNames.{passes, unused-some, is-unused}

-- ---- one number: d is the label declared for c
pub record LabelFor (w p b : List ℕ) (c d : ℕ) : Type 0 where
  pub row : d < row_count w
  pub above : 0 < c
  pub within : c ≤ count_of_pairs p
  pub number : row_canon w p b d ≡ c
  pub has-name : 0 < name w d
  pub own-bytes : name_bytes p b c ≡ name_bytes p b (name w d)
  pub at-rank : declared_at w p b (rank p b c) ≡ some d

module _ {w p b : List ℕ} (body : Body w p b) where
  pub label-for : (c d : ℕ) → declared_for w p b c ≡ some d → LabelFor w p b c d
  label-for c d e =
      let (row, label, own, number) = is-declared-for body c d e in
      let z = label-numbered body d row label in
      let has-name = (canonical p b (name w d) z).has-name in
      let bytes : name_bytes p b c ≡ name_bytes p b (name w d) = ap (name_bytes p b) (sym number) ∙ canon-own p b (name w d) (name-within body d row) z in
      record {
        row = row;
        above = omega arith;
        within = omega (arith, row-canon-within w p b d);
        number = number;
        has-name = has-name;
        own-bytes = bytes;
        at-rank = ap (declared_at w p b) (same_rank p b c (name w d) bytes) ∙ declared-rank body d row has-name ∙ own;
      }

  -- it has its 9 at the rank of the number
  pub its-nine : (c d : ℕ) → declared_for w p b c ≡ some d → used w p b d ≡ false → unused w p b (rank p b c) ≡ fault w 9 d ∷ []
  its-nine c d e f = unused-is w p b (rank p b c) d (label-for c d e).at-rank f

  -- and a rank with a 9 is that of a number whose label is not used
  pub at-rank : (k : ℕ) → (unused w p b k ≡ []) ⊎ ((c : ℕ) × (is_unused w p b c ≡ true) × (rank p b c ≡ k))
  at-rank k = case-found (declared_at w p b k)
      (λ d e. case-of (used w p b d)
      (λ t. inl (unused-not w p b k d e t))
      (λ f.
      let (row, label, own, rank_is) = label_at body k d e in
      let z = label-numbered body d row label in
      let declared-is = declared-canon body d row z ∙ own in
      let c = row_canon w p b d in
      inr (
        c,
        unused-some w p b c d declared-is ∙ rw f,
        same_rank p b c (name w d) (label-for c d declared-is).own-bytes ∙ rank_is,
      )))
      (λ e. inl (unused-none w p b k e))

  -- two numbers with a label have different ranks
  rank-number : (c d c' d' : ℕ) → LabelFor w p b c d → LabelFor w p b c' d' → rank p b c ≡ rank p b c' → c ≡ c'
  rank-number c d c' d' x y e =
      let bytes = rank_same p b c c' x.above x.within y.above y.within e in
      sym x.number ∙ canon-same p b (name w d) (name w d') x.has-name y.has-name (sym x.own-bytes ∙ bytes ∙ y.own-bytes) ∙ y.number

  -- ---- the list
  module _ (s : List ℕ) (all : UnusedTo w p b (count_of_pairs p) s) where
    pub element : (j : ℕ) → j < length s → is_unused w p b (get_or s j 0) ≡ true
    element j h =
        let c = get_or s j 0 in
        let (i, l, t) = counted-some (passes w p b (eqb c)) (count_of_pairs p) (omega (arith, all (eqb c), passing-at (eqb c) s j h (eq-eqb c c refl))) in
        let x = and-true (is_unused w p b (suc i)) (eqb c (suc i)) t in
        rw (eqb-true c (suc i) x.1) x.0

    held : (c : ℕ) → 0 < c → c ≤ count_of_pairs p → is_unused w p b c ≡ true → (j : ℕ) × (j < length s) × (get_or s j 0 ≡ c)
    held zero z h t = absurd (omega arith)
    held (suc i) z h t =
        let u : passes w p b (eqb (suc i)) i ≡ true = rw (t, eq-eqb (suc i) (suc i) refl) in
        let n = some-counted (passes w p b (eqb (suc i))) (count_of_pairs p) i (omega arith) u in
        let (j, l, e) = passing-some (eqb (suc i)) s (omega (arith, all (eqb (suc i)))) in
        (j, l, sym (eqb-true (suc i) (get_or s j 0) e))

    -- each rank with a 9 is the rank of an element
    pub in_list : (k : ℕ) → (unused w p b k ≡ []) ⊎ ((j : ℕ) × (j < length s) × (rank p b (get_or s j 0) ≡ k))
    in_list k = elim (at-rank k) [
      | inl e ↦ inl e
      | inr x ↦
          let (d, e, u) = is-unused w p b x.0 x.1 in
          let l = label-for x.0 d e in
          let (j, h, i) = held x.0 l.above l.within x.1 in
          inr (j, h, ap (rank p b) i ∙ x.2)
    ]

    -- no number stands in it twice
    distinct : (i j : ℕ) → i < length s → j < length s → get_or s i 0 ≡ get_or s j 0 → i ≡ j
    distinct i j h l e =
        let c = get_or s j 0 in
        let one = counted-once (passes w p b (eqb c)) (count_of_pairs p) (λ x y g k t u. same_number c x y t u) in
        passing-one (eqb c) s (omega (arith, all (eqb c))) i j h l (eq-eqb c (get_or s i 0) (sym e)) (eq-eqb c c refl)
      where
        same_number : (c x y : ℕ) → passes w p b (eqb c) x ≡ true → passes w p b (eqb c) y ≡ true → x ≡ y
        same_number c x y t u =
            let e = eqb-true c (suc x) (and-true (is_unused w p b (suc x)) (eqb c (suc x)) t).1 in
            let f = eqb-true c (suc y) (and-true (is_unused w p b (suc y)) (eqb c (suc y)) u).1 in
            omega arith

    module _ (sorted : Sorted p b s) where
      pub ranks-up : (i j : ℕ) → i ≤ j → j < length s → rank p b (get_or s i 0) ≤ rank p b (get_or s j 0)
      ranks-up i j h l = elim (dec_lt (rank p b (get_or s j 0)) (rank p b (get_or s i 0))) [
        | yes m ↦ absurd (clash (cc (sorted i j h l, rank-before p b (get_or s j 0) (get_or s i 0) m)))
        | no o ↦ omega arith
      ]

      pub ranks-rise : (i j : ℕ) → i < j → j < length s → rank p b (get_or s i 0) < rank p b (get_or s j 0)
      ranks-rise i j h l = elim (ℕ_discrete (rank p b (get_or s i 0)) (rank p b (get_or s j 0))) [
        | yes e ↦
            let m : i < length s = omega arith in
            let (d, f, u) = is-unused w p b (get_or s i 0) (element i m) in
            let (d', f', u') = is-unused w p b (get_or s j 0) (element j l) in
            let g = distinct i j m l (rank-number (get_or s i 0) d (get_or s j 0) d' (label-for (get_or s i 0) d f) (label-for (get_or s j 0) d' f') e) in
            absurd (omega arith)
        | no o ↦ omega (arith, ranks-up i j (omega arith) l)
      ]
