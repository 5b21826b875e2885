-- The last faults, one for each declared label that is not used, by rank. The names of these labels, sorted, have rising ranks, and no other rank has a fault;
-- so one name further is one fault further, and after the last name the sheet is whole. There is room since each is a declared label of its own,
-- and a declared label keeps room for its fault.
-- Assumes nothing.
use mathlib.Core.Path.{◌≡◌, sym, ◌∙◌, ap}
use mathlib.Core.Bool.{false}
use mathlib.Core.Logic.{inl, inr}
use mathlib.Core.List.{List, [], ◌∷◌, ◌++◌, append-nil, append_assoc}
use mathlib.Core.Option.{some}
use Prim.Native.Nat.{ℕ, zero, suc, ◌+◌, ◌*◌, ◌-◌, ◌≤◌, ◌<◌}
use native.Mathlib.Numerals.{add-one}
use native.Mathlib.Omega.{arith}
use native.Mathlib.Decide.{dec_lt, ℕ_discrete}
use lib.ListN.{length, get_or}
use lib.Seq.{sets}
use Rattle.rules.specs.Rows.{row_count, position, name}
use Rattle.rules.specs.Names.{count_of_pairs, rank}
use Rattle.rules.specs.Body.{Body}
use Rattle.rules.specs.Labels.{Fault, each, fault, word, unresolved, report, used, unused, sheet as sheet_of}
use Rattle.rules.proofs.Each.{each-zero, each-suc}
use Rattle.rules.proofs.Order.{rank-above, rank-within}
use Rattle.sorting.specs.Sorted.{Sorted}
use Rattle.tables.specs.Canon.{declared_for, DeclaredTable}
use Rattle.walk_state.specs.Walk.{faults_at}
use Rattle.walk_state.proofs.WalkFaults.{snoc-length, put-length, put-reported, put-kept, drop-further}
use Rattle.label_rest.specs.Rest.{Reported, faults_left, UnusedTo}
use Rattle.label_rest.specs.Left.{left_at}
use Rattle.label_rest.proofs.LeftRows.{left-count, all_room}
use Rattle.label_rest.proofs.UnusedNames.{is-unused, unused-few}
use Rattle.label_rest.proofs.UnusedRanks.{label-for, its-nine, element, in_list, ranks-up, ranks-rise}

-- ---- the sheet with the ranks up to k
module _ (w p b : List ℕ) where
  unfoldable pub nines_to : ℕ → List Fault
  nines_to k = faults_left w p b ++ each (λ i. unused w p b (suc i)) k

  nines-zero : nines_to 0 ≡ faults_left w p b
  unfolding nines_to
  nines-zero = ap (λ (l : List Fault). faults_left w p b ++ l) (each-zero (λ i. unused w p b (suc i))) ∙ append-nil (faults_left w p b)

  nines-suc : (k : ℕ) → nines_to (suc k) ≡ nines_to k ++ unused w p b (suc k)
  unfolding nines_to
  nines-suc k =
      ap (λ (l : List Fault). faults_left w p b ++ l) (each-suc (λ i. unused w p b (suc i)) k)
      ∙ sym (append_assoc (faults_left w p b) (each (λ i. unused w p b (suc i)) k) (unused w p b (suc k)))

  nines-none : (k : ℕ) → unused w p b (suc k) ≡ [] → nines_to (suc k) ≡ nines_to k
  nines-none k e = rw (nines-suc k, e) (append-nil (nines_to k))

  nines-one : (k : ℕ) (f : Fault) → unused w p b (suc k) ≡ f ∷ [] → nines_to (suc k) ≡ nines_to k ++ f ∷ []
  nines-one k f e = rw (nines-suc k, e)

  -- no fault between two ranks
  nines-gap : (a k : ℕ) → a ≤ k → ((i : ℕ) → a < i → i ≤ k → unused w p b i ≡ []) → nines_to k ≡ nines_to a
  nines-gap a zero h none = let e : 0 ≡ a = omega arith in ap nines_to e
  nines-gap a (suc k) h none = elim (ℕ_discrete a (suc k)) [
    | yes e ↦ ap nines_to (sym e)
    | no o ↦ nines-none k (none (suc k) (omega arith) (omega arith)) ∙ nines-gap a k (omega arith) (λ i l m. none i l (omega arith))
  ]

-- all of it
pub nines-sheet : {w p b : List ℕ} → Body w p b → nines_to w p b (count_of_pairs p) ≡ sheet_of w p b
unfolding nines_to faults_left faults_at sheet_of
nines-sheet {w} {p} {b} body =
    append_assoc (each (report w p b) (row_count w)) (each (unresolved w p b) (row_count w)) (each (λ i. unused w p b (suc i)) (count_of_pairs p))

-- ---- the rank up to which the sheet is written after the first j names of s
unfoldable pub up_to : List ℕ → List ℕ → List ℕ → ℕ → ℕ
up_to p b s zero = 0
up_to p b s (suc j) = rank p b (get_or s j 0)

module _ {w p b : List ℕ} (body : Body w p b) (s : List ℕ) (all : UnusedTo w p b (count_of_pairs p) s) (sorted : Sorted p b s) where
  -- the ranks of the first j names are up to there, and that of the next is past it
  passed : (i j : ℕ) → i < j → j ≤ length s → rank p b (get_or s i 0) ≤ up_to p b s j
  unfolding up_to
  passed i zero h l = absurd (omega arith)
  passed i (suc j) h l = ranks-up body s all sorted i j (omega arith) (omega arith)

  ahead : (j : ℕ) → j < length s → up_to p b s j < rank p b (get_or s j 0)
  unfolding up_to
  ahead zero l = rank-above p b (get_or s 0 0)
  ahead (suc j) l = ranks-rise body s all sorted j (suc j) (omega arith) l

  -- up to a rank k below those of the names that are left there is no fault more
  gap : (j k : ℕ) → j ≤ length s → up_to p b s j ≤ k → ((i : ℕ) → j ≤ i → i < length s → k < rank p b (get_or s i 0))
      → nines_to w p b k ≡ nines_to w p b (up_to p b s j)
  gap j k h l left = nines-gap w p b (up_to p b s j) k l (λ r a m. elim (in_list body s all r) [
    | inl e ↦ e
    | inr (i, n, e) ↦ elim (dec_lt i j) [
      | yes o ↦ absurd (omega (arith, passed i j o h))
      | no o ↦ absurd (omega (arith, left i (omega arith) n))
    ]
  ])

  -- the next name
  nines-next : (j d : ℕ) → j < length s → declared_for w p b (get_or s j 0) ≡ some d → used w p b d ≡ false
      → nines_to w p b (up_to p b s (suc j)) ≡ nines_to w p b (up_to p b s j) ++ fault w 9 d ∷ []
  unfolding up_to
  nines-next j d h e f =
      let r = rank p b (get_or s j 0) in
      let i : suc (r - 1) ≡ r = omega (arith, ahead j h) in
      let one : unused w p b (suc (r - 1)) ≡ fault w 9 d ∷ [] = rw i (its-nine body (get_or s j 0) d e f) in
      ap (nines_to w p b) (sym i) ∙ nines-one w p b (r - 1) (fault w 9 d) one
      ∙ ap (λ (l : List Fault). l ++ fault w 9 d ∷ []) (gap j (r - 1) (omega arith) (omega (arith, ahead j h))
      (λ i m n. omega (arith, ranks-up body s all sorted j i m n, ahead j h)))

  -- after the last one
  within : (j : ℕ) → j ≤ length s → up_to p b s j ≤ count_of_pairs p
  unfolding up_to
  within zero l = omega arith
  within (suc j) l =
      let (d, e, u) = is-unused w p b (get_or s j 0) (element body s all j (omega arith)) in
      let x = label-for body (get_or s j 0) d e in
      rank-within p b (get_or s j 0) x.above x.within

  nines-end : nines_to w p b (up_to p b s (length s)) ≡ sheet_of w p b
  nines-end = sym (gap (length s) (count_of_pairs p) (omega arith) (within (length s) (omega arith)) (λ i m n. absurd (omega arith))) ∙ nines-sheet body

  nines-length : (j : ℕ) → j ≤ length s → length (nines_to w p b (up_to p b s j)) ≡ length (faults_left w p b) + j
  unfolding up_to
  nines-length zero h = omega (arith, ap length (nines-zero w p b))
  nines-length (suc j) h =
      let (d, e, u) = is-unused w p b (get_or s j 0) (element body s all j (omega arith)) in
      let q = ap length (nines-next j d (omega arith) e u) ∙ snoc-length (nines_to w p b (up_to p b s j)) (fault w 9 d) in
      omega (arith, nines-length j (omega arith))

  nines-room : length (faults_left w p b) + length s ≤ 2 * row_count w
  unfolding faults_left left_at
  nines-room = omega (arith, unused-few body (count_of_pairs p) s all, left-count w p b (row_count w), all_room body)

-- ---- the loop over the names: the state before the j-th
pub nines-start : (w p b s : List ℕ) (at : ℕ) (t : List ℕ) → Reported at (faults_left w p b) t t → Reported at (nines_to w p b (up_to p b s 0)) t t
unfolding up_to
nines-start w p b s at t x = rw (nines-zero w p b) x

pub nines-all : {w p b : List ℕ} (s : List ℕ) (j at : ℕ) (t₀ t : List ℕ) → Body w p b → Sorted p b s → UnusedTo w p b (count_of_pairs p) s → j ≡ length s
    → Reported at (nines_to w p b (up_to p b s j)) t₀ t → Reported at (sheet_of w p b) t₀ t
nines-all {w} {p} {b} s j at t₀ t body sorted all e x = rw (ap (λ (n : ℕ). nines_to w p b (up_to p b s n)) e ∙ nines-end body s all sorted) at x

-- the j-th name c, with the word d in the table of declared labels
pub record AtName (w p b ds s t₀ t : List ℕ) (j at c d : ℕ) : Type 0 where
  pub body : Body w p b
  pub by_canon : DeclaredTable w p b ds
  pub sorted : Sorted p b s
  pub all : UnusedTo w p b (count_of_pairs p) s
  pub room : row_count w * 8 ≤ length t₀
  pub more : j < length s
  pub name-is : c ≡ get_or s j 0
  pub word-is : d ≡ get_or ds c 0
  pub state : Reported at (nines_to w p b (up_to p b s j)) t₀ t

-- a name of the list is within the table
pub name-within-table : {w p b ds : List ℕ} (s : List ℕ) (j : ℕ) → Body w p b → DeclaredTable w p b ds → UnusedTo w p b (count_of_pairs p) s → j < length s
    → get_or s j 0 < length ds
name-within-table {w} {p} {b} {ds} s j body by_canon all h =
    let (d, e, u) = is-unused w p b (get_or s j 0) (element body s all j h) in
    omega (arith, (label-for body (get_or s j 0) d e).within, by_canon.room)

module _ {w p b ds s t₀ t : List ℕ} {j at c d : ℕ} (n : AtName w p b ds s t₀ t j at c d) where
  -- its label, which is not used
  label : (e : ℕ) × (declared_for w p b (get_or s j 0) ≡ some e) × (used w p b e ≡ false) × (d ≡ suc e)
  label =
      let (e, f, u) = is-unused w p b (get_or s j 0) (element n.body s n.all j n.more) in
      let x = label-for n.body (get_or s j 0) e f in
      (e, f, u, n.word-is ∙ ap (λ (k : ℕ). get_or ds k 0) n.name-is ∙ n.by_canon.at_canon (get_or s j 0) x.above x.within ∙ ap word f)

  pub some_word : 1 ≤ d
  some_word = omega (arith, label.3)

  pub label-row : d - 1 < row_count w
  label-row = let (e, f, u, i) = label in omega (arith, (label-for n.body (get_or s j 0) e f).row)

  longer : at + 1 ≤ 2 * row_count w
  longer =
      omega (arith, n.more, n.state.count, nines-length n.body s n.all n.sorted j (omega (arith, n.more)), nines-room n.body s n.all n.sorted)

  pub fault-small : at + 1 ≤ 4000
  fault-small = omega (arith, longer, n.body.most_rows)

  pub fault-fits : at * 4 + 4 ≤ length t
  fault-fits = omega (arith, longer, n.state.sheet_length, n.room)

  pub turn : (t' : List ℕ) → t' ≡ sets t (at * 4) (9 ∷ position w (d - 1) ∷ name w (d - 1) ∷ 0 ∷ [])
      → Reported (at + 1) (nines_to w p b (up_to p b s (j + 1))) t₀ t'
  turn t' i =
      let (e, g, u, k) = label in
      let m : d - 1 ≡ e = omega arith in
      let f = fault w 9 (d - 1) in
      let before = nines_to w p b (up_to p b s j) in
      let q : nines_to w p b (up_to p b s (j + 1)) ≡ before ++ f ∷ [] = rw (add-one j, m) (nines-next n.body s n.all n.sorted j e n.more g u) in
      let x = n.state in
      record {
        count = ap (λ (k : ℕ). k + 1) x.count ∙ sym (ap length q ∙ snoc-length before f);
        reported = rw (i, q) (put-reported t at f fault-fits before x.reported);
        sheet_length = ap length i ∙ put-length t at f fault-fits ∙ x.sheet_length;
        sheet_kept = rw i (put-kept t at f fault-fits) ∙ drop-further (at * 4) ((at + 1) * 4) t t₀ (omega arith) x.sheet_kept;
      }
