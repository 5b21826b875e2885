-- The scope of all labels when the walk stands at row x: the declared labels before x, one for each rank, so in the order of their names. A row
-- that is no declared label adds none; a declared label comes between the smaller and the larger ranks, which is where `place` puts it. A label of the scope
-- with the name of a row is the declared one of that name, since it is the first of its own name.
-- Assumes nothing.
use mathlib.Core.Path.{◌≡◌, refl, sym, ◌∙◌, ap}
use mathlib.Core.Bool.{true, false}
use mathlib.Core.List.{List, [], ◌∷◌, ◌++◌, append-nil, append_assoc}
use mathlib.Core.Option.{Option, none, some}
use Prim.Native.Nat.{ℕ, zero, suc, ◌-◌, ◌<◌, ◌≤◌}
use native.Mathlib.Omega.{arith}
use native.Mathlib.Decide.{ℕ_discrete, dec_lt}
use lib.Dec.{ltb}
use borrow.Author.Tests.{lt-ltb, le-ltb}
use Rattle.rules.specs.Rows.{row_count, name}
use Rattle.rules.specs.Names.{count_of_pairs, same_bytes, bytes_before, rank}
use Rattle.rules.specs.Body.{Body}
use Rattle.rules.specs.Labels.{each, only, is_label, declared, declared_at}
use Rattle.rules.proofs.Test.{case-of, case-found, clash}
use Rattle.rules.proofs.Each.{each-zero, each-suc, none_each}
use Rattle.rules.proofs.Order.{before-not-after, rank-above, rank-within, rank-before}
use Rattle.rules.proofs.LabelRows.{is-labels, is_declared_lem}
use Rattle.rules.proofs.RowNames.{name-within}
use Rattle.rules.proofs.RankRows.{label-named, declared-rank, label_at}
use Rattle.goscript.specs.Syntax.{ident, lookup}
use Rattle.goscript.specs.Checker.{Checker, place}
use Rattle.goscript.proofs.SameNames.{same-ident, declared_same, declared-own}
use Rattle.goscript.proofs.Loops.{each_same}
use Rattle.goscript.proofs.Walking.{before, all_at, CheckerAt}

-- a row that stands before row x, and one that does not
module _ (x d : ℕ) (o : Option ℕ) (e : o ≡ some d) where
  pub before-is : d < x → before x o ≡ some d
  before-is h = rw (e, lt-ltb d x h, before)

  before-not : x ≤ d → before x o ≡ none
  before-not h = rw (e, le-ltb d x h, before)

-- ---- a label put into its place
module _ (w p b : List ℕ) (o : ℕ) where
  -- past one that does not come after it
  place-past : (x : ℕ) (xs : List ℕ) → bytes_before (ident w p b o) (ident w p b x) ≡ false → place w p b o (x ∷ xs) ≡ x ∷ place w p b o xs
  unfolding place
  place-past x xs f = rw (f, place)

  -- and ahead of one that comes after it
  place-ahead : (x : ℕ) (xs : List ℕ) → bytes_before (ident w p b o) (ident w p b x) ≡ true → place w p b o (xs ++ x ∷ []) ≡ place w p b o xs ++ x ∷ []
  unfolding place
  place-ahead x [] t = rw (t, place)
  place-ahead x (y ∷ ys) t = case-of (bytes_before (ident w p b o) (ident w p b y))
      (λ u. rw (u, place))
      (λ u. rw (u, place) (ap (λ (l : List ℕ). y ∷ l) (place-ahead x ys t)))

  -- among lists f i, where it belongs to the k-th: it passes those before the k-th, and those after it stay behind it
  module _ (f g : ℕ → List ℕ) (k : ℕ) (past : (i : ℕ) (ys : List ℕ) → i < k → place w p b o (f i ++ ys) ≡ f i ++ place w p b o ys)
      (ahead : (i : ℕ) (xs : List ℕ) → k < i → place w p b o (xs ++ f i) ≡ place w p b o xs ++ f i)
      (none_yet : f k ≡ []) (its_own : g k ≡ o ∷ []) (others : (i : ℕ) → (i ≡ k → ⊥) → f i ≡ g i) where
    place-pasts : (n : ℕ) (ys : List ℕ) → n ≤ k → place w p b o (each f n ++ ys) ≡ each f n ++ place w p b o ys
    place-pasts zero ys h = rw (each-zero f)
    place-pasts (suc n) ys h =
        rw (each-suc f n, append_assoc (each f n) (f n) ys, append_assoc (each f n) (f n) (place w p b o ys))
        (place-pasts n (f n ++ ys) (omega arith) ∙ ap (λ (l : List ℕ). each f n ++ l) (past n ys (omega arith)))

    placed : (n : ℕ) → k < n → place w p b o (each f n) ≡ each g n
    unfolding place
    placed zero h = absurd (omega arith)
    placed (suc n) h = elim (ℕ_discrete n k) [
      | yes e ↦
          rw (each-suc f n, each-suc g n, e, none_yet, its_own)
          (place-pasts k [] (omega arith) ∙ ap (λ (l : List ℕ). l ++ o ∷ []) (each_same f g k (λ i l. others i (λ j. omega arith))))
      | no d ↦
          rw (each-suc f n, each-suc g n)
          (ahead n (each f n) (omega arith) ∙ cc (placed n (omega arith), others n d))
    ]

-- ---- the first label of a name
module _ (w p b bytes : List ℕ) where
  pub lookup-append : (xs ys : List ℕ) → lookup w p b bytes (xs ++ ys) ≡ elim (lookup w p b bytes xs) [ some d ↦ some d | none ↦ lookup w p b bytes ys ]
  unfolding lookup
  lookup-append [] ys = refl
  lookup-append (x ∷ xs) ys = case-of (same_bytes (ident w p b x) bytes) (λ t. rw (t, lookup)) (λ t. rw (t, lookup) (lookup-append xs ys))

  module _ (f : ℕ → List ℕ) where
    lookup-suc : (n : ℕ) → lookup w p b bytes (each f (suc n)) ≡ elim (lookup w p b bytes (each f n)) [ some d ↦ some d | none ↦ lookup w p b bytes (f n) ]
    lookup-suc n = rw (each-suc f n) (lookup-append (each f n) (f n))

    lookup-in : (n d : ℕ) → lookup w p b bytes (each f n) ≡ some d → (i : ℕ) × (i < n) × (lookup w p b bytes (f i) ≡ some d)
    unfolding lookup
    lookup-in zero d e = let z : none ≡ some d = rw (each-zero f) at e in absurd (clash (cc))
    lookup-in (suc n) d e = case-found (lookup w p b bytes (each f n))
        (λ k q.
        let z : some k ≡ some d = rw (lookup-suc n, q) at e in
        let (i, h, r) = lookup-in n d (q ∙ z) in (i, omega arith, r))
        (λ q. (n, omega arith, rw (lookup-suc n, q) at e))

    lookup-none : (n i : ℕ) → lookup w p b bytes (each f n) ≡ none → i < n → lookup w p b bytes (f i) ≡ none
    lookup-none zero i e h = absurd (omega arith)
    lookup-none (suc n) i e h = case-found (lookup w p b bytes (each f n))
        (λ k q. let z : some k ≡ none = rw (lookup-suc n, q) at e in absurd (clash (cc)))
        (λ q. elim (ℕ_discrete i n) [ yes j ↦ rw j (rw (lookup-suc n, q) at e) | no o ↦ lookup-none n i q (omega arith) ])

  -- of one label
  lookup-one : (d : ℕ) → same_bytes (ident w p b d) bytes ≡ true → lookup w p b bytes (d ∷ []) ≡ some d
  unfolding lookup
  lookup-one d t = rw (t, lookup)

  one-lookup : (d e : ℕ) → lookup w p b bytes (d ∷ []) ≡ some e → (d ≡ e) × (same_bytes (ident w p b d) bytes ≡ true)
  unfolding lookup
  one-lookup d e q = case-of (same_bytes (ident w p b d) bytes)
      (λ t. let z : some d ≡ some e = rw (t, lookup) at q in (cc, t))
      (λ t. let z : none ≡ some e = rw (t, lookup) at q in absurd (clash (cc)))

-- ---- the label of a canonical number, where it stands before row x
module _ (w p b : List ℕ) where
  abbrev pub of_number : ℕ → ℕ → List ℕ
  of_number x i = elim (declared_at w p b (suc i)) [ none ↦ [] | some d ↦ only (ltb d x) d ]

  pub number-none : (x i : ℕ) → declared_at w p b (suc i) ≡ none → of_number x i ≡ []
  number-none x i e = rw (e, of_number)

  pub number-before : (x i d : ℕ) → declared_at w p b (suc i) ≡ some d → d < x → of_number x i ≡ d ∷ []
  number-before x i d e h = rw (e, lt-ltb d x h, of_number)

  number-from : (x i d : ℕ) → declared_at w p b (suc i) ≡ some d → x ≤ d → of_number x i ≡ []
  number-from x i d e h = rw (e, le-ltb d x h, of_number)

  -- by what it holds
  by_number : {G : Type 0} (x i : ℕ) → (of_number x i ≡ [] → G) → ((d : ℕ) → declared_at w p b (suc i) ≡ some d → d < x → of_number x i ≡ d ∷ [] → G) → G
  by_number x i f g = case-found (declared_at w p b (suc i))
      (λ d e. elim (dec_lt d x) [ yes h ↦ g d e h (number-before x i d e h) | no n ↦ f (number-from x i d e (omega arith)) ])
      (λ e. f (number-none x i e))

  number_same : (x i : ℕ) → (declared_at w p b (suc i) ≡ some x → ⊥) → of_number (suc x) i ≡ of_number x i
  number_same x i n = case-found (declared_at w p b (suc i))
      (λ d e. elim (dec_lt d x) [
        | yes h ↦ number-before (suc x) i d e (omega arith) ∙ sym (number-before x i d e h)
        | no m ↦ elim (ℕ_discrete d x) [
          | yes j ↦ absurd (n (e ∙ ap some j))
          | no o ↦ number-from (suc x) i d e (omega arith) ∙ sym (number-from x i d e (omega arith))
        ]
      ])
      (λ e. number-none (suc x) i e ∙ sym (number-none x i e))

module _ {w p b : List ℕ} (body : Body w p b) where
  -- ---- the rank of a declared label
  has-number : (d : ℕ) → d < row_count w → is_label w p b d ≡ true → declared w p b d ≡ some d
      → (k : ℕ) × (k < count_of_pairs p) × (declared_at w p b (suc k) ≡ some d)
  has-number d row t e =
      let z = label-named body d row t in
      let a = rank-above p b (name w d) in
      let i : suc (rank p b (name w d) - 1) ≡ rank p b (name w d) = omega arith in
      (rank p b (name w d) - 1, omega (arith, rank-within p b (name w d) z (name-within body d row)), rw i (declared-rank body d row z ∙ e))

  -- their names stand in the order of their numbers
  in_order : (i k d e : ℕ) → declared_at w p b (suc i) ≡ some d → declared_at w p b (suc k) ≡ some e → i < k
      → bytes_before (ident w p b d) (ident w p b e) ≡ true
  unfolding ident
  in_order i k d e y z h = rank-before p b (name w d) (name w e) (omega (arith, (label_at body (suc i) d y).3, (label_at body (suc k) e z).3))

  -- ---- the scope
  pub all-zero : all_at w p b 0 ≡ []
  unfolding all_at
  all-zero = none_each (of_number w p b 0) (count_of_pairs p) (λ i h. by_number w p b 0 i (λ e. e) (λ d e l q. absurd (omega arith)))

  pub all_same : (x : ℕ) → (is_label w p b x ≡ true → declared w p b x ≡ some x → ⊥) → all_at w p b (suc x) ≡ all_at w p b x
  unfolding all_at
  all_same x n = each_same (of_number w p b (suc x)) (of_number w p b x) (count_of_pairs p)
      (λ i h. number_same w p b x i (λ e. let (row, t, own, r) = label_at body (suc i) x e in n t own))

  pub all_placed : (x : ℕ) → x < row_count w → is_label w p b x ≡ true → declared w p b x ≡ some x → place w p b x (all_at w p b x) ≡ all_at w p b (suc x)
  unfolding all_at
  all_placed x row t own =
      let (k, within, at) = has-number x row t own in
      placed w p b x (of_number w p b x) (of_number w p b (suc x)) k
      (λ i ys h. by_number w p b x i
      (λ e. rw e)
      (λ d e l q. rw q (place-past w p b x d ys (before-not-after (ident w p b d) (ident w p b x) (in_order i k d x e at h)))))
      (λ i xs h. by_number w p b x i
      (λ e. rw (e, append-nil xs, append-nil (place w p b x xs)))
      (λ d e l q. rw q (place-ahead w p b x d xs (in_order k i x d at e h))))
      (number-from w p b x k x at (omega arith)) (number-before w p b (suc x) k x at (omega arith))
      (λ i n. sym (number_same w p b x i (λ e. n (omega (arith, (label_at body (suc i) x e).3, (label_at body (suc k) x at).3)))))
      (count_of_pairs p) within

  -- what a number's label answers for the name of g
  number-found : (x g i d : ℕ) → lookup w p b (ident w p b g) (of_number w p b x i) ≡ some d → (declared w p b g ≡ some d) × (d < x)
  unfolding lookup
  number-found x g i d q = by_number w p b x i
      (λ e. let z : none ≡ some d = rw e at q in absurd (clash (cc)))
      (λ k e l f.
      let (j, t) = one-lookup w p b (ident w p b g) k d (rw f at q) in
      let own : declared w p b g ≡ some k = sym (declared_same w p b k g (sym (same-ident w p b k g) ∙ t)) ∙ (label_at body (suc i) k e).2 in
      (own ∙ ap some j, omega arith))

  found_number : (x g d : ℕ) → declared w p b g ≡ some d → d < x → (i : ℕ) × (i < count_of_pairs p) × (lookup w p b (ident w p b g) (of_number w p b x i) ≡ some d)
  found_number x g d e l =
      let i = is_declared_lem w p b g d e in
      let (t, s) = is-labels w p b g d i.1 in
      let (k, h, at) = has-number d (omega (arith, i.0)) t (declared-own w p b g d e) in
      (k, h, rw (number-before w p b x k d at l) (lookup-one w p b (ident w p b g) d (same-ident w p b d g ∙ s)))

  pub lookup-all : (x g : ℕ) → lookup w p b (ident w p b g) (all_at w p b x) ≡ before x (declared w p b g)
  unfolding all_at
  lookup-all x g = case-found (lookup w p b (ident w p b g) (each (of_number w p b x) (count_of_pairs p)))
      (λ d e.
      let (i, h, q) = lookup-in w p b (ident w p b g) (of_number w p b x) (count_of_pairs p) d e in
      let (f, l) = number-found x g i d q in
      e ∙ sym (before-is x d (declared w p b g) f l))
      (λ e. case-found (declared w p b g)
      (λ d f. elim (dec_lt d x) [
        | yes l ↦
            let (i, h, q) = found_number x g d f l in
            absurd (clash (cc (lookup-none w p b (ident w p b g) (of_number w p b x) (count_of_pairs p) i e h)))
        | no n ↦ e ∙ sym (before-not x d (declared w p b g) f (omega arith))
      ])
      (λ f. e ∙ rw f))

  -- in the checker at row x: the declared label of the name of g where it stands before x, and none yet where it doesn't
  module _ (x g d : ℕ) (c : Checker) (at : CheckerAt w p b x c) (e : declared w p b g ≡ some d) where
    pub found_before : d < x → lookup w p b (ident w p b g) c.all ≡ some d
    found_before h = rw at.all_are (lookup-all x g ∙ before-is x d (declared w p b g) e h)

    pub none_yet : x ≤ d → lookup w p b (ident w p b g) c.all ≡ none
    none_yet h = rw at.all_are (lookup-all x g ∙ before-not x d (declared w p b g) e h)
