-- The breaks that leave a range of rows, as facts about rows: an unlabelled one that nothing in the range holds, or one that names the label.
-- So a range is searched item by item, a row that a break can leave hides the unlabelled ones below it, and any other row hides none.
-- Assumes nothing.
use mathlib.Core.Path.{◌≡◌, refl, sym, ◌∙◌, ap}
use mathlib.Core.Bool.{Bool, true, false, ◌&&◌, ◌||◌, not, or-true, and-true as true-and}
use mathlib.Core.Logic.{⊎_elim}
use mathlib.Core.List.{List, [], ◌∷◌}
use Prim.Native.Nat.{ℕ, suc, ◌≤◌, ◌<◌}
use native.Mathlib.Omega.{arith}
use native.Mathlib.Decide.{dec_lt, ℕ_discrete}
use lib.Dec.{ltb, leb, eqb}
use borrow.Author.Tests.{ltb-true, leb-true, eqb-true, eqb-false, lt-ltb, le-leb, eq-eqb, ne_eqb, not-true}
use Rattle.rules.specs.Scan.{lowest, highest}
use Rattle.rules.specs.Rows.{name, size, end}
use Rattle.rules.specs.Class.{Class, break, one_of, is_breakable, class}
use Rattle.rules.specs.Names.{same_name}
use Rattle.rules.specs.Labels.{is_class}
use Rattle.rules.proofs.Test.{case-of, case-found, clash, and-true, or-true as or_cases}
use Rattle.rules.proofs.Scan.{lowest-none, lowest-found, highest-none, highest-found}
use Rattle.rules.proofs.Every.{every, is_one}
use Rattle.rules.proofs.ClassRules.{class-rule}
use Rattle.breaks.specs.Leaves.{exposed, leaves, any_leaves}

-- two tests that each follow from the other
pub both : (s t : Bool) → (s ≡ true → t ≡ true) → (t ≡ true → s ≡ true) → s ≡ t
both s t f g = case-of s (λ x. x ∙ sym (f x)) (λ x. x ∙ sym (case-of t (λ y. absurd (clash (cc (g y)))) (λ y. y)))

breakable-no-break : (c : Class) → is_breakable c ≡ true → one_of (break ∷ []) c ≡ false
unfolding every lowest
breakable-no-break c t = not-true (one_of (break ∷ []) c) (class-rule is_breakable (λ c. not (one_of (break ∷ []) c)) refl c t)

module _ (w p b : List ℕ) where
  -- no statement of kinds 15, 16, 18, 19, 20 from row c on is around row g
  abbrev pub Exposed : ℕ → ℕ → Type 0
  Exposed c g = (k : ℕ) → c ≤ k → k < g → is_breakable (class w k) ≡ true → g < end w k → ⊥

  abbrev hides : ℕ → ℕ → ℕ → Bool
  hides c g k = leb c k && (is_breakable (class w k) && ltb g (end w k))

  is-exposed : (c g : ℕ) → exposed w p b c g ≡ true → Exposed c g
  unfolding exposed
  is-exposed c g t k h l u m =
      case-found (highest (hides c g) g)
      (λ j f. let z : false ≡ true = rw (f, exposed) at t in clash (cc))
      (λ f. let z = highest-none (hides c g) g k f l in let y : hides c g k ≡ true = rw (le-leb c k h, u, lt-ltb g (end w k) m) in clash (cc))

  exposed-is : (c g : ℕ) → Exposed c g → exposed w p b c g ≡ true
  unfolding exposed
  exposed-is c g x = case-found (highest (hides c g) g)
      (λ k f.
      let (l, t) = highest-found (hides c g) g k f in
      let u = and-true (leb c k) (is_breakable (class w k) && ltb g (end w k)) t in
      let v = and-true (is_breakable (class w k)) (ltb g (end w k)) u.1 in
      absurd (x k (leb-true c k u.0) l v.0 (ltb-true g (end w k) v.1)))
      (λ f. rw (f, exposed))

  -- the break g leaves the rows from c on
  pub data Leaves (c label : ℕ) (implicit : Bool) (g : ℕ) : Type 0 where
    plain : class w g ≡ break → name w g ≡ 0 → implicit ≡ true → Exposed c g → Leaves c label implicit g
    labelled : class w g ≡ break → 0 < name w g → 0 < label → same_name p b (name w g) label ≡ true → Leaves c label implicit g

  pub is-break : {c label : ℕ} {implicit : Bool} {g : ℕ} → Leaves c label implicit g → class w g ≡ break
  is-break (plain e n i x) = e
  is-break (labelled e n l s) = e

  abbrev chosen : ℕ → ℕ → Bool → ℕ → Bool
  chosen c label implicit g = elim (eqb (name w g) 0) [
    | true ↦ implicit && exposed w p b c g
    | false ↦ not (eqb label 0) && same_name p b (name w g) label
  ]

  pub is-leaving : (c label : ℕ) (implicit : Bool) (g : ℕ) → leaves w p b c label implicit g ≡ true → Leaves c label implicit g
  unfolding leaves
  is-leaving c label implicit g t =
      let x = and-true (is_class w break g) (chosen c label implicit g) t in
      let e = is_one (class w g) break x.0 in
      case-of (eqb (name w g) 0)
      (λ z. let y = and-true implicit (exposed w p b c g) (rw (z, chosen) at x.1) in
      plain e (eqb-true (name w g) 0 z) y.0 (is-exposed c g y.1))
      (λ z.
      let y = and-true (not (eqb label 0)) (same_name p b (name w g) label) (rw (z, chosen) at x.1) in
      let n = eqb-false (name w g) 0 z in
      let m = eqb-false label 0 (not-true (eqb label 0) y.0) in
      labelled e (omega arith) (omega arith) y.1)

  pub leaving-is : (c label : ℕ) (implicit : Bool) (g : ℕ) → Leaves c label implicit g → leaves w p b c label implicit g ≡ true
  unfolding leaves
  leaving-is c label implicit g (plain e n i x) = rw (e, eq-eqb (name w g) 0 n, i, exposed-is c g x)
  leaving-is c label implicit g (labelled e n l s) = rw (e, ne_eqb (name w g) 0 (λ z. omega arith), ne_eqb label 0 (λ z. omega arith), s)

  -- some break does
  abbrev pub Some : ℕ → ℕ → ℕ → Bool → Type 0
  Some c e label implicit = (g : ℕ) × (c ≤ g) × (g < e) × Leaves c label implicit g

  pub is-some : (c e label : ℕ) (implicit : Bool) → any_leaves w p b c e label implicit ≡ true → Some c e label implicit
  unfolding any_leaves
  is-some c e label implicit t = case-found (lowest (λ g. leb c g && leaves w p b c label implicit g) e)
      (λ g f.
      let (l, u) = lowest-found (λ g. leb c g && leaves w p b c label implicit g) e g f in
      let x = and-true (leb c g) (leaves w p b c label implicit g) u in
      (g, leb-true c g x.0, l, is-leaving c label implicit g x.1))
      (λ f. let z : false ≡ true = rw (f, any_leaves) at t in absurd (clash (cc)))

  pub some_is : (c e label : ℕ) (implicit : Bool) → Some c e label implicit → any_leaves w p b c e label implicit ≡ true
  unfolding any_leaves
  some_is c e label implicit (g, h, l, x) = case-found (lowest (λ g. leb c g && leaves w p b c label implicit g) e)
      (λ k f. rw (f, any_leaves))
      (λ f.
      let z = lowest-none (λ g. leb c g && leaves w p b c label implicit g) e g f l in
      let y : (leb c g && leaves w p b c label implicit g) ≡ true = rw (le-leb c g h, leaving-is c label implicit g x) in
      absurd (clash (cc)))

  -- a break leaves a narrower range too, and a wider one in which nothing more holds it
  narrower : (c d label : ℕ) (implicit : Bool) (g : ℕ) → c ≤ d → Leaves c label implicit g → Leaves d label implicit g
  narrower c d label implicit g l (plain e n i x) = plain e n i (λ k h m u v. x k (omega arith) m u v)
  narrower c d label implicit g l (labelled e n m s) = labelled e n m s

  wider : (c d label : ℕ) (implicit : Bool) (g : ℕ) → ((k : ℕ) → c ≤ k → k < d → is_breakable (class w k) ≡ true → g < end w k → ⊥)
      → Leaves d label implicit g → Leaves c label implicit g
  wider c d label implicit g z (labelled e n m s) = labelled e n m s
  wider c d label implicit g z (plain e n i x) =
      plain e n i (λ k h m u v. elim (dec_lt k d) [ yes l ↦ z k h l u v | no o ↦ x k (omega arith) m u v ])

  -- ---- an item and what is left after it
  module _ (c m e label : ℕ) (implicit : Bool) (low : c ≤ m) (high : m ≤ e) (ends : (k : ℕ) → c ≤ k → k < m → end w k ≤ m) where
    apart : Some c e label implicit → any_leaves w p b c m label implicit || any_leaves w p b m e label implicit ≡ true
    apart (g, h, l, x) = elim (dec_lt g m) [
      | yes y ↦ rw (some_is c m label implicit (g, h, y, x))
      | no n ↦ let d : m ≤ g = omega arith in rw (some_is m e label implicit (g, d, l, narrower c m label implicit g low x), or-true)
    ]

    pub any-apart : any_leaves w p b c e label implicit ≡ (any_leaves w p b c m label implicit || any_leaves w p b m e label implicit)
    any-apart = both _ _
        (λ t. apart (is-some c e label implicit t))
        (λ t. ⊎_elim
        (λ u. let (g, h, l, x) = is-some c m label implicit u in let n : g < e = omega arith in some_is c e label implicit (g, h, n, x))
        (λ u.
        let (g, h, l, x) = is-some m e label implicit u in
        let n : c ≤ g = omega arith in
        some_is c e label implicit (g, n, l, wider c m label implicit g (λ k i j y z. omega (arith, ends k i j)) x))
        (or_cases (any_leaves w p b c m label implicit) (any_leaves w p b m e label implicit) t))

  pub any_none : (c e label : ℕ) (implicit : Bool) → e ≤ c → any_leaves w p b c e label implicit ≡ false
  any_none c e label implicit l = both _ false (λ t. let (g, h, m, x) = is-some c e label implicit t in absurd (omega arith)) (λ t. absurd (clash (cc)))

  -- no label, and nothing held: nothing leaves
  pub any-unnamed : (c e : ℕ) → any_leaves w p b c e 0 false ≡ false
  any-unnamed c e = both _ false (λ t. let (g, h, m, x) = is-some c e 0 false t in absurd (impossible g x)) (λ t. absurd (clash (cc)))
    where
      impossible : (g : ℕ) → Leaves c 0 false g → ⊥
      impossible g (plain a n i x) = clash (cc)
      impossible g (labelled a n m s) = omega arith

  -- ---- one row
  module _ (r label : ℕ) (implicit : Bool) where
    -- that has none below it
    pub any-leaf : size w r ≡ 1 → any_leaves w p b r (end w r) label implicit ≡ leaves w p b r label implicit r
    any-leaf o = both _ _
        (λ t. let (g, h, l, x) = is-some r (end w r) label implicit t in let e : g ≡ r = omega arith in leaving-is r label implicit r (rw e at x))
        (λ t. some_is r (end w r) label implicit (r, omega arith, omega arith, is-leaving r label implicit r t))

    -- that is no break: what leaves stands below it
    past_row : is_class w break r ≡ false → (g : ℕ) → r ≤ g → class w g ≡ break → r < g
    past_row n g h e = elim (ℕ_discrete g r) [ yes i ↦ let f : class w r ≡ break = rw i at e in absurd (clash (cc (n, f))) | no o ↦ omega arith ]

    pub any_below : is_class w break r ≡ false → is_breakable (class w r) ≡ false
        → any_leaves w p b r (end w r) label implicit ≡ any_leaves w p b (suc r) (end w r) label implicit
    any_below n m = both _ _
        (λ t.
        let (g, h, l, x) = is-some r (end w r) label implicit t in
        let low : r ≤ suc r = omega arith in
        some_is (suc r) (end w r) label implicit (g, past_row n g h (is-break x), l, narrower r (suc r) label implicit g low x))
        (λ t.
        let (g, h, l, x) = is-some (suc r) (end w r) label implicit t in
        let low : r ≤ g = omega arith in
        some_is r (end w r) label implicit
        (g, low, l, wider r (suc r) label implicit g (λ k i j y z. let e : k ≡ r = omega arith in clash (cc (ap (λ (q : ℕ). is_breakable (class w q)) e))) x))

    -- that a break can leave: it holds the unlabelled ones
    pub any_held : is_breakable (class w r) ≡ true → any_leaves w p b r (end w r) label implicit ≡ any_leaves w p b (suc r) (end w r) label false
    any_held m =
        let n = breakable-no-break (class w r) m in
        both _ _
        (λ t.
        let (g, h, l, x) = is-some r (end w r) label implicit t in
        let d : r < g = past_row n g h (is-break x) in
        some_is (suc r) (end w r) label false (g, d, l, only-named g d l x))
        (λ t.
        let (g, h, l, x) = is-some (suc r) (end w r) label false t in
        let low : r ≤ g = omega arith in
        some_is r (end w r) label implicit (g, low, l, still-named g x))
      where
        only-named : (g : ℕ) → r < g → g < end w r → Leaves r label implicit g → Leaves (suc r) label false g
        only-named g h l (plain e n i x) = absurd (x r (omega arith) h m l)
        only-named g h l (labelled e n o s) = labelled e n o s

        still-named : (g : ℕ) → Leaves (suc r) label false g → Leaves r label implicit g
        still-named g (plain e n i x) = absurd (clash (cc))
        still-named g (labelled e n o s) = labelled e n o s

    -- whether the row itself leaves, by its words: nothing from it on is around it
    pub own-other : is_class w break r ≡ false → leaves w p b r label implicit r ≡ false
    unfolding leaves
    own-other n = rw n

    pub own-plain : is_class w break r ≡ true → name w r ≡ 0 → leaves w p b r label implicit r ≡ implicit
    unfolding leaves
    own-plain e n = rw (e, eq-eqb (name w r) 0 n, exposed-is r r (λ k h l u m. omega arith), true-and)

    pub own-unnamed : is_class w break r ≡ true → (name w r ≡ 0 → ⊥) → label ≡ 0 → leaves w p b r label implicit r ≡ false
    unfolding leaves
    own-unnamed e n z = rw (e, ne_eqb (name w r) 0 n, eq-eqb label 0 z)

    pub own-named : is_class w break r ≡ true → (name w r ≡ 0 → ⊥) → (label ≡ 0 → ⊥) → leaves w p b r label implicit r ≡ same_name p b (name w r) label
    unfolding leaves
    own-named e n m = rw (e, ne_eqb (name w r) 0 n, ne_eqb label 0 m)
