-- The walk down the statement b, which ends at e, stands at the row c, d deep. The rows from b on before c were seen: each is allowed and ends at or before
-- e, and is right once the details of all rows of the statement are allowed, which they are when the walk is through. The rows of c end at e, or c is the
-- body Block of an If with else, whose other part comes after them and ends at e. A row that holds no list is no Block, so its own rows end at e, and so
-- do those of its last child.
-- Assumes nothing.
use mathlib.Core.Path.{◌≡◌, refl, sym, ◌∙◌, subst}
use mathlib.Core.Bool.{true, false}
use mathlib.Core.List.{List, [], ◌∷◌}
use mathlib.Core.Logic.{◌⊎◌, inl, inr, ⊎_elim}
use Prim.Native.Nat.{ℕ, suc, ◌+◌, ◌-◌, ◌*◌, ◌≤◌, ◌<◌}
use native.Mathlib.Omega.{arith}
use native.Mathlib.Numerals.{add-one}
use native.Mathlib.Decide.{ℕ_discrete, dec_lt}
use Rattle.std.specs.Prelude.{Option}
use Rattle.rules.specs.Scan.{lowest}
use Rattle.rules.specs.Rows.{row_count, kind, detail, size, end, depth}
use Rattle.rules.specs.Class.{Class, block, one_of, detail_allowed, base, following, class}
use Rattle.rules.specs.Refusals.{Holding, nothing, statement, body, branches, statements, cases, comms, holding, bad_row}
use Rattle.rules.proofs.Every.{every, of-classes, implies, implied}
use Rattle.rules.proofs.Facts.{good-row}
use Rattle.shape.specs.DetailedTo.{DetailedTo}
use Rattle.rows.specs.declared.kinds.Kind.{Kind}
use Rattle.row_checks.specs.Parts.{is_list, item_kind, Items, TwoParts, Parts}
use Rattle.row_checks.specs.Right.{Single, Right, RightBelow, Met}
use Rattle.rows_fit.proofs.Deeper.{deeper}
use Rattle.row_checks.proofs.RightRows.{never, right-size, right-shape, shape-right, Fit}
use Rattle.row_checks.proofs.PartsFit.{parts-fit, part-next}

-- ---- a Block holds a list whatever it is the Block of
block-follows : (b c : Class) → one_of (block ∷ []) c ≡ true → is_list (holding (following b c)) ≡ true
unfolding every lowest
block-follows b c = implied (one_of (block ∷ []) c) (is_list (holding (following b c)))
    (of-classes (λ b c. implies (one_of (block ∷ []) c) (is_list (holding (following b c)))) refl b c)

block-list : (w : List ℕ) (r : ℕ) → one_of (block ∷ []) (base w (suc r)) ≡ true → is_list (holding (class w (suc r))) ≡ true
unfolding class
block-list w r = block-follows (base w r) (base w (suc r))

-- only a list has clauses
no-clauses : (h : Holding) → is_list h ≡ false → item_kind h ≡ 0
no-clauses nothing l = refl
no-clauses statement l = refl
no-clauses body l = refl
no-clauses branches l = refl
no-clauses statements l = refl
no-clauses cases l = never (sym l)
no-clauses comms l = never (sym l)

-- ---- the walk

-- the details of the rows from b on before e are allowed
abbrev Details : List ℕ → ℕ → ℕ → Type 0
Details w b e = (k : ℕ) → b ≤ k → k < e → detail_allowed (kind w k) (detail w k) ≡ true

-- the rows from b on before c, in a statement that ends at e
pub record Seen (w p : List ℕ) (b c e : ℕ) : Type 0 where
  pub allowed : (k : ℕ) → b ≤ k → k < c → bad_row w p k ≡ false
  pub inside : (k : ℕ) → b ≤ k → k < c → end w k ≤ e
  pub right : Details w b e → (k : ℕ) → b ≤ k → k < c → Right w p k

-- the row c is the body of the If with else before it, which is less than d deep and ends at e
pub record BodyOf (w : List ℕ) (c d e : ℕ) : Type 0 where
  pub parent : ℕ
  pub follows : c ≡ suc parent
  pub shallow : depth w parent < d
  pub ends : end w parent ≡ e
  pub parts : TwoParts w parent

-- what is known of the row c before it is seen
pub record Next (w : List ℕ) (c d e : ℕ) : Type 0 where
  pub some_rows : 0 < size w c
  pub within : end w c ≤ e
  pub shallow : depth w c ≤ d
  pub after : (end w c ≡ e) ⊎ BodyOf w c d e

pub record Going (w p : List ℕ) (b e c d : ℕ) : Type 0 where
  pub low : b ≤ c
  pub high : c ≤ e
  pub room : d ≤ 101
  pub seen : Seen w p b c e
  pub next : c < e → Next w c d e

-- the statement b of size s, which isn't row 0 and at most g deep
pub record Statement-at (w : List ℕ) (b s g : ℕ) : Type 0 where
  pub met : Met w b g
  pub later : 0 < b
  pub size_is : s ≡ size w b

pub sets-out : {w : List ℕ} (p : List ℕ) {b s g : ℕ} → Statement-at w b s g → Going w p b (b + s) b g
sets-out p a =
    let z = a.size_is in
    record {
      low = omega arith;
      high = omega arith;
      room = omega (arith, a.met.deepest);
      seen = record { allowed = λ k l m. absurd (omega arith); inside = λ k l m. absurd (omega arith); right = λ o k l m. absurd (omega arith) };
      next = λ l. record { some_rows = a.met.some_rows; within = omega arith; shallow = a.met.shallow; after = inl (omega arith) };
    }

-- with no row left
pub goes_through : {w p : List ℕ} {b s g : ℕ} → Statement-at w b s g → {c d : ℕ} → Going w p b (b + s) c d → b + s ≤ c → Right w p b × RightBelow w p b
goes_through {w} {p} {b} {s} a {c} o l =
    let z = a.size_is in
    let m = a.met.some_rows in
    let all : (k : ℕ) → b ≤ k → k < b + s → Right w p k = λ k u v. o.seen.right details k u (omega arith) in
    let own = all b (omega arith) (omega arith) in (
      own,
      record {
        right = λ k u v. all k (omega arith) (omega arith);
        inside = λ k u v. omega (arith, o.seen.inside k (omega arith) (omega arith));
        children = shape-right w b a.later own.shaped;
        single = own.single;
      },
    )
  where
    details : Details w b (b + s)
    details k u v = (good-row w p k (o.seen.allowed k u (omega arith))).detailed

-- ---- at a row that is allowed
pub record Turn (w p : List ℕ) (b s g c d : ℕ) : Type 0 where
  pub start : Statement-at w b s g
  pub going : Going w p b (b + s) c d
  pub left : c < b + s
  pub shallow : d ≤ 100
  pub allowed : bad_row w p c ≡ false

module _ {w p : List ℕ} {b s g c d : ℕ} (a : Turn w p b s g c d) where
  here : Next w c d (b + s)
  here = a.going.next a.left

  pub in_rows : (c < row_count w) × (end w c ≤ row_count w) × (row_count w ≤ 2000)
  in_rows =
      let z = a.start.size_is in
      let m = a.start.met.within in
      let l = a.left in (omega arith, omega (arith, here.within), a.start.met.most_rows)

  details-to : DetailedTo w c
  details-to k m = elim (ℕ_discrete k c) [
    | yes e ↦ (good-row w p k (rw e a.allowed)).detailed
    | no n ↦
        elim (dec_lt k b) [
          | yes y ↦ a.start.met.details k y
          | no y ↦ (good-row w p k (a.going.seen.allowed k (omega arith) (omega arith))).detailed
        ]
  ]

  pub row-known : (c < row_count w) × DetailedTo w c
  row-known = (in_rows.0, details-to)

  -- a list has at most as many rows as the statement
  pub list-call : {t : ℕ} → 2 * size w b + 1 ≡ t → {h : Holding} → h ≡ holding (class w c) → is_list h ≡ true → (i : Option Kind) → Items i h
      → (2 * size w c < t) × (Met w c d × DetailedTo w c × (is_list (holding (class w c)) ≡ true) × Items i (holding (class w c)))
  list-call q e y i k =
      let z = a.start.size_is in
      let l = a.going.low in
      (omega (arith, here.within), (row-met, details-to, rw (← e) y, subst (Items i) e k))
    where
      row-met : Met w c d
      row-met =
          record {
            row = in_rows.0;
            most_rows = in_rows.2;
            some_rows = here.some_rows;
            within = in_rows.1;
            details = λ k m. details-to k (omega arith);
            shallow = here.shallow;
            deepest = a.shallow;
          }

  row-right : Fit w c → Single w c → Right w p c
  row-right f single =
      let m = a.start.later in
      let n = a.going.low in
      record {
        allowed = a.allowed;
        sized = right-size w c here.some_rows in_rows.1;
        shaped = right-shape w c (λ e. absurd (omega arith)) f;
        single = single;
        shallow = omega (arith, here.shallow, a.shallow);
      }

  -- ---- past a list, once the rows below it are right
  module _ (v : RightBelow w p c) where
    list-seen : Seen w p b (end w c) (b + s)
    list-seen = record { allowed = allowed; inside = inside; right = right }
      where
        allowed : (k : ℕ) → b ≤ k → k < end w c → bad_row w p k ≡ false
        allowed k i j = elim (ℕ_discrete k c) [
          | yes e ↦ rw e a.allowed
          | no n ↦ elim (dec_lt k c) [ yes y ↦ a.going.seen.allowed k i y | no y ↦ (v.right k (omega arith) j).allowed ]
        ]

        inside : (k : ℕ) → b ≤ k → k < end w c → end w k ≤ b + s
        inside k i j = elim (ℕ_discrete k c) [
          | yes e ↦ rw e here.within
          | no n ↦ elim (dec_lt k c) [ yes y ↦ a.going.seen.inside k i y | no y ↦ omega (arith, v.inside k (omega arith) j, here.within) ]
        ]

        right : Details w b (b + s) → (k : ℕ) → b ≤ k → k < end w c → Right w p k
        right t k i j = elim (ℕ_discrete k c) [
          | yes e ↦ subst (λ (k : ℕ). Right w p k) (sym e) (row-right v.children v.single)
          | no n ↦ elim (dec_lt k c) [ yes y ↦ a.going.seen.right t k i y | no y ↦ v.right k (omega arith) j ]
        ]

    -- the other part is as deep as the body
    other-next : BodyOf w c d (b + s) → Next w (end w c) d (b + s)
    other-next q =
        let m = here.some_rows in
        let f = q.follows in
        let z = q.ends in
        let h = q.parts in
        let n : depth w (end w c) ≤ suc (depth w q.parent) = deeper w q.parent (end w c) (omega arith) inside in
        record {
          some_rows = rw f h.more_rows;
          within = rw f (omega (arith, h.fills));
          shallow = omega (arith, q.shallow);
          after = inl (rw f (h.fills ∙ z));
        }
      where
        inside : (k : ℕ) → q.parent < k → k < end w c → end w k ≤ end w c
        inside k i j = elim (ℕ_discrete k c) [ yes e ↦ rw e (omega arith) | no n ↦ v.inside k (omega (arith, q.follows)) j ]

    pub past-list : {n : ℕ} → n ≡ size w c → Going w p b (b + s) (c + n) d
    past-list y =
        let m = a.going.low in
        rw y record {
          low = omega arith;
          high = here.within;
          room = a.going.room;
          seen = list-seen;
          next = λ n. ⊎_elim (λ (e : end w c ≡ b + s). absurd (omega arith)) other-next here.after;
        }

  pub list-falls : {n : ℕ} → n ≡ size w c → (b + s) - (c + n) < (b + s) - c
  list-falls y = let l = a.left in omega (arith, here.some_rows)

  -- ---- past a row that holds no list, to its first child
  module _ {h : Holding} (e : h ≡ holding (class w c)) (n : is_list h ≡ false) (v : Parts w h c) where
    -- it is no Block, so its rows end the statement
    no_body : BodyOf w c d (b + s) → ⊥
    no_body q = no-list (block-list w q.parent (q.parts.may_be (details-to (suc q.parent) (omega (arith, q.follows)))))
      where
        no-list : is_list (holding (class w (suc q.parent))) ≡ true → ⊥
        no-list y = never (sym n ∙ rw (e, q.follows) y)

    ends : end w c ≡ b + s
    ends = ⊎_elim (λ (e : end w c ≡ b + s). e) (λ (q : BodyOf w c d (b + s)). absurd (no_body q)) here.after

    no-clause : item_kind (holding (class w c)) ≡ 0
    no-clause = rw (← e) (no-clauses h n)

    parts_seen : Seen w p b (suc c) (b + s)
    parts_seen = record { allowed = allowed; inside = inside; right = right }
      where
        allowed : (k : ℕ) → b ≤ k → k < suc c → bad_row w p k ≡ false
        allowed k i j = elim (ℕ_discrete k c) [ yes e ↦ rw e a.allowed | no n ↦ a.going.seen.allowed k i (omega arith) ]

        inside : (k : ℕ) → b ≤ k → k < suc c → end w k ≤ b + s
        inside k i j = elim (ℕ_discrete k c) [ yes e ↦ rw e here.within | no n ↦ a.going.seen.inside k i (omega arith) ]

        right : Details w b (b + s) → (k : ℕ) → b ≤ k → k < suc c → Right w p k
        right t k i j = elim (ℕ_discrete k c) [
          | yes y ↦
              subst (λ (k : ℕ). Right w p k) (sym y)
              (row-right (parts-fit w c (λ k u m. t k (omega (arith, a.going.low)) (omega (arith, ends))) e n v) (λ o. absurd (o no-clause)))
          | no z ↦ a.going.seen.right t k i (omega arith)
        ]

    child-next : suc c < b + s → Next w (suc c) (suc d) (b + s)
    child-next m =
        let z = ends in
        let q = part-next w c h n v (omega arith) in
        let i = deeper w c (suc c) (omega arith) (λ k i j. absurd (omega arith)) in
        let j = here.shallow in
        ⊎_elim
        (λ (f : end w (suc c) ≡ end w c). record { some_rows = q.0; within = omega arith; shallow = omega arith; after = inl (omega arith) })
        (λ (t : TwoParts w c). record {
          some_rows = q.0;
          within = omega (arith, t.fills, t.more_rows);
          shallow = omega arith;
          after = inr record { parent = c; follows = refl; shallow = omega arith; ends = z; parts = t };
        })
        q.1

    pub past_row : Going w p b (b + s) (c + 1) (d + 1)
    past_row =
        let m = a.going.low in
        let l = a.left in
        let u = a.shallow in
        rw (add-one c, add-one d) record { low = omega arith; high = omega arith; room = omega arith; seen = parts_seen; next = child-next }
