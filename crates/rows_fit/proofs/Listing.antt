-- The walk through the items of the list r, which ends at e: it stands at item number i, the row c, and the rows before c are right. Each of them was
-- seen, so its details are allowed, and ends at or before c; so c is at most one deeper than r. What may be an item doesn't depend on its number.
-- Assumes nothing.
use mathlib.Core.Path.{◌≡◌, refl, sym, ◌∙◌, subst}
use mathlib.Core.Bool.{Bool, true, false}
use mathlib.Core.List.{List}
use Prim.Native.Nat.{ℕ, zero, suc, ◌+◌, ◌-◌, ◌*◌, ◌≤◌, ◌<◌}
use native.Mathlib.Omega.{arith}
use native.Mathlib.Decide.{ℕ_discrete, dec_lt}
use borrow.Author.Tests.{le-leb}
use Rattle.std.specs.Prelude.{Option, Some, None}
use Rattle.std.specs.Option.{is_some}
use Rattle.rules.specs.Rows.{row_count, kind, detail, size, end, depth}
use Rattle.rules.specs.Class.{Class, is_statement, detail_allowed, class_of, base, class}
use Rattle.rules.specs.Refusals.{Holding, nothing, statement, body, branches, statements, cases, comms, holding, may_hold, at_least}
use Rattle.rules.proofs.Facts.{good-row}
use Rattle.shape.specs.DetailedTo.{DetailedTo}
use Rattle.shape.proofs.Stepping.{may, Walk, begin, ended, next}
use Rattle.rows.specs.declared.kinds.Kind.{Kind}
use Rattle.row_checks.specs.Plain.{PlainItem, PlainItems}
use Rattle.row_checks.specs.Parts.{is_list, item_kind, Items}
use Rattle.row_checks.specs.Right.{Single, Right, RightBelow, Met}
use Rattle.rows_fit.proofs.Deeper.{deeper}
use Rattle.row_checks.proofs.RightRows.{never, right-size, right-shape, class-needs, leaf-below}

-- ---- what holds of every list
any-item : (h : Holding) → is_list h ≡ true → (i : ℕ) (c : Class) → may_hold h i c ≡ may_hold h 0 c
any-item nothing l i c = never l
any-item statement l i c = never l
any-item body l i c = never l
any-item branches l i c = never l
any-item statements l i c = refl
any-item cases l i c = refl
any-item comms l i c = refl

list-needs : (h : Holding) → is_list h ≡ true → at_least h ≡ 0
list-needs nothing l = refl
list-needs statement l = never l
list-needs body l = never l
list-needs branches l = never l
list-needs statements l = refl
list-needs cases l = refl
list-needs comms l = refl

-- whether the items have a kind of their own, as the code tests it
pub has-none : (i : Option Kind) (h : Holding) → Items i h → is_some i ≡ false → item_kind h ≡ 0
has-none (Some k) h e f = never (sym f)
has-none None h e f = e

pub has-one : (i : Option Kind) (h : Holding) → Items i h → is_some i ≡ true → item_kind h ≡ 0 → ⊥
has-one (Some k) h e t = e.1
has-one None h e t = never t

-- a list without items
pub no_items : (w p : List ℕ) (r : ℕ) {s : ℕ} → s ≡ size w r → is_list (holding (class w r)) ≡ true → r + s ≡ r + 1 → RightBelow w p r
no_items w p r z l e = leaf-below w p r (omega arith) (list-needs (holding (class w r)) l)

-- any statement may stand in a list whose items have no kind of their own
statement-item : (h : Holding) → is_list h ≡ true → item_kind h ≡ 0 → (i : ℕ) (c : Class) → is_statement c ≡ true → may_hold h i c ≡ true
statement-item nothing l z i c s = never l
statement-item statement l z i c s = never l
statement-item body l z i c s = never l
statement-item branches l z i c s = never l
statement-item statements l z i c s = s
statement-item cases l z i c s = absurd (omega arith)
statement-item comms l z i c s = absurd (omega arith)

-- the rows from b on, before c, are right and end at or before c
pub record Passed (w p : List ℕ) (b c : ℕ) : Type 0 where
  pub right : (k : ℕ) → b ≤ k → k < c → Right w p k
  pub inside : (k : ℕ) → b ≤ k → k < c → end w k ≤ c

-- the walk stands at the row c
pub record Listed (w p : List ℕ) (r e c : ℕ) : Type 0 where
  pub number : ℕ
  pub walk : Walk w (holding (class w r)) e (r + 1) number c
  pub passed : Passed w p (r + 1) c

module _ {w p : List ℕ} {r e c : ℕ} (o : Listed w p r e c) where
  pub stands-in : (c ≤ e) × (e ≤ row_count w)
  stands-in = (o.walk.high, o.walk.within)

  item-depth : depth w c ≤ suc (depth w r)
  item-depth = let m = o.walk.low in deeper w r c (omega arith) (λ k u v. o.passed.inside k (omega arith) v)

-- the same, said of the row b after r
abbrev pub ListedFrom : List ℕ → List ℕ → ℕ → ℕ → ℕ → Type 0
ListedFrom w p b e c = (r : ℕ) → b ≡ r + 1 → Listed w p r e c

pub from_first : {w p : List ℕ} {r e c : ℕ} → Listed w p r e c → ListedFrom w p (r + 1) e c
from_first {w} {p} {r} {e} {c} o q z = let y : r ≡ q = omega arith in subst (λ (x : ℕ). Listed w p x e c) y o

-- the row r of size s as the code read it, which is a list and at most d deep
pub record List-at (w : List ℕ) (r s d : ℕ) : Type 0 where
  pub met : Met w r d
  pub details : DetailedTo w r
  pub list : is_list (holding (class w r)) ≡ true
  pub size_is : s ≡ size w r

module _ {w : List ℕ} (p : List ℕ) {r s d : ℕ} (a : List-at w r s d) where
  pub begins : Listed w p r (r + s) (r + 1)
  begins =
      record {
        number = 0;
        walk = begin w (holding (class w r)) r a.size_is a.met.some_rows a.met.within;
        passed = record { right = λ k l m. absurd (omega arith); inside = λ k l m. absurd (omega arith) };
      }

module _ {w p : List ℕ} {r s d : ℕ} (a : List-at w r s d) {c : ℕ} (o : Listed w p r (r + s) c) where
  -- with no item left
  pub items-right : r + s ≤ c → Single w r → RightBelow w p r
  items-right l single =
      let z = a.size_is in
      let m = o.walk.high in
      record {
        right = λ k u v. o.passed.right k (omega arith) (omega arith);
        inside = λ k u v. omega (arith, o.passed.inside k (omega arith) (omega arith));
        children =
            sym (ended w (holding (class w r)) r a.size_is o.walk l refl)
            ∙ le-leb (at_least (holding (class w r))) o.number (omega (arith, list-needs (holding (class w r)) a.list));
        single = single;
      }

-- ---- at an item of size n, as the code read it
pub record Item_at (w p : List ℕ) (r s d c n : ℕ) : Type 0 where
  pub list : List-at w r s d
  pub listed : Listed w p r (r + s) c
  pub left : c < r + s
  pub size_is : n ≡ size w c
  pub some_rows : 0 < n
  pub within : c + n ≤ r + s

module _ {w p : List ℕ} {r s d c n : ℕ} (a : Item_at w p r s d c n) where
  item-met : d < 100 → Met w c (d + 1)
  item-met q =
      let z = a.size_is in
      let l = a.left in
      let m = a.some_rows in
      record {
        row = omega (arith, a.listed.walk.within);
        most_rows = a.list.met.most_rows;
        some_rows = omega arith;
        within = omega (arith, a.within, a.listed.walk.within);
        details = details;
        shallow = omega (arith, item-depth a.listed, a.list.met.shallow);
        deepest = omega arith;
      }
    where
      -- every row before the item was seen
      details : (k : ℕ) → k < c → detail_allowed (kind w k) (detail w k) ≡ true
      details k m = elim (dec_lt r k) [
        | yes y ↦ (good-row w p k (a.listed.passed.right k (omega arith) m).allowed).detailed
        | no n ↦ a.list.details k (omega arith)
      ]

  -- an item has fewer rows than the list
  pub item-call : d < 100 → {t : ℕ} → 2 * size w r ≡ t → (2 * size w c + 1 < t) × (Met w c (d + 1) × (0 < c))
  item-call q y =
      let z = a.list.size_is in
      let m = a.listed.walk.low in
      (omega (arith, a.size_is, a.within), (item-met q, omega arith))

  -- past the item, once it and the rows below it are right
  past : may_hold (holding (class w r)) 0 (base w c) ≡ true → Right w p c × RightBelow w p c → Listed w p r (r + s) (c + n)
  past y u =
      let z = a.size_is in
      record {
        number = a.listed.number + 1;
        walk =
            next w (holding (class w r)) r a.list.size_is a.listed.walk a.left
            (any-item (holding (class w r)) a.list.list a.listed.number (base w c) ∙ y) (omega (arith, a.some_rows)) z a.within;
        passed = record { right = right; inside = inside };
      }
    where
      right : (k : ℕ) → r + 1 ≤ k → k < c + n → Right w p k
      right k i j = elim (ℕ_discrete k c) [
        | yes e ↦ subst (λ (k : ℕ). Right w p k) (sym e) u.0
        | no x ↦ elim (dec_lt k c) [ yes m ↦ a.listed.passed.right k i m | no m ↦ u.1.right k (omega arith) (omega (arith, a.size_is)) ]
      ]

      inside : (k : ℕ) → r + 1 ≤ k → k < c + n → end w k ≤ c + n
      inside k i j = elim (ℕ_discrete k c) [
        | yes e ↦ rw e (omega (arith, a.size_is))
        | no x ↦
            elim (dec_lt k c) [
              | yes m ↦ omega (arith, a.listed.passed.inside k i m)
              | no m ↦ let z = a.size_is in omega (arith, u.1.inside k (omega arith) (omega arith))
            ]
      ]

  -- t is what `may_be_item` says of the kind k
  pub past-item : {k : ℕ} {t : Bool} → k ≡ kind w c
      → ((d : ℕ) → detail_allowed k d ≡ true → t ≡ may_hold (holding (class w r)) 0 (class_of k d)) → t ≡ true
      → Right w p c × RightBelow w p c → Listed w p r (r + s) (c + n)
  past-item e f y u = past (may w (holding (class w r)) 0 c (good-row w p c u.0.allowed).detailed e f ∙ y) u

-- ---- plain items

-- such an item is right, with no rows below it
past-plain : {w p : List ℕ} {r s d c : ℕ} → List-at w r s d → d < 100 → item_kind (holding (class w r)) ≡ 0 → Listed w p r (r + s) c → c < r + s
    → PlainItem w p c → Listed w p r (r + s) (c + 1)
past-plain {w} {p} {r} {c = c} a q z o l b =
    let n = b.one_row in
    let m = o.walk.low in
    let h = o.walk.within in
    let f = leaf-below w p c n (class-needs w c ∙ b.leaf) in
    let g : Right w p c = record {
      allowed = b.allowed;
      sized = right-size w c (omega arith) (omega arith);
      shaped = right-shape w c (λ e. absurd (omega arith)) f.children;
      single = f.single;
      shallow = omega (arith, item-depth o, a.met.shallow);
    } in
    past record { list = a; listed = o; left = l; size_is = sym n; some_rows = omega arith; within = omega arith }
    (statement-item (holding (class w r)) a.list z 0 (base w c) b.item) (g, f)

-- a run of plain items
plain-run : {w p : List ℕ} {r s d : ℕ} (a : List-at w r s d) → d < 100 → item_kind (holding (class w r)) ≡ 0 → {c : ℕ} → Listed w p r (r + s) c → (n : ℕ)
    → ((k : ℕ) → c ≤ k → k < c + n → PlainItem w p k) → c + n ≤ r + s → Listed w p r (r + s) (c + n)
plain-run {w} {p} {r} {s} a q z {c} o zero f l = let e : c + 0 ≡ c = omega arith in rw e o
plain-run {w} {p} {r} {s} a q z {c} o (suc m) f l =
    let b = plain-run a q z o m (λ k u v. f k u (omega arith)) (omega arith) in
    let g = f (c + m) (omega arith) (omega arith) in
    let e : c + suc m ≡ c + m + 1 = omega arith in
    rw e (past-plain a q z b (omega arith) g)

-- c is what the walk came to, and y where the next item is: after such a run, or at c itself
pub to_item : {w p : List ℕ} {r s d : ℕ} (a : List-at w r s d) → d < 100 → item_kind (holding (class w r)) ≡ 0 → {c x : ℕ}
    → Listed w p r (r + s) c → PlainItems w p c x (r + s) → {y : ℕ} → y ≡ x → (c ≤ y) × Listed w p r (r + s) y
to_item {w} {p} {r} {s} a q z {c} {x} o b e =
    let f : c + (x - c) ≡ x = omega (arith, b.low) in
    let g = plain-run a q z o (x - c) (λ k u v. b.plain k u (omega arith)) (omega (arith, b.high)) in
    rw e (b.low, subst (Listed w p r (r + s)) f g)

pub at_item : {w p : List ℕ} {r e c : ℕ} → Listed w p r e c → {y : ℕ} → y ≡ c → (c ≤ y) × Listed w p r e y
at_item o z = rw z (omega arith, o)
