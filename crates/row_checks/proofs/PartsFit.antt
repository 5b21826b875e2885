-- The children of a row that holds no list: what the code finds from their sizes and kinds gives that they fill the row, and that they fit once their
-- details are allowed: one step for each child.
-- Assumes nothing.
use mathlib.Core.Path.{◌≡◌, sym, ◌∙◌, ap, subst}
use mathlib.Core.Bool.{Bool, true, false}
use mathlib.Core.List.{List}
use mathlib.Core.Logic.{◌⊎◌, inl, inr}
use Prim.Native.Nat.{ℕ, suc, ◌+◌, ◌-◌, ◌≤◌, ◌<◌}
use native.Mathlib.Omega.{arith}
use native.Mathlib.Numerals.{add-one}
use borrow.Author.Tests.{le-leb}
use Rattle.rules.specs.Rows.{kind, detail, size, end}
use Rattle.rules.specs.Class.{detail_allowed, class_of, base, class}
use Rattle.rules.specs.Refusals.{Holding, nothing, statement, body, branches, statements, cases, comms, holding, may_hold, at_least, children_fit}
use Rattle.rules.proofs.Children.{fits-ended, fits_next}
use Rattle.shape.proofs.Stepping.{may}
use Rattle.row_checks.specs.Parts.{is_list, MayBe, OneChild, TwoParts, Parts}
use Rattle.row_checks.proofs.RightRows.{never, Fit, leaf-fits}

-- ---- what the code finds

-- t is what `may_hold` says of the kind k of the row c
pub told-may : (w : List ℕ) (h : Holding) (i c : ℕ) {k : ℕ} {t : Bool} → k ≡ kind w c
    → ((d : ℕ) → detail_allowed k d ≡ true → t ≡ may_hold h i (class_of k d)) → t ≡ true → MayBe w h i c
told-may w h i c e f y a = may w h i c a e f ∙ y

module _ (w : List ℕ) (r : ℕ) {s : ℕ} (z : s ≡ size w r) where
  pub one-child : (h : Holding) {n : ℕ} → n ≡ size w (r + 1) → 2 ≤ s → n ≡ s - 1 → MayBe w h 0 (r + 1) → OneChild w h r
  one-child h q l m y =
      let g : size w (suc r) ≡ s - 1 = rw (← add-one r) (sym q ∙ m) in
      record { some_rows = omega arith; fills = omega arith; may_be = rw (← add-one r) y }

  pub two_parts : {n : ℕ} → n ≡ size w (r + 1) → 0 < n → n < s - 1 → {m : ℕ} → m ≡ size w (r + 1 + n) → m ≡ s - 1 - n
      → MayBe w branches 0 (r + 1) → MayBe w branches 1 (r + 1 + n) → TwoParts w r
  two_parts {n} q l o {m} v x y a =
      let c : size w (suc r) ≡ n = rw (← add-one r) (sym q) in
      let i : r + 1 + n ≡ end w (suc r) = omega arith in
      let d : size w (end w (suc r)) ≡ s - 1 - n = rw (← i) (sym v ∙ x) in
      record {
        some_rows = omega arith;
        more_rows = omega arith;
        fills = omega arith;
        may_be = rw (← add-one r) y;
        other_may_be = rw (← i) a;
      }

-- ---- that they fit
module _ (w : List ℕ) (h : Holding) (e c : ℕ) (l : c < e) (m : may_hold h 0 (base w c) ≡ true) where
  fits_one : (f : ℕ) → end w c ≡ e → at_least h ≤ 1 → children_fit (suc (suc f)) w h e 0 c ≡ true
  fits_one f q a = fits_next w h e 0 c (suc f) l m (omega arith) ∙ fits-ended w h e 1 (end w c) f (omega arith) ∙ le-leb (at_least h) 1 a

  fits-two : (f : ℕ) → end w c < e → may_hold h 1 (base w (end w c)) ≡ true → end w (end w c) ≡ e → at_least h ≤ 2
      → children_fit (suc (suc (suc f))) w h e 0 c ≡ true
  fits-two f q n k a =
      fits_next w h e 0 c (suc (suc f)) l m (omega arith) ∙ fits_next w h e 1 (end w c) (suc f) q n (omega arith)
      ∙ fits-ended w h e 2 (end w (end w c)) f (omega arith) ∙ le-leb (at_least h) 2 a

module _ (w : List ℕ) (r : ℕ) (a : (k : ℕ) → r < k → k < end w r → detail_allowed (kind w k) (detail w k) ≡ true) where
  -- the children of the row fit as those of a row that holds h
  abbrev FitAs : Holding → Type 0
  FitAs h = children_fit (size w r) w h (end w r) 0 (suc r) ≡ true

  one-fits : (h : Holding) → at_least h ≤ 1 → OneChild w h r → FitAs h
  one-fits h n o =
      let l = o.some_rows in
      let f = o.fills in
      let z : suc (suc (size w r - 2)) ≡ size w r = omega arith in
      subst (λ (f : ℕ). children_fit f w h (end w r) 0 (suc r) ≡ true) z
      (fits_one w h (end w r) (suc r) (omega arith) (o.may_be (a (suc r) (omega arith) (omega arith))) (size w r - 2) f n)

  two-fit : TwoParts w r → FitAs branches
  two-fit o =
      let l = o.some_rows in
      let m = o.more_rows in
      let f = o.fills in
      let z : suc (suc (suc (size w r - 3))) ≡ size w r = omega arith in
      subst (λ (f : ℕ). children_fit f w branches (end w r) 0 (suc r) ≡ true) z
      (fits-two w branches (end w r) (suc r) (omega arith) (o.may_be (a (suc r) (omega arith) (omega arith))) (size w r - 3) (omega arith)
      (o.other_may_be (a (end w (suc r)) (omega arith) (omega arith))) f (omega arith))

  fit-as : (h : Holding) → h ≡ holding (class w r) → is_list h ≡ false → Parts w h r → FitAs h
  fit-as nothing q l o = subst FitAs (sym q) (leaf-fits w r o (sym (ap at_least q)))
  fit-as statement q l o = one-fits statement (omega arith) o
  fit-as body q l o = one-fits body (omega arith) o
  fit-as branches q l o = two-fit o
  fit-as statements q l o = never (sym l)
  fit-as cases q l o = never (sym l)
  fit-as comms q l o = never (sym l)

  pub parts-fit : {h : Holding} → h ≡ holding (class w r) → is_list h ≡ false → Parts w h r → Fit w r
  parts-fit {h} q l o = subst FitAs q (fit-as h q l o)

-- ---- what follows the row: a child that fills it, or the body of an If with else
pub part-next : (w : List ℕ) (r : ℕ) (h : Holding) → is_list h ≡ false → Parts w h r → suc r < end w r
    → (0 < size w (suc r)) × ((end w (suc r) ≡ end w r) ⊎ TwoParts w r)
part-next w r nothing l o m = absurd (omega arith)
part-next w r statement l o m = (o.some_rows, inl o.fills)
part-next w r body l o m = (o.some_rows, inl o.fills)
part-next w r branches l o m = (o.some_rows, inr o)
part-next w r statements l o m = never (sym l)
part-next w r cases l o m = never (sym l)
part-next w r comms l o m = never (sym l)
