-- Stepping through the children of a row: what is left to fit, with the steps that are left, is as good as the whole, one step for each turn.
-- Child number i begins i rows or more after the first child, which leaves a step at each turn. A turn needs facts of its own row only.
-- Assumes nothing.
use mathlib.Core.Path.{◌≡◌, sym, ◌∙◌, ap, subst}
use mathlib.Core.Bool.{Bool, true, false}
use mathlib.Core.List.{List}
use Prim.Native.Nat.{ℕ, suc, ◌+◌, ◌-◌, ◌≤◌, ◌<◌}
use native.Mathlib.Omega.{arith}
use native.Mathlib.Numerals.{add-one}
use lib.Dec.{leb}
use Rattle.rules.specs.Rows.{row_count, kind, detail, size, end}
use Rattle.rules.specs.Class.{detail_allowed, class_of, base}
use Rattle.rules.specs.Refusals.{Holding, may_hold, at_least, children_fit}
use Rattle.rules.proofs.Children.{fits-ended, fits-barred, fits-past, fits_next}

-- what `may_hold` says of a kind k, said of the row of that kind
pub may : (w : List ℕ) (h : Holding) (i c : ℕ) → detail_allowed (kind w c) (detail w c) ≡ true → {k : ℕ} {t : Bool}
    → k ≡ kind w c → ((d : ℕ) → detail_allowed k d ≡ true → t ≡ may_hold h i (class_of k d)) → may_hold h i (base w c) ≡ t
unfolding base
may w h i c a e f = sym (f (detail w c) (rw e a) ∙ ap (λ (x : ℕ). may_hold h i (class_of x (detail w c))) e)

-- at child number i, row c, of a row that holds h, ends at e and has its first child at b
pub record Walk (w : List ℕ) (h : Holding) (e b i c : ℕ) : Type 0 where
  pub same : children_fit (suc e - b - i) w h e i c ≡ children_fit (suc e - b) w h e 0 b
  pub low : b + i ≤ c
  pub high : c ≤ e
  pub within : e ≤ row_count w

-- the row r holds h, and s is its size as the code read it
module _ (w : List ℕ) (h : Holding) (r : ℕ) {s : ℕ} (q : s ≡ size w r) where
  abbrev pub Fits : Bool → Type 0
  Fits t = t ≡ children_fit (size w r) w h (end w r) 0 (suc r)

  pub begin : 0 < size w r → end w r ≤ row_count w → Walk w h (r + s) (r + 1) 0 (r + 1)
  begin n m =
      let f : suc (r + s) - (r + 1) - 0 ≡ suc (r + s) - (r + 1) = omega arith in
      record { same = ap (λ (f : ℕ). children_fit f w h (r + s) 0 (r + 1)) f; low = omega arith; high = omega arith; within = omega arith }

  module _ {i c : ℕ} (a : Walk w h (r + s) (r + 1) i c) where
    -- a step is left
    turn : children_fit (suc (s - 1 - i)) w h (r + s) i c ≡ children_fit (suc (r + s) - (r + 1)) w h (r + s) 0 (r + 1)
    turn =
        let z : suc (r + s) - (r + 1) - i ≡ suc (s - 1 - i) = omega arith in
        subst (λ (f : ℕ). children_fit f w h (r + s) i c ≡ children_fit (suc (r + s) - (r + 1)) w h (r + s) 0 (r + 1)) z a.same

    whole : Fits (children_fit (suc (s - 1 - i)) w h (r + s) i c)
    whole = let z : suc (r + s) - (r + 1) ≡ s = omega arith in turn ∙ rw (z, add-one r, q)

    pub ended : r + s ≤ c → {n : ℕ} → n ≡ at_least h → Fits (leb n i)
    ended l e = rw e (sym (fits-ended w h (r + s) i c (s - 1 - i) l) ∙ whole)

    module _ (l : c < r + s) where
      pub past : {n : ℕ} → n ≡ size w c → r + s < c + n → Fits false
      past e m = sym (fits-past w h (r + s) i c (s - 1 - i) l (subst (λ (x : ℕ). r + s < c + x) e m)) ∙ whole

      pub barred : may_hold h i (base w c) ≡ false → Fits false
      barred n = sym (fits-barred w h (r + s) i c (s - 1 - i) l n) ∙ whole

      pub next : may_hold h i (base w c) ≡ true → 0 < size w c → {n : ℕ} → n ≡ size w c → c + n ≤ r + s → Walk w h (r + s) (r + 1) (i + 1) (c + n)
      next y o {n} g k =
          let f : suc (r + s) - (r + 1) - (i + 1) ≡ s - 1 - i = omega arith in
          record {
            same =
                rw (f, add-one i, g)
                (sym (fits_next w h (r + s) i c (s - 1 - i) l y (subst (λ (x : ℕ). c + x ≤ r + s) g k)) ∙ turn);
            low = omega (arith, o);
            high = k;
            within = a.within;
          }
