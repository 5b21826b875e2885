-- The last item that is no Empty, item by item: the item kept is the last so far that is no Empty, and all rows since are Empty; an Empty is one row.
-- Assumes nothing.
use mathlib.Core.Path.{◌≡◌, sym, ◌∙◌, ap}
use mathlib.Core.List.{List}
use mathlib.Core.Option.{some, some-injective, some-ne-none}
use Prim.Native.Nat.{ℕ, ◌+◌, ◌≤◌, ◌<◌}
use native.Mathlib.Omega.{arith}
use native.Mathlib.Decide.{ℕ_discrete}
use lib.Dec.{eqb}
use borrow.Author.Tests.{eq-eqb, ne_eqb}
use Rattle.rules.specs.Rows.{row_count, kind, size, end, Item, here}
use Rattle.rules.specs.Class.{empty, class}
use Rattle.rules.specs.Labels.{is_class}
use Rattle.rules.specs.Body.{Detailed}
use Rattle.rules.proofs.Test.{clash}
use Rattle.rules.proofs.Every.{is_one}
use Rattle.rules.proofs.Nesting.{item-next}
use Rattle.rules.proofs.Around.{AllEmpty, all-empty}
use Rattle.std.specs.Prelude.{Option, Some, None}
use Rattle.rows.specs.declared.RowNumber.{RowNumber}
use Rattle.rows.specs.Found.{row_found}
use Rattle.breaks.specs.Leaves.{Closed}
use Rattle.returns.specs.Search.{OneRowEmpties, UnlessEmpty, Lasts}
use Rattle.breaks.proofs.ByWords.{empty-kind}

-- of the rows from b on, before c, the item kept is the last that is no Empty
abbrev pub Kept : List ℕ → ℕ → ℕ → Option RowNumber → ℕ → Type 0
Kept w b e (Some s) c = Item w e b s.0 × (class w s.0 ≡ empty → ⊥) × AllEmpty w (end w s.0) c
Kept w b e None c = AllEmpty w b c

pub record Walk (w : List ℕ) (b e : ℕ) (last : Option RowNumber) (c : ℕ) : Type 0 where
  pub within : e ≤ row_count w
  pub item : c < e → Item w e b c
  pub kept : Kept w b e last c

module _ {w : List ℕ} {b e : ℕ} where
  pub begin : Closed w b e → Walk w b e None b
  begin a = record { within = a.within; item = λ l. here l; kept = λ k l m. absurd (omega arith) }

  module _ (detailed : Detailed w) {last : Option RowNumber} {c : ℕ} (a : Walk w b e last c) (l : c < e) where
    an-empty : is_class w empty c ≡ eqb (kind w c) 2
    an-empty = sym (empty-kind w c (detailed c (omega (arith, a.within))))

    -- an item that is no Empty is kept
    full : (found : Option RowNumber) {n : ℕ} → n ≡ size w c → (kind w c ≡ 2 → ⊥) → row_found found ≡ some c → Walk w b e found (c + n)
    full None q n e = absurd (some-ne-none c (sym e))
    full (Some s) q n e =
        let z : s.0 ≡ c = some-injective s.0 c e in
        record {
          within = a.within;
          item = rw q (λ m. item-next (a.item l) m);
          kept = (rw z (a.item l), (λ f. clash (cc (an-empty, ne_eqb (kind w c) 2 n, rw z at f))), λ k m o. absurd (omega (arith, ap (end w) z, q)));
        }

    past : {s : ℕ} → size w c ≡ 1 → class w c ≡ empty → AllEmpty w s c → AllEmpty w s (c + size w c)
    past o e i k m n = elim (ℕ_discrete k c) [ yes z ↦ rw z e | no z ↦ i k m (omega arith) ]

    more : (last : Option RowNumber) → size w c ≡ 1 → class w c ≡ empty → Kept w b e last c → Kept w b e last (c + size w c)
    more (Some s) o e (i, f, g) = (i, f, past o e g)
    more None o e g = past o e g

    -- and an Empty is passed over
    passed : OneRowEmpties w → {n : ℕ} → n ≡ size w c → kind w c ≡ 2 → Walk w b e last (c + n)
    passed one q k =
        let y = a.within in
        let e : class w c ≡ empty = is_one (class w c) empty (an-empty ∙ eq-eqb (kind w c) 2 k) in
        record {
          within = a.within;
          item = rw q (λ m. item-next (a.item l) m);
          kept = rw q (more last (one c (omega arith) e) e a.kept);
        }

    -- so c is stepped over
    pub step : OneRowEmpties w → {n : ℕ} {found : Option RowNumber} → n ≡ size w c → UnlessEmpty w c last found → Walk w b e found (c + n)
    step one q (same, other) = elim (ℕ_discrete (kind w c) 2) [ yes k ↦ rw (same k) (passed one q k) | no k ↦ full _ q k (other k) ]

  pub ended : (last : Option RowNumber) {c : ℕ} → Walk w b e last c → e ≤ c → Lasts w b e last
  ended (Some s) a l = let (i, f, g) = a.kept in record { item = i; no_empty = f; rest = all-empty w (end w s.0) e (λ k m n. g k m (omega arith)) }
  ended None a l = all-empty w b e (λ k m n. a.kept k m (omega arith))
