-- The class of a row from its own words and, of a Block, from the kind of the row before; and from them what stands below the row.
-- Assumes nothing.
use mathlib.Core.Path.{◌≡◌, refl, sym, ◌∙◌, ap}
use mathlib.Core.Bool.{true, false}
use mathlib.Core.List.{List, [], ◌∷◌}
use Prim.Native.Nat.{ℕ, zero, suc, ◌-◌, ◌<◌}
use native.Mathlib.Omega.{arith}
use lib.Dec.{eqb, ltb}
use borrow.Author.Tests.{eq-eqb, ne_eqb, ltb-true}
use Rattle.rules.specs.Rows.{kind, detail}
use Rattle.rules.specs.Class.{Class, block, case_block, comm_block, select, one_of, is_switch, detail_allowed, class_of, base, following, class}
use Rattle.rules.specs.Refusals.{nothing, body, branches, statements, cases, comms, holding}
use Rattle.rules.proofs.Every.{is_one}
use Rattle.rules.proofs.ByKind.{among, NoneOf, none-among, switches, kind-block, kind-switch, kind-select, first-detail, holders, leaf-kind}

-- ---- a row right after another
other-follows : (b c : Class) → one_of (block ∷ []) c ≡ false → following b c ≡ c
other-follows b c n = rw (n, following)

case-block : (b : Class) → is_switch b ≡ true → following b block ≡ case_block
case-block b s = rw (s, following)

comm-block : (b : Class) → is_switch b ≡ false → one_of (select ∷ []) b ≡ true → following b block ≡ comm_block
comm-block b s e = rw (s, e, following)

plain-block : (b : Class) → is_switch b ≡ false → one_of (select ∷ []) b ≡ false → following b block ≡ block
plain-block b s e = rw (s, e, following)

module _ (w : List ℕ) where
  -- ---- the class
  pub class-first : class w 0 ≡ base w 0
  unfolding class
  class-first = refl

  pub class-after : (r : ℕ) → 0 < r → class w r ≡ following (base w (r - 1)) (base w r)
  unfolding class
  class-after zero h = absurd (omega arith)
  class-after (suc q) h = let e : q ≡ suc q - 1 = omega arith in ap (λ (p : ℕ). following (base w p) (base w (suc q))) e

  -- only a Block is told apart by the row before
  pub class-base : (r : ℕ) → one_of (block ∷ []) (base w r) ≡ false → class w r ≡ base w r
  unfolding class
  class-base zero n = refl
  class-base (suc q) n = other-follows (base w q) (base w (suc q)) n

module _ (w : List ℕ) (r : ℕ) (a : detail_allowed (kind w r) (detail w r) ≡ true) where
  pub is_block_lem : kind w r ≡ 12 → base w r ≡ block
  unfolding base
  is_block_lem k = is_one (base w r) block (sym (kind-block (kind w r) (detail w r) a) ∙ eq-eqb (kind w r) 12 k)

  pub no_block : eqb (kind w r) 12 ≡ false → class w r ≡ base w r
  unfolding base
  no_block k = class-base w r (sym (kind-block (kind w r) (detail w r) a) ∙ k)

  -- ---- what stands below a row that is no Block
  pub row-holding : (n : ℕ) → kind w r ≡ n → eqb n 12 ≡ false → eqb n 13 ≡ false → holding (class w r) ≡ holding (class_of n 0)
  unfolding base
  row-holding n k e f =
      ap holding (no_block (ap (λ (m : ℕ). eqb m 12) k ∙ e))
      ∙ first-detail (kind w r) (detail w r) a (ap (λ (m : ℕ). eqb m 13) k ∙ f)
      ∙ ap (λ (m : ℕ). holding (class_of m 0)) k

  pub leaf-holding : NoneOf holders (kind w r) → holding (class w r) ≡ nothing
  unfolding base
  leaf-holding n = ap holding (no_block (ne_eqb (kind w r) 12 n.0.0.0.0.0.0.0.0.1)) ∙ leaf-kind (kind w r) (detail w r) a n

  pub branches-holding : kind w r ≡ 13 → detail w r ≡ 1 → holding (class w r) ≡ branches
  unfolding base class_of
  branches-holding k d = ap holding (no_block (ap (λ (m : ℕ). eqb m 12) k)) ∙ rw (k, d)

  pub if-holding : kind w r ≡ 13 → (detail w r ≡ 1 → ⊥) → holding (class w r) ≡ body
  unfolding base class_of detail_allowed
  if-holding k n =
      let small : ltb (detail w r) 2 ≡ true = rw k at a in
      let z : detail w r ≡ 0 = omega (arith, ltb-true (detail w r) 2 small) in
      ap holding (no_block (ap (λ (m : ℕ). eqb m 12) k)) ∙ rw (k, z)

-- ---- what stands below a Block, by the kind of the row before it
module _ (w : List ℕ) (r : ℕ) (b : base w r ≡ block) where
  pub root-block : r ≡ 0 → holding (class w r) ≡ statements
  root-block z = rw (z, class-first, ← z, b)

  module _ (h : 0 < r) (a : detail_allowed (kind w (r - 1)) (detail w (r - 1)) ≡ true) where
    after : class w r ≡ following (base w (r - 1)) block
    after = class-after w r h ∙ ap (following (base w (r - 1))) b

    before-switch : is_switch (base w (r - 1)) ≡ among switches (kind w (r - 1))
    unfolding base
    before-switch = sym (kind-switch (kind w (r - 1)) (detail w (r - 1)) a)

    before-select : one_of (select ∷ []) (base w (r - 1)) ≡ eqb (kind w (r - 1)) 18
    unfolding base
    before-select = sym (kind-select (kind w (r - 1)) (detail w (r - 1)) a)

    pub switch-block : (n : ℕ) → kind w (r - 1) ≡ n → among switches n ≡ true → holding (class w r) ≡ cases
    switch-block n k e = ap holding (after ∙ case-block (base w (r - 1)) (before-switch ∙ ap (among switches) k ∙ e))

    pub select-block : kind w (r - 1) ≡ 18 → holding (class w r) ≡ comms
    select-block k =
        let s = before-switch ∙ ap (among switches) k in
        let e = before-select ∙ ap (λ (m : ℕ). eqb m 18) k in
        ap holding (after ∙ comm-block (base w (r - 1)) s e)

    pub list-block : NoneOf (18 ∷ switches) (kind w (r - 1)) → holding (class w r) ≡ statements
    list-block n =
        let s = before-switch ∙ none-among switches (kind w (r - 1)) n.0 in
        let e = before-select ∙ ne_eqb (kind w (r - 1)) 18 n.1 in
        ap holding (after ∙ plain-block (base w (r - 1)) s e)
