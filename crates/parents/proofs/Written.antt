-- What the two loops keep. A row has one parent, so writing a child's word leaves those of the children of the rows before; and what is no child
-- between two children is inside the first of them. Every row but row 0 is a child of its parent, so in the end all rows have their words.
-- Assumes nothing.
use mathlib.Core.Path.{◌≡◌, refl, sym, ◌∙◌, ap}
use mathlib.Core.Logic.{◌≢◌}
use mathlib.Core.List.{List}
use mathlib.Core.Option.{none}
use Prim.Native.Nat.{ℕ, zero, suc, ◌+◌, ◌≤◌, ◌<◌}
use native.Mathlib.Omega.{arith}
use native.Mathlib.Numerals.{add-one}
use native.Mathlib.Decide.{ℕ_discrete, dec_lt}
use lib.ListN.{length, get_or, set}
use lib.Seq.{get_or-set_same, get_or-set_other}
use Rattle.rules.specs.Scan.{highest}
use Rattle.rules.specs.Rows.{row_count, size, end, parent, here, Child}
use Rattle.rules.specs.Labels.{word}
use Rattle.rules.specs.Body.{Body}
use Rattle.rules.proofs.Nesting.{item-before, item_from, item-next, ends-before}
use Rattle.parents.specs.Parents.{Parents, ParentsTo}

-- what the loop over the children of row r keeps: those before c have their words
pub record Written (w t : List ℕ) (r c : ℕ) : Type 0 where
  pub so_far : ParentsTo w t r
  pub from : r < c
  pub item : c < end w r → Child w r c
  pub passed : (s : ℕ) → s < c → Child w r s → get_or t s 0 ≡ suc r

no-parent : (w : List ℕ) → parent w 0 ≡ none
unfolding parent highest
no-parent w = refl

module _ {w p b : List ℕ} (body : Body w p b) where
  -- a row below r, as numbers
  pub inside : (r c : ℕ) → r < row_count w → c < end w r → (c < row_count w) × (0 < size w c) × (end w c ≤ 2000)
  inside r c l h =
      let m : c < row_count w = omega (arith, body.sized.within r l) in
      (m, body.sized.some_rows c m, omega (arith, body.sized.within c m, body.most_rows))

  one_parent : (j r s : ℕ) → j < row_count w → r < row_count w → Child w j s → Child w r s → j ≡ r
  one_parent j r s h l i k = omega (arith, ap word (sym (body.child_parent j s h i) ∙ body.child_parent r s l k))

  -- ---- the children of row r
  module _ (r : ℕ) (l : r < row_count w) where
    pub written_start : (t : List ℕ) → ParentsTo w t r → Written w t r (r + 1)
    written_start t a = rw add-one (record {
      so_far = a;
      from = omega arith;
      item = λ h. here h;
      passed = λ s h i. absurd (omega (arith, item_from i));
    })

    pub written-more : (t : List ℕ) (c : ℕ) → c < length t → Written w t r c → c < end w r → Written w (set t c (r + 1)) r (end w c)
    written-more t c m x h = rw add-one (record {
      so_far = record {
        root = get_or-set_other t c 0 (suc r) 0 (λ e. omega (arith, x.from)) ∙ x.so_far.root;
        below = λ j s g d. get_or-set_other t c s (suc r) 0 (other j s g d) ∙ x.so_far.below j s g d;
      };
      from = omega (arith, x.from);
      item = λ g. item-next (x.item h) g;
      passed = λ s g d. elim (ℕ_discrete s c) [
        | yes e ↦ rw e (get_or-set_same t c (suc r) 0 m)
        | no o ↦ get_or-set_other t c s (suc r) 0 o ∙ x.passed s (earlier s g d o) d
      ];
    })
      where
        other : (j s : ℕ) → j < r → Child w j s → s ≢ c
        other j s g d e = let i : Child w j c = rw e at d in omega (arith, one_parent j r c (omega arith) l i (x.item h))

        earlier : (s : ℕ) → s < end w c → Child w r s → s ≢ c → s < c
        earlier s g d o = elim (dec_lt s c) [
          | yes y ↦ y
          | no n ↦
              let z : c < s = omega arith in
              absurd (omega (arith, ends-before body.sized body.child_within (body.sized.within r l) d c x.from z))
        ]

    pub written-end : (t : List ℕ) (c : ℕ) → Written w t r c → end w r ≤ c → ParentsTo w t (r + 1)
    written-end t c x h = rw add-one (record {
      root = x.so_far.root;
      below = λ j s g d. elim (ℕ_discrete j r) [
        | yes e ↦ let i : Child w r s = rw e at d in rw e (x.passed s (omega (arith, item-before i)) i)
        | no o ↦ x.so_far.below j s (omega arith) d
      ];
    })

  -- ---- all rows
  pub parents-end : (t : List ℕ) (k : ℕ) → ParentsTo w t k → row_count w ≤ k → Parents w t
  parents-end t k a m zero h = a.root ∙ sym (ap word (no-parent w))
  parents-end t k a m (suc q) h =
      let (j, e, g, i) = body.parent_child (suc q) (omega arith) h in a.below j (suc q) (omega arith) i ∙ sym (ap word e)
