-- A row that does not count is no Branch, so it isn't badly placed, and nothing that a break or a continue needs: what the search knows before such rows it
-- knows after them.
-- Assumes nothing.
use mathlib.Core.Path.{◌≡◌, sym, ◌∙◌}
use mathlib.Core.Bool.{Bool, true, false, ◌||◌}
use mathlib.Core.List.{List, [], ◌∷◌}
use Prim.Native.Nat.{ℕ, ◌<◌}
use native.Mathlib.Omega.{arith}
use native.Mathlib.Decide.{dec_lt}
use Rattle.rules.specs.Class.{Class, select, one_of, is_branch, is_switch, is_loop, is_breakable, base, class}
use Rattle.rules.specs.Placing.{badly_placed}
use Rattle.rules.proofs.Test.{clash, or-false}
use Rattle.rules.proofs.Lists.{own-branch, own-breakable}
use Rattle.placing.specs.Counted.{counted, PassedOver}
use Rattle.placing.specs.Reach.{Reach}
use Rattle.placing.proofs.Branches.{no-branch-not-bad}

module _ (c : Class) (n : counted c ≡ false) where
  no-branch : is_branch c ≡ false
  no-branch = (or-false (is_branch c) (is_breakable c) n).0

  no-breakable : is_breakable c ≡ false
  no-breakable = (or-false (is_branch c) (is_breakable c) n).1

  no_loop : is_loop c ≡ false
  no_loop = (or-false (is_switch c || one_of (select ∷ []) c) (is_loop c) no-breakable).1

-- the Block of a switch or Select counts as little as any Block
pub own-counted : (w : List ℕ) (r : ℕ) → counted (class w r) ≡ counted (base w r)
own-counted w r = rw (own-branch w r, own-breakable w r)

-- what the search knows at row r: no row before it is badly placed, and how far those reach that a break and a continue need
abbrev pub Known : List ℕ → ℕ → ℕ → ℕ → Type 0
Known w r b l = ((k : ℕ) → k < r → badly_placed w k ≡ false) × Reach w is_breakable r b × Reach w is_loop r l

module _ {w : List ℕ} {r x e : ℕ} (o : PassedOver w r x e) where
  reach-over : (P : Class → Bool) → ((c : Class) → counted c ≡ false → P c ≡ false) → {y : ℕ} → Reach w P r y → Reach w P x y
  reach-over P n s =
      let l = o.low in
      record {
        most = λ k h t. elim (dec_lt k r) [
          | yes i ↦ s.most k i t
          | no i ↦ let z : false ≡ true = sym (n (class w k) (o.none k (omega arith) h)) ∙ t in absurd (clash (cc))
        ];
        some = λ h. let (k, m, u, f) = s.some h in (k, omega arith, u, f);
      }

  pub known_over : {b l : ℕ} → Known w r b l → Known w x b l
  known_over v = (
    λ k h. elim (dec_lt k r) [ yes i ↦ v.0 k i | no i ↦ sym (no-branch-not-bad w k (no-branch (class w k) (o.none k (omega arith) h))) ],
    reach-over is_breakable no-breakable v.1,
    reach-over is_loop no_loop v.2,
  )
