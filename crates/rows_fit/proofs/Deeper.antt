-- A child is at most one deeper than its parent: the rows around it are the parent and rows around the parent, since what begins after the parent, before
-- the child, ends at or before the child.
-- Assumes nothing.
use mathlib.Core.Path.{◌≡◌, refl}
use mathlib.Core.Bool.{Bool}
use mathlib.Core.List.{List}
use Prim.Native.Nat.{ℕ, zero, suc, ◌≤◌, ◌<◌}
use native.Mathlib.Omega.{arith}
use native.Mathlib.Decide.{ℕ_discrete}
use lib.Dec.{ltb}
use borrow.Author.Tests.{lt-ltb, le-ltb, ltb-true}
use Rattle.rules.specs.Scan.{how_many}
use Rattle.rules.specs.Rows.{end, depth}
use Rattle.rules.proofs.Test.{case-of}
use Rattle.rules.proofs.Scan.{how_many-yes, how_many-no, how_many-le}

pub root-depth : (w : List ℕ) → depth w 0 ≡ 1
unfolding depth how_many
root-depth w = refl

-- one number more counts at most one more
one_more : (P : ℕ → Bool) (n : ℕ) → how_many P (suc n) ≤ suc (how_many P n)
one_more P n = case-of (P n) (λ t. omega (arith, how_many-yes P n t)) (λ t. omega (arith, how_many-no P n t))

module _ (w : List ℕ) (r c : ℕ) (h : r < c) where
  -- the rows before n that reach past c, where none after r does
  around : (n : ℕ) → r < n → ((q : ℕ) → r < q → q < n → end w q ≤ c) → how_many (λ p. ltb c (end w p)) n ≤ suc (how_many (λ p. ltb r (end w p)) r)
  around zero l e = absurd (omega arith)
  around (suc m) l e = elim (ℕ_discrete m r) [
    | yes i ↦
        let fewer : how_many (λ p. ltb c (end w p)) r ≤ how_many (λ p. ltb r (end w p)) r =
        how_many-le (λ p. ltb c (end w p)) (λ p. ltb r (end w p)) r (λ k j t. lt-ltb r (end w k) (omega (arith, ltb-true c (end w k) t))) in
        rw i (omega (arith, one_more (λ p. ltb c (end w p)) r))
    | no o ↦
        rw (how_many-no (λ p. ltb c (end w p)) m (le-ltb c (end w m) (e m (omega arith) (omega arith))))
        (around m (omega arith) (λ q a b. e q a (omega arith)))
  ]

  pub deeper : ((q : ℕ) → r < q → q < c → end w q ≤ c) → depth w c ≤ suc (depth w r)
  unfolding depth
  deeper e = omega (arith, around c h e)
