-- What `canon_table`'s loop keeps: the words below n are canonical numbers with `_` taken out, those from n on still the first name numbers.
-- Assumes nothing.
use mathlib.Core.Path.{◌≡◌, sym, ◌∙◌}
use mathlib.Core.Bool.{true, false}
use mathlib.Core.List.{List}
use Prim.Native.Nat.{ℕ, ◌+◌, ◌<◌, ◌≤◌}
use native.Mathlib.Omega.{arith}
use native.Mathlib.Decide.{ℕ_discrete}
use lib.ListN.{length, get_or, set, length-set}
use lib.Seq.{get_or-set_same, get_or-set_other}
use Rattle.rules.specs.Names.{count_of_pairs, is_blank}
use Rattle.canonical.specs.First.{first, Numbered}
use Rattle.tables.specs.Canon.{canon, CanonTable}
use Rattle.tables.proofs.Canons.{canon-none, canon-blank, canon-first}

pub record Filling (p b t : List ℕ) (n : ℕ) : Type 0 where
  pub room : count_of_pairs p < length t
  pub from : 0 < n
  pub upto : n ≤ count_of_pairs p + 1
  pub below : (k : ℕ) → k < n → get_or t k 0 ≡ canon p b k
  pub above : (k : ℕ) → n ≤ k → k ≤ count_of_pairs p → get_or t k 0 ≡ first p b k

module _ (p b t : List ℕ) where
  pub filling-start : (s : List ℕ) → Numbered p b s t → count_of_pairs p < length t → Filling p b (set t 0 0) 1
  filling-start s x l = record {
    room = simp length-set (omega arith);
    from = omega arith;
    upto = omega arith;
    below = λ k h. let z : k ≡ 0 = omega arith in rw z (get_or-set_same t 0 0 0 (omega arith) ∙ sym (canon-none p b));
    above = λ k g h. get_or-set_other t 0 k 0 0 (λ e. omega arith) ∙ x.numbers k (omega arith) h;
  }

  module _ (n : ℕ) (x : Filling p b t n) (within : n ≤ count_of_pairs p) where
    pub filling-blank : is_blank p b n ≡ true → Filling p b (set t n 0) (n + 1)
    filling-blank e = record {
      room = simp length-set x.room;
      from = omega arith;
      upto = omega arith;
      below = λ k h. elim (ℕ_discrete k n) [
        | yes i ↦ rw i (get_or-set_same t n 0 0 (omega (arith, x.room)) ∙ sym (canon-blank p b n e))
        | no o ↦ get_or-set_other t n k 0 0 o ∙ x.below k (omega arith)
      ];
      above = λ k g h. get_or-set_other t n k 0 0 (λ i. omega arith) ∙ x.above k (omega arith) h;
    }

    pub filling-kept : is_blank p b n ≡ false → Filling p b t (n + 1)
    filling-kept f = record {
      room = x.room;
      from = omega arith;
      upto = omega arith;
      below = λ k h. elim (ℕ_discrete k n) [
        | yes i ↦ rw i (x.above n (omega arith) within ∙ sym (canon-first p b n x.from f))
        | no o ↦ x.below k (omega arith)
      ];
      above = λ k g h. x.above k (omega arith) h;
    }

  pub filling-end : (n : ℕ) → Filling p b t n → count_of_pairs p < n → CanonTable p b t
  filling-end n x h = record { room = x.room; at_name = λ k l. x.below k (omega arith) }
