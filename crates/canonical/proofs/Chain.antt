-- The names of a slot, from the latest to the earliest. A name that is left out belongs to another slot, so it has another hash and other bytes;
-- so where no name of the slot has the bytes of the next name, no earlier name has them.
-- Assumes nothing.
use mathlib.Core.Path.{◌≡◌, sym, ◌∙◌, ap}
use mathlib.Core.Bool.{Bool, true, false}
use mathlib.Core.List.{List}
use Prim.Native.Nat.{ℕ, suc, ◌+◌, ◌<◌, ◌≤◌}
use native.Mathlib.Omega.{arith}
use native.Mathlib.Decide.{ℕ_discrete, dec_lt}
use native.Mathlib.Numerals.{add-one}
use lib.ListN.{get_or}
use borrow.Author.Tests.{eqb-true, eqb-false}
use Rattle.rules.specs.Scan.{highest}
use Rattle.rules.specs.Names.{count_of_pairs, same_name}
use Rattle.rules.specs.Labels.{word}
use Rattle.rules.proofs.Test.{case-found}
use Rattle.rules.proofs.Scan.{highest-found, highest-last, highest-none}
use Rattle.rules.proofs.RowNames.{same_bytes_lem}
use Rattle.canonical.specs.First.{first}
use Rattle.canonical.specs.Hash.{hash, slot_of}
use Rattle.canonical.specs.Linked.{hash_at, in_slot, Linked}
use Rattle.canonical.proofs.Firsts.{same_first, other_name, first-new}

-- m is the latest name of the slot s among the first k, and no name after those has the bytes of the name after the first n
pub record Chain (p b : List ℕ) (slots s n m : ℕ) : Type 0 where
  pub k : ℕ
  pub within : k ≤ n
  pub most : m ≤ n
  pub latest : m ≡ word (highest (in_slot p b slots s) k)
  pub passed : (i : ℕ) → k ≤ i → i < n → same_name p b (suc i) (suc n) ≡ false

-- what stands at a name of the chain
record Stop (p b : List ℕ) (slots s m k : ℕ) : Type 0 where
  pub j : ℕ
  pub name : m ≡ suc j
  pub before : j < k
  pub slot : slot_of slots (hash_at p b j) ≡ s
  pub between : (i : ℕ) → j < i → i < k → slot_of slots (hash_at p b i) ≡ s → ⊥

-- the word of the highest below j is j at most
word-within : (P : ℕ → Bool) (j : ℕ) → word (highest P j) ≤ j
word-within P j = case-found (highest P j) (λ i f. rw f (omega (arith, (highest-found P j i f).0))) (λ f. rw f (omega arith))

module _ (p b : List ℕ) (slots s n : ℕ) where
  -- other hash, other bytes
  other-hash : (i : ℕ) → (hash_at p b i ≡ hash_at p b n → ⊥) → same_name p b (suc i) (suc n) ≡ false
  other-hash i f = other_name p b (suc i) (suc n) (λ e. f (ap hash e))

  pub chain-start : (m : ℕ) → m ≡ word (highest (in_slot p b slots s) n) → Chain p b slots s n m
  chain-start m e =
      record { k = n; within = omega arith; most = omega (arith, e, word-within (in_slot p b slots s) n); latest = e; passed = λ i l h. absurd (omega arith) }

  stop : (m k : ℕ) → m ≡ word (highest (in_slot p b slots s) k) → 0 < m → Stop p b slots s m k
  stop m k e z = case-found (highest (in_slot p b slots s) k)
      (λ j f.
      let g = highest-found (in_slot p b slots s) k j f in
      record {
        j = j;
        name = e ∙ ap word f;
        before = g.0;
        slot = eqb-true (slot_of slots (hash_at p b j)) s g.1;
        between = λ i l h. eqb-false (slot_of slots (hash_at p b i)) s (highest-last (in_slot p b slots s) k j i f l h);
      })
      (λ f. absurd (omega (arith, e ∙ ap word f)))

  module _ (heads next-in-slot keys numbers : List ℕ) (lk : Linked p b slots n heads next-in-slot keys numbers) (m : ℕ) (c : Chain p b slots s n m) where
    -- ---- at a name
    module _ (z : 0 < m) where
      at : Stop p b slots s m c.k
      at = stop m c.k c.latest z

      at-below : at.j < n
      at-below = omega (arith, at.before, c.within)

      pub chain-falls : get_or next-in-slot m 0 < m
      chain-falls = omega (
        arith,
        at.name,
        ap (λ (x : ℕ). get_or next-in-slot x 0) at.name ∙ lk.next_at at.j at-below,
        word-within (in_slot p b slots (slot_of slots (hash_at p b at.j))) at.j,
      )

      -- the name has the bytes: its canonical number is the one sought
      pub chain-found : (t : Bool) → t ≡ same_name p b m (n + 1) → t ≡ true → get_or numbers m 0 ≡ first p b (suc n)
      chain-found t d u =
          let e = same_bytes_lem p b m (suc n) (rw add-one at (sym d ∙ u)) in
          ap (λ (x : ℕ). get_or numbers x 0) at.name ∙ lk.first_at at.j at-below ∙ ap (first p b) (sym at.name) ∙ same_first p b m (suc n) e

      -- the name has other bytes: on to the one before it
      module _ (key : ℕ) (hashed : key ≡ hash_at p b n) (own : s ≡ slot_of slots key) where
        onward : same_name p b m (suc n) ≡ false → Chain p b slots s n (get_or next-in-slot m 0)
        onward f =
            let q = at in
            let h = at-below in
            let g : same_name p b (suc q.j) (suc n) ≡ false = ap (λ (x : ℕ). same_name p b x (suc n)) (sym q.name) ∙ f in
            record {
              k = q.j;
              within = omega arith;
              most = omega (arith, chain-falls, c.most);
              latest = ap (λ (x : ℕ). get_or next-in-slot x 0) q.name ∙ lk.next_at q.j h
                  ∙ ap (λ (x : ℕ). word (highest (in_slot p b slots x) q.j)) q.slot;
              passed = λ i l y. elim (ℕ_discrete i q.j) [
                | yes e ↦ rw e g
                | no o ↦
                    elim (dec_lt i c.k) [
                      | yes r ↦ other-hash i (λ e. q.between i (omega arith) r (ap (slot_of slots) (e ∙ sym hashed) ∙ sym own))
                      | no r ↦ c.passed i (omega arith) y
                    ]
              ];
            }

        pub chain_next : (t : Bool) → t ≡ same_name p b m (n + 1) → t ≡ false → Chain p b slots s n (get_or next-in-slot m 0)
        chain_next t d f = onward (rw add-one at (sym d ∙ f))

        pub chain-other : (get_or keys m 0 ≡ key → ⊥) → Chain p b slots s n (get_or next-in-slot m 0)
        chain-other f =
            let q = at in
            let h = at-below in
            onward (rw q.name (other-hash q.j (λ g. f (ap (λ (x : ℕ). get_or keys x 0) q.name ∙ lk.key_at q.j h ∙ g ∙ sym hashed))))

    -- ---- past the earliest
    pub chain-end : (key : ℕ) → key ≡ hash_at p b n → s ≡ slot_of slots key → n < count_of_pairs p → m ≡ 0 → n + 1 ≡ first p b (suc n)
    chain-end key hashed own h z = add-one n ∙ sym (first-new p b n h none-same)
      where
        none-same : (i : ℕ) → i < n → same_name p b (suc i) (suc n) ≡ false
        none-same i l = elim (dec_lt i c.k) [
          | yes r ↦ case-found (highest (in_slot p b slots s) c.k)
              (λ j f. absurd (omega (arith, c.latest ∙ ap word f)))
              (λ f. other-hash i (λ e.
              eqb-false (slot_of slots (hash_at p b i)) s (highest-none (in_slot p b slots s) c.k i f r) (ap (slot_of slots) (e ∙ sym hashed) ∙ sym own)))
          | no r ↦ c.passed i (omega arith) l
        ]
