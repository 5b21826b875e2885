-- The tables while the names are numbered in order. The next name becomes the latest of its slot and is linked to the one that was; in other slots
-- the latest stays, since the name isn't theirs. The words of the names numbered before are not written again.
-- Assumes nothing.
use mathlib.Core.Path.{◌≡◌, refl, sym, ◌∙◌, ap}
use mathlib.Core.Bool.{true}
use mathlib.Core.List.{List}
use Prim.Native.Nat.{ℕ, suc, ◌+◌, ◌<◌, ◌≤◌}
use Rattle.std.proofs.lemmas.Nat.{mod_below}
use native.Mathlib.Omega.{arith}
use native.Mathlib.Decide.{ℕ_discrete}
use native.Mathlib.Numerals.{add-one}
use lib.ListN.{length, get_or, set, replicate, length-set, length-replicate}
use lib.Seq.{get_or-set_same, get_or-set_other}
use borrow.Author.Tests.{eq-eqb, ne_eqb}
use Rattle.rules.specs.Scan.{highest}
use Rattle.rules.specs.Names.{count_of_pairs, names_ok, name_bytes}
use Rattle.rules.specs.Labels.{word}
use Rattle.rules.proofs.Scan.{highest-yes, highest-no}
use Rattle.rules.proofs.Pairs.{name-words, ok-words}
use Rattle.canonical.proofs.Zeros.{zeros-at}
use Rattle.canonical.specs.First.{first}
use Rattle.canonical.specs.Hash.{hash, slot_of}
use Rattle.canonical.specs.Linked.{hash_at, in_slot, Linked}

-- what holds of the words of the first n names, and of the word written for the next, holds of the words of both
stored : (Q : ℕ → ℕ → Type 0) (l : List ℕ) (n v : ℕ) → suc n < length l → ((i : ℕ) → i < n → Q i (get_or l (suc i) 0)) → Q n v
    → (i : ℕ) → i < suc n → Q i (get_or (set l (suc n) v) (suc i) 0)
stored Q l n v h f q i m = elim (ℕ_discrete i n) [
  | yes e ↦ rw (e, get_or-set_same l (suc n) v 0 h) q
  | no o ↦ rw (get_or-set_other l (suc n) (suc i) v 0 (λ e. o (omega arith))) (f i (omega arith))
]

-- the tables h, x, k and the numbers f once the first n names are numbered; the numbers were g
pub record Numbering (p b g : List ℕ) (slots room n : ℕ) (h x k f : List ℕ) : Type 0 where
  pub heads-length : length h ≡ slots
  pub next-in-slot-length : length x ≡ room
  pub keys_length : length k ≡ room
  pub linked : Linked p b slots n h x k f
  pub none : get_or f 0 0 ≡ get_or g 0 0
  pub kept : (i : ℕ) → n < i → get_or f i 0 ≡ get_or g i 0

-- the numbers of names are small
pub number_small : (p b : List ℕ) → names_ok p b ≡ true → count_of_pairs p ≤ 500
number_small p b t = (name-words p b (ok-words p b t)).pairs

-- the hash of the next name, whose bytes are these
pub key-hash : (p b bytes : List ℕ) (n key : ℕ) → bytes ≡ name_bytes p b (n + 1) → key ≡ hash bytes → key ≡ hash_at p b n
key-hash p b bytes n key e f = f ∙ ap hash e ∙ ap (λ (m : ℕ). hash (name_bytes p b m)) (add-one n)

pub numbering_start : (p b g : List ℕ) (slots room : ℕ) → Numbering p b g slots room 0 (replicate slots 0) (replicate room 0) (replicate room 0) g
unfolding highest
numbering_start p b g slots room = record {
  heads-length = length-replicate slots 0;
  next-in-slot-length = length-replicate room 0;
  keys_length = length-replicate room 0;
  linked =
      record {
        upto = omega arith;
        head_at = λ i l. zeros-at slots i;
        next_at = λ i l. absurd (omega arith);
        key_at = λ i l. absurd (omega arith);
        first_at = λ i l. absurd (omega arith);
      };
  none = refl;
  kept = λ i l. refl;
}

-- the next name, which has this hash and this canonical number
module _ (p b g : List ℕ) (slots room n : ℕ) (h x k f : List ℕ) (r : Numbering p b g slots room n h x k f) (h< : n < count_of_pairs p) (key number : ℕ) (hashed : key ≡ hash_at p b n) (numbered : number ≡ first p b (suc n))
    (some_slots : 0 < slots) (fits : n + 1 < room) (numbers-fit : n + 1 < length f) where
  own-slot : slot_of slots (hash_at p b n) ≡ slot_of slots key
  own-slot = ap (slot_of slots) (sym hashed)

  heads-next : (i : ℕ) → i < slots → get_or (set h (slot_of slots key) (suc n)) i 0 ≡ word (highest (in_slot p b slots i) (suc n))
  heads-next i l = elim (ℕ_discrete i (slot_of slots key)) [
    | yes e ↦
        rw (
          e,
          get_or-set_same h (slot_of slots key) (suc n) 0 (omega (arith, mod_below key slots some_slots)),
          highest-yes (in_slot p b slots (slot_of slots key)) n (eq-eqb (slot_of slots (hash_at p b n)) (slot_of slots key) own-slot),
        )
    | no o ↦
        rw (
          get_or-set_other h (slot_of slots key) i (suc n) 0 o,
          highest-no (in_slot p b slots i) n (ne_eqb (slot_of slots (hash_at p b n)) i (λ e. o (sym e ∙ own-slot))),
        ) (r.linked.head_at i l)
  ]

  linked-next : Linked p b slots (suc n) (set h (slot_of slots key) (suc n)) (set x (suc n) (get_or h (slot_of slots key) 0)) (set k (suc n) key)
      (set f (suc n) number)
  linked-next = record {
    upto = omega arith;
    head_at = heads-next;
    next_at = stored (λ i v. v ≡ word (highest (in_slot p b slots (slot_of slots (hash_at p b i))) i)) x n (get_or h (slot_of slots key) 0)
        (omega arith) r.linked.next_at
        (r.linked.head_at (slot_of slots key) (mod_below key slots some_slots) ∙ ap (λ (z : ℕ). word (highest (in_slot p b slots z) n)) (sym own-slot));
    key_at = stored (λ i v. v ≡ hash_at p b i) k n key (omega arith) r.linked.key_at hashed;
    first_at = stored (λ i v. v ≡ first p b (suc i)) f n number (omega arith) r.linked.first_at numbered;
  }

  next : Numbering p b g slots room (suc n) (set h (slot_of slots key) (suc n)) (set x (suc n) (get_or h (slot_of slots key) 0)) (set k (suc n) key)
      (set f (suc n) number)
  next = record {
    heads-length = length-set h (slot_of slots key) (suc n) ∙ r.heads-length;
    next-in-slot-length = length-set x (suc n) (get_or h (slot_of slots key) 0) ∙ r.next-in-slot-length;
    keys_length = length-set k (suc n) key ∙ r.keys_length;
    linked = linked-next;
    none = get_or-set_other f (suc n) 0 number 0 (λ e. omega arith) ∙ r.none;
    kept = λ i l. get_or-set_other f (suc n) i number 0 (λ e. omega arith) ∙ r.kept i (omega arith);
  }

  pub numbering-next : Numbering p b g slots room (n + 1) (set h (slot_of slots key) (n + 1)) (set x (n + 1) (get_or h (slot_of slots key) 0)) (set k (n + 1) key)
      (set f (n + 1) number)
  numbering-next = rw add-one next
