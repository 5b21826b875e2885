-- When a read is the last, and the length that the reads give: an input whose reads are all full but the last has as many bytes as the reads gave together,
-- whatever comes after the last. Then on small reads.
-- Assumes nothing.
use mathlib.Core.Path.{◌≡◌, refl, sym, ◌∙◌}
use mathlib.Core.Bool.{Bool, true, false, ◌||◌}
use mathlib.Core.List.{List, [], ◌∷◌, ◌++◌}
use Prim.Native.Nat.{ℕ, suc, ◌+◌, ◌-◌, ◌≤◌, ◌<◌}
use native.Mathlib.Omega.{arith}
use lib.Dec.{ltb, leb}
use borrow.Author.Tests.{lt-ltb, le-ltb, ltb-false, lt-leb, leb-false}
use Rattle.rules.proofs.Test.{clash, or-false}
use Rattle.input.specs.Reads.{uncounted, Read, is_last, length_of}

or-none : (a : Bool) → a || false ≡ a
or-none true = refl
or-none false = refl

-- ---- the last read
module _ (n : ℕ) (r : Read) where
  pub last-counted : n < uncounted → ltb r.got r.room ≡ is_last n r
  unfolding is_last
  last-counted h = rw (lt-leb uncounted n h, is_last) (sym (or-none (ltb r.got r.room)))

  pub not_last : is_last n r ≡ false → n < uncounted
  unfolding is_last
  not_last e = leb-false uncounted n (or-false (ltb r.got r.room) (leb uncounted n) e).1

  pub filled : is_last n r ≡ false → r.room ≤ r.got
  unfolding is_last
  filled e = ltb-false r.got r.room (or-false (ltb r.got r.room) (leb uncounted n) e).0

-- ---- a loop of reads ends: what is left to count falls with each read that isn't the last
abbrev pub left_to_count : ℕ → Bool → ℕ
left_to_count n ended = elim ended [ true ↦ 0 | false ↦ suc (uncounted - n) ]

pub less-left : (n m got room : ℕ) (was ended : Bool) → was ≡ false → n < uncounted → 0 < room → m ≡ n + got
    → ended ≡ is_last (n + got) (record { got = got; room = room }) → left_to_count m ended < left_to_count n was
less-left n m got room true ended z h l e f = absurd (clash (cc))
less-left n m got room false true z h l e f = omega arith
less-left n m got room false false z h l e f =
    let a = not_last (n + got) (record { got = got; room = room }) (sym f) in
    let b = filled (n + got) (record { got = got; room = room }) (sym f) in
    omega arith

-- ---- the length
abbrev sum : List Read → ℕ
sum [] = 0
sum (r ∷ rs) = r.got + sum rs

-- each read filled its room
abbrev AllFull : List Read → Type 0
AllFull [] = Unit {0}
AllFull (r ∷ rs) = (r.got ≡ r.room) × AllFull rs

pub all_read : (rs after : List Read) (r : Read) (before : ℕ) → AllFull rs → r.got < r.room → before + (sum rs + r.got) < uncounted
    → length_of before (rs ++ r ∷ after) ≡ before + (sum rs + r.got)
unfolding length_of
all_read [] after r before full short h =
    let l : is_last (before + r.got) r ≡ true = sym (last-counted (before + r.got) r (omega arith)) ∙ lt-ltb r.got r.room short in
    rw (l, length_of) (omega arith)
all_read (q ∷ rs) after r before full short h =
    let l : is_last (before + q.got) q ≡ false = sym (last-counted (before + q.got) q (omega arith)) ∙ le-ltb q.got q.room (omega (arith, full.0)) in
    rw (l, length_of) (all_read rs after r (before + q.got) full.1 short (omega arith) ∙ omega arith)

-- ---- on reads: 3 and 4 bytes that fill their room, then 2 of 4, and what would come after; then an input that ends where a piece does
abbrev read : ℕ → ℕ → Read
read got room = record { got = got; room = room }

pub three-reads : (length_of 0 (read 3 3 ∷ read 4 4 ∷ read 2 4 ∷ read 4 4 ∷ []) ≡ 9) × (length_of 0 (read 3 3 ∷ read 0 4 ∷ []) ≡ 3)
unfolding length_of is_last
three-reads = (refl, refl)

-- the same by the law
three-read : length_of 0 (read 3 3 ∷ read 4 4 ∷ read 2 4 ∷ read 4 4 ∷ []) ≡ 9
three-read = all_read (read 3 3 ∷ read 4 4 ∷ []) (read 4 4 ∷ []) (read 2 4) 0 (refl, (refl, tt)) (omega arith) (omega arith)
