-- That the whole input is counted: what was counted and what is left are together as long as the input was, so that nothing is left where the count ends, unless
-- it ended at 2^37 bytes. And that the first bytes and the count give what `marks` prints for the file: an input past the count is refused whatever its length.
-- Assumes nothing.
use mathlib.Core.Path.{◌≡◌, sym, ◌∙◌, ap, subst}
use mathlib.Core.Bool.{Bool, true}
use mathlib.Core.Logic.{◌⊎◌, inl, inr}
use mathlib.Core.List.{List, [], ◌++◌, append-nil}
use Prim.Native.Nat.{ℕ, ◌+◌, ◌≤◌, ◌<◌}
use native.Mathlib.Omega.{arith}
use native.Mathlib.Decide.{dec_lt}
use lib.ListN.{length, get_or, take, length-append}
use lib.Seq.{take_all, take_at}
use borrow.Author.Tests.{ltb-true}
use Rattle.std.proofs.Common.{Option, Some, None, IfSome, Result, Ok, Err, OnOk}
use Rattle.std.specs.Io.KnownBytes.{Consumes, Appends, IsAtEnd}
use Rattle.input.specs.Reads.{uncounted, is_last}
use Rattle.input.proofs.Lengths.{last-counted}
use Rattle.report.specs.Text.{marks_text}
use Rattle.report.specs.Start.{start_text}
use Rattle.report.proofs.Files.{of-whole, uncounted-refused}
use Rattle.filter.specs.Length.{IsLengthOf, IsLength, IsRest}

-- ---- while the input is counted: `before` bytes were read before, n are counted, and `now` is left of what was left then
abbrev pub Counting : ℕ → Option (List ℕ) → Option (List ℕ) → ℕ → Bool → Type 0
Counting before None now n ended = Unit {0}
Counting before (Some xs) None n ended = ⊥
Counting before (Some xs) (Some ys) n ended = (n + length ys ≡ before + length xs) × (ended ≡ true → (ys ≡ []) ⊎ (uncounted ≤ n))

-- a read that is the last found the end, or came to 2^37 bytes
last : (ys : List ℕ) (n got room : ℕ) → (got < room → ys ≡ []) → is_last n (record { got = got; room = room }) ≡ true → (ys ≡ []) ⊎ (uncounted ≤ n)
last ys n got room at_end e = elim (dec_lt n uncounted) [
  | yes l ↦ inl (at_end (ltb-true got room (last-counted n (record { got = got; room = room }) l ∙ e)))
  | no l ↦ inr (omega arith)
]

pub one_more : (before : ℕ) (a b c : Option (List ℕ)) (n m got room : ℕ) (was ended : Bool) (bs : List ℕ) → Counting before a b n was → Consumes b c bs → got ≡ length bs
    → (got < room → IsAtEnd c) → m ≡ n + got → ended ≡ is_last (n + got) (record { got = got; room = room }) → Counting before a c m ended
one_more before None b c n m got room was ended bs h k l at_end e f = tt
one_more before (Some xs) None c n m got room was ended bs h k l at_end e f = absurd h
one_more before (Some xs) (Some ys) None n m got room was ended bs h k l at_end e f = absurd k
one_more before (Some xs) (Some ys) (Some zs) n m got room was ended bs h k l at_end e f =
    let long : length ys ≡ length bs + length zs = ap length k ∙ length-append bs zs in
    (omega (arith, h.0), λ t. subst (λ (i : ℕ). (zs ≡ []) ⊎ (uncounted ≤ i)) (sym e) (last zs (n + got) got room at_end (sym f ∙ t)))

-- ---- the first read: it ends the input where it doesn't fill its room
pub first_ends : (b : Option (List ℕ)) (n got room : ℕ) (ended : Bool) → n < uncounted → (got < room → IsAtEnd b)
    → ended ≡ is_last n (record { got = got; room = room }) → ended ≡ true → IsAtEnd b
first_ends b n got room ended h at_end e t =
    at_end (ltb-true got room (last-counted n (record { got = got; room = room }) h ∙ sym e ∙ t))

-- ---- of a file that begins with these bytes
module _ (start rest : List ℕ) (r : IsRest start rest) where
  first_bytes : take 52012 (start ++ rest) ≡ start
  first_bytes = elim (dec_lt (length start) 52012) [
    | yes l ↦
        let e : start ++ rest ≡ start = ap (λ (k : List ℕ). start ++ k) (r.1 l) ∙ append-nil start in
        ap (take 52012) e ∙ take_all 52012 start r.0
    | no l ↦ take_at start rest 52012 (omega arith)
  ]

  of_first : start_text start (length (start ++ rest)) ≡ marks_text (start ++ rest)
  of_first = ap (λ (s : List ℕ). start_text s (length (start ++ rest))) (sym first_bytes) ∙ of-whole (start ++ rest) 52012 (omega arith)

  pub of_count : (n : ℕ) → ((i : ℕ) → get_or start i 0 < 256) → IsLengthOf (length start) rest n → start_text start n ≡ marks_text (start ++ rest)
  of_count n small h = elim h [
    | inl e ↦ ap (start_text start) (e ∙ sym (length-append start rest)) ∙ of_first
    | inr u ↦
        let long : 137438953472 ≤ length (start ++ rest) = omega (arith, u.0, u.1, length-append start rest) in
        uncounted-refused start small n u.0 ∙ sym (uncounted-refused start small (length (start ++ rest)) long) ∙ of_first
  ]

pub of_input : (a b : Option (List ℕ)) (start text : List ℕ) (before n : ℕ)
    → ((rest : List ℕ) → IsRest start rest → IsLengthOf (length start) rest n → text ≡ marks_text (start ++ rest)) → before ≡ length start → length start ≤ 52012
    → Consumes a b start → (length start < 52012 → IsAtEnd b) → IsLength before b n → IfSome a (λ f. text ≡ marks_text f)
of_input None b start text before n h e most k at_end l = tt
of_input (Some xs) None start text before n h e most k at_end l = absurd k
of_input (Some xs) (Some ys) start text before n h e most k at_end l =
    h ys (most, at_end) (subst (λ (m : ℕ). IsLengthOf m ys n) e l) ∙ ap marks_text (sym k)

-- ---- what is written
pub written : {T E : Type 0} (r : Result T E) (a old new : Option (List ℕ)) (text : List ℕ) → OnOk r (Appends old new text) → IfSome a (λ f. text ≡ marks_text f)
    → OnOk r (IfSome a (λ f. Appends old new (marks_text f)))
written (Ok x) None old new text h e = tt
written (Ok x) (Some f) old new text h e = subst (Appends old new) e h
written (Err x) a old new text h e = tt
