-- A row badly placed is one of the body's rows, so that 1 more fits a word; so is a row that a walk comes to, and 2 more fits. A name's part is told by
-- its pair.
-- Assumes nothing.
use mathlib.Core.Path.{◌≡◌, refl, sym, ◌∙◌, ap}
use mathlib.Core.Bool.{Bool, true, false, ◌&&◌}
use mathlib.Core.List.{List, [], ◌∷◌}
use mathlib.Core.Option.{Option, none, some}
use Prim.Native.Nat.{ℕ, ◌+◌, ◌-◌, ◌≤◌, ◌<◌}
use native.Mathlib.Omega.{arith}
use lib.Dec.{ltb, leb}
use lib.ListN.{length, take, drop}
use borrow.Author.Tests.{ltb-true, lt-ltb, leb-true, le-leb, lt-leb}
use Rattle.rules.specs.Rows.{row_count}
use Rattle.rules.specs.Names.{count_of_pairs, offset, len, names_ok, name_bytes}
use Rattle.rules.specs.Refusals.{refusal}
use Rattle.rules.specs.Placing.{badly_placed, placing}
use Rattle.rules.specs.Calls.{Answer, refused, answered, label_call, placing_call, verdict_call}
use Rattle.rules.specs.Runner.{State, at, stopped, brace}
use Rattle.rules.specs.Walking.{Walked, place_word, walk_call, Inside, Faultless}
use Rattle.rules.proofs.Computed.{computed}
use Rattle.rules.proofs.Facts.{body}
use Rattle.rules.proofs.Pairs.{ok-pair}
use Rattle.rules.proofs.Scan.{lowest-found}
use Rattle.rules.proofs.Test.{case-of, clash, and-true}
use Rattle.rules.proofs.Walking.{place_inside}
use Rattle.marking.specs.Marks.{together, marks_call}
use Rattle.exports.specs.Told.{placed_word, told_name}

abbrev pub first : ℕ × ℕ → ℕ
first x = x.0

abbrev pub second : ℕ × ℕ → ℕ
second x = x.1

-- ---- the row badly placed
abbrev is_answered : Answer (Option ℕ) → ℕ
is_answered (refused n i) = 0
is_answered (answered a) = 1

abbrev value : Answer (Option ℕ) → Option ℕ
value (refused n i) = none
value (answered o) = o

placed_row : (w p b : List ℕ) (r : ℕ) (o : Option (ℕ × ℕ)) → refusal w p b ≡ o → answered (some r) ≡ placing_call w p b → r < 2000
unfolding placing_call placing
placed_row w p b r (some x) e f =
    let g : answered (some r) ≡ refused x.0 x.1 = f ∙ rw (e, placing_call) in
    absurd (clash (sym (ap is_answered g)))
placed_row w p b r none e f =
    let g : answered (some r) ≡ answered (placing w) = f ∙ rw (e, placing_call) in
    let h = lowest-found (badly_placed w) (row_count w) r (sym (ap value g)) in
    omega (arith, h.0, (body w p b e).root_size, (body w p b e).most_rows)

pub small_row : (w p b : List ℕ) (r : ℕ) → answered (some r) ≡ placing_call w p b → r < 2000
small_row w p b r = placed_row w p b r (refusal w p b) refl

pub small_word : (w p b : List ℕ) (o : Option ℕ) → answered o ≡ placing_call w p b → placed_word o ≤ 2000
small_word w p b none e = omega arith
small_word w p b (some r) e = omega (arith, small_row w p b r e)

-- ---- the marks
-- an answer of the three together has that of the placing call in it
abbrev placing_of : Answer (ℕ × Option ℕ × Bool) → Answer (Option ℕ)
placing_of (refused n i) = refused n i
placing_of (answered m) = answered m.1

abbrev is_whole : Answer (ℕ × Option ℕ × Bool) → ℕ
is_whole (refused n i) = 0
is_whole (answered m) = 1

together-placing : (a : Answer ℕ) (x : Answer (Option ℕ)) (y : Answer Bool) (m : ℕ × Option ℕ × Bool) → answered m ≡ together a x y → answered m.1 ≡ x
together-placing (refused n i) x y m e = absurd (clash (sym (ap is_whole e)))
together-placing (answered c) (refused n i) y m e = absurd (clash (sym (ap is_whole e)))
together-placing (answered c) (answered o) (refused n i) m e = absurd (clash (sym (ap is_whole e)))
together-placing (answered c) (answered o) (answered v) m e = ap placing_of e

pub marks-small : (w p b s t : List ℕ) (m : ℕ × Option ℕ × Bool) → answered m ≡ marks_call w p b s t → placed_word m.1 ≤ 2000
unfolding marks_call
marks-small w p b s t m e = small_word w p b m.1 (together-placing (label_call w p b s t).answer (placing_call w p b) (verdict_call w p b) m e)

-- ---- the walk
-- the place is inside the body, so that 2 more than its row fits a word
small-place : (w p b : List ℕ) → Faultless w p b → (s : State) → Inside w s → place_word s ≤ 2001
small-place w p b g (at r) i = omega (arith, i.0, (body w p b g.well_formed).most_rows)
small-place w p b g stopped i = omega arith
small-place w p b g brace i = omega arith

pub walk-small : (w p b cs : List ℕ) (n : ℕ) (x : Walked) → answered x ≡ walk_call w p b cs n → place_word x.place ≤ 2001
walk-small w p b cs n x e = let (g, i) = place_inside w p b cs n x (sym e) in small-place w p b g x.place i

-- ---- a name's part

module _ (p b : List ℕ) (n : ℕ) where
  -- is there such a name?
  abbrev is_name : Bool
  is_name = names_ok p b && (ltb 0 n && leb n (count_of_pairs p))

  named : is_name ≡ true → told_name p b n ≡ (offset p (n - 1), len p (n - 1))
  unfolding told_name
  named t = rw (t, told_name)

  unnamed : is_name ≡ false → told_name p b n ≡ (0, 0)
  unfolding told_name
  unnamed t = rw (t, told_name)

  -- the code's tests, one by one
  pub told-refused : names_ok p b ≡ false → told_name p b n ≡ (0, 0)
  told-refused e = unnamed (rw e)

  pub told-zero : n ≡ 0 → told_name p b n ≡ (0, 0)
  told-zero e = unnamed (case-of (names_ok p b) (λ t. rw (t, e)) (λ t. rw t))

  pub told-past : count_of_pairs p < n → told_name p b n ≡ (0, 0)
  told-past h = unnamed (case-of (names_ok p b) (λ t. rw (t, lt-ltb 0 n (omega arith), lt-leb n (count_of_pairs p) h)) (λ t. rw t))

  pub told-pair : names_ok p b ≡ true → (n ≡ 0 → ⊥) → n ≤ count_of_pairs p → told_name p b n ≡ (offset p (n - 1), len p (n - 1))
  told-pair ok z h = named (rw (ok, lt-ltb 0 n (omega arith), le-leb n (count_of_pairs p) h))

  -- ---- what is told is the name's bytes, inside the bytes lent
  pub told_part : take (told_name p b n).1 (drop (told_name p b n).0 b) ≡ name_bytes p b n
  unfolding name_bytes
  told_part = case-of is_name (λ t. rw (named t, t, name_bytes)) (λ t. rw (unnamed t, t, name_bytes))

  pub told-within : (told_name p b n).0 + (told_name p b n).1 ≤ length b
  told-within = case-of is_name
      (λ t.
      let x = and-true (names_ok p b) (ltb 0 n && leb n (count_of_pairs p)) t in
      let y = and-true (ltb 0 n) (leb n (count_of_pairs p)) x.1 in
      rw (named t) (ok-pair p b x.0 (n - 1) (omega (arith, ltb-true 0 n y.0, leb-true n (count_of_pairs p) y.1))).within)
      (λ t. rw (unnamed t) (omega arith))

-- ---- on names: the bytes LM with the pairs of L (1) and M (2); number 3 is none
abbrev lm : List ℕ
lm = 76 ∷ 77 ∷ []

abbrev lm-pairs : List ℕ
lm-pairs = 0 ∷ 1 ∷ 1 ∷ 1 ∷ []

second-name : (take (told_name lm-pairs lm 2).1 (drop (told_name lm-pairs lm 2).0 lm) ≡ 77 ∷ [])
    × (take (told_name lm-pairs lm 3).1 (drop (told_name lm-pairs lm 3).0 lm) ≡ [])
unfolding computed name_bytes
second-name = (told_part lm-pairs lm 2, told_part lm-pairs lm 3)

second-within : (told_name lm-pairs lm 2).0 + (told_name lm-pairs lm 2).1 ≤ 2
second-within = told-within lm-pairs lm 2
