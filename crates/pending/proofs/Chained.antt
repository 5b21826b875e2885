-- A chain of linked rows, taken one row at a time; stores at places in a row put the words that come last first; and the state in the middle of a
-- label's resolving.
-- Assumes nothing.
use mathlib.Core.Path.{◌≡◌, refl, sym, ◌∙◌, ap}
use mathlib.Core.List.{List, [], ◌∷◌, ◌++◌, append-nil}
use Prim.Native.Nat.{ℕ, suc, ◌+◌, ◌-◌, ◌*◌, ◌≤◌, ◌<◌}
use native.Mathlib.Omega.{arith}
use lib.Dec.{ltb}
use lib.ListN.{length, get_or, set, length-set, length-append}
use lib.Seq.{sets, set_comm, length-sets}
use borrow.Author.Tests.{lt-ltb, le-ltb}
use Rattle.rules.specs.Rows.{position, name}
use Rattle.rules.specs.Labels.{Fault}
use Rattle.rules.specs.Calls.{fault_words}
use Rattle.rules.proofs.Test.{case-of}
use Rattle.pending.specs.Chain.{Chain, ended, linked, count_over, over_faults, stored, Counting}
use Rattle.walk_state.proofs.WalkFaults.{words_append, words-length}

-- ---- one row of a chain
pub record Step (links : List ℕ) (list g : ℕ) (gs : List ℕ) (last : ℕ) : Type 0 where
  pub rest : List ℕ
  pub are : gs ≡ (g - 1) ∷ rest
  pub lower : get_or links (g - 1) 0 ≤ g - 1
  pub chain : Chain links list (get_or links (g - 1) 0) rest last

module _ {links : List ℕ} {list : ℕ} where
  pub step : {g last : ℕ} {gs : List ℕ} → Chain links list g gs last → list < g → Step links list g gs last
  step (ended h) l = absurd (omega arith)
  step (linked {g} {last} {gs} h d c) l =
      let e : suc g - 1 ≡ g = omega arith in
      record { rest = gs; are = rw e refl; lower = rw e d; chain = rw e c }

  pub stop : {g last : ℕ} {gs : List ℕ} → Chain links list g gs last → g ≤ list → (gs ≡ []) × (last ≡ g)
  stop (ended h) l = (refl, refl)
  stop (linked h d c) l = absurd (omega arith)

-- of the chain that came in
pub at-counting : {links : List ℕ} {head list : ℕ} {R : List ℕ → ℕ → Type 0} (q : Counting links head list)
    → ((all : List ℕ) (last : ℕ) → Chain links list head all last → R all last) → R q.rows q.last
at-counting q i = i q.rows q.last q.chain

-- ---- stores in a row
pub set-sets : (s ys : List ℕ) (i j x : ℕ) → i < j → set (sets s j ys) i x ≡ sets (set s i x) j ys
set-sets s [] i j x h = refl
set-sets s (y ∷ ys) i j x h =
    set-sets (set s j y) ys i (suc j) x (omega arith) ∙ ap (λ (l : List ℕ). sets l (suc j) ys) (set_comm s j i y x (λ e. omega arith))

pub sets-append : (xs ys s : List ℕ) (i : ℕ) → sets s i (xs ++ ys) ≡ sets (sets s (i + length xs) ys) i xs
sets-append [] ys s i = let e : i + 0 ≡ i = omega arith in rw e
sets-append (x ∷ xs) ys s i =
    let e : i + suc (length xs) ≡ suc i + length xs = omega arith in
    sets-append xs ys (set s i x) (suc i)
    ∙ rw e (ap (λ (l : List ℕ). sets l (suc i) xs) (sym (set-sets s ys i (suc i + length xs) x (omega arith))))

-- ---- counting
module _ (latest g : ℕ) (gs : List ℕ) where
  pub count_over-yes : suc g < latest → count_over latest (g ∷ gs) ≡ suc (count_over latest gs)
  count_over-yes h = rw (lt-ltb (suc g) latest h, count_over)

  pub count_over-no : latest ≤ suc g → count_over latest (g ∷ gs) ≡ count_over latest gs
  count_over-no h = rw (le-ltb (suc g) latest h, count_over)

pub count_over-most : {links : List ℕ} {list g last : ℕ} {gs : List ℕ} (latest : ℕ) → Chain links list g gs last → count_over latest gs ≤ g
count_over-most latest (ended h) = omega arith
count_over-most latest (linked {g} {last} {gs} h d c) = case-of (ltb (suc g) latest)
    (λ t. rw (t, count_over) (omega (arith, count_over-most latest c)))
    (λ t. rw (t, count_over) (omega (arith, count_over-most latest c)))

-- in the middle of the count: the chain's rest, and what was counted of it
pub record Counted (links : List ℕ) (head list latest over g : ℕ) (all : List ℕ) (last : ℕ) : Type 0 where
  pub rest : List ℕ
  pub chain : Chain links list g rest last
  pub low : g ≤ head
  pub count : over + count_over latest rest ≡ count_over latest all

module _ {links : List ℕ} {head list latest : ℕ} {all : List ℕ} {last : ℕ} where
  pub count-few : {over g : ℕ} → Chain links list head all last → Counted links head list latest over g all last → over ≤ head
  count-few c k = omega (arith, count_over-most latest c, k.count)

  pub count_yes : {over g next : ℕ} → Counted links head list latest over g all last → list < g → g < latest → next ≡ get_or links (g - 1) 0
      → Counted links head list latest (over + 1) next all last
  count_yes {over} {g} {next} k l h n =
      let s = step k.chain l in
      let e : count_over latest k.rest ≡ suc (count_over latest s.rest) =
      ap (count_over latest) s.are ∙ count_over-yes latest (g - 1) s.rest (omega arith) in
      rw n (record { rest = s.rest; chain = s.chain; low = omega (arith, s.lower, k.low); count = omega (arith, k.count) })

  pub count_no : {over g next : ℕ} → Counted links head list latest over g all last → list < g → latest ≤ g → next ≡ get_or links (g - 1) 0
      → Counted links head list latest over next all last
  count_no {over} {g} {next} k l h n =
      let s = step k.chain l in
      let e : count_over latest k.rest ≡ count_over latest s.rest = ap (count_over latest) s.are ∙ count_over-no latest (g - 1) s.rest (omega arith) in
      rw n (record { rest = s.rest; chain = s.chain; low = omega (arith, s.lower, k.low); count = omega (arith, k.count) })

  pub count-ends : {over g : ℕ} → Counted links head list latest over g all last → g ≤ list → over ≡ count_over latest all
  count-ends k h = omega (arith, k.count, ap (count_over latest) (stop k.chain h).0)

-- ---- the reports
pub over-faults-length : (w : List ℕ) (latest : ℕ) (gs : List ℕ) → length (over_faults w latest gs) ≡ count_over latest gs
over-faults-length w latest [] = refl
over-faults-length w latest (g ∷ gs) = case-of (ltb (suc g) latest)
    (λ t. rw (t, count_over, over_faults, length-append) (omega (arith, over-faults-length w latest gs)))
    (λ t. rw (t, count_over, over_faults, append-nil) (over-faults-length w latest gs))

pub over-faults-no : (w : List ℕ) (latest g : ℕ) (gs : List ℕ) → latest ≤ suc g → over_faults w latest (g ∷ gs) ≡ over_faults w latest gs
over-faults-no w latest g gs h = rw (le-ltb (suc g) latest h, over_faults, append-nil)

-- the words of a report
abbrev pub words_of_over : List ℕ → ℕ → ℕ → List ℕ
words_of_over w latest g = 3 ∷ position w g ∷ name w g ∷ position w (latest - 1) ∷ []

pub over-faults-yes : (w : List ℕ) (latest g : ℕ) (gs : List ℕ) → suc g < latest
    → fault_words (over_faults w latest (g ∷ gs)) ≡ fault_words (over_faults w latest gs) ++ words_of_over w latest g
over-faults-yes w latest g gs h = rw (lt-ltb (suc g) latest h, over_faults)
    (words_append (over_faults w latest gs) (record { code = 3; position = position w g; name = name w g; other = position w (latest - 1) } ∷ []))

-- the last report first: it stands right before the place `at`, and the others before it
pub over-faults-sets : (w s : List ℕ) (latest g : ℕ) (gs : List ℕ) (start at : ℕ) → suc g < latest → start + suc (count_over latest gs) ≡ at
    → sets s (start * 4) (fault_words (over_faults w latest (g ∷ gs))) ≡ sets (sets s ((at - 1) * 4) (words_of_over w latest g)) (start * 4)
    (fault_words (over_faults w latest gs))
over-faults-sets w s latest g gs start at h e =
    let n : start * 4 + length (fault_words (over_faults w latest gs)) ≡ (at - 1) * 4 =
    omega (arith, words-length (over_faults w latest gs), over-faults-length w latest gs) in
    rw (over-faults-yes w latest g gs h)
    (sets-append (fault_words (over_faults w latest gs)) (words_of_over w latest g) s (start * 4)
    ∙ ap (λ (i : ℕ). sets (sets s i (words_of_over w latest g)) (start * 4) (fault_words (over_faults w latest gs))) n)

-- ---- in the middle of the label's resolving: what is left of the chain would finish what was begun
pub record Resolves (w sheet₀ bindings₀ links sheet bindings : List ℕ) (head list latest end v at g : ℕ) (all : List ℕ) (last : ℕ) : Type 0 where
  pub rest : List ℕ
  pub chain : Chain links list g rest last
  pub low : g ≤ head
  pub under : at ≤ end
  pub count : at + count_over latest all ≡ end + count_over latest rest
  pub same-sheet : length sheet ≡ length sheet₀
  pub same-bindings : length bindings ≡ length bindings₀
  pub bound : stored bindings rest v ≡ stored bindings₀ all v
  pub reported : (start : ℕ) → start + count_over latest rest ≡ at
      → sets sheet (start * 4) (fault_words (over_faults w latest rest)) ≡ sets sheet₀ (start * 4) (fault_words (over_faults w latest all))

module _ {w sheet₀ bindings₀ links : List ℕ} {head list latest end v : ℕ} {all : List ℕ} {last : ℕ} where
  module _ {sheet bindings : List ℕ} {at g : ℕ} (k : Resolves w sheet₀ bindings₀ links sheet bindings head list latest end v at g all last) where
    -- a row to report is left to report
    pub resolve-some : count_over latest all ≤ end → list < g → g < latest → 0 < at
    resolve-some few l h =
        let s = step k.chain l in
        let e : count_over latest k.rest ≡ suc (count_over latest s.rest) =
        ap (count_over latest) s.are ∙ count_over-yes latest (g - 1) s.rest (omega arith) in
        omega (arith, k.count)

    pub resolve-lower : list < g → get_or links (g - 1) 0 < g
    resolve-lower l = omega (arith, (step k.chain l).lower)

    stored-step : (rest : List ℕ) → k.rest ≡ (g - 1) ∷ rest → stored (set bindings (g - 1) v) rest v ≡ stored bindings₀ all v
    stored-step rest e = rw (← k.bound, e)

    pub resolve-yes : {next : ℕ} → list < g → g < latest → 0 < at → next ≡ get_or links (g - 1) 0
        → Resolves w sheet₀ bindings₀ links (sets sheet ((at - 1) * 4) (words_of_over w latest (g - 1))) (set bindings (g - 1) v) head list latest end v
        (at - 1) next all last
    resolve-yes l h z n =
        let s = step k.chain l in
        let e : count_over latest k.rest ≡ suc (count_over latest s.rest) =
        ap (count_over latest) s.are ∙ count_over-yes latest (g - 1) s.rest (omega arith) in
        rw n (record {
          rest = s.rest;
          chain = s.chain;
          low = omega (arith, s.lower, k.low);
          under = omega (arith, k.under);
          count = omega (arith, k.count);
          same-sheet = length-sets sheet ((at - 1) * 4) (words_of_over w latest (g - 1)) ∙ k.same-sheet;
          same-bindings = length-set bindings (g - 1) v ∙ k.same-bindings;
          bound = stored-step s.rest s.are;
          reported = λ start f.
              sym (over-faults-sets w sheet latest (g - 1) s.rest start at (omega arith) (omega arith))
              ∙ ap (λ (gs : List ℕ). sets sheet (start * 4) (fault_words (over_faults w latest gs))) (sym s.are)
              ∙ k.reported start (omega arith);
        })

    -- the same with the words as they were put
    pub resolve-put : {next other : ℕ} {s : List ℕ} → list < g → g < latest → 0 < at → next ≡ get_or links (g - 1) 0 → other ≡ position w (latest - 1)
        → s ≡ sets sheet ((at - 1) * 4) (3 ∷ position w (g - 1) ∷ name w (g - 1) ∷ other ∷ [])
        → Resolves w sheet₀ bindings₀ links s (set bindings (g - 1) v) head list latest end v (at - 1) next all last
    resolve-put l h z n o e = rw (e, o) (resolve-yes l h z n)

    pub resolve-no : {next : ℕ} → list < g → latest ≤ g → next ≡ get_or links (g - 1) 0
        → Resolves w sheet₀ bindings₀ links sheet (set bindings (g - 1) v) head list latest end v at next all last
    resolve-no l h n =
        let s = step k.chain l in
        let e : count_over latest k.rest ≡ count_over latest s.rest =
        ap (count_over latest) s.are ∙ count_over-no latest (g - 1) s.rest (omega arith) in
        rw n (record {
          rest = s.rest;
          chain = s.chain;
          low = omega (arith, s.lower, k.low);
          under = k.under;
          count = omega (arith, k.count);
          same-sheet = k.same-sheet;
          same-bindings = length-set bindings (g - 1) v ∙ k.same-bindings;
          bound = stored-step s.rest s.are;
          reported = λ start f.
              ap (λ (fs : List Fault). sets sheet (start * 4) (fault_words fs)) (sym (over-faults-no w latest (g - 1) s.rest (omega arith)))
              ∙ ap (λ (gs : List ℕ). sets sheet (start * 4) (fault_words (over_faults w latest gs))) (sym s.are)
              ∙ k.reported start (omega arith);
        })

    pub resolve-ends : g ≤ list → (g ≡ last) × (bindings ≡ stored bindings₀ all v)
        × ((start : ℕ) → start + count_over latest all ≡ end → sheet ≡ sets sheet₀ (start * 4) (fault_words (over_faults w latest all)))
    resolve-ends h =
        let (e, f) = stop k.chain h in
        let none : count_over latest k.rest ≡ 0 = ap (count_over latest) e in (
          sym f,
          sym (ap (λ (gs : List ℕ). stored bindings gs v) e) ∙ k.bound,
          λ start i.
              sym (ap (λ (gs : List ℕ). sets sheet (start * 4) (fault_words (over_faults w latest gs))) e) ∙ k.reported start (omega (arith, k.count)),
        )
