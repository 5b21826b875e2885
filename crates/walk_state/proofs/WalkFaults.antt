-- The sheet of the walk: what the rows before x have reported, as words, four a fault; a fault put behind them is one fault more, and what is past it stays.
-- Assumes nothing.
use mathlib.Core.Path.{◌≡◌, refl, sym, ◌∙◌, ap}
use mathlib.Core.List.{List, [], ◌∷◌, ◌++◌, append-nil}
use Prim.Native.Nat.{ℕ, suc, ◌+◌, ◌*◌, ◌-◌, ◌≤◌}
use native.Mathlib.Omega.{arith}
use lib.ListN.{length, take, drop, length-append}
use lib.Seq.{sets, sets-eq, length-sets, take_at, drop_at, drop-drop, length-take-le}
use Rattle.rules.specs.Labels.{Fault, report}
use Rattle.rules.specs.Calls.{fault_words}
use Rattle.rules.proofs.Each.{each-zero, each-suc}
use Rattle.walk_state.specs.Walk.{faults_at}

module _ (w p b : List ℕ) where
  pub faults-zero : faults_at w p b 0 ≡ []
  unfolding faults_at
  faults-zero = each-zero (report w p b)

  pub faults-suc : (x : ℕ) → faults_at w p b (suc x) ≡ faults_at w p b x ++ report w p b x
  unfolding faults_at
  faults-suc x = each-suc (report w p b) x

  -- a row that reports nothing, and one that reports one fault
  pub faults-none : (x : ℕ) → report w p b x ≡ [] → faults_at w p b (suc x) ≡ faults_at w p b x
  faults-none x e = rw (faults-suc x, e) (append-nil (faults_at w p b x))

  pub faults-one : (x : ℕ) (f : Fault) → report w p b x ≡ f ∷ [] → faults_at w p b (suc x) ≡ faults_at w p b x ++ f ∷ []
  faults-one x f e = rw (faults-suc x, e)

-- ---- what is past more words
pub drop-further : (m n : ℕ) (s t : List ℕ) → m ≤ n → drop m s ≡ drop m t → drop n s ≡ drop n t
drop-further m n s t h e =
    let i : m + (n - m) ≡ n = omega arith in
    ap (λ (k : ℕ). drop k s) (sym i) ∙ sym (drop-drop (n - m) m s) ∙ ap (drop (n - m)) e ∙ drop-drop (n - m) m t ∙ ap (λ (k : ℕ). drop k t) i

-- ---- the words of faults
pub words_append : (xs ys : List Fault) → fault_words (xs ++ ys) ≡ fault_words xs ++ fault_words ys
words_append [] ys = refl
words_append (x ∷ xs) ys = ap (λ (l : List ℕ). x.code ∷ x.position ∷ x.name ∷ x.other ∷ l) (words_append xs ys)

pub words-length : (xs : List Fault) → length (fault_words xs) ≡ length xs * 4
words-length [] = refl
words-length (x ∷ xs) = omega (arith, words-length xs)

pub snoc-length : (xs : List Fault) (f : Fault) → length (xs ++ f ∷ []) ≡ length xs + 1
snoc-length xs f = length-append xs (f ∷ [])

-- ---- one fault put behind k others
module _ (s : List ℕ) (k : ℕ) (f : Fault) (room : k * 4 + 4 ≤ length s) where
  abbrev after : List ℕ
  after = sets s (k * 4) (f.code ∷ f.position ∷ f.name ∷ f.other ∷ [])

  pub put-length : length after ≡ length s
  put-length = length-sets s (k * 4) (f.code ∷ f.position ∷ f.name ∷ f.other ∷ [])

  parts : after ≡ take (k * 4) s ++ (f.code ∷ f.position ∷ f.name ∷ f.other ∷ []) ++ drop (k * 4 + 4) s
  parts = sets-eq (f.code ∷ f.position ∷ f.name ∷ f.other ∷ []) s (k * 4) room

  front : length (take (k * 4) s ++ (f.code ∷ f.position ∷ f.name ∷ f.other ∷ [])) ≡ (k + 1) * 4
  front = length-append (take (k * 4) s) (f.code ∷ f.position ∷ f.name ∷ f.other ∷ []) ∙ (omega (arith, length-take-le (k * 4) s (omega arith)))

  pub put-reported : (xs : List Fault) → take (k * 4) s ≡ fault_words xs → take ((k + 1) * 4) after ≡ fault_words (xs ++ f ∷ [])
  put-reported xs e =
      ap (take ((k + 1) * 4)) parts
      ∙ take_at (take (k * 4) s ++ (f.code ∷ f.position ∷ f.name ∷ f.other ∷ [])) (drop (k * 4 + 4) s) ((k + 1) * 4) front
      ∙ ap (λ (l : List ℕ). l ++ (f.code ∷ f.position ∷ f.name ∷ f.other ∷ [])) e
      ∙ sym (words_append xs (f ∷ []))

  pub put-kept : drop ((k + 1) * 4) after ≡ drop ((k + 1) * 4) s
  put-kept =
      let e : k * 4 + 4 ≡ (k + 1) * 4 = omega arith in
      ap (drop ((k + 1) * 4)) parts
      ∙ drop_at (take (k * 4) s ++ (f.code ∷ f.position ∷ f.name ∷ f.other ∷ [])) (drop (k * 4 + 4) s) ((k + 1) * 4) front
      ∙ ap (λ (n : ℕ). drop n s) e
