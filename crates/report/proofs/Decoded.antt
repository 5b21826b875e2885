-- Words read into the first part of a slice are that part afterwards; and the parts of a file of the length it says are its row words, its pair words and its
-- name bytes, which go to the end.
-- Assumes nothing.
use mathlib.Core.Path.{◌≡◌, ◌∙◌, ap}
use mathlib.Core.List.{List, ◌++◌}
use Prim.Native.Nat.{ℕ, ◌+◌, ◌-◌, ◌*◌, ◌≤◌}
use native.Mathlib.Omega.{arith}
use lib.ListN.{length, take, drop}
use lib.Seq.{length-take-le, take_at}
use Rattle.bodyfile.specs.File.{words, rows, names, bytes, row_words_of, pair_words_of, name_bytes}
use Rattle.report.specs.Text.{body_text}
use Rattle.bodyfile.specs.Limits.{said}
use Rattle.report.proofs.Counts.{words-length}

pub words-read : (f : List ℕ) (i k : ℕ) (new rest old : List ℕ) → k ≤ length old → new ≡ words f i (length (take k old)) → take k (new ++ rest) ≡ words f i k
words-read f i k new rest old h e =
    let q : new ≡ words f i k = e ∙ ap (words f i) (length-take-le k old h) in
    take_at new rest k (ap length q ∙ words-length f i k) ∙ q

pub parts : (f : List ℕ) (x y : ℕ) (w p b : List ℕ) → length f ≡ said f → x ≡ rows f → y ≡ names f → w ≡ words f 12 (x * 5)
    → p ≡ words f (12 + x * 5 * 4) (y * 2)
    → b ≡ take (length f - (12 + x * 5 * 4 + y * 2 * 4)) (drop (12 + x * 5 * 4 + y * 2 * 4) f)
    → body_text w p b ≡ body_text (row_words_of f) (pair_words_of f) (name_bytes f)
parts f x y w p b l e g ew ep eb =
    ap (λ (v : List ℕ). body_text v p b) (ew ∙ ap (λ (n : ℕ). words f 12 (n * 5)) e)
    ∙ ap (λ (v : List ℕ). body_text (row_words_of f) v b) (ep ∙ ap (λ (n : ℕ). words f n (y * 2)) pairs-from ∙ ap (λ (n : ℕ). words f (12 + rows f * 20) (n * 2)) g)
    ∙ ap (body_text (row_words_of f) (pair_words_of f))
    (eb ∙ ap (λ (n : ℕ). take (length f - n) (drop n f)) bytes-from ∙ ap (λ (n : ℕ). take n (drop (12 + rows f * 20 + names f * 8) f)) bytes-many)
  where
    pairs-from : 12 + x * 5 * 4 ≡ 12 + rows f * 20
    pairs-from = omega arith

    bytes-from : 12 + x * 5 * 4 + y * 2 * 4 ≡ 12 + rows f * 20 + names f * 8
    bytes-from = omega arith

    bytes-many : length f - (12 + rows f * 20 + names f * 8) ≡ bytes f
    bytes-many = omega arith
