-- A merge of the two sorted parts of s: what has been written is sorted, comes after nothing that is left, and with what is left has the elements of s.
-- A turn that takes the lesser of the two first elements keeps this.
-- Assumes nothing.
use mathlib.Core.Path.{◌≡◌, sym, ◌∙◌, ap}
use mathlib.Core.Bool.{Bool, true, false, not}
use mathlib.Core.List.{List, [], ◌∷◌}
use Prim.Native.Nat.{ℕ, suc, ◌+◌, ◌-◌, ◌<◌, ◌≤◌}
use native.Mathlib.Omega.{arith}
use native.Mathlib.Numerals.{add-one}
use native.Mathlib.Decide.{ℕ_discrete}
use lib.ListN.{length, get_or, take, drop, set, length-set, length-take, length-drop, take-append-drop}
use lib.Seq.{slice, slice-cons, slice_empty, drop-cons, drop-length, take_all, get_or-set_same, get_or-set_other, get_or-take, get_or-drop}
use Rattle.rules.specs.Names.{name_bytes, bytes_before}
use Rattle.rules.proofs.Order.{before-not-self, before-not-after, not-before-trans}
use Rattle.sorting.specs.Sorted.{Sorted, SameElements, passing}
use Rattle.sorting.specs.Merging.{NotAfter, Next}
use Rattle.sorting.proofs.Elements.{passing-append, passing-store, stored-all}

module _ (p b : List ℕ) where
  not-after-trans : (l m n : ℕ) → NotAfter p b l m → NotAfter p b m n → NotAfter p b l n
  not-after-trans l m n f g = not-before-trans (name_bytes p b n) (name_bytes p b m) (name_bytes p b l) g f

  -- the comparison of the two first elements says which is next
  pub next-compared : (s : List ℕ) (mid i j : ℕ) (r : Bool) → i < mid → j < length s → r ≡ bytes_before (name_bytes p b (get_or s j 0)) (name_bytes p b (get_or s i 0))
      → Next p b s mid i j (not r)
  next-compared s mid i j true h l e = (l, λ m. before-not-after (name_bytes p b (get_or s j 0)) (name_bytes p b (get_or s i 0)) (sym e))
  next-compared s mid i j false h l e = (h, λ m. sym e)

  -- the first k elements in order
  abbrev pub InOrder : List ℕ → ℕ → Type 0
  InOrder out k = (x y : ℕ) → x ≤ y → y < k → NotAfter p b (get_or out x 0) (get_or out y 0)

  stored-order : (out : List ℕ) (k e : ℕ) → k < length out → InOrder out k → ((x : ℕ) → x < k → NotAfter p b (get_or out x 0) e) → InOrder (set out k e) (k + 1)
  stored-order out k e h o last x y l m = elim (ℕ_discrete y k) [
    | yes i ↦ rw (i, get_or-set_same out k e 0 h) (stored-all (λ z n. NotAfter p b n e) out k e h last (before-not-self (name_bytes p b e)) x (omega arith))
    | no d ↦ rw (get_or-set_other out k y e 0 d, get_or-set_other out k x e 0 (λ q. d (omega arith))) (o x y l (omega arith))
  ]

  pub record Merging (s out : List ℕ) (mid i j k : ℕ) : Type 0 where
    pub left-within : i ≤ mid
    pub right-start : mid ≤ j
    pub right-within : j ≤ length s
    pub count : k + mid ≡ i + j
    pub room : length out ≡ length s
    pub order : InOrder out k
    pub left_after : (x y : ℕ) → x < k → i ≤ y → y < mid → NotAfter p b (get_or out x 0) (get_or s y 0)
    pub right-after : (x y : ℕ) → x < k → j ≤ y → y < length s → NotAfter p b (get_or out x 0) (get_or s y 0)
    pub same : (P : ℕ → Bool) → passing P (take k out) + (passing P (slice i mid s) + passing P (drop j s)) ≡ passing P s

  module _ (s : List ℕ) (mid : ℕ) (fits : mid ≤ length s) where
    pub merge-start : (out : List ℕ) → length out ≡ length s → Merging s out mid 0 mid 0
    unfolding passing
    merge-start out e = record {
      left-within = omega arith;
      right-start = omega arith;
      right-within = fits;
      count = omega arith;
      room = e;
      order = λ x y l m. absurd (omega arith);
      left_after = λ x y l m n. absurd (omega arith);
      right-after = λ x y l m n. absurd (omega arith);
      same = λ P. omega (arith, passing-append P (take mid s) (drop mid s), ap (passing P) (take-append-drop mid s));
    }

    pub merge-end : (out : List ℕ) (i j k : ℕ) → Merging s out mid i j k → length out ≤ k → Sorted p b out × SameElements s out
    unfolding passing
    merge-end out i j k w l =
        let d : i ≡ mid = omega arith in
        let e : j ≡ length s = omega arith in
        let f : slice i mid s ≡ [] = rw d (slice_empty mid s) in
        let g : drop j s ≡ [] = rw e (drop-length s) in
        (λ x y m n. w.order x y m (omega arith), λ P. omega (arith, w.same P, ap (passing P) f, ap (passing P) g, ap (passing P) (take_all k out l)))

    module _ (ls : Sorted p b (take mid s)) (rs : Sorted p b (drop mid s)) where
      left-order : (x y : ℕ) → x ≤ y → y < mid → NotAfter p b (get_or s x 0) (get_or s y 0)
      left-order x y l m =
          let h = ls x y l (omega (arith, length-take mid s)) in
          rw (get_or-take mid s x 0 (omega arith), get_or-take mid s y 0 m) at h

      right-order : (x y : ℕ) → mid ≤ x → x ≤ y → y < length s → NotAfter p b (get_or s x 0) (get_or s y 0)
      right-order x y l m n =
          let d : mid + (x - mid) ≡ x = omega arith in
          let e : mid + (y - mid) ≡ y = omega arith in
          let h = rs (x - mid) (y - mid) (omega arith) (omega (arith, length-drop mid s)) in
          rw (get_or-drop mid s (x - mid) 0, get_or-drop mid s (y - mid) 0, d, e) at h

      -- a turn that takes the first of the left part, and one that takes the first of the right part
      pub merge-left : (out : List ℕ) (i j k : ℕ) → Merging s out mid i j k → Next p b s mid i j true → Merging s (set out k (get_or s i 0)) mid (i + 1) j (k + 1)
      merge-left out i j k w t =
          let h : k < length out = omega (arith, t.0) in
          record {
            left-within = omega (arith, t.0);
            right-start = w.right-start;
            right-within = w.right-within;
            count = omega arith;
            room = length-set out k (get_or s i 0) ∙ w.room;
            order = stored-order out k (get_or s i 0) h w.order (λ x l. w.left_after x i l (omega arith) t.0);
            left_after = λ x y l m n. stored-all (λ z q. NotAfter p b q (get_or s y 0)) out k (get_or s i 0) h
                (λ z a. w.left_after z y a (omega arith) n) (left-order i y (omega arith) n) x l;
            right-after = λ x y l m n. stored-all (λ z q. NotAfter p b q (get_or s y 0)) out k (get_or s i 0) h
                (λ z a. w.right-after z y a m n)
                (not-after-trans (get_or s i 0) (get_or s j 0) (get_or s y 0) (t.1 (omega arith)) (right-order j y w.right-start m n)) x l;
            same = λ P. rw (add-one k, add-one i) (omega (
              arith,
              w.same P,
              passing-store P out k (get_or s i 0) h,
              ap (passing P) (slice-cons i mid s 0 t.0 fits),
              passing-append P (get_or s i 0 ∷ []) (slice (suc i) mid s),
            ));
          }

      pub merge-right : (out : List ℕ) (i j k : ℕ) → Merging s out mid i j k → Next p b s mid i j false
          → Merging s (set out k (get_or s j 0)) mid i (j + 1) (k + 1)
      merge-right out i j k w t =
          let h : k < length out = omega (arith, t.0) in
          record {
            left-within = w.left-within;
            right-start = omega arith;
            right-within = omega (arith, t.0);
            count = omega arith;
            room = length-set out k (get_or s j 0) ∙ w.room;
            order = stored-order out k (get_or s j 0) h w.order (λ x l. w.right-after x j l (omega arith) t.0);
            left_after = λ x y l m n. stored-all (λ z q. NotAfter p b q (get_or s y 0)) out k (get_or s j 0) h
                (λ z a. w.left_after z y a m n)
                (not-after-trans (get_or s j 0) (get_or s i 0) (get_or s y 0) (t.1 (omega arith)) (left-order i y m n)) x l;
            right-after = λ x y l m n. stored-all (λ z q. NotAfter p b q (get_or s y 0)) out k (get_or s j 0) h
                (λ z a. w.right-after z y a (omega arith) n) (right-order j y w.right-start (omega arith) n) x l;
            same = λ P. rw (add-one k, add-one j) (omega (
              arith,
              w.same P,
              passing-store P out k (get_or s j 0) h,
              ap (passing P) (drop-cons s j 0 t.0),
              passing-append P (get_or s j 0 ∷ []) (drop (suc j) s),
            ));
          }
