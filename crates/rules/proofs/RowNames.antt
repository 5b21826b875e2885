-- Two names are the same exactly when their bytes are equal. A Labeled row and a goto of a body have a name of its pairs, since the causes refuse others,
-- and such a name has bytes. So a row with the same name as one of these has a name too.
-- Assumes nothing.
use mathlib.Core.Path.{◌≡◌, refl, sym, ◌∙◌, ap}
use mathlib.Core.Bool.{true, false, ◌||◌, not}
use mathlib.Core.List.{List, [], ◌∷◌}
use Prim.Native.Nat.{ℕ, zero, suc, ◌-◌, ◌<◌, ◌≤◌}
use native.Mathlib.Omega.{arith}
use native.Mathlib.Decide.{dec_lt}
use lib.Dec.{leb, eqb}
use lib.ListN.{length, take, drop, length-take, length-drop}
use borrow.Author.Tests.{leb-true}
use Rattle.rules.specs.Scan.{lowest}
use Rattle.rules.specs.Rows.{row_count, name}
use Rattle.rules.specs.Class.{Class, labeled, goto, block, case_block, comm_block, code, one_of, is_branch, base, following, class}
use Rattle.rules.specs.Names.{count_of_pairs, offset, len, names_ok, name_bytes, same_name}
use Rattle.rules.specs.Refusals.{name_allowed}
use Rattle.rules.specs.Body.{Body}
use Rattle.rules.specs.Labels.{same_names}
use Rattle.rules.proofs.Test.{clash, and-true}
use Rattle.rules.proofs.Every.{every, implies, implied, of-classes, is-class}
use Rattle.rules.proofs.Order.{same-equal, equal-same}
use Rattle.rules.proofs.Pairs.{no_name, name-part, ok-pair}

-- ---- same names by their bytes
module _ (p b : List ℕ) (m n : ℕ) where
  pub same_bytes_lem : same_name p b m n ≡ true → name_bytes p b m ≡ name_bytes p b n
  unfolding same_name
  same_bytes_lem t = same-equal (name_bytes p b m) (name_bytes p b n) t

  pub bytes_same : name_bytes p b m ≡ name_bytes p b n → same_name p b m n ≡ true
  unfolding same_name
  bytes_same e = equal-same (name_bytes p b m) (name_bytes p b n) e

pub same-sym : (w p b : List ℕ) (r s : ℕ) → same_names w p b r s ≡ true → same_names w p b s r ≡ true
same-sym w p b r s t = bytes_same p b (name w s) (name w r) (sym (same_bytes_lem p b (name w r) (name w s) t))

pub same-trans : (w p b : List ℕ) (r s t : ℕ) → same_names w p b r s ≡ true → same_names w p b s t ≡ true → same_names w p b r t ≡ true
same-trans w p b r s t x y =
    bytes_same p b (name w r) (name w t) (same_bytes_lem p b (name w r) (name w s) x ∙ same_bytes_lem p b (name w s) (name w t) y)

pub same-own : (w p b : List ℕ) (r : ℕ) → same_names w p b r r ≡ true
same-own w p b r = bytes_same p b (name w r) (name w r) refl

-- a name of the pairs has bytes
pub some_bytes : (p b : List ℕ) → names_ok p b ≡ true → (n : ℕ) → 0 < n → n ≤ count_of_pairs p → name_bytes p b n ≡ [] → ⊥
some_bytes p b ok n z h e =
    let g = ok-pair p b ok (n - 1) (omega arith) in
    let long = g.some_bytes in
    let within = g.within in
    let l : length (take (len p (n - 1)) (drop (offset p (n - 1)) b)) ≡ 0 = ap length (sym (name-part p b n ok z h) ∙ e) in
    omega (arith, simp (length-take, length-drop) at l)

-- ---- the class by the row's own words
follows-as : (b c : Class) → one_of (block ∷ case_block ∷ comm_block ∷ []) (following b c) ≡ false → c ≡ following b c
unfolding every lowest
follows-as b c n = is-class c (following b c)
    (implied (not (one_of (block ∷ case_block ∷ comm_block ∷ []) (following b c))) (eqb (code c) (code (following b c)))
    (of-classes (λ b c. implies (not (one_of (block ∷ case_block ∷ comm_block ∷ []) (following b c))) (eqb (code c) (code (following b c)))) refl b c) (rw n))

-- but for Blocks it is the row's class
pub base-class : (w : List ℕ) (r : ℕ) (c : Class) → class w r ≡ c → one_of (block ∷ case_block ∷ comm_block ∷ []) c ≡ false → base w r ≡ c
unfolding class
base-class w zero c e n = e
base-class w (suc q) c e n =
    follows-as (base w q) (base w (suc q)) (rw e n) ∙ e

-- ---- which names are allowed
pub allowed-within : (c : Class) (p n : ℕ) → name_allowed c p n ≡ true → n ≤ p
unfolding name_allowed
allowed-within c p n t =
    leb-true n p (and-true (leb n p) (elim n [ zero ↦ not (one_of (labeled ∷ goto ∷ []) c) | suc m ↦ one_of (labeled ∷ []) c || is_branch c ]) t).0

pub allowed-due : (c : Class) (p n : ℕ) → one_of (labeled ∷ goto ∷ []) c ≡ true → name_allowed c p n ≡ true → 0 < n
unfolding name_allowed
allowed-due c p zero d t = let z : false ≡ true = rw d at (and-true (leb 0 p) (not (one_of (labeled ∷ goto ∷ []) c)) t).1 in absurd (clash (cc))
allowed-due c p (suc n) d t = omega arith

-- ---- the rows of a body

module _ {w p b : List ℕ} (body : Body w p b) (r : ℕ) (row : r < row_count w) where
  pub name-within : name w r ≤ count_of_pairs p
  name-within = allowed-within (base w r) (count_of_pairs p) (name w r) (body.named r row)

  due : (c : Class) → class w r ≡ c → one_of (block ∷ case_block ∷ comm_block ∷ []) c ≡ false → one_of (labeled ∷ goto ∷ []) c ≡ true → 0 < name w r
  due c e n d = allowed-due (base w r) (count_of_pairs p) (name w r) (rw (base-class w r c e n) d) (body.named r row)

  pub labeled-named : class w r ≡ labeled → 0 < name w r
  labeled-named e = due labeled e refl refl

  pub goto-named : class w r ≡ goto → 0 < name w r
  goto-named e = due goto e refl refl

  pub same-named : (g : ℕ) → 0 < name w r → same_names w p b g r ≡ true → 0 < name w g
  same-named g z t = elim (dec_lt 0 (name w g)) [
    | yes y ↦ y
    | no n ↦
        let none : name_bytes p b (name w g) ≡ [] = no_name p b (name w g) (omega arith) in
        absurd (some_bytes p b body.names (name w r) z name-within (sym (same_bytes_lem p b (name w g) (name w r) t) ∙ none))
  ]
