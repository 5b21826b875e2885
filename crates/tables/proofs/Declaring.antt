-- What `declared_table`'s loop keeps: the word at each canonical number is that of the first label of it among the rows passed. A Labeled row whose
-- canonical number is not 0 is a label of that number alone, and every other row is a label of none.
-- Assumes nothing.
use mathlib.Core.Path.{◌≡◌, refl, sym, ◌∙◌}
use mathlib.Core.Bool.{Bool, true}
use mathlib.Core.List.{List, [], ◌∷◌}
use Prim.Native.Nat.{ℕ, suc, ◌+◌, ◌<◌, ◌≤◌}
use native.Mathlib.Omega.{arith}
use native.Mathlib.Numerals.{add-one}
use native.Mathlib.Decide.{ℕ_discrete}
use lib.Dec.{eqb}
use lib.ListN.{length, get_or, set, length-set}
use lib.Seq.{get_or-set_same, get_or-set_other}
use borrow.Author.Tests.{eq-eqb, eqb-true}
use Rattle.rules.specs.Scan.{lowest}
use Rattle.rules.specs.Rows.{row_count, kind, detail, name}
use Rattle.rules.specs.Class.{labeled, one_of, detail_allowed, class_of, base, class}
use Rattle.rules.specs.Names.{count_of_pairs}
use Rattle.rules.specs.Body.{Body}
use Rattle.rules.specs.Labels.{word}
use Rattle.rules.proofs.Test.{case-of, case-found}
use Rattle.rules.proofs.Every.{every, is_one}
use Rattle.rules.proofs.ByKind.{by_kind}
use Rattle.rules.proofs.ClassTests.{one-is}
use Rattle.rules.proofs.Classes.{no_block}
use Rattle.rules.proofs.Pairs.{ok-words, name-words}
use Rattle.rules.proofs.RowNames.{base-class, name-within}
use Rattle.tables.specs.Canon.{row_canon, is_numbered, declared_for, CanonTable, DeclaredTable}
use Rattle.tables.proofs.Canons.{canon-within}
use Rattle.tables.proofs.Labelling.{label-class, label-numbered, numbered-label, is-numbered, numbered_is}

-- ---- the kind of a Labeled row
kind-labeled : (k d : ℕ) → detail_allowed k d ≡ true → eqb k 3 ≡ one_of (labeled ∷ []) (class_of k d)
unfolding every lowest detail_allowed class_of
kind-labeled k d a = by_kind (λ j. eqb j 3) (one_of (labeled ∷ [])) refl k d a

module _ (w : List ℕ) (r : ℕ) (a : detail_allowed (kind w r) (detail w r) ≡ true) where
  kind-class : kind w r ≡ 3 → class w r ≡ labeled
  unfolding base
  kind-class k = no_block w r a (rw k)
      ∙ is_one (base w r) labeled (sym (kind-labeled (kind w r) (detail w r) a) ∙ eq-eqb (kind w r) 3 k)

  class-kind : class w r ≡ labeled → kind w r ≡ 3
  unfolding base
  class-kind e = eqb-true (kind w r) 3 (kind-labeled (kind w r) (detail w r) a ∙ one-is (base w r) labeled (base-class w r labeled e refl))

-- ---- the word of the first that passes, with one number more
module _ (P : ℕ → Bool) (r : ℕ) where
  word_kept : (P r ≡ true → word (lowest P r) ≡ 0 → ⊥) → word (lowest P (suc r)) ≡ word (lowest P r)
  unfolding lowest
  word_kept n = case-found (lowest P r) (λ k e. rw (e, lowest))
      (λ e. case-of (P r) (λ t. absurd (n t (rw e))) (λ f. rw (e, f, lowest)))

  word_first : P r ≡ true → word (lowest P r) ≡ 0 → word (lowest P (suc r)) ≡ suc r
  unfolding lowest
  word_first t z = case-found (lowest P r) (λ k e. let y : suc k ≡ 0 = rw e at z in absurd (omega arith)) (λ e. rw (e, t, lowest))

-- ---- the loop
pub record Declaring (w p b t : List ℕ) (r : ℕ) : Type 0 where
  pub room : count_of_pairs p < length t
  pub upto : r ≤ row_count w
  pub words : (c : ℕ) → 0 < c → get_or t c 0 ≡ word (lowest (is_numbered w p b c) r)

module _ {w p b : List ℕ} (body : Body w p b) where
  -- a label with the canonical number c
  module _ (c r : ℕ) (row : r < row_count w) where
    is-canon : is_numbered w p b c r ≡ true → (kind w r ≡ 3) × (row_canon w p b r ≡ c) × (0 < c)
    is-canon t =
        let x = is-numbered w p b c r t in
        (class-kind w r (body.details r row) (label-class body r row x.0), x.1, omega (arith, label-numbered body r row x.0, x.1))

    canon-is : kind w r ≡ 3 → row_canon w p b r ≡ c → 0 < c → is_numbered w p b c r ≡ true
    canon-is k e z = numbered_is w p b c r (numbered-label body r row (kind-class w r (body.details r row) k) (omega arith)) e

  -- the row's canonical number has a place in the tables
  pub canon-room : {canonical : List ℕ} → CanonTable p b canonical → (r : ℕ) → r < row_count w → name w r < length canonical
  canon-room x r row = omega (arith, x.room, name-within body r row)

  pub record Placed (t : List ℕ) (r c : ℕ) : Type 0 where
    pub number : row_canon w p b r ≡ c
    pub place : c < length t
    pub small : c ≤ 500
    pub row_small : r < 2000

  pub placed : {canonical t : List ℕ} → CanonTable p b canonical → {r : ℕ} → r < row_count w → Declaring w p b t r → (c : ℕ)
      → c ≡ get_or canonical (name w r) 0 → Placed t r c
  placed x {r} row d c e =
      let l = name-within body r row in
      let i : row_canon w p b r ≡ c = sym (e ∙ x.at_name (name w r) l) in
      let m = canon-within p b (name w r) in
      let f = name-words p b (ok-words p b body.names) in
      record { number = i; place = omega (arith, d.room); small = omega (arith, f.pairs); row_small = omega (arith, body.most_rows) }

  pub declaring-start : (t : List ℕ) → count_of_pairs p < length t → ((c : ℕ) → get_or t c 0 ≡ 0) → Declaring w p b t 0
  unfolding lowest
  declaring-start t l z = record { room = l; upto = omega arith; words = λ c _. z c }

  module _ (t : List ℕ) (r : ℕ) (x : Declaring w p b t r) (row : r < row_count w) where
    -- no word changes where each number of which the row is a label has one
    pub declaring-kept : (kind w r ≡ 3 → 0 < row_canon w p b r → get_or t (row_canon w p b r) 0 ≡ 0 → ⊥) → Declaring w p b t (r + 1)
    declaring-kept n = rw add-one (record {
      room = x.room;
      upto = omega arith;
      words = λ c z. x.words c z ∙ sym (word_kept (is_numbered w p b c) r (λ t e.
          let y = is-canon c r row t in n y.0 (omega (arith, y.1)) (rw y.1 (x.words c z ∙ e))));
    })

    pub declaring-other : (kind w r ≡ 3 → ⊥) → Declaring w p b t (r + 1)
    declaring-other n = declaring-kept (λ k _ _. n k)

    module _ (c : ℕ) (q : Placed t r c) where
      pub declaring-blank : c ≡ 0 → Declaring w p b t (r + 1)
      declaring-blank e = declaring-kept (λ _ z _. omega (arith, q.number))

      pub declaring-again : (get_or t c 0 ≡ 0 → ⊥) → Declaring w p b t (r + 1)
      declaring-again n = declaring-kept (λ _ _ e. n (rw q.number at e))

      pub declaring-first : kind w r ≡ 3 → (c ≡ 0 → ⊥) → get_or t c 0 ≡ 0 → Declaring w p b (set t c (r + 1)) (r + 1)
      declaring-first k nz o =
          let z : 0 < c = omega arith in
          rw add-one (record {
            room = simp length-set x.room;
            upto = omega arith;
            words = λ d y. elim (ℕ_discrete d c) [
              | yes i ↦ rw i (get_or-set_same t c (suc r) 0 q.place
                  ∙ sym (word_first (is_numbered w p b c) r (canon-is c r row k q.number z) (sym (x.words c z) ∙ o)))
              | no n ↦ get_or-set_other t c d (suc r) 0 n ∙ x.words d y
                  ∙ sym (word_kept (is_numbered w p b d) r (λ u _. n (sym (is-canon d r row u).1 ∙ q.number)))
            ];
          })

  pub declaring-end : (t : List ℕ) (r : ℕ) → Declaring w p b t r → row_count w ≤ r → DeclaredTable w p b t
  unfolding declared_for
  declaring-end t r x h =
      let e : r ≡ row_count w = omega (arith, x.upto, body.root_size) in
      record { room = x.room; at_canon = λ c z _. rw e at (x.words c z) }
