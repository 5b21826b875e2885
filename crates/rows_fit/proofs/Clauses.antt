-- The defaults among the clauses of the list r, as the walk stands at the row c: n counts those before c. With n at 0 none of them is a default, and with n at
-- most 1 none is a second one. A child of r that begins before the end of c is before c, or c, so a turn needs no more than the clause c itself.
-- Where the items are no clauses nothing is counted.
-- Assumes nothing.
use mathlib.Core.Path.{◌≡◌, ◌∙◌, subst}
use mathlib.Core.Bool.{true, false}
use mathlib.Core.List.{List, [], ◌∷◌}
use mathlib.Core.Logic.{◌⊎◌, ⊎_elim}
use Prim.Native.Nat.{ℕ, suc, ◌+◌, ◌≤◌, ◌<◌}
use native.Mathlib.Omega.{arith}
use native.Mathlib.Numerals.{add-one}
use native.Mathlib.Decide.{dec_lt}
use lib.Dec.{eqb}
use borrow.Author.Tests.{eq-eqb, eqb-true}
use Rattle.rules.specs.Rows.{kind, detail, size, end, Child, here}
use Rattle.rules.specs.Class.{is_default, detail_allowed, base, class}
use Rattle.rules.specs.Refusals.{holding}
use Rattle.rules.specs.Body.{SecondChild}
use Rattle.rules.proofs.Test.{case-of, clash, and-true}
use Rattle.rules.proofs.ByKind.{among, kind-default}
use Rattle.rules.proofs.Nesting.{item_from, item-before, item-next, item-after}
use Rattle.row_checks.specs.Parts.{item_kind, default_count}
use Rattle.row_checks.specs.Right.{Single}

-- ---- a default clause counts 1
default-detail : (w : List ℕ) (c : ℕ) → detail_allowed (kind w c) (detail w c) ≡ true → is_default (base w c) ≡ true → detail w c ≡ 1
unfolding base
default-detail w c a t =
    eqb-true (detail w c) 1 (and-true (eqb (detail w c) 1) (among (14 ∷ 17 ∷ []) (kind w c)) (kind-default (kind w c) (detail w c) a ∙ t)).0

default-counts : (w : List ℕ) (c : ℕ) → detail_allowed (kind w c) (detail w c) ≡ true → is_default (base w c) ≡ true → default_count w c ≡ 1
unfolding default_count
default-counts w c a t = rw (eq-eqb (detail w c) 1 (default-detail w c a t), default_count)

pub counts-few : (w : List ℕ) (c : ℕ) → default_count w c ≤ 1
unfolding default_count
counts-few w c = case-of (eqb (detail w c) 1) (λ t. rw (t, default_count) (omega arith)) (λ t. rw (t, default_count) (omega arith))

-- ---- the clauses before c

-- the items of the list r have no kind of their own
abbrev NoClauses : List ℕ → ℕ → Type 0
NoClauses w r = item_kind (holding (class w r)) ≡ 0

pub record Clauses (w : List ℕ) (r c n : ℕ) : Type 0 where
  pub at : c < end w r → Child w r c
  pub none : n ≡ 0 → (k : ℕ) → Child w r k → k < c → is_default (base w k) ≡ false
  pub one : n ≤ 1 → (k : ℕ) → SecondChild w r k → k < c → ⊥

pub record Counted (w : List ℕ) (r c n : ℕ) : Type 0 where
  pub few : n ≤ c
  pub clauses : (NoClauses w r → ⊥) → Clauses w r c n

-- the same, said of the row b after r
abbrev pub CountedFrom : List ℕ → ℕ → ℕ → ℕ → Type 0
CountedFrom w b c n = (r : ℕ) → b ≡ r + 1 → Counted w r c n

pub count-first : {w : List ℕ} {r c n : ℕ} → Counted w r c n → CountedFrom w (r + 1) c n
count-first {w} {r} {c} {n} a q z = let y : r ≡ q = omega arith in subst (λ (x : ℕ). Counted w x c n) y a

pub counts-none : (w : List ℕ) (r : ℕ) → Counted w r (r + 1) 0
counts-none w r =
    record {
      few = omega arith;
      clauses = λ h. record {
        at = λ l. rw (add-one r) (here {c = suc r} (omega arith));
        none = λ e k d l. absurd (omega (arith, item_from d));
        one = λ e k s l. absurd (omega (arith, item_from s.child));
      };
    }

-- ---- a turn

-- from c, with n counted, to the item y, with m counted: past a run of items that are no clauses, or at the clause c, which is counted too
abbrev pub Turned : List ℕ → ℕ → ℕ → ℕ → ℕ → ℕ → Type 0
Turned w r c n y m = (NoClauses w r × (c ≤ y) × (m ≡ n)) ⊎ ((NoClauses w r → ⊥) × (y ≡ c) × (m ≡ n + default_count w c))

module _ {w : List ℕ} {r c n : ℕ} (a : Clauses w r c n) (l : c < end w r) (ok : detail_allowed (kind w c) (detail w c) ≡ true) where
  -- a child before the end of c is before c, or c
  child-is : (k : ℕ) → Child w r k → k < end w c → (k < c → ⊥) → k ≡ c
  child-is k d h o = elim (dec_lt c k) [ yes m ↦ absurd (omega (arith, item_from (item-after (a.at l) d m))) | no n ↦ omega arith ]

  past-clause : Clauses w r (end w c) (n + default_count w c)
  past-clause = record { at = item-next (a.at l); none = none; one = one }
    where
      none : n + default_count w c ≡ 0 → (k : ℕ) → Child w r k → k < end w c → is_default (base w k) ≡ false
      none e k d m = elim (dec_lt k c) [
        | yes h ↦ a.none (omega arith) k d h
        | no o ↦
            case-of (is_default (base w k))
            (λ t. absurd (omega (arith, default-counts w c ok (rw (← child-is k d m o) t))))
            (λ f. f)
      ]

      one : n + default_count w c ≤ 1 → (k : ℕ) → SecondChild w r k → k < end w c → ⊥
      one e k s m = elim (dec_lt k c) [
        | yes h ↦ a.one (omega arith) k s h
        | no o ↦
            let y = child-is k s.child m o in
            let x = default-counts w c ok (rw (← y) s.default) in
            let q = s.before in
            let f = a.none (omega arith) s.earlier s.earlier_child (omega arith) in
            let t = s.earlier_default in clash (cc)
      ]

-- past the item y, whose detail is allowed
pub counts_past : {w : List ℕ} {r c n y m s : ℕ} → Counted w r c n → Turned w r c n y m → y < end w r → detail_allowed (kind w y) (detail w y) ≡ true
    → s ≡ size w y → 0 < s → Counted w r (y + s) m
counts_past {w} {r} {c} {n} {y} {m} {s} a t l ok e z = record { few = few; clauses = clauses }
  where
    few : m ≤ y + s
    few = ⊎_elim (λ (x : NoClauses w r × (c ≤ y) × (m ≡ n)). omega (arith, a.few))
        (λ (x : (NoClauses w r → ⊥) × (y ≡ c) × (m ≡ n + default_count w c)). omega (arith, a.few, counts-few w c)) t

    clauses : (NoClauses w r → ⊥) → Clauses w r (y + s) m
    clauses h = ⊎_elim (λ (x : NoClauses w r × (c ≤ y) × (m ≡ n)). absurd (h x.0))
        (λ (x : (NoClauses w r → ⊥) × (y ≡ c) × (m ≡ n + default_count w c)).
        rw (e, x.2, x.1) (past-clause (a.clauses h) (rw (← x.1) l) (rw (← x.1) ok))) t

-- with no item left after a run
pub counts-run : {w : List ℕ} {r c n y m e : ℕ} → Counted w r c n → Turned w r c n y m → c < e → e ≤ y → Counted w r y m
counts-run {w} {r} {c} {n} {y} {m} a t l g =
    ⊎_elim (λ (x : NoClauses w r × (c ≤ y) × (m ≡ n)). record { few = omega (arith, a.few); clauses = λ h. absurd (h x.0) })
    (λ (x : (NoClauses w r → ⊥) × (y ≡ c) × (m ≡ n + default_count w c)). absurd (omega arith)) t

-- ---- with no clause left
pub counts-one : {w : List ℕ} {r c n : ℕ} → Counted w r c n → end w r ≤ c → n ≤ 1 → Single w r
counts-one a l e h k s =
    let b = a.clauses h in
    b.one e k s (omega (arith, item-before s.child))
