-- From a branch of the code to its number, the row's detail. Let `a : number k ≡ m` be what `rows::branch_at` ensures of its result k, with m = detail w r.
--   an arm `Branch::Goto => ..`   is-branch a c.in-Goto.is : m ≡ 2
--   an arm `_ => ..`              not-branch a c.in_default.not-Goto : m ≡ 2 → ⊥
--   `if k == Branch::Goto`        eq-true _ Goto a c.if-eq.ensures : m ≡ 2, and so on as in Coded
-- Assumes nothing.
use mathlib.Core.Path.{◌≡◌, refl}
use mathlib.Core.Bool.{true, false, not}
use Prim.Native.Nat.{ℕ}
use lib.Dec.{eqb}
use denote.Enum.Bare.{sameb}
use denote.Enum.Declared.{tag_of}
use Rattle.rows.specs.Branches.{number}
use Rattle.rows.specs.contracts.details.Branch.{the_type}
use Rattle.rows.specs.declared.details.Branch.{Branch}
use Rattle.rows.specs.declared.details.Branch.TheVariants.{Break, Continue, Goto, Fallthrough}
use Rattle.rows.proofs.Coded as coded
use Rattle.rows.proofs.Coded.{is-number, not-number}

tag : (k : Branch) → tag_of the_type k ≡ number k
tag k = elim k as (λ j. tag_of the_type j ≡ number j) [ Break ↦ refl | Continue ↦ refl | Goto ↦ refl | Fallthrough ↦ refl ]

pub is-branch : {k n : Branch} {m : ℕ} → number k ≡ m → k ≡ n → m ≡ number n
is-branch = is-number the_type tt number tag

pub not-branch : {k n : Branch} {m : ℕ} → number k ≡ m → (k ≡ n → ⊥) → m ≡ number n → ⊥
not-branch = not-number the_type tt number tag

pub eq-test : (k n : Branch) {m : ℕ} → number k ≡ m → sameb the_type k n ≡ eqb m (number n)
eq-test = coded.eq-test the_type tt number tag

pub eq-true : (k n : Branch) {m : ℕ} → number k ≡ m → true ≡ sameb the_type k n → m ≡ number n
eq-true = coded.eq-true the_type tt number tag

pub eq-false : (k n : Branch) {m : ℕ} → number k ≡ m → false ≡ sameb the_type k n → m ≡ number n → ⊥
eq-false = coded.eq-false the_type tt number tag

pub ne-true : (k n : Branch) {m : ℕ} → number k ≡ m → true ≡ not (sameb the_type k n) → m ≡ number n → ⊥
ne-true = coded.ne-true the_type tt number tag

pub ne-false : (k n : Branch) {m : ℕ} → number k ≡ m → false ≡ not (sameb the_type k n) → m ≡ number n
ne-false = coded.ne-false the_type tt number tag
