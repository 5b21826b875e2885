-- From a kind of the code to its number, of which the rules speak. Let `a : number k ≡ m` be what `rows::kind_at` ensures of its result k, with
-- m = kind w r; of a kind that is an argument take `refl`, with m = number k. The variants come from `Rattle.rows.specs.declared.kinds.Kind.TheVariants`.
--   an arm `Kind::Block => ..`              is-kind a c.in-Block.is : m ≡ 12
--   an arm `Kind::Case | Kind::Comm => ..`  one-of _ (Case ∷ Comm ∷ []) a c.in-Case.is : among (14 ∷ 17 ∷ []) m ≡ true,
--                                           or elim c.in-Case.is [ inl e ↦ is-kind a e : m ≡ 14 | inr e ↦ is-kind a e : m ≡ 17 ]
--   an arm `_ => ..`                        not-kind a c.in_default.not-Block : m ≡ 12 → ⊥,
--                                           none-of _ (Case ∷ Comm ∷ []) a (search rules) : NoneOf (14 ∷ 17 ∷ []) m,
--                                           not-among _ (Case ∷ Comm ∷ []) a (search rules) : among (14 ∷ 17 ∷ []) m ≡ false
--   `if k == Kind::Block`                   eq-true _ Block a c.if-eq.ensures : m ≡ 12; where it fails, eq-false _ Block a c.if-eq.ensures : m ≡ 12 → ⊥
--   `if k != Kind::Block`                   ne-true _ Block a c.if-ne.ensures : m ≡ 12 → ⊥; where it fails, ne-false _ Block a c.if-ne.ensures : m ≡ 12
--   the value of `k == Kind::Block`         c.eq.ensures ∙ eq-test _ Block a : c.eq.result ≡ eqb m 12
-- Assumes nothing.
use mathlib.Core.Path.{◌≡◌, refl, ◌∙◌, ap}
use mathlib.Core.Bool.{true, false, not, ◌||◌, or-true}
use mathlib.Core.List.{List, [], ◌∷◌, map}
use mathlib.Core.Logic.{◌⊎◌, inl, inr}
use Prim.Native.Nat.{ℕ}
use lib.Dec.{eqb}
use denote.Enum.Bare.{sameb}
use denote.Enum.Declared.{tag_of}
use borrow.Author.Tests.{eq-eqb}
use Rattle.rules.proofs.ByKind.{among, NoneOf, none-among}
use Rattle.rows.specs.Kinds.{number}
use Rattle.rows.specs.contracts.kinds.Kind.{the_type}
use Rattle.rows.specs.declared.kinds.Kind.{Kind}
use Rattle.rows.specs.declared.kinds.Kind.TheVariants.{Bad, Decl, Empty, Labeled, Expr, Send, IncDec, Assign, Go, Defer, Return, Branch, Block, If, Case, Switch, TypeSwitch, Comm, Select, For, Range}
use Rattle.rows.proofs.Coded as coded
use Rattle.rows.proofs.Coded.{is-number, not-number}

-- the tag by which a comparison tells the kinds apart is the number
tag : (k : Kind) → tag_of the_type k ≡ number k
tag k = elim k as (λ j. tag_of the_type j ≡ number j) [
  | Bad ↦ refl
  | Decl ↦ refl
  | Empty ↦ refl
  | Labeled ↦ refl
  | Expr ↦ refl
  | Send ↦ refl
  | IncDec ↦ refl
  | Assign ↦ refl
  | Go ↦ refl
  | Defer ↦ refl
  | Return ↦ refl
  | Branch ↦ refl
  | Block ↦ refl
  | If ↦ refl
  | Case ↦ refl
  | Switch ↦ refl
  | TypeSwitch ↦ refl
  | Comm ↦ refl
  | Select ↦ refl
  | For ↦ refl
  | Range ↦ refl
]

-- ---- one kind, in an arm or a comparison
pub is-kind : {k n : Kind} {m : ℕ} → number k ≡ m → k ≡ n → m ≡ number n
is-kind = is-number the_type tt number tag

pub not-kind : {k n : Kind} {m : ℕ} → number k ≡ m → (k ≡ n → ⊥) → m ≡ number n → ⊥
not-kind = not-number the_type tt number tag

pub eq-test : (k n : Kind) {m : ℕ} → number k ≡ m → sameb the_type k n ≡ eqb m (number n)
eq-test = coded.eq-test the_type tt number tag

pub eq-true : (k n : Kind) {m : ℕ} → number k ≡ m → true ≡ sameb the_type k n → m ≡ number n
eq-true = coded.eq-true the_type tt number tag

pub eq-false : (k n : Kind) {m : ℕ} → number k ≡ m → false ≡ sameb the_type k n → m ≡ number n → ⊥
eq-false = coded.eq-false the_type tt number tag

pub ne-true : (k n : Kind) {m : ℕ} → number k ≡ m → true ≡ not (sameb the_type k n) → m ≡ number n → ⊥
ne-true = coded.ne-true the_type tt number tag

pub ne-false : (k n : Kind) {m : ℕ} → number k ≡ m → false ≡ not (sameb the_type k n) → m ≡ number n
ne-false = coded.ne-false the_type tt number tag

-- ---- an arm of several kinds, and one that leaves them out
abbrev pub OneOf : List Kind → Kind → Type 0
OneOf [] k = ⊥
OneOf (n ∷ []) k = k ≡ n
OneOf (n ∷ n2 ∷ ns) k = (k ≡ n) ⊎ OneOf (n2 ∷ ns) k

abbrev pub NoKind : List Kind → Kind → Type 0
NoKind [] k = Unit
NoKind (n ∷ ns) k = NoKind ns k × (k ≡ n → ⊥)

first-of : {m n : ℕ} (ns : List ℕ) → m ≡ n → among (n ∷ ns) m ≡ true
first-of {m} {n} ns e = rw (eq-eqb m n e)

pub one-of : (k : Kind) (ns : List Kind) {m : ℕ} → number k ≡ m → OneOf ns k → among (map number ns) m ≡ true
one-of k [] a o = absurd o
one-of k (n ∷ []) a e = first-of [] (is-kind a e)
one-of k (n ∷ n2 ∷ ns) a (inl e) = first-of (map number (n2 ∷ ns)) (is-kind a e)
one-of k (n ∷ n2 ∷ ns) {m} a (inr o) = ap (λ t. eqb m (number n) || t) (one-of k (n2 ∷ ns) a o) ∙ or-true (eqb m (number n))

pub none-of : (k : Kind) (ns : List Kind) {m : ℕ} → number k ≡ m → NoKind ns k → NoneOf (map number ns) m
none-of k [] a f = tt
none-of k (n ∷ ns) a f = (none-of k ns a f.0, not-kind a f.1)

pub not-among : (k : Kind) (ns : List Kind) {m : ℕ} → number k ≡ m → NoKind ns k → among (map number ns) m ≡ false
not-among k ns {m} a f = none-among (map number ns) m (none-of k ns a f)
