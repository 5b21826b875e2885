-- The table of the classes says of the kinds 14 and 17, and of no other, that they are no statements.
-- Assumes nothing.
use mathlib.Core.Path.{◌≡◌, refl, ◌∙◌, ap}
use mathlib.Core.Bool.{true, false, not, or-false}
use Prim.Native.Nat.{ℕ}
use lib.Dec.{eqb}
use borrow.Author.Tests.{eq-eqb, ne_eqb}
use Rattle.rules.specs.Class.{is_statement, detail_allowed, class_of}
use Rattle.rules.proofs.ByKind.{kind-statement}
use Rattle.rows.specs.declared.kinds.Kind.TheVariants.{Case, Comm}
use Rattle.rows.proofs.Numbers.{eq-test, ne-true, ne-false}
use Rattle.rows.proofs.kinds.Kind.is_statement.Goals as goal

module _ (k d : ℕ) (a : detail_allowed k d ≡ true) where
  no-case : (k ≡ 14 → ⊥) → not (eqb k 17) ≡ is_statement (class_of k d)
  no-case n = let e = kind-statement k d a in rw (ne_eqb k 14 n, or-false) at e

  case : k ≡ 14 → false ≡ is_statement (class_of k d)
  case i = let e = kind-statement k d a in rw (eq-eqb k 14 i) at e

pub returns-then-ne : goal.returns-then-ne
returns-then-ne c d a =
    c.ne-then-ne.ensures ∙ ap not (eq-test c.args.self Comm refl) ∙ no-case _ d a (ne-true c.args.self Case refl c.if-ne.ensures)

pub returns-else-ne : goal.returns-else-ne
returns-else-ne c d a = c.if-ne.false ∙ case _ d a (ne-false c.args.self Case refl c.if-ne.ensures)
