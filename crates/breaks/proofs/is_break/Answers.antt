-- The tests are those of `leaves` at the row itself, one after another: a Branch of the first detail is a break, and nothing from the row on is around it.
-- Assumes nothing.
use mathlib.Core.Path.{◌≡◌, sym, ◌∙◌}
use mathlib.Core.Bool.{Bool, true, false}
use mathlib.Core.List.{List}
use Prim.Native.Nat.{ℕ}
use lib.Dec.{eqb}
use borrow.Author.Tests.{eq-eqb, ne_eqb}
use Rattle.rules.specs.Rows.{kind, detail, name}
use Rattle.rules.specs.Class.{break, detail_allowed}
use Rattle.rules.specs.Names.{same_name}
use Rattle.rules.specs.Labels.{is_class}
use Rattle.breaks.specs.Leaves.{leaves}
use Rattle.breaks.proofs.ByWords.{break-detail}
use Rattle.body.proofs.Facts.{allowed}
use Rattle.breaks.proofs.Leaving.{own-other, own-plain, own-unnamed, own-named}
use Rattle.rows.specs.declared.details.Branch.TheVariants.{Break}
use Rattle.rows.proofs.Branches.{ne-true, ne-false}
use Rattle.breaks.proofs.is_break.Goals as goal
use Rattle.breaks.proofs.is_break.Goals.{After-ne}

module _ (w p b : List ℕ) (r label : ℕ) (implicit : Bool) (allowed : detail_allowed (kind w r) (detail w r) ≡ true) (branch : kind w r ≡ 11) where
  abbrev Answer : Bool → Type 0
  Answer t = t ≡ leaves w p b r label implicit r

  is-break : (t : Bool) → eqb (detail w r) 0 ≡ t → is_class w break r ≡ t
  is-break t e = sym (break-detail w r allowed branch) ∙ e

  other : (detail w r ≡ 0 → ⊥) → Answer false
  other z = sym (own-other w p b r label implicit (is-break false (ne_eqb (detail w r) 0 z)))

  module _ (z : detail w r ≡ 0) {n : ℕ} (m : n ≡ name w r) where
    plain : n ≡ 0 → Answer implicit
    plain e = sym (own-plain w p b r label implicit (is-break true (eq-eqb (detail w r) 0 z)) (sym m ∙ e))

    unnamed : (n ≡ 0 → ⊥) → label ≡ 0 → Answer false
    unnamed e l = sym (own-unnamed w p b r label implicit (is-break true (eq-eqb (detail w r) 0 z)) (λ o. e (m ∙ o)) l)

    named : (n ≡ 0 → ⊥) → (label ≡ 0 → ⊥) → {t : Bool} → t ≡ same_name p b n label → Answer t
    named e l f = f ∙ rw m (sym (own-named w p b r label implicit (is-break true (eq-eqb (detail w r) 0 z)) (λ o. e (m ∙ o)) l))

-- the branch is a break
is_break : (c : After-ne) → c.ne.result ≡ false → detail c.args.body.rows.now c.args.row.0 ≡ 0
is_break c f = ne-false _ Break c.branch_at.ensures (sym f ∙ c.ne.ensures)

pub branch_at-requires-clause-allowed : goal.branch_at-requires-clause-allowed
branch_at-requires-clause-allowed c = allowed c.args.body _ c.requires.0

pub returns-then-ne : goal.returns-then-ne
returns-then-ne c =
    other _ _ _ _ _ _ (allowed c.args.body _ c.requires.0) c.requires.1 (ne-true _ Break c.branch_at.ensures (sym c.if-ne.true ∙ c.ne.ensures))

pub returns-then-name-eq0 : goal.returns-then-name-eq0
returns-then-name-eq0 c =
    plain _ _ _ _ _ _ (allowed c.args.body _ c.requires.0) c.requires.1
    (is_break (goal.at.returns-then-name-eq0 c).After-ne c.if-ne.false) c.name-name.ensures c.if-name-eq0.true

pub returns-then-label-eq0 : goal.returns-then-label-eq0
returns-then-label-eq0 c =
    unnamed _ _ _ _ _ _ (allowed c.args.body _ c.requires.0) c.requires.1
    (is_break (goal.at.returns-then-label-eq0 c).After-ne c.if-ne.false) c.name-name.ensures c.if-name-eq0.false c.if-label-eq0.true

pub returns : goal.returns
returns c =
    named _ _ _ _ _ _ (allowed c.args.body _ c.requires.0) c.requires.1
    (is_break (goal.at.returns c).After-ne c.if-ne.false) c.name-name.ensures c.if-name-eq0.false c.if-label-eq0.false
    (rw (c.names.ensures.0, c.names.ensures.1) at c.same.ensures)
