-- The first child of an If with else is a Block, the second a Block or If, and there is no third: kinds 12 and 13 in the table of the classes.
-- Assumes nothing.
use mathlib.Core.Path.{refl, sym, ◌∙◌}
use mathlib.Core.List.{[], ◌∷◌}
use mathlib.Core.Logic.{inl, inr}
use borrow.Author.Rules.{rules}
use Rattle.rules.proofs.ByKind.{kind-branch, first_block}
use Rattle.rows.specs.declared.kinds.Kind.TheVariants.{Block, If}
use Rattle.rows.proofs.Numbers.{eq-test, one-of, not-among}
use Rattle.shape.proofs.may_branch.Goals as goal

pub returns-in-0 : goal.returns-in-0
returns-in-0 c d a = c.eq.ensures ∙ eq-test _ Block refl ∙ first_block _ d a _ c.in-0.is

pub returns-in-Block : goal.returns-in-Block
returns-in-Block c d a =
    let either = one-of c.args.kind (If ∷ Block ∷ []) refl (elim c.in-Block.is [ inl e ↦ inr e | inr e ↦ inl e ]) in
    sym either ∙ kind-branch _ d a ∙ rw c.in-1.is

pub returns-in_default-matches : goal.returns-in_default-matches
returns-in_default-matches c d a = sym (not-among c.args.kind (If ∷ Block ∷ []) refl (search rules)) ∙ kind-branch _ d a ∙ rw c.in-1.is
