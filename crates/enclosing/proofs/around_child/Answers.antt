-- The kind of row p says which of the classes it has.
-- Assumes nothing.
use mathlib.Core.Path.{refl, ◌∙◌}
use Rattle.rules.specs.Class.{is_breakable, is_loop}
use Rattle.rules.proofs.Lists.{by-words, own-breakable, own-loop, row-case}
use Rattle.rows.specs.declared.kinds.Kind.TheVariants.{Case}
use Rattle.rows.proofs.Numbers.{eq-test}
use Rattle.enclosing.proofs.around_child.Goals as goal

pub returns-clause-breakable : goal.returns-clause-breakable
returns-clause-breakable c =
    let e = by-words is_breakable _ _ _ _ (own-breakable _ _) c.kind_at-kind.ensures (c.requires.2 _ c.requires.0) c.is_breakable.ensures in
    rw e at c.from_parent.ensures

pub returns-clause-repeated : goal.returns-clause-repeated
returns-clause-repeated c =
    let e = by-words is_loop _ _ _ _ (own-loop _ _) c.kind_at-kind.ensures (c.requires.2 _ c.requires.0) c.is_loop.ensures in
    rw e at c.from_parent-2.ensures

pub returns-clause-case : goal.returns-clause-case
returns-clause-case c =
    let e = c.eq.ensures ∙ eq-test _ Case c.kind_at-kind.ensures ∙ row-case _ _ _ refl (c.requires.2 _ c.requires.0) in
    rw e at c.from_parent-3.ensures
