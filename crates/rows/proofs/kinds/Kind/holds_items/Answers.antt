-- The table of the classes says of the kinds 12, 14 and 17, and of no other, that they hold items.
-- Assumes nothing.
use mathlib.Core.Path.{refl, sym, ◌∙◌}
use mathlib.Core.List.{[], ◌∷◌}
use Rattle.std.proofs.Common.{rules}
use Rattle.rules.proofs.ByKind.{kind-items}
use Rattle.rows.specs.declared.kinds.Kind.TheVariants.{Block, Case, Comm}
use Rattle.rows.proofs.Numbers.{one-of, not-among}
use Rattle.rows.proofs.kinds.Kind.holds_items.Goals as goal

pub returns-in-Block : goal.returns-in-Block
returns-in-Block c d a = sym (one-of _ (Block ∷ Case ∷ Comm ∷ []) refl c.in-Block.is) ∙ kind-items _ d a

pub returns-in_default : goal.returns-in_default
returns-in_default c d a = sym (not-among c.args.self (Block ∷ Case ∷ Comm ∷ []) refl (search rules)) ∙ kind-items _ d a
