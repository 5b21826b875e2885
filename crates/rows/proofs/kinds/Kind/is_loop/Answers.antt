-- The table of the classes says of the kinds 19 and 20, and of no other, that they are loops.
-- Assumes nothing.
use mathlib.Core.Path.{refl, sym, ◌∙◌}
use mathlib.Core.List.{[], ◌∷◌}
use Rattle.std.proofs.Common.{rules}
use Rattle.rules.proofs.ByKind.{kind-loop}
use Rattle.rows.specs.declared.kinds.Kind.TheVariants.{For, Range}
use Rattle.rows.proofs.Numbers.{one-of, not-among}
use Rattle.rows.proofs.kinds.Kind.is_loop.Goals as goal

pub returns-in-For : goal.returns-in-For
returns-in-For c d a = sym (one-of _ (For ∷ Range ∷ []) refl c.in-For.is) ∙ kind-loop _ d a

pub returns-in_default : goal.returns-in_default
returns-in_default c d a = sym (not-among c.args.self (For ∷ Range ∷ []) refl (search rules)) ∙ kind-loop _ d a
