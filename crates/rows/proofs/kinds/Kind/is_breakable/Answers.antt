-- The table of the classes says of the five kinds of the arms, and of no other, that a break can leave them: one test over the table.
-- Assumes nothing.
use mathlib.Core.Path.{◌≡◌, refl, sym, ◌∙◌}
use mathlib.Core.Bool.{true}
use mathlib.Core.List.{List, [], ◌∷◌, map}
use Prim.Native.Nat.{ℕ}
use Rattle.std.proofs.Common.{rules}
use Rattle.rules.specs.Scan.{lowest}
use Rattle.rules.specs.Class.{is_breakable, detail_allowed, class_of}
use Rattle.rules.proofs.Every.{every}
use Rattle.rules.proofs.ByKind.{among, by_kind}
use Rattle.rows.specs.Kinds.{number}
use Rattle.rows.specs.declared.kinds.Kind.{Kind}
use Rattle.rows.specs.declared.kinds.Kind.TheVariants.{Switch, TypeSwitch, Select, For, Range}
use Rattle.rows.proofs.Numbers.{one-of, not-among}
use Rattle.rows.proofs.kinds.Kind.is_breakable.Goals as goal

abbrev breakable : List Kind
breakable = Switch ∷ TypeSwitch ∷ Select ∷ For ∷ Range ∷ []

kind-breakable : (k d : ℕ) → detail_allowed k d ≡ true → among (map number breakable) k ≡ is_breakable (class_of k d)
unfolding every lowest detail_allowed class_of
kind-breakable k d a = by_kind (among (map number breakable)) is_breakable refl k d a

pub returns-in-Switch : goal.returns-in-Switch
returns-in-Switch c d a = sym (one-of _ breakable refl c.in-Switch.is) ∙ kind-breakable _ d a

pub returns-in_default : goal.returns-in_default
returns-in_default c d a = sym (not-among c.args.self breakable refl (search rules)) ∙ kind-breakable _ d a
