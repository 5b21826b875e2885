-- In each arm the holding is known, and the table of the classes says of the kind what the definition says of the class.
-- Assumes nothing.
use mathlib.Core.Path.{refl, ◌∙◌}
use Rattle.rules.proofs.ByKind.{kind-case, kind-comm, one_block}
use Rattle.rows.specs.declared.kinds.Kind.TheVariants.{Block, Case, Comm}
use Rattle.rows.proofs.Numbers.{eq-test}
use Rattle.shape.proofs.Holding.may_hold.Goals as goal

pub returns-then-i-eq0-2 : goal.returns-then-i-eq0-2
returns-then-i-eq0-2 c d a = rw c.in-Body.is (c.eq.ensures ∙ eq-test _ Block refl ∙ one_block _ d a _ c.if-i-eq0-2.true)

pub returns-in-Cases : goal.returns-in-Cases
returns-in-Cases c d a = rw c.in-Cases.is (c.eq-in-Cases.ensures ∙ eq-test _ Case refl ∙ kind-case _ d a)

pub returns-in-Comms : goal.returns-in-Comms
returns-in-Comms c d a = rw c.in-Comms.is (c.eq-in-Comms.ensures ∙ eq-test _ Comm refl ∙ kind-comm _ d a)
