-- The tests of the kind are those of the class by the table of the allowed details: Case, Comm, or anything but these.
-- Assumes nothing.
use mathlib.Core.Path.{◌≡◌, refl, ◌∙◌, ap}
use mathlib.Core.Bool.{true}
use Prim.Native.Nat.{ℕ}
use lib.Dec.{eqb}
use Rattle.rules.specs.Class.{detail_allowed, class_of}
use Rattle.rules.specs.Refusals.{Holding, nothing, statement as one, body, branches, statements, cases, comms, may_hold}
use Rattle.rules.proofs.ByKind.{kind-case, kind-comm}
use Rattle.rows.proofs.Numbers.{eq-test}
use Rattle.row_checks.specs.Parts.{is_list, item_kind}
use Rattle.row_checks.proofs.RightRows.{never}
use Rattle.row_checks.proofs.parts.may_be_item.Goals as goal

module _ (k d n : ℕ) (a : detail_allowed k d ≡ true) where
  one-kind : (h : Holding) → is_list h ≡ true → (n ≡ item_kind h) × (item_kind h ≡ 0 → ⊥) → eqb k n ≡ may_hold h 0 (class_of k d)
  one-kind nothing l e = never l
  one-kind one l e = never l
  one-kind body l e = never l
  one-kind branches l e = never l
  one-kind statements l e = absurd (e.1 refl)
  one-kind cases l e = ap (eqb k) e.0 ∙ kind-case k d a
  one-kind comms l e = ap (eqb k) e.0 ∙ kind-comm k d a

pub returns-in-Some : goal.returns-in-Some
returns-in-Some c h d l e a = c.eq.ensures ∙ eq-test _ c.in-Some.clause refl ∙ one-kind _ d _ a h l (rw c.in-Some.is at e)
