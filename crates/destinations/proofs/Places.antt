-- The place that each Branch of a body without a fault goes to, as a number, by the words of the tables: Referred.antt and Falling.antt say which row it is.
-- Assumes nothing.
use mathlib.Core.Path.{◌≡◌, refl, sym, ◌∙◌, ap}
use mathlib.Core.List.{List}
use mathlib.Core.Option.{some}
use Prim.Native.Nat.{ℕ, ◌+◌, ◌-◌, ◌≤◌, ◌<◌}
use native.Mathlib.Omega.{arith}
use lib.ListN.{get_or}
use Rattle.rules.specs.Rows.{row_count, kind, detail, size, end}
use Rattle.rules.specs.Class.{class_of, class}
use Rattle.rules.specs.Body.{Body}
use Rattle.rules.specs.Law.{AllLawful}
use Rattle.rules.specs.Runner.{at, step}
use Rattle.rules.specs.Walking.{Faultless, place_of}
use Rattle.rules.proofs.Facts as facts
use Rattle.rules.proofs.Lists.{branch-class}
use Rattle.rules.proofs.SheetLaw.{sheet-law}
use Rattle.rules.proofs.WalkSteps.{place-row}
use Rattle.enclosing.specs.declared.Enclosing.{Enclosing}
use Rattle.enclosing.specs.Enclosing.{outside}
use Rattle.destinations.specs.Destinations.{Tables}
use Rattle.destinations.proofs.Referred.{referred, break-step, continue-step, goto-step}
use Rattle.destinations.proofs.Falling.{fallthrough-step}

pub formed : {w p b : List ℕ} → Faultless w p b → Body w p b
formed {w} {p} {b} f = facts.body w p b f.well_formed

all-lawful : {w p b : List ℕ} → Faultless w p b → AllLawful w p b
all-lawful {w} {p} {b} f = (sheet-law w p b f.well_formed).0 f.no_fault

-- where the row n ends, as the code has it
pub end_of : (w : List ℕ) (k n s : ℕ) → k ≡ n → s ≡ size w k → k + s ≡ end w n
end_of w k n s e f = rw (f, e)

module _ {w p b bindings afters : List ℕ} {enclosing : List Enclosing} (t : Tables w p b bindings afters enclosing) (r : ℕ)
    (here : (r < row_count w) × (kind w r ≡ 11)) where
  abbrev Goes : ℕ → Type 0
  Goes x = step w p b (at r) 0 ≡ some (place_of x)

  goes_to : (s x : ℕ) → step w p b (at r) 0 ≡ some (at s) → x ≡ s + 2 → Goes x
  goes_to s x e f = e ∙ ap some (sym (place-row x s (omega arith)))

  -- the rows around row r
  abbrev within : Enclosing
  within = get_or enclosing r outside

  -- the statement that a break leaves, then that of a continue
  abbrev left : ℕ
  left = referred (get_or bindings r 0) within.breakable

  abbrev again : ℕ
  again = referred (get_or bindings r 0) within.repeated

  of-detail : (n : ℕ) → detail w r ≡ n → class w r ≡ class_of 11 n
  of-detail n = branch-class w r (detail w r) n ((formed t.faultless).details r here.0) here.1 refl

  abbrev pub BreakPlace : Type 0
  BreakPlace = (get_or bindings r 0 ≡ 0 → 0 < within.breakable) × (left < row_count w) × Goes (get_or afters left 0)

  pub on-break : detail w r ≡ 0 → BreakPlace
  unfolding class_of
  on-break d =
      let f = t.faultless in
      let (h, l, e) = break-step (formed f) (all-lawful f) f.placed r here.0 _ _ (t.bound.words r here.0) (of-detail 0 d) (t.breakable_rows r here.0) in
      (h, l, e ∙ ap some (sym (t.after_rows left l)))

  abbrev pub ContinuePlace : Type 0
  ContinuePlace = (get_or bindings r 0 ≡ 0 → 0 < within.repeated) × (again < row_count w) × ((x : ℕ) → x ≡ again + 2 → Goes x)

  pub on-continue : detail w r ≡ 1 → ContinuePlace
  unfolding class_of
  on-continue d =
      let f = t.faultless in
      let (h, l, e) = continue-step (formed f) (all-lawful f) f.placed r here.0 _ _ (t.bound.words r here.0) (of-detail 1 d) (t.loop_rows r here.0) in
      (h, l, λ x. goes_to again x e)

  abbrev GotoPlace : Type 0
  GotoPlace = (get_or bindings r 0 ≤ row_count w) × ((x : ℕ) → x ≡ get_or bindings r 0 + 1 → Goes x)

  pub on_goto : detail w r ≡ 2 → GotoPlace
  unfolding class_of
  on_goto d =
      let f = t.faultless in
      let (h, l, e) = goto-step (formed f) (all-lawful f) f.placed r here.0 _ (t.bound.words r here.0) (of-detail 2 d) in
      (l, λ x i. goes_to (get_or bindings r 0 - 1) x e (omega arith))

  abbrev pub FallthroughPlace : Type 0
  FallthroughPlace = (0 < within.case) × (within.case ≤ row_count w) × (end w (within.case - 1) ≤ row_count w)
      × ((x : ℕ) → x ≡ end w (within.case - 1) + 2 → Goes x)

  pub on-fallthrough : detail w r ≡ 3 → FallthroughPlace
  unfolding class_of
  on-fallthrough d =
      let f = t.faultless in
      let (h, l, e) = fallthrough-step (formed f) (all-lawful f) f.placed r here.0 _ (t.case_rows r here.0) (of-detail 3 d) in
      (h, l, (formed f).sized.within (within.case - 1) (omega arith), λ x. goes_to (end w (within.case - 1)) x e)
