-- goscript's list rule is that of `rules`: the last item that is no Empty, found from the end, is the one behind which nothing but Empty stands.
-- No label stands on an item of a list, so it is asked without one.
-- Assumes nothing.
use mathlib.Core.Path.{◌≡◌, sym, ◌∙◌}
use mathlib.Core.Bool.{true}
use mathlib.Core.List.{List, ◌∷◌}
use mathlib.Core.Option.{Option, none, some}
use Prim.Native.Nat.{ℕ, suc, ◌*◌, ◌<◌}
use native.Mathlib.Omega.{arith}
use native.Mathlib.Decide.{ℕ_discrete}
use borrow.Author.Tests.{not-false}
use Rattle.rules.specs.Rows.{row_count, size, end, here, later}
use Rattle.rules.specs.Class.{empty, is_statement, class}
use Rattle.rules.specs.Scope.{is_list, only_empty}
use Rattle.rules.specs.Labels.{is_class}
use Rattle.rules.specs.Body.{Body}
use Rattle.rules.proofs.Test.{case-of, case-found, clash}
use Rattle.rules.proofs.Every.{is_one}
use Rattle.rules.proofs.Nesting.{item-before, item_from}
use Rattle.rules.proofs.Around.{only-empty, all-empty}
use Rattle.breaks.specs.Leaves.{label_number}
use Rattle.returns.specs.Search.{Last, is_terminating_body, is_terminating_list as is_terminating_items}
use Rattle.breaks.proofs.Ranges.{closed-below, label-of-item, list-label, list-statements}
use Rattle.returns.proofs.Calls.{one-row-empties}
use Rattle.returns.proofs.ByClass as by_class
use Rattle.returns.proofs.ByClass.{last-answer}
use Rattle.goscript.specs.Build.{Build}
use Rattle.goscript.specs.Syntax.{find_last, list}
use Rattle.goscript.specs.Returns.{non_empty, is_terminating, is_terminating_list}
use Rattle.goscript.proofs.ListItems.{of-list}
use Rattle.goscript.proofs.VerdictSteps.{last_none, last-later, last-here, last-passed, list-empty, list-last}
use Rattle.goscript.proofs.VerdictSearch.{label_of}

-- of the items from c on, before e, the last that is no Empty is found, or there is none
abbrev LastOf : List ℕ → ℕ → ℕ → Option ℕ → Type 0
LastOf w c e (some s) = Last w c e s
LastOf w c e none = only_empty w c e ≡ true

-- f calls are enough to answer for a statement as `rules` does
abbrev pub Answered : Build → List ℕ → List ℕ → List ℕ → ℕ → Type 0
Answered build w p b f = (s : ℕ) → s < row_count w → is_statement (class w s) ≡ true → 2 * size w s < f
    → is_terminating build w p b f s (label_of p b (label_number w s)) ≡ is_terminating_body w p b s

module _ {w p b : List ℕ} (body : Body w p b) (q : ℕ) (h : q < row_count w) where
  -- an item before those of which the last is known
  module _ (c : ℕ) (l : List ℕ) (m : c < end w q) (rest : LastOf w (end w c) (end w q) (find_last (non_empty w) l)) where
    found-later : (s : ℕ) → find_last (non_empty w) l ≡ some s → LastOf w c (end w q) (find_last (non_empty w) (c ∷ l))
    found-later s f =
        let k : Last w (end w c) (end w q) s = rw f at rest in
        rw (last-later (non_empty w) c s l f) (record { item = later m k.item; no_empty = k.no_empty; rest = k.rest })

    found_here : find_last (non_empty w) l ≡ none → LastOf w c (end w q) (find_last (non_empty w) (c ∷ l))
    found_here f =
        let k : only_empty w (end w c) (end w q) ≡ true = rw f at rest in
        case-of (non_empty w c)
        (λ t. rw (last-here (non_empty w) c l f t) (record { item = here m; no_empty = λ e. clash (cc); rest = k }))
        (λ t.
        let e = is_one (class w c) empty (not-false (is_class w empty c) t) in
        let n = one-row-empties body c (omega (arith, body.sized.within q h)) e in
        rw (last-passed (non_empty w) c l f t) (all-empty w c (end w q) (λ r i j. elim (ℕ_discrete r c) [
          | yes z ↦ rw z e
          | no z ↦ only-empty w (end w c) (end w q) k r (omega arith) j
        ])))

  last_of : LastOf w (suc q) (end w q) (find_last (non_empty w) (list w q))
  last_of = of-list body q h (λ c l. LastOf w c (end w q) (find_last (non_empty w) l))
      (rw (last_none (non_empty w)) (all-empty w (end w q) (end w q) (λ r i j. absurd (omega arith))))
      (λ c l a m i rest. case-found (find_last (non_empty w) l) (found-later c l m rest) (found_here c l m rest))

  -- the list of a row that holds one
  pub list-rule : (build : Build) (f : ℕ) → Answered build w p b f → is_list (class w q) ≡ true → 2 * size w q < suc (suc f)
      → is_terminating_list build w p b (suc f) (list w q) none ≡ is_terminating_items w p b (end w q) (suc q)
  list-rule build f answered t x = case-found (find_last (non_empty w) (list w q))
      (λ s e.
      let k : Last w (suc q) (end w q) s = rw e at last_of in
      let i = item_from k.item in
      let j = item-before k.item in
      let d = closed-below body q h in
      let o = d.ends s i j in
      let n = label-of-item body d.within k.item (list-label body q t) in
      list-last build w p b f (list w q) none s e
      ∙ last-answer body d k (rw n at (answered s (omega (arith, d.within)) (list-statements body q h t s k.item) (omega arith))))
      (λ e. list-empty build w p b f (list w q) none e ∙ sym (by_class.list-empty body (end w q) (suc q) (closed-below body q h) (rw e at last_of)))
