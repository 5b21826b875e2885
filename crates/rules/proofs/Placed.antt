-- Good placing, opened once: which rows are told, and by its class what places a row well; of a fallthrough the switch of its Case and the rows after it
-- decide, where there is a next Case.
-- Assumes nothing.
use mathlib.Core.Path.{◌≡◌}
use mathlib.Core.Bool.{true, false, ◌&&◌, not}
use mathlib.Core.List.{List, [], ◌∷◌}
use mathlib.Core.Option.{none, some}
use Prim.Native.Nat.{ℕ, suc, ◌<◌}
use lib.Dec.{eqb}
use borrow.Author.Tests.{eq-eqb, not-false, not-true}
use Rattle.rules.specs.Rows.{row_count, name, end}
use Rattle.rules.specs.Class.{Class, break, continue, fallthrough, switch, one_of, is_switch, is_breakable, is_loop, class}
use Rattle.rules.specs.Scope.{innermost, list_of, only_empty, next_case}
use Rattle.rules.specs.Labels.{is_some}
use Rattle.rules.specs.Placing.{in_expression_switch, ends_case, well_placed, badly_placed, placing}
use Rattle.rules.proofs.Test.{and-true}
use Rattle.rules.proofs.Scan.{lowest-none, lowest-found}

module _ (w : List ℕ) where
  -- ---- the rows that are told
  pub placed-well : placing w ≡ none → (r : ℕ) → r < row_count w → name w r ≡ 0 → well_placed w r ≡ true
  unfolding placing badly_placed
  placed-well e r h n =
      let f = lowest-none (badly_placed w) (row_count w) r e h in
      not-false (well_placed w r) (rw (eq-eqb (name w r) 0 n) at f)

  pub told-bad : (r : ℕ) → placing w ≡ some r → well_placed w r ≡ false
  unfolding placing badly_placed
  told-bad r e =
      let t = (lowest-found (badly_placed w) (row_count w) r e).1 in
      not-true (well_placed w r) (and-true (eqb (name w r) 0) (not (well_placed w r)) t).1

  -- ---- a row by its class
  module _ (r : ℕ) where
    pub well-break : class w r ≡ break → well_placed w r ≡ is_some (innermost w is_breakable r)
    unfolding well_placed
    well-break e = rw (e, well_placed)

    pub well-continue : class w r ≡ continue → well_placed w r ≡ is_some (innermost w is_loop r)
    unfolding well_placed
    well-continue e = rw (e, well_placed, e)

    pub well-fallthrough : class w r ≡ fallthrough → well_placed w r ≡ ends_case w r
    unfolding well_placed
    well-fallthrough e = rw (e, well_placed, e, e)

    abbrev IsNot : Class → Type 0
    IsNot c = one_of (c ∷ []) (class w r) ≡ false

    pub well-other : IsNot break → IsNot continue → IsNot fallthrough → well_placed w r ≡ true
    unfolding well_placed
    well-other b c f = rw (b, well_placed, c, f)

    -- ---- a fallthrough
    pub ends-none : next_case w r ≡ none → ends_case w r ≡ false
    unfolding ends_case
    ends-none e = rw (e, ends_case)

    pub ends_by : (n c : ℕ) → next_case w r ≡ some n → list_of w r ≡ some c
        → ends_case w r ≡ (in_expression_switch w c && only_empty w (suc r) (end w c))
    unfolding ends_case
    ends_by n c e f = rw (e, ends_case, f)

  pub in-switch : (c s : ℕ) → innermost w is_switch c ≡ some s → in_expression_switch w c ≡ one_of (switch ∷ []) (class w s)
  unfolding in_expression_switch
  in-switch c s e = rw (e, in_expression_switch)
