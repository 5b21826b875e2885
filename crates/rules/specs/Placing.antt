-- Document 01, "Placing call", with document 02, U5: which unlabelled break, continue and fallthrough are well placed.
-- Assumes nothing.
use Rattle.std.specs.Prelude.{Bool, true, false, ◌&&◌, not, List, [], ◌∷◌, ℕ, suc, eqb}
use Rattle.std.proofs.Math.Option.{Option, none, some}
use Rattle.rules.specs.Scan.{lowest}
use Rattle.rules.specs.Rows.{row_count, name, end}
use Rattle.rules.specs.Class.{break, continue, fallthrough, switch, one_of, is_switch, is_breakable, is_loop, class}
use Rattle.rules.specs.Scope.{innermost, list_of, only_empty, next_case}
use Rattle.rules.specs.Labels.{is_some, is_class}

module _ (w : List ℕ) where
  -- the switch of the Case c is of kind 15: "fallthrough" is not permitted in a type switch
  unfoldable pub in_expression_switch : ℕ → Bool
  in_expression_switch c = elim (innermost w is_switch c) [ none ↦ false | some s ↦ one_of (switch ∷ []) (class w s) ]

  -- a fallthrough, its labels included, as last non-Empty item of a Case that isn't the last of its switch, which is of kind 15
  unfoldable pub ends_case : ℕ → Bool
  ends_case r =
      is_some (next_case w r) && elim (list_of w r) [ none ↦ false | some c ↦ in_expression_switch c && only_empty w (suc r) (end w c) ]

  -- a break inside kinds 15, 16, 18, 19 or 20; a continue inside 19 or 20; a fallthrough as above; no other row has to be placed
  unfoldable pub well_placed : ℕ → Bool
  well_placed r =
      elim (is_class w break r) [
        | true ↦ is_some (innermost w is_breakable r)
        | false ↦
            elim (is_class w continue r) [
              | true ↦ is_some (innermost w is_loop r)
              | false ↦
                  elim (is_class w fallthrough r) [ true ↦ ends_case r | false ↦ true ]
            ]
      ]

  -- an unlabelled branch that is not well placed
  unfoldable pub badly_placed : ℕ → Bool
  badly_placed r = eqb (name w r) 0 && not (well_placed r)

  -- the first row badly placed, or none
  unfoldable pub placing : Option ℕ
  placing = lowest badly_placed (row_count w)
