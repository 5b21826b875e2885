-- The tally of bodies, computed: how many Branch rows have a label, how many have a nonzero binding, and how many sheet rows have the codes 4 to 8.
-- Assumes nothing.
use mathlib.Core.Path.{◌≡◌, refl}
use mathlib.Core.List.{List, [], ◌∷◌}
use mathlib.Core.Option.{none}
use Prim.Native.Nat.{ℕ}
use Rattle.rules.specs.Refusals.{refusal}
use Rattle.rules.specs.Labels.{sheet, bindings}
use Rattle.rules.specs.Tally.{labelled_branches, bound_branches, unbound_rows}
use Rattle.rules.specs.Bodies.{entry, row_words_of, pairs, bytes, L, M, Labeled, Return, Break, Continue, Goto, Block, Case, Default, Switch, For}
use Rattle.rules.specs.Bodies.{body1, body2, body4, body6, body7, body8, body9, body10, goto_nowhere}
use Rattle.rules.proofs.Computed.{computed}

-- well-formed, with so many labelled Branch rows, of which so many are bound, and so many rows of the sheet for those that aren't
abbrev Tally : List ℕ → ℕ → ℕ → ℕ → Type 0
Tally w labelled bound unbound =
    (refusal w pairs bytes ≡ none)
    × (labelled_branches w ≡ labelled)
    × (bound_branches w (bindings w pairs bytes) ≡ bound)
    × (unbound_rows (sheet w pairs bytes) ≡ unbound)

-- L: switch { case: fallthrough L; default: }
abbrev pub fallthrough_label : List ℕ
fallthrough_label = row_words_of (Block 7 ∷ Labeled L 6 ∷ Switch 5 ∷ Block 4 ∷ Case 2 ∷ entry 11 3 L 1 ∷ Default 1 ∷ [])

-- L: switch { default: continue L }
abbrev continue_switch : List ℕ
continue_switch = row_words_of (Block 6 ∷ Labeled L 5 ∷ Switch 4 ∷ Block 3 ∷ Default 2 ∷ Continue L ∷ [])

-- L: for { break L; break; continue M; goto M }; M: return; goto L
abbrev pub several_branches : List ℕ
several_branches = row_words_of
    (Block 11 ∷ Labeled L 7 ∷ For 6 ∷ Block 5 ∷ Break L ∷ Break 0 ∷ Continue M ∷ Goto M ∷ Labeled M 2 ∷ Return ∷ Goto L ∷ [])

-- each term is nonzero somewhere: a valid break; an invalid one, whose label gets a 9 besides; an invalid continue; a labelled fallthrough; gotos with 3
-- (bound, and counted there alone), 7, and 8, of `_` too; one bound to a repeated label; a break without a label, and no branch at all
pub tallies : Tally body1 1 1 0
    × Tally body2 1 0 1
    × Tally continue_switch 1 0 1
    × Tally fallthrough_label 1 0 1
    × Tally body6 1 1 0
    × Tally body7 1 0 1
    × Tally body8 1 0 1
    × Tally goto_nowhere 1 0 1
    × Tally body9 1 1 0
    × Tally body4 0 0 0
    × Tally body10 0 0 0
    × Tally several_branches 4 3 1
unfolding computed
tallies = (
  (refl, refl, refl, refl),
  (refl, refl, refl, refl),
  (refl, refl, refl, refl),
  (refl, refl, refl, refl),
  (refl, refl, refl, refl),
  (refl, refl, refl, refl),
  (refl, refl, refl, refl),
  (refl, refl, refl, refl),
  (refl, refl, refl, refl),
  (refl, refl, refl, refl),
  (refl, refl, refl, refl),
  (refl, refl, refl, refl),
)
