-- Bodies inside stock's two domains, at their edges: each shows something that a narrower domain would exclude, and has stock's law applied to it.
-- Assumes nothing.
use mathlib.Core.Path.{refl}
use mathlib.Core.List.{List, [], ◌∷◌}
use Prim.Native.Nat.{ℕ}
use Rattle.rules.specs.Bodies.{row_words_of, pairs, bytes, L, M, blank, Labeled, Break, Continue, Goto, Block, Switch, Select, For, ForCond, body1, body6}
use Rattle.rules.specs.Bodies.{select_in_loop}
use Rattle.rules.proofs.Computed.{computed as rules_computed}
use Rattle.goscript.specs.Build.{stock}
use Rattle.goscript.specs.Domains.{names_ended, none_names_ended, carries_label, holds_label, none_labelled}
use Rattle.goscript.specs.Equal.{SameLabels, SameVerdict}
use Rattle.goscript.proofs.Equal.{stock-labels-law, stock-verdict-law}

-- ---- no labelled break or continue names the label of a statement already ended

-- `L: for { break L }`, and `goto L; x := 1; L: return`
pub stock-body1 : SameLabels stock body1 pairs bytes
unfolding rules_computed names_ended none_names_ended
stock-body1 = stock-labels-law body1 pairs bytes refl refl

pub stock-body6 : SameLabels stock body6 pairs bytes
unfolding rules_computed names_ended none_names_ended
stock-body6 = stock-labels-law body6 pairs bytes refl refl

-- M: for c {}; _: for c {}; L: for { for { continue L }; break _; break L; break }; goto M
abbrev other_ended : List ℕ
other_ended = row_words_of
    (Block 17
    ∷ Labeled M 3
    ∷ ForCond 2
    ∷ Block 1
    ∷ Labeled blank 3
    ∷ ForCond 2
    ∷ Block 1
    ∷ Labeled L 9
    ∷ For 8
    ∷ Block 7
    ∷ For 3
    ∷ Block 2
    ∷ Continue L
    ∷ Break blank
    ∷ Break L
    ∷ Break 0
    ∷ Goto M
    ∷ [])

-- a goto may name such a label, a break the label around it or `_`, and a break without a label stands anywhere
pub stock-other-ended : SameLabels stock other_ended pairs bytes
unfolding rules_computed names_ended none_names_ended
stock-other-ended = stock-labels-law other_ended pairs bytes refl refl

-- for { break L }; L: for {}
abbrev not_begun : List ℕ
not_begun = row_words_of (Block 7 ∷ For 3 ∷ Block 2 ∷ Break L ∷ Labeled L 3 ∷ For 2 ∷ Block 1 ∷ [])

-- a break may name the label of a statement that hasn't begun
pub stock-not-begun : SameLabels stock not_begun pairs bytes
unfolding rules_computed names_ended none_names_ended
stock-not-begun = stock-labels-law not_begun pairs bytes refl refl

-- ---- no statement of kinds 15, 16, 18 to 20 carries or holds a label

-- `for { select { comm: return; comm: } }`
pub stock-select : SameVerdict stock select_in_loop pairs bytes
unfolding rules_computed carries_label holds_label none_labelled
stock-select = stock-verdict-law select_in_loop pairs bytes refl refl

-- L: { for c {} }; M: goto L; switch {}; select {}
abbrev labels_beside : List ℕ
labels_beside = row_words_of
    (Block 11 ∷ Labeled L 4 ∷ Block 3 ∷ ForCond 2 ∷ Block 1 ∷ Labeled M 2 ∷ Goto L ∷ Switch 2 ∷ Block 1 ∷ Select 2 ∷ Block 1 ∷ [])

-- a label may stand before such a statement and after it, on a Block that holds it, and on any other statement
pub stock-labels-beside : SameVerdict stock labels_beside pairs bytes
unfolding rules_computed carries_label holds_label none_labelled
stock-labels-beside = stock-verdict-law labels_beside pairs bytes refl refl
