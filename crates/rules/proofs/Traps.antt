-- Bodies on which a wrong reading of document 01 goes wrong, with what the definitions say of them: computed, as the table of its own bodies is.
-- Assumes nothing.
use mathlib.Core.Path.{◌≡◌, refl}
use mathlib.Core.Bool.{Bool, true, false}
use mathlib.Core.List.{List, [], ◌∷◌, map}
use mathlib.Core.Option.{Option, none, some}
use Prim.Native.Nat.{ℕ}
use lib.ListN.{get_or}
use Rattle.rules.specs.Refusals.{refusal}
use Rattle.rules.specs.Labels.{Fault, fault, sheet, bindings}
use Rattle.rules.specs.Placing.{placing}
use Rattle.rules.specs.Verdict.{verdict}
use Rattle.rules.specs.Bodies.{Entry, entry, row_words_of, pairs, bytes, L, M, blank, Empty, Labeled, Expr, Define, Return, Break, Continue, Goto}
use Rattle.rules.specs.Bodies.{Fallthrough, Block, If, IfElse, Case, Default, Switch, TypeSwitch, Comm, DefaultComm, Select, For, ForCond}
use Rattle.rules.proofs.Computed.{computed}

-- well-formed, with these codes on the sheet and this verdict
abbrev Marks : List Entry → List ℕ → Bool → Type 0
Marks l codes v =
    (refusal (row_words_of l) pairs bytes ≡ none)
    × (map (λ (f : Fault). f.code) (sheet (row_words_of l) pairs bytes) ≡ codes)
    × (verdict (row_words_of l) pairs bytes ≡ v)

-- the binding word of a row
abbrev Binds : List Entry → ℕ → ℕ → Type 0
Binds l r word = get_or (bindings (row_words_of l) pairs bytes) r 0 ≡ word

-- well-formed, with this placing
abbrev Places : List Entry → Option ℕ → Type 0
Places l o = (refusal (row_words_of l) pairs bytes ≡ none) × (placing (row_words_of l) ≡ o)

-- ---- gotos

-- goto L; M: L: x := 1
abbrev own_item : List Entry
own_item = Block 5 ∷ Goto L ∷ Labeled M 3 ∷ Labeled L 2 ∷ Define ∷ []

-- goto L; M: x := 1; L: return
abbrev labelled_item : List Entry
labelled_item = Block 6 ∷ Goto L ∷ Labeled M 2 ∷ Define ∷ Labeled L 2 ∷ Return ∷ []

-- goto L; { x := 1 }; L: return
abbrev inner_item : List Entry
inner_item = Block 6 ∷ Goto L ∷ Block 2 ∷ Define ∷ Labeled L 2 ∷ Return ∷ []

-- x := 1; goto L; L: return
abbrev earlier_item : List Entry
earlier_item = Block 5 ∷ Define ∷ Goto L ∷ Labeled L 2 ∷ Return ∷ []

-- goto L; { x := 1; L: return }
abbrev into_block : List Entry
into_block = Block 6 ∷ Goto L ∷ Block 4 ∷ Define ∷ Labeled L 2 ∷ Return ∷ []

-- goto L; _; L: return, with an item of that kind and detail
abbrev over : ℕ → ℕ → List Entry
over kind detail = Block 5 ∷ Goto L ∷ entry kind detail 0 1 ∷ Labeled L 2 ∷ Return ∷ []

-- VAR is a declaration, and another Decl or an Assign that isn't `:=` is none
pub declarations : Marks (over 1 1) (3 ∷ []) true × Marks (over 1 0) [] true × Marks (over 7 0) [] true
unfolding computed
declarations = ((refl, refl, refl), (refl, refl, refl), (refl, refl, refl))

-- the label's own item is no declaration between, nor is one before the goto or one of an inner list, while a labelled declaration is;
-- a goto into a Block jumps over none
pub between : Marks own_item (9 ∷ []) false
    × Binds own_item 1 4
    × Marks labelled_item (3 ∷ 9 ∷ []) true
    × Marks inner_item [] true
    × Marks earlier_item [] true
    × Marks into_block (7 ∷ []) true
unfolding computed
between = ((refl, refl, refl), refl, (refl, refl, refl), (refl, refl, refl), (refl, refl, refl), (refl, refl, refl))

-- x := 1; goto L; y := 1; z := 1; L: return
abbrev latest_item : List ℕ
latest_item = row_words_of (Block 7 ∷ Define ∷ Goto L ∷ Define ∷ Define ∷ Labeled L 2 ∷ Return ∷ [])

-- { goto L }; x := 1; L: return
abbrev from_block : List ℕ
from_block = row_words_of (Block 6 ∷ Block 2 ∷ Goto L ∷ Define ∷ Labeled L 2 ∷ Return ∷ [])

-- the latest declaration is the one reported; a goto out of a Block jumps over what stands between in the label's list
pub latest : (sheet latest_item pairs bytes ≡ record { code = 3; position = 3; name = L; other = 5 } ∷ [])
    × (refusal from_block pairs bytes ≡ none)
    × (sheet from_block pairs bytes ≡ record { code = 3; position = 3; name = L; other = 4 } ∷ [])
    × (bindings from_block pairs bytes ≡ 0 ∷ 0 ∷ 5 ∷ 0 ∷ 5 ∷ 0 ∷ [])
unfolding computed
latest = (refl, refl, refl, refl)

-- { L: return }; L: return; goto L
abbrev after_repeated : List Entry
after_repeated = Block 7 ∷ Block 3 ∷ Labeled L 2 ∷ Return ∷ Labeled L 2 ∷ Return ∷ Goto L ∷ []

-- goto L; L: return; L: return
abbrev before_repeated : List Entry
before_repeated = Block 6 ∷ Goto L ∷ Labeled L 2 ∷ Return ∷ Labeled L 2 ∷ Return ∷ []

-- L: return; goto L; x := 1; L: return
abbrev between_repeated : List Entry
between_repeated = Block 7 ∷ Labeled L 2 ∷ Return ∷ Goto L ∷ Define ∷ Labeled L 2 ∷ Return ∷ []

-- a repeated label is not visible to a goto after it, and the 7 counts as use; a goto is resolved once, to the first label it sees;
-- a repeated label has no binding
pub repeated_labels : Marks after_repeated (1 ∷ 2 ∷ 7 ∷ []) true
    × Binds after_repeated 6 0
    × Binds after_repeated 4 0
    × Marks before_repeated (1 ∷ 2 ∷ []) true
    × Binds before_repeated 1 3
    × Marks between_repeated (1 ∷ 2 ∷ []) true
    × Binds between_repeated 3 2
unfolding computed
repeated_labels = ((refl, refl, refl), refl, refl, (refl, refl, refl), refl, (refl, refl, refl), refl)

-- ---- targets: labels in a run

-- L: M: for { break L }
abbrev outer_label : List Entry
outer_label = Block 6 ∷ Labeled L 5 ∷ Labeled M 4 ∷ For 3 ∷ Block 2 ∷ Break L ∷ []

-- L: for { L: M: for { break L } }
abbrev outer_label_inside : List Entry
outer_label_inside = Block 9 ∷ Labeled L 8 ∷ For 7 ∷ Block 6 ∷ Labeled L 5 ∷ Labeled M 4 ∷ For 3 ∷ Block 2 ∷ Break L ∷ []

-- L: _: for { break L }
abbrev label_on_blank : List Entry
label_on_blank = Block 6 ∷ Labeled L 5 ∷ Labeled blank 4 ∷ For 3 ∷ Block 2 ∷ Break L ∷ []

-- L: for { L: _: for { break L } }
abbrev label_on_blank_inside : List Entry
label_on_blank_inside = Block 9 ∷ Labeled L 8 ∷ For 7 ∷ Block 6 ∷ Labeled L 5 ∷ Labeled blank 4 ∷ For 3 ∷ Block 2 ∷ Break L ∷ []

-- _: L: for { break L }
abbrev label_below_blank : List Entry
label_below_blank = Block 6 ∷ Labeled blank 5 ∷ Labeled L 4 ∷ For 3 ∷ Block 2 ∷ Break L ∷ []

-- _: for { break _ }
abbrev break_blank : List Entry
break_blank = Block 5 ∷ Labeled blank 4 ∷ For 3 ∷ Block 2 ∷ Break blank ∷ []

-- a label is a target only as the last non-blank one of its run, and then of its own statement, which may be another label;
-- `_` is none, but the verdict heeds it
pub runs : Marks outer_label (4 ∷ 9 ∷ 9 ∷ []) true
    × Marks outer_label_inside (1 ∷ 2 ∷ 9 ∷ []) false
    × Marks label_on_blank (4 ∷ 9 ∷ []) true
    × Marks label_on_blank_inside (1 ∷ 2 ∷ 4 ∷ 9 ∷ []) false
    × Marks label_below_blank [] false
    × Binds label_below_blank 5 3
    × Marks break_blank (4 ∷ []) false
unfolding computed
runs = ((refl, refl, refl), (refl, refl, refl), (refl, refl, refl), (refl, refl, refl), (refl, refl, refl), refl, (refl, refl, refl))

-- ---- targets: the innermost

-- L: for { L: { break L } }
abbrev innermost_block : List Entry
innermost_block = Block 7 ∷ Labeled L 6 ∷ For 5 ∷ Block 4 ∷ Labeled L 3 ∷ Block 2 ∷ Break L ∷ []

-- L: { break L }
abbrev break_block : List Entry
break_block = Block 4 ∷ Labeled L 3 ∷ Block 2 ∷ Break L ∷ []

-- L: for { L: break L }
abbrev break_itself : List Entry
break_itself = Block 6 ∷ Labeled L 5 ∷ For 4 ∷ Block 3 ∷ Labeled L 2 ∷ Break L ∷ []

-- L: for {}; L: for { break L }
abbrev break_repeated : List Entry
break_repeated = Block 8 ∷ Labeled L 3 ∷ For 2 ∷ Block 1 ∷ Labeled L 4 ∷ For 3 ∷ Block 2 ∷ Break L ∷ []

-- the innermost label of the name decides, also where its kind is wrong, but only with the branch inside a Block of its statement;
-- an invalid break does not use its label; a valid one binds to the declared label
pub innermost_labels : Marks innermost_block (1 ∷ 2 ∷ 4 ∷ 9 ∷ []) false
    × Binds innermost_block 6 0
    × Marks break_block (4 ∷ 9 ∷ []) false
    × Marks break_itself (1 ∷ 2 ∷ []) false
    × Binds break_itself 5 2
    × Marks break_repeated (1 ∷ 2 ∷ []) false
    × Binds break_repeated 7 2
unfolding computed
innermost_labels = ((refl, refl, refl), refl, (refl, refl, refl), (refl, refl, refl), refl, (refl, refl, refl), refl)

-- ---- targets: the kinds

-- L: switch { default: break L }
abbrev break_labelled_switch : List Entry
break_labelled_switch = Block 6 ∷ Labeled L 5 ∷ Switch 4 ∷ Block 3 ∷ Default 2 ∷ Break L ∷ []

-- L: select { comm: break L }
abbrev break_labelled_select : List Entry
break_labelled_select = Block 6 ∷ Labeled L 5 ∷ Select 4 ∷ Block 3 ∷ Comm 2 ∷ Break L ∷ []

-- L: switch { default: continue L }
abbrev continue_switch : List Entry
continue_switch = Block 6 ∷ Labeled L 5 ∷ Switch 4 ∷ Block 3 ∷ Default 2 ∷ Continue L ∷ []

-- L: for c { continue L }
abbrev continue_loop : List Entry
continue_loop = Block 5 ∷ Labeled L 4 ∷ ForCond 3 ∷ Block 2 ∷ Continue L ∷ []

-- L: switch { case: fallthrough L; default: }
abbrev fallthrough_label : List Entry
fallthrough_label = Block 7 ∷ Labeled L 6 ∷ Switch 5 ∷ Block 4 ∷ Case 2 ∷ entry 11 3 L 1 ∷ Default 1 ∷ []

-- a break also leaves a switch and a Select, a continue needs a loop, a fallthrough has no label
pub kinds : Marks break_labelled_switch [] false
    × Marks break_labelled_select [] false
    × Marks continue_switch (5 ∷ 9 ∷ []) false
    × Marks continue_loop [] false
    × Marks fallthrough_label (6 ∷ 9 ∷ []) false
unfolding computed
kinds = ((refl, refl, refl), (refl, refl, refl), (refl, refl, refl), (refl, refl, refl), (refl, refl, refl))

-- ---- a list's trailing Empty items

-- return; ; ;
abbrev trailing : List Entry
trailing = Block 4 ∷ Return ∷ Empty ∷ Empty ∷ []

-- goto L; L: ;
abbrev labelled_empty : List Entry
labelled_empty = Block 4 ∷ Goto L ∷ Labeled L 2 ∷ Empty ∷ []

-- switch { case: fallthrough; ; default: }
abbrev fallthrough_empty : List Entry
fallthrough_empty = Block 7 ∷ Switch 6 ∷ Block 5 ∷ Case 3 ∷ Fallthrough ∷ Empty ∷ Default 1 ∷ []

-- switch { case: fallthrough; L: ; default: }
abbrev fallthrough_labelled : List Entry
fallthrough_labelled = Block 8 ∷ Switch 7 ∷ Block 6 ∷ Case 4 ∷ Fallthrough ∷ Labeled L 2 ∷ Empty ∷ Default 1 ∷ []

-- they count for nothing only when unlabelled
pub empties : Marks trailing [] true × Marks labelled_empty [] false × Places fallthrough_empty none × Places fallthrough_labelled (some 4)
unfolding computed
empties = ((refl, refl, refl), (refl, refl, refl), (refl, refl), (refl, refl))

-- ---- clauses

-- switch { default: if c { break }; return }
abbrev leaves_switch : List Entry
leaves_switch = Block 8 ∷ Switch 7 ∷ Block 6 ∷ Default 5 ∷ If 3 ∷ Block 2 ∷ Break 0 ∷ Return ∷ []

-- select { comm: if c { break }; return }
abbrev leaves_select : List Entry
leaves_select = Block 8 ∷ Select 7 ∷ Block 6 ∷ Comm 5 ∷ If 3 ∷ Block 2 ∷ Break 0 ∷ Return ∷ []

-- of a switch: a Case without items, a default in any place, no default, a type switch, a break;
-- of a Select: no default, a Comm without items, a break; a default alone, with and without items, and one beside a Comm
pub clauses : Marks (Block 4 ∷ Switch 3 ∷ Block 2 ∷ Default 1 ∷ []) [] false
    × Marks (Block 7 ∷ Switch 6 ∷ Block 5 ∷ Default 2 ∷ Return ∷ Case 2 ∷ Return ∷ []) [] true
    × Marks (Block 5 ∷ Switch 4 ∷ Block 3 ∷ Case 2 ∷ Return ∷ []) [] false
    × Marks (Block 5 ∷ TypeSwitch 4 ∷ Block 3 ∷ Default 2 ∷ Return ∷ []) [] true
    × Marks leaves_switch [] false
    × Marks (Block 5 ∷ Select 4 ∷ Block 3 ∷ Comm 2 ∷ Return ∷ []) [] true
    × Marks (Block 4 ∷ Select 3 ∷ Block 2 ∷ Comm 1 ∷ []) [] false
    × Marks leaves_select [] false
    × Marks (Block 5 ∷ Select 4 ∷ Block 3 ∷ DefaultComm 2 ∷ Return ∷ []) [] true
    × Marks (Block 4 ∷ Select 3 ∷ Block 2 ∷ DefaultComm 1 ∷ []) [] false
    × Marks (Block 7 ∷ Select 6 ∷ Block 5 ∷ DefaultComm 2 ∷ Return ∷ Comm 2 ∷ Return ∷ []) [] true
unfolding computed
clauses = (
  (refl, refl, refl),
  (refl, refl, refl),
  (refl, refl, refl),
  (refl, refl, refl),
  (refl, refl, refl),
  (refl, refl, refl),
  (refl, refl, refl),
  (refl, refl, refl),
  (refl, refl, refl),
  (refl, refl, refl),
  (refl, refl, refl),
)

-- ---- placing

-- break L
abbrev labelled_outside : List Entry
labelled_outside = Block 2 ∷ Break L ∷ []

-- for { switch { default: continue } }
abbrev continue_inside : List Entry
continue_inside = Block 7 ∷ For 6 ∷ Block 5 ∷ Switch 4 ∷ Block 3 ∷ Default 2 ∷ Continue 0 ∷ []

-- switch { default: continue }
abbrev continue_outside : List Entry
continue_outside = Block 5 ∷ Switch 4 ∷ Block 3 ∷ Default 2 ∷ Continue 0 ∷ []

-- switch { case: L: fallthrough; default: }
abbrev label_included : List Entry
label_included = Block 7 ∷ Switch 6 ∷ Block 5 ∷ Case 3 ∷ Labeled L 2 ∷ Fallthrough ∷ Default 1 ∷ []

-- switch { case: fallthrough; x(); default: }
abbrev not_last : List Entry
not_last = Block 7 ∷ Switch 6 ∷ Block 5 ∷ Case 3 ∷ Fallthrough ∷ Expr ∷ Default 1 ∷ []

-- switch { case: { fallthrough }; default: }
abbrev inner_block : List Entry
inner_block = Block 7 ∷ Switch 6 ∷ Block 5 ∷ Case 3 ∷ Block 2 ∷ Fallthrough ∷ Default 1 ∷ []

-- a labelled branch is never its concern; a continue needs a loop around it;
-- a fallthrough is the last item of its Case, with its labels, and in no Block of its own; of two rows badly placed the first is told
pub places : Places labelled_outside none
    × Places (Block 2 ∷ Break 0 ∷ []) (some 1)
    × Places continue_inside none
    × Places continue_outside (some 4)
    × Places label_included none
    × Places not_last (some 4)
    × Places inner_block (some 5)
    × Places (Block 4 ∷ Expr ∷ Continue 0 ∷ Break 0 ∷ []) (some 2)
unfolding computed
places = ((refl, refl), (refl, refl), (refl, refl), (refl, refl), (refl, refl), (refl, refl), (refl, refl), (refl, refl))

-- ---- fallthrough in a type switch

-- switch x.(type) { case: fallthrough; ; default: }
abbrev type_empty : List Entry
type_empty = Block 7 ∷ TypeSwitch 6 ∷ Block 5 ∷ Case 3 ∷ Fallthrough ∷ Empty ∷ Default 1 ∷ []

-- switch x.(type) { case: L: fallthrough; default: }
abbrev type_label : List Entry
type_label = Block 7 ∷ TypeSwitch 6 ∷ Block 5 ∷ Case 3 ∷ Labeled L 2 ∷ Fallthrough ∷ Default 1 ∷ []

-- a switch in a Case, itself in a Case of another switch: { case: { case: fallthrough; default: }; default: }
abbrev switch_in : Entry → Entry → List Entry
switch_in outer inner = Block 10 ∷ outer ∷ Block 8 ∷ Case 6 ∷ inner ∷ Block 4 ∷ Case 2 ∷ Fallthrough ∷ Default 1 ∷ Default 1 ∷ []

-- a fallthrough after a switch in a Case: { case: { case: }; fallthrough; default: }
abbrev switch_before : Entry → Entry → List Entry
switch_before outer inner = Block 9 ∷ outer ∷ Block 7 ∷ Case 5 ∷ inner ∷ Block 2 ∷ Case 1 ∷ Fallthrough ∷ Default 1 ∷ []

-- switch { case: select { comm: fallthrough; default: }; default: }
abbrev comm_in : List Entry
comm_in = Block 10 ∷ Switch 9 ∷ Block 8 ∷ Case 6 ∷ Select 5 ∷ Block 4 ∷ Comm 2 ∷ Fallthrough ∷ DefaultComm 1 ∷ Default 1 ∷ []

-- none is well placed there, last or not, with labels or Empty rows after it; the switch of its own Case decides, not one around that or beside it
pub type-switches : Places (Block 7 ∷ TypeSwitch 6 ∷ Block 5 ∷ Case 2 ∷ Fallthrough ∷ Default 2 ∷ Return ∷ []) (some 4)
    × Places (Block 5 ∷ TypeSwitch 4 ∷ Block 3 ∷ Default 2 ∷ Fallthrough ∷ []) (some 4)
    × Places type_empty (some 4)
    × Places type_label (some 5)
    × Places (switch_in (TypeSwitch 9) (Switch 5)) none
    × Places (switch_in (Switch 9) (TypeSwitch 5)) (some 7)
    × Places (switch_before (TypeSwitch 8) (Switch 3)) (some 7)
    × Places (switch_before (Switch 8) (TypeSwitch 3)) none
    × Places comm_in (some 7)
unfolding computed
type-switches = ((refl, refl), (refl, refl), (refl, refl), (refl, refl), (refl, refl), (refl, refl), (refl, refl), (refl, refl), (refl, refl))

-- ---- verdicts

-- for { switch { default: break } }
abbrev break_switch : List Entry
break_switch = Block 7 ∷ For 6 ∷ Block 5 ∷ Switch 4 ∷ Block 3 ∷ Default 2 ∷ Break 0 ∷ []

-- L: for { switch { default: break L } }
abbrev break_loop : List Entry
break_loop = Block 8 ∷ Labeled L 7 ∷ For 6 ∷ Block 5 ∷ Switch 4 ∷ Block 3 ∷ Default 2 ∷ Break L ∷ []

-- switch { default: for { break }; return }
abbrev break_inside : List Entry
break_inside = Block 8 ∷ Switch 7 ∷ Block 6 ∷ Default 5 ∷ For 3 ∷ Block 2 ∷ Break 0 ∷ Return ∷ []

-- an unlabelled break refers to the innermost statement; If needs an else, and both parts; a For with a condition and a Range never are terminating;
-- a label changes nothing; a panic is terminating and another call not
pub verdicts : Marks break_switch [] true
    × Marks break_loop [] false
    × Marks break_inside [] true
    × Marks (Block 6 ∷ IfElse 5 ∷ Block 2 ∷ Return ∷ Block 2 ∷ Return ∷ []) [] true
    × Marks (Block 5 ∷ IfElse 4 ∷ Block 2 ∷ Return ∷ Block 1 ∷ []) [] false
    × Marks (Block 5 ∷ IfElse 4 ∷ Block 1 ∷ Block 2 ∷ Return ∷ []) [] false
    × Marks (Block 4 ∷ If 3 ∷ Block 2 ∷ Return ∷ []) [] false
    × Marks (Block 3 ∷ ForCond 2 ∷ Block 1 ∷ []) [] false
    × Marks (Block 3 ∷ entry 20 0 0 2 ∷ Block 1 ∷ []) [] false
    × Marks (Block 4 ∷ Labeled L 3 ∷ Block 2 ∷ Return ∷ []) (9 ∷ []) true
    × Marks (Block 2 ∷ entry 4 1 0 1 ∷ []) [] true
    × Marks (Block 2 ∷ Expr ∷ []) [] false
unfolding computed
verdicts = (
  (refl, refl, refl),
  (refl, refl, refl),
  (refl, refl, refl),
  (refl, refl, refl),
  (refl, refl, refl),
  (refl, refl, refl),
  (refl, refl, refl),
  (refl, refl, refl),
  (refl, refl, refl),
  (refl, refl, refl),
  (refl, refl, refl),
  (refl, refl, refl),
)

-- ---- names: ab (1 and 4), a (2) and 0x_fF (3), with a byte between ab and a that no name has
abbrev four_pairs : List ℕ
four_pairs = 0 ∷ 2 ∷ 3 ∷ 1 ∷ 4 ∷ 1 ∷ 5 ∷ 2 ∷ []

abbrev four_names : List ℕ
four_names = 97 ∷ 98 ∷ 0 ∷ 97 ∷ 255 ∷ 97 ∷ 98 ∷ []

-- 0x_fF: ab: a: return
abbrev three_labels : List ℕ
three_labels = row_words_of (Block 5 ∷ Labeled 3 4 ∷ Labeled 1 3 ∷ Labeled 2 2 ∷ Return ∷ [])

-- ab: ab: return, under two numbers
abbrev two_numbers : List ℕ
two_numbers = row_words_of (Block 4 ∷ Labeled 1 3 ∷ Labeled 4 2 ∷ Return ∷ [])

-- goto ab; ab: return, under two numbers
abbrev goto_other : List ℕ
goto_other = row_words_of (Block 4 ∷ Goto 1 ∷ Labeled 4 2 ∷ Return ∷ [])

-- the 9s stand by bytes, a prefix first and bytes unsigned; equal bytes are one name, and each row is reported with its own number
pub names : (refusal three_labels four_pairs four_names ≡ none)
    × (sheet three_labels four_pairs four_names ≡ fault three_labels 9 3 ∷ fault three_labels 9 2 ∷ fault three_labels 9 1 ∷ [])
    × (refusal two_numbers four_pairs four_names ≡ none)
    × (sheet two_numbers four_pairs four_names ≡ fault two_numbers 1 2 ∷ fault two_numbers 2 1 ∷ fault two_numbers 9 1 ∷ [])
    × (refusal goto_other four_pairs four_names ≡ none)
    × (sheet goto_other four_pairs four_names ≡ [])
    × (bindings goto_other four_pairs four_names ≡ 0 ∷ 3 ∷ 3 ∷ 0 ∷ [])
unfolding computed
names = (refl, refl, refl, refl, refl, refl, refl)

-- ---- positions repeat and say nothing about order: goto L; x := 1; L: return, at the positions 7, 7, 9, 2, 7
abbrev any_positions : List ℕ
any_positions =
    12 ∷ 0 ∷ 7 ∷ 0 ∷ 5 ∷ 11 ∷ 2 ∷ 7 ∷ L ∷ 1 ∷ 7 ∷ 1 ∷ 9 ∷ 0 ∷ 1 ∷ 3 ∷ 0 ∷ 2 ∷ L ∷ 2 ∷ 10 ∷ 0 ∷ 7 ∷ 0 ∷ 1 ∷ []

pub positions : (refusal any_positions pairs bytes ≡ none)
    × (sheet any_positions pairs bytes ≡ record { code = 3; position = 7; name = L; other = 9 } ∷ [])
unfolding computed
positions = (refl, refl)
