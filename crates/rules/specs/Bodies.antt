-- Document 01, "Bodies to try": the bodies 1 to 12 as rows, with the names L, M and `_`, each row at the position of its number plus 1; then bodies
-- for the runner.
-- Assumes nothing.
use Rattle.std.specs.Prelude.{List, [], ◌∷◌, ℕ, suc}

-- one row without its position: kind, detail, name, size
pub record Entry : Type 0 where
  pub kind : ℕ
  pub detail : ℕ
  pub name : ℕ
  pub size : ℕ

abbrev pub entry : ℕ → ℕ → ℕ → ℕ → Entry
entry k d n s = record { kind = k; detail = d; name = n; size = s }

-- the words of some rows, the first at position q
abbrev pub rows_from : ℕ → List Entry → List ℕ
rows_from q [] = []
rows_from q (e ∷ es) = e.kind ∷ e.detail ∷ q ∷ e.name ∷ e.size ∷ rows_from (suc q) es

abbrev pub row_words_of : List Entry → List ℕ
row_words_of es = rows_from 1 es

-- ---- the names L (1), M (2) and `_` (3)
abbrev pub pairs : List ℕ
pairs = 0 ∷ 1 ∷ 1 ∷ 1 ∷ 2 ∷ 1 ∷ []

abbrev pub bytes : List ℕ
bytes = 76 ∷ 77 ∷ 95 ∷ []

abbrev pub L : ℕ
L = 1

abbrev pub M : ℕ
M = 2

abbrev pub blank : ℕ
blank = 3

-- ---- rows by kind, with the size where it isn't 1
abbrev pub Empty : Entry
Empty = entry 2 0 0 1

abbrev pub Labeled : ℕ → ℕ → Entry
Labeled n s = entry 3 0 n s

abbrev pub Expr : Entry
Expr = entry 4 0 0 1

abbrev pub Define : Entry
Define = entry 7 1 0 1

abbrev pub Return : Entry
Return = entry 10 0 0 1

-- the branches, with their name or 0
abbrev pub Break : ℕ → Entry
Break n = entry 11 0 n 1

abbrev pub Continue : ℕ → Entry
Continue n = entry 11 1 n 1

abbrev pub Goto : ℕ → Entry
Goto n = entry 11 2 n 1

abbrev pub Fallthrough : Entry
Fallthrough = entry 11 3 0 1

abbrev pub Block : ℕ → Entry
Block s = entry 12 0 0 s

abbrev pub If : ℕ → Entry
If s = entry 13 0 0 s

abbrev pub IfElse : ℕ → Entry
IfElse s = entry 13 1 0 s

abbrev pub Case : ℕ → Entry
Case s = entry 14 0 0 s

abbrev pub Default : ℕ → Entry
Default s = entry 14 1 0 s

abbrev pub Switch : ℕ → Entry
Switch s = entry 15 0 0 s

abbrev pub TypeSwitch : ℕ → Entry
TypeSwitch s = entry 16 0 0 s

abbrev pub Comm : ℕ → Entry
Comm s = entry 17 0 0 s

abbrev pub DefaultComm : ℕ → Entry
DefaultComm s = entry 17 1 0 s

abbrev pub Select : ℕ → Entry
Select s = entry 18 0 0 s

abbrev pub For : ℕ → Entry
For s = entry 19 0 0 s

abbrev pub ForCond : ℕ → Entry
ForCond s = entry 19 1 0 s

-- ---- the bodies

-- L: for { break L }
abbrev pub body1 : List ℕ
body1 = row_words_of (Block 5 ∷ Labeled L 4 ∷ For 3 ∷ Block 2 ∷ Break L ∷ [])

-- L: for {}; for { break L }
abbrev pub body2 : List ℕ
body2 = row_words_of (Block 7 ∷ Labeled L 3 ∷ For 2 ∷ Block 1 ∷ For 3 ∷ Block 2 ∷ Break L ∷ [])

-- L: for { M: for { break L } }
abbrev pub body3 : List ℕ
body3 = row_words_of (Block 8 ∷ Labeled L 7 ∷ For 6 ∷ Block 5 ∷ Labeled M 4 ∷ For 3 ∷ Block 2 ∷ Break L ∷ [])

-- L: for { for { break } }
abbrev pub body4 : List ℕ
body4 = row_words_of (Block 7 ∷ Labeled L 6 ∷ For 5 ∷ Block 4 ∷ For 3 ∷ Block 2 ∷ Break 0 ∷ [])

-- for { M: for { break M } }
abbrev pub body5 : List ℕ
body5 = row_words_of (Block 7 ∷ For 6 ∷ Block 5 ∷ Labeled M 4 ∷ For 3 ∷ Block 2 ∷ Break M ∷ [])

-- goto L; x := 1; L: return
abbrev pub body6 : List ℕ
body6 = row_words_of (Block 5 ∷ Goto L ∷ Define ∷ Labeled L 2 ∷ Return ∷ [])

-- goto L; { L: return }
abbrev pub body7 : List ℕ
body7 = row_words_of (Block 5 ∷ Goto L ∷ Block 3 ∷ Labeled L 2 ∷ Return ∷ [])

-- goto _; _: return
abbrev pub body8 : List ℕ
body8 = row_words_of (Block 4 ∷ Goto blank ∷ Labeled blank 2 ∷ Return ∷ [])

-- { L: return }; goto L; L: return
abbrev pub body9 : List ℕ
body9 = row_words_of (Block 7 ∷ Block 3 ∷ Labeled L 2 ∷ Return ∷ Goto L ∷ Labeled L 2 ∷ Return ∷ [])

-- no items
abbrev pub body10 : List ℕ
body10 = row_words_of (Block 1 ∷ [])

-- select {}, and switch {}
abbrev pub body11 : List ℕ
body11 = row_words_of (Block 3 ∷ Select 2 ∷ Block 1 ∷ [])

abbrev pub body11s : List ℕ
body11s = row_words_of (Block 3 ∷ Switch 2 ∷ Block 1 ∷ [])

-- switch { default: fallthrough }
abbrev pub body12 : List ℕ
body12 = row_words_of (Block 5 ∷ Switch 4 ∷ Block 3 ∷ Default 2 ∷ Fallthrough ∷ [])

-- ---- bodies for the runner

-- L: for { switch { case: break L; default: return } }; return
abbrev pub break_from_switch : List ℕ
break_from_switch = row_words_of
    (Block 11 ∷ Labeled L 9 ∷ For 8 ∷ Block 7 ∷ Switch 6 ∷ Block 5 ∷ Case 2 ∷ Break L ∷ Default 2 ∷ Return ∷ Return ∷ [])

-- goto L; M: return; L: goto M
abbrev pub goto_and_back : List ℕ
goto_and_back = row_words_of (Block 6 ∷ Goto L ∷ Labeled M 2 ∷ Return ∷ Labeled L 2 ∷ Goto M ∷ [])

-- switch { case: fallthrough; default: return }
abbrev pub fall_into_default : List ℕ
fall_into_default = row_words_of (Block 7 ∷ Switch 6 ∷ Block 5 ∷ Case 2 ∷ Fallthrough ∷ Default 2 ∷ Return ∷ [])

-- the same in a type switch: switch x.(type) { case: fallthrough; default: return }
abbrev pub fall_in_type_switch : List ℕ
fall_in_type_switch = row_words_of (Block 7 ∷ TypeSwitch 6 ∷ Block 5 ∷ Case 2 ∷ Fallthrough ∷ Default 2 ∷ Return ∷ [])

-- switch x.(type) { case: L: fallthrough; default: }
abbrev pub label_in_type_switch : List ℕ
label_in_type_switch = row_words_of (Block 7 ∷ TypeSwitch 6 ∷ Block 5 ∷ Case 3 ∷ Labeled L 2 ∷ Fallthrough ∷ Default 1 ∷ [])

-- for { select { comm: return; comm: } }
abbrev pub select_in_loop : List ℕ
select_in_loop = row_words_of (Block 8 ∷ For 7 ∷ Block 6 ∷ Select 5 ∷ Block 4 ∷ Comm 2 ∷ Return ∷ Comm 1 ∷ [])

-- switch { case: default: return }; return
abbrev pub past_switch : List ℕ
past_switch = row_words_of (Block 7 ∷ Switch 5 ∷ Block 4 ∷ Case 1 ∷ Default 2 ∷ Return ∷ Return ∷ [])

-- switch { case: return }; return
abbrev pub switch_goes_on : List ℕ
switch_goes_on = row_words_of (Block 6 ∷ Switch 4 ∷ Block 3 ∷ Case 2 ∷ Return ∷ Return ∷ [])

-- L: for { for c { continue L } }
abbrev pub continue_outer : List ℕ
continue_outer = row_words_of (Block 7 ∷ Labeled L 6 ∷ For 5 ∷ Block 4 ∷ ForCond 3 ∷ Block 2 ∷ Continue L ∷ [])

-- if c {}
abbrev pub empty_if : List ℕ
empty_if = row_words_of (Block 3 ∷ If 2 ∷ Block 1 ∷ [])

-- goto L
abbrev pub goto_nowhere : List ℕ
goto_nowhere = row_words_of (Block 2 ∷ Goto L ∷ [])

-- L: for { L: for { break L } }, and the same with continue
abbrev pub break_of_two : List ℕ
break_of_two = row_words_of (Block 8 ∷ Labeled L 7 ∷ For 6 ∷ Block 5 ∷ Labeled L 4 ∷ For 3 ∷ Block 2 ∷ Break L ∷ [])

abbrev pub continue_of_two : List ℕ
continue_of_two = row_words_of (Block 8 ∷ Labeled L 7 ∷ For 6 ∷ Block 5 ∷ Labeled L 4 ∷ For 3 ∷ Block 2 ∷ Continue L ∷ [])

-- select { comm: return; default: }; return
abbrev pub empty_default : List ℕ
empty_default = row_words_of (Block 7 ∷ Select 5 ∷ Block 4 ∷ Comm 2 ∷ Return ∷ DefaultComm 1 ∷ Return ∷ [])

-- a For without its Block, which is refused
abbrev pub for_alone : List ℕ
for_alone = row_words_of (For 1 ∷ [])

-- ---- bodies for the walk

-- switch {}
abbrev pub empty_switch : List ℕ
empty_switch = row_words_of (Block 3 ∷ Switch 2 ∷ Block 1 ∷ [])

-- select {}
abbrev pub empty_select : List ℕ
empty_select = row_words_of (Block 3 ∷ Select 2 ∷ Block 1 ∷ [])

-- for {}
abbrev pub empty_for : List ℕ
empty_for = row_words_of (Block 3 ∷ For 2 ∷ Block 1 ∷ [])

-- goto L in a Block that ends before it, which is refused
abbrev pub goto_past_end : List ℕ
goto_past_end = row_words_of (Block 1 ∷ Goto L ∷ [])
