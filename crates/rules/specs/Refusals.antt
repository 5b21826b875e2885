-- Document 01, "Refusals, tested in this order": the causes 1 to 6, each with its index, over all rows before the next; and document 02's cause 10 (U4).
-- Sums are over whole numbers, so none wraps. A word is at most 4,294,967,295 by its type.
-- Assumes nothing.
use Rattle.std.specs.Prelude.{◌≡◌, Bool, true, false, ◌&&◌, ◌||◌, not, List, [], ◌∷◌, ℕ, zero, suc, ◌%◌, ltb, leb, eqb, length}
use Rattle.std.proofs.Math.Option.{Option, none, some}
use Rattle.rules.specs.Scan.{lowest, how_many}
use Rattle.rules.specs.Rows.{row_count, kind, detail, position, name, size, end, same_parent, depth}
use Rattle.rules.specs.Class.{Class, plain, declaration, empty, labeled, stop, break, continue, goto, fallthrough, block, case_block, comm_block, if}
use Rattle.rules.specs.Class.{if_else, case, default_case, comm, default_comm, switch, type_switch, select, for, for_cond, one_of, is_branch, is_case, is_comm}
use Rattle.rules.specs.Class.{is_default, is_statement, detail_allowed, base, class}
use Rattle.rules.specs.Names.{count_of_pairs, bad_name_words, bad_pair}

-- ---- 1: row words empty, not a multiple of 5, or over 2,000 rows
unfoldable pub bad_row_words : List ℕ → Bool
bad_row_words w = eqb (length w) 0 || (not (eqb (length w % 5) 0) || ltb 2000 (row_count w))

-- ---- 4: a kind, detail, position or name not allowed

-- Labeled and goto must have a name, other Branches may, the rest have none; no number past the last pair
unfoldable pub name_allowed : Class → ℕ → ℕ → Bool
name_allowed c pairs n = leb n pairs && elim n [ zero ↦ not (one_of (labeled ∷ goto ∷ []) c) | suc m ↦ one_of (labeled ∷ []) c || is_branch c ]

unfoldable pub bad_row : List ℕ → List ℕ → ℕ → Bool
bad_row w p r =
    not (detail_allowed (kind w r) (detail w r) && (ltb 0 (position w r) && name_allowed (base w r) (count_of_pairs p) (name w r)))

-- ---- 5: shape

-- size 0, or past the last row
unfoldable pub bad_size : List ℕ → ℕ → Bool
bad_size w r = eqb (size w r) 0 || ltb (row_count w) (end w r)

-- what stands below a row
pub data Holding : Type 0 where
  nothing statement body branches statements cases comms : Holding

-- Labeled has one child; If has a Block, then with else a Block or If; For, Range, Switch, TypeSwitch and Select have one Block;
-- the Block of either switch holds only Case, of Select only Comm; Block, Case and Comm hold a list; the others have size 1
abbrev pub holding : Class → Holding
holding c = elim c [
  | plain ↦ nothing
  | declaration ↦ nothing
  | empty ↦ nothing
  | labeled ↦ statement
  | stop ↦ nothing
  | break ↦ nothing
  | continue ↦ nothing
  | goto ↦ nothing
  | fallthrough ↦ nothing
  | block ↦ statements
  | case_block ↦ cases
  | comm_block ↦ comms
  | if ↦ body
  | if_else ↦ branches
  | case ↦ statements
  | default_case ↦ statements
  | comm ↦ statements
  | default_comm ↦ statements
  | switch ↦ body
  | type_switch ↦ body
  | select ↦ body
  | for ↦ body
  | for_cond ↦ body
]

-- child number i of a row that holds h may be of class c
abbrev pub may_hold : Holding → ℕ → Class → Bool
may_hold nothing i c = false
may_hold statement i c = elim i [ zero ↦ is_statement c | suc j ↦ false ]
may_hold body i c = elim i [ zero ↦ one_of (block ∷ []) c | suc j ↦ false ]
may_hold branches i c = elim i [ zero ↦ one_of (block ∷ []) c | suc j ↦ elim j [ zero ↦ one_of (block ∷ if ∷ if_else ∷ []) c | suc k ↦ false ] ]
may_hold statements i c = is_statement c
may_hold cases i c = is_case c
may_hold comms i c = is_comm c

-- and how many children there are at least
abbrev pub at_least : Holding → ℕ
at_least h = elim h [ nothing ↦ 0 | statement ↦ 1 | body ↦ 1 | branches ↦ 2 | statements ↦ 0 | cases ↦ 0 | comms ↦ 0 ]

-- the rows from c on, stepped through by size, fill what is left up to e of a row that holds h, the first of them as child number i;
-- the first argument bounds the steps
unfoldable pub children_fit : ℕ → List ℕ → Holding → ℕ → ℕ → ℕ → Bool
children_fit zero w h e i c = false
children_fit (suc f) w h e i c = elim (ltb c e) [
  | true ↦ elim (may_hold h i (base w c) && leb (end w c) e) [ true ↦ children_fit f w h e (suc i) (end w c) | false ↦ false ]
  | false ↦ leb (at_least h) i
]

-- row 0 is a Block of all rows
unfoldable pub is_body : List ℕ → Bool
is_body w = one_of (block ∷ []) (base w 0) && eqb (size w 0) (row_count w)

unfoldable pub bad_shape : List ℕ → ℕ → Bool
bad_shape w r =
    not (children_fit (size w r) w (holding (class w r)) (end w r) 0 (suc r) && elim r [ zero ↦ is_body w | suc q ↦ true ])

-- ---- 10: two defaults in one switch or Select

-- r is a default clause, and so is a row before it in the same Block
unfoldable pub second_default : List ℕ → ℕ → Bool
second_default w r = is_default (base w r) && ltb 0 (how_many (λ q. is_default (base w q) && same_parent w q r) r)

-- ---- the causes with their indexes

abbrev pub when : Bool → Option ℕ
when b = elim b [ true ↦ some 0 | false ↦ none ]

unfoldable pub cause1 : List ℕ → Option ℕ
cause1 w = when (bad_row_words w)

unfoldable pub cause2 : List ℕ → List ℕ → Option ℕ
cause2 p b = when (bad_name_words p b)

unfoldable pub cause3 : List ℕ → List ℕ → Option ℕ
cause3 p b = lowest (bad_pair p b) (count_of_pairs p)

unfoldable pub cause4 : List ℕ → List ℕ → Option ℕ
cause4 w p = lowest (bad_row w p) (row_count w)

-- sizes of 0 or past the last row are sought first, over all rows
unfoldable pub cause5 : List ℕ → Option ℕ
cause5 w = elim (lowest (bad_size w) (row_count w)) [ some r ↦ some r | none ↦ lowest (bad_shape w) (row_count w) ]

-- the first clause that is a second default
unfoldable pub cause10 : List ℕ → Option ℕ
cause10 w = lowest (second_default w) (row_count w)

-- a row over 100 deep
unfoldable pub cause6 : List ℕ → Option ℕ
cause6 w = lowest (λ r. ltb 100 (depth w r)) (row_count w)

-- the causes with their numbers, in the order in which they are tried
abbrev pub causes : List ℕ → List ℕ → List ℕ → List (ℕ × Option ℕ)
causes w p b = (1, cause1 w) ∷ (2, cause2 p b) ∷ (3, cause3 p b) ∷ (4, cause4 w p) ∷ (5, cause5 w) ∷ (10, cause10 w) ∷ (6, cause6 w) ∷ []

-- the number and the index of the first that applies, or none
unfoldable pub first_cause : List (ℕ × Option ℕ) → Option (ℕ × ℕ)
first_cause [] = none
first_cause (c ∷ cs) = elim c.1 [ some i ↦ some (c.0, i) | none ↦ first_cause cs ]

unfoldable pub refusal : List ℕ → List ℕ → List ℕ → Option (ℕ × ℕ)
refusal w p b = first_cause (causes w p b)

-- well-formed: none of the causes 1 to 6 and 10 applies
abbrev pub WellFormed : List ℕ → List ℕ → List ℕ → Type 0
WellFormed w p b = refusal w p b ≡ none
