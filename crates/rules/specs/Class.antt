-- What a row is, decoded from its kind and detail by one table, which is also document 01's table of the allowed details.
-- Assumes nothing.
use Rattle.std.specs.Prelude.{Bool, true, false, ◌||◌, not, List, [], ◌∷◌, ℕ, zero, suc, ltb, eqb, length, get_or}
use Rattle.rules.specs.Rows.{kind, detail}

-- A class for each kind and detail that some rule tells apart:
-- plain is Bad, Decl but VAR, Expr but a panic, Send, IncDec, Assign but `:=`, Go and Defer; declaration is VAR and `:=`; stop is Return and a panic;
-- for is For without a condition, for_cond For with one and Range; case_block and comm_block are the Block of a switch and of a Select.
pub data Class : Type 0 where
  plain declaration empty labeled stop : Class
  break continue goto fallthrough : Class
  block case_block comm_block : Class
  if if_else : Class
  case default_case comm default_comm : Class
  switch type_switch select : Class
  for for_cond : Class

-- one line a kind from 0 to 20, one entry for each allowed detail from 0 on
abbrev pub classes : List (List Class)
classes =
    (plain ∷ [])  -- Bad
    ∷ (plain ∷ declaration ∷ [])  -- Decl
    ∷ (empty ∷ [])  -- Empty
    ∷ (labeled ∷ [])  -- Labeled
    ∷ (plain ∷ stop ∷ [])  -- Expr
    ∷ (plain ∷ [])  -- Send
    ∷ (plain ∷ [])  -- IncDec
    ∷ (plain ∷ declaration ∷ [])  -- Assign
    ∷ (plain ∷ [])  -- Go
    ∷ (plain ∷ [])  -- Defer
    ∷ (stop ∷ [])  -- Return
    ∷ (break ∷ continue ∷ goto ∷ fallthrough ∷ [])  -- Branch
    ∷ (block ∷ [])  -- Block
    ∷ (if ∷ if_else ∷ [])  -- If
    ∷ (case ∷ default_case ∷ [])  -- Case
    ∷ (switch ∷ [])  -- Switch
    ∷ (type_switch ∷ [])  -- TypeSwitch
    ∷ (comm ∷ default_comm ∷ [])  -- Comm
    ∷ (select ∷ [])  -- Select
    ∷ (for ∷ for_cond ∷ [])  -- For
    ∷ (for_cond ∷ [])  -- Range
    ∷ []

-- the table of the allowed details
unfoldable pub detail_allowed : ℕ → ℕ → Bool
detail_allowed k d = ltb d (length (get_or classes k []))

-- the class of a kind with a detail
unfoldable pub class_of : ℕ → ℕ → Class
class_of k d = get_or (get_or classes k []) d plain

-- ---- classes are compared by number
abbrev pub code : Class → ℕ
code c = elim c [
  | plain ↦ 0
  | declaration ↦ 1
  | empty ↦ 2
  | labeled ↦ 3
  | stop ↦ 4
  | break ↦ 5
  | continue ↦ 6
  | goto ↦ 7
  | fallthrough ↦ 8
  | block ↦ 9
  | case_block ↦ 10
  | comm_block ↦ 11
  | if ↦ 12
  | if_else ↦ 13
  | case ↦ 14
  | default_case ↦ 15
  | comm ↦ 16
  | default_comm ↦ 17
  | switch ↦ 18
  | type_switch ↦ 19
  | select ↦ 20
  | for ↦ 21
  | for_cond ↦ 22
]

abbrev pub one_of : List Class → Class → Bool
one_of [] c = false
one_of (d ∷ ds) c = eqb (code c) (code d) || one_of ds c

abbrev pub is_branch : Class → Bool
is_branch = one_of (break ∷ continue ∷ goto ∷ fallthrough ∷ [])

-- either switch
abbrev pub is_switch : Class → Bool
is_switch = one_of (switch ∷ type_switch ∷ [])

-- kinds 19 and 20, which a continue needs
abbrev pub is_loop : Class → Bool
is_loop = one_of (for ∷ for_cond ∷ [])

-- kinds 15, 16, 18, 19 and 20, which a break needs
abbrev pub is_breakable : Class → Bool
is_breakable c = (is_switch c || one_of (select ∷ []) c) || is_loop c

abbrev pub is_case : Class → Bool
is_case = one_of (case ∷ default_case ∷ [])

abbrev pub is_comm : Class → Bool
is_comm = one_of (comm ∷ default_comm ∷ [])

-- a default clause, of either switch or of Select
abbrev pub is_default : Class → Bool
is_default = one_of (default_case ∷ default_comm ∷ [])

-- what may be an item of a list
abbrev pub is_statement : Class → Bool
is_statement c = not ((is_case c || is_comm c) || one_of (case_block ∷ comm_block ∷ []) c)

-- ---- the class of a row

-- the row's class by its own words
unfoldable pub base : List ℕ → ℕ → Class
base w r = class_of (kind w r) (detail w r)

-- what a row of class c is right after a row of class b: a Block that follows a switch or Select is the Block of it, since children follow their parent
abbrev pub following : Class → Class → Class
following b c = elim (one_of (block ∷ []) c) [
  | false ↦ c
  | true ↦ elim (is_switch b) [ true ↦ case_block | false ↦ elim (one_of (select ∷ []) b) [ true ↦ comm_block | false ↦ c ] ]
]

-- the row's class, the Block of a switch or Select told apart
unfoldable pub class : List ℕ → ℕ → Class
class w zero = base w zero
class w (suc q) = following (base w q) (base w (suc q))
