-- What well-formed gives, as facts about rows and pairs of rows. proofs/Facts.antt derives them from the computed test.
-- Assumes nothing.
use Rattle.std.specs.Prelude.{◌≡◌, Bool, true, false, List, [], ◌∷◌, ℕ, suc, ◌*◌, ◌≤◌, ◌<◌, length}
use Rattle.std.proofs.Math.Option.{some}
use Rattle.rules.specs.Rows.{row_count, kind, detail, position, name, size, end, parent, depth, Child}
use Rattle.rules.specs.Class.{Class, block, if, if_else, one_of, is_statement, is_case, is_comm, is_default, following, detail_allowed, base, class}
use Rattle.rules.specs.Names.{count_of_pairs, names_ok}
use Rattle.rules.specs.Refusals.{name_allowed, nothing, statement, body, branches, statements, cases, comms, holding}

-- no size is 0 or past the last row
pub record Sized (w : List ℕ) : Type 0 where
  pub some_rows : (r : ℕ) → r < row_count w → 0 < size w r
  pub within : (r : ℕ) → r < row_count w → end w r ≤ row_count w

-- each kind and detail is allowed
abbrev pub Detailed : List ℕ → Type 0
Detailed w = (r : ℕ) → r < row_count w → detail_allowed (kind w r) (detail w r) ≡ true

-- what begins in a row ends in it
abbrev pub Nested : List ℕ → Type 0
Nested w = (r q : ℕ) → r < row_count w → r < q → q < end w r → end w q ≤ end w r

-- which class may stand directly below which
abbrev pub fits : Class → Class → Bool
fits p c = elim (holding p) [
  | nothing ↦ false
  | statement ↦ is_statement c
  | body ↦ one_of (following p block ∷ []) c
  | branches ↦ one_of (block ∷ if ∷ if_else ∷ []) c
  | statements ↦ is_statement c
  | cases ↦ is_case c
  | comms ↦ is_comm c
]

-- one child, which fills the row
abbrev pub OneChild : List ℕ → ℕ → Type 0
OneChild w r = (suc r < end w r) × (end w (suc r) ≡ end w r)

-- a Block, and a second child that fills the rest
abbrev pub TwoChildren : List ℕ → ℕ → Type 0
TwoChildren w r = (suc r < end w r) × (class w (suc r) ≡ block) × (end w (suc r) < end w r) × (end w (end w (suc r)) ≡ end w r)

-- the child r of p is a default clause, and so is an earlier child of p
pub record SecondChild (w : List ℕ) (p r : ℕ) : Type 0 where
  pub child : Child w p r
  pub default : is_default (base w r) ≡ true
  pub earlier : ℕ
  pub before : earlier < r
  pub earlier_child : Child w p earlier
  pub earlier_default : is_default (base w earlier) ≡ true

-- of the children of p at most one is a default clause
abbrev pub OneDefault : List ℕ → ℕ → Type 0
OneDefault w p = (r : ℕ) → SecondChild w p r → ⊥

pub record Body (w p b : List ℕ) : Type 0 where
  pub some_rows : 0 < row_count w
  pub most_rows : row_count w ≤ 2000
  pub words : length w ≡ row_count w * 5
  pub names : names_ok p b ≡ true
  pub details : Detailed w
  pub positions : (r : ℕ) → r < row_count w → 0 < position w r
  pub named : (r : ℕ) → r < row_count w → name_allowed (base w r) (count_of_pairs p) (name w r) ≡ true
  pub sized : Sized w
  -- row 0 is a Block of all rows
  pub root_class : class w 0 ≡ block
  pub root_size : size w 0 ≡ row_count w
  pub nested : Nested w
  -- a child and its parent
  pub child_fits : (r c : ℕ) → r < row_count w → Child w r c → fits (class w r) (class w c) ≡ true
  pub child_within : (r c : ℕ) → r < row_count w → Child w r c → end w c ≤ end w r
  pub child_parent : (r c : ℕ) → r < row_count w → Child w r c → parent w c ≡ some r
  pub parent_child : (c : ℕ) → 0 < c → c < row_count w → (r : ℕ) × (parent w c ≡ some r) × (r < c) × Child w r c
  -- how many children there are
  pub leaf : (r : ℕ) → r < row_count w → holding (class w r) ≡ nothing → size w r ≡ 1
  pub one_statement : (r : ℕ) → r < row_count w → holding (class w r) ≡ statement → OneChild w r
  pub one_block : (r : ℕ) → r < row_count w → holding (class w r) ≡ body → OneChild w r
  pub two_parts : (r : ℕ) → r < row_count w → holding (class w r) ≡ branches → TwoChildren w r
  pub one_default : (r : ℕ) → r < row_count w → OneDefault w r
  pub shallow : (r : ℕ) → r < row_count w → depth w r ≤ 100

-- the rows of a well-formed body, whatever names are lent with them
abbrev pub Formed : List ℕ → Type 0
Formed w = (p : List ℕ) × (b : List ℕ) × Body w p b
