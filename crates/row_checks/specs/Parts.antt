-- What the walk finds of a row's children from their sizes and kinds, before it comes to them.
-- Assumes nothing.
use Rattle.std.specs.Prelude.{◌≡◌, Bool, true, false, List, ℕ, suc, ◌<◌, eqb, Option, Some, None}
use Rattle.rules.specs.Rows.{kind, detail, size, end}
use Rattle.rules.specs.Class.{detail_allowed, base}
use Rattle.rules.specs.Refusals.{Holding, nothing, statement, body, branches, statements, cases, comms, may_hold}
use Rattle.rows.specs.declared.kinds.Kind.{Kind}
use Rattle.rows.specs.Kinds.{number}

-- a list stands below the row
abbrev pub is_list : Holding → Bool
is_list h = elim h [ nothing ↦ false | statement ↦ false | body ↦ false | branches ↦ false | statements ↦ true | cases ↦ true | comms ↦ true ]

-- the kind that each item of the list has, 0 where any statement may stand
abbrev pub item_kind : Holding → ℕ
item_kind h = elim h [ nothing ↦ 0 | statement ↦ 0 | body ↦ 0 | branches ↦ 0 | statements ↦ 0 | cases ↦ 14 | comms ↦ 17 ]

-- the items of a list that h stands for have this kind, or may be any statement where there is none
abbrev pub Items : Option Kind → Holding → Type 0
Items (Some kind) h = (number kind ≡ item_kind h) × (item_kind h ≡ 0 → ⊥)
Items None h = item_kind h ≡ 0

-- how many defaults the clause c adds to those of its Block
unfoldable pub default_count : List ℕ → ℕ → ℕ
default_count w c = elim (eqb (detail w c) 1) [ true ↦ 1 | false ↦ 0 ]

-- the row c may be child number i of a row that holds h, once its detail is allowed
abbrev pub MayBe : List ℕ → Holding → ℕ → ℕ → Type 0
MayBe w h i c = detail_allowed (kind w c) (detail w c) ≡ true → may_hold h i (base w c) ≡ true

-- the only child of a row that holds h fills it
pub record OneChild (w : List ℕ) (h : Holding) (r : ℕ) : Type 0 where
  pub some_rows : 0 < size w (suc r)
  pub fills : end w (suc r) ≡ end w r
  pub may_be : MayBe w h 0 (suc r)

-- the two parts of an If with else fill it
pub record TwoParts (w : List ℕ) (r : ℕ) : Type 0 where
  pub some_rows : 0 < size w (suc r)
  pub more_rows : 0 < size w (end w (suc r))
  pub fills : end w (end w (suc r)) ≡ end w r
  pub may_be : MayBe w branches 0 (suc r)
  pub other_may_be : MayBe w branches 1 (end w (suc r))

-- the children of a row that holds no list fill it
abbrev pub Parts : List ℕ → Holding → ℕ → Type 0
Parts w nothing r = size w r ≡ 1
Parts w statement r = OneChild w statement r
Parts w body r = OneChild w body r
Parts w branches r = TwoParts w r
Parts w statements r = size w r ≡ 1
Parts w cases r = size w r ≡ 1
Parts w comms r = size w r ≡ 1
