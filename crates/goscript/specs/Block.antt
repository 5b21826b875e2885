-- `Block` of goscript's label.rs. A chain of blocks is a list, the innermost first: a block's parent is the rest of the list.
-- Assumes nothing.
use Rattle.std.specs.Prelude.{true, false, List, [], ◌∷◌, ◌++◌, ℕ}
use Rattle.std.proofs.Math.Option.{Option, none, some}
use Rattle.rules.specs.Names.{same_bytes}
use Rattle.goscript.specs.Syntax.{ident, lookup}

pub record Block : Type 0 where
  -- the labelled statement to which the block belongs
  pub lstmt : Option ℕ
  -- the labels declared in it
  pub labels : List ℕ

abbrev pub new : Option ℕ → Block
new lstmt = record { lstmt = lstmt; labels = [] }

-- `insert`: a label is declared in the innermost block
unfoldable pub insert : ℕ → List Block → List Block
insert s [] = []
insert s (block ∷ parents) = record { lstmt = block.lstmt; labels = block.labels ++ s ∷ [] } ∷ parents

unfoldable pub search : (Block → Option ℕ) → List Block → Option ℕ
search f [] = none
search f (block ∷ parents) = elim (f block) [ some l ↦ some l | none ↦ search f parents ]

module _ (w p b : List ℕ) where
  -- the label of that name in the current or an enclosing block
  unfoldable pub goto_target : List ℕ → List Block → Option ℕ
  goto_target name = search (λ block. lookup w p b name block.labels)

  -- the block's own labelled statement, where it has that name
  abbrev pub named : List ℕ → Option ℕ → Option ℕ
  named name lstmt = elim lstmt [ none ↦ none | some s ↦ elim (same_bytes (ident w p b s) name) [ true ↦ some s | false ↦ none ] ]

  -- the innermost enclosing labelled statement of that name
  unfoldable pub enclosing_target : List ℕ → List Block → Option ℕ
  enclosing_target name = search (λ block. named name block.lstmt)
