use mathlib.Core.Path.{sym, ◌∙◌}
use Prim.Native.Nat.{◌+◌}
use borrow.Author.Rules.{rules}
use Rattle.tables.proofs.Filling.{filling-start, filling-blank, filling-kept, filling-end}
use Rattle.tables.proofs.canon_table.Goals as goal
use Rattle.tables.proofs.canon_table.Goals.{then-is_blank, else-is_blank}

pub loop-n-init : goal.loop-n-init
loop-n-init c = filling-start _ _ _ _ c.canonical_numbers.ensures (search rules)

pub loop-n-preserved : goal.loop-n-preserved
loop-n-preserved c =
    let i = c.loop-n.invariant in
    elim c.if-is_blank.branch [
      | then-is_blank w ↦ rw w.canonical-is (filling-blank _ _ _ _ i (search rules) (sym c.is_blank.ensures ∙ w.if-is_blank.true))
      | else-is_blank w ↦ rw w.canonical-is (filling-kept _ _ _ _ i (search rules) (sym c.is_blank.ensures ∙ w.if-is_blank.false))
    ]

-- after the last name
pub returns-after-is_blank : goal.returns-after-is_blank
returns-after-is_blank c =
    let i = c.loop-n.invariant in
    filling-end _ _ _ (c.loop-n.n + 1) (elim c.if-is_blank.branch [
      | then-is_blank w ↦ rw w.canonical-is (filling-blank _ _ _ _ i (search rules) (sym c.is_blank.ensures ∙ w.if-is_blank.true))
      | else-is_blank w ↦ rw w.canonical-is (filling-kept _ _ _ _ i (search rules) (sym c.is_blank.ensures ∙ w.if-is_blank.false))
    ]) (search rules)
