-- Row 0 is a Block exactly if its kind is 12; what is left is the comparison of its size with the number of rows.
-- Assumes nothing.
use mathlib.Core.Path.{sym, ◌∙◌, ap}
use Prim.Native.Nat.{ℕ}
use native.Mathlib.Omega.{arith}
use lib.Dec.{eqb}
use Rattle.rules.specs.Rows.{row_count}
use Rattle.rules.proofs.Children.{other-root, block-root}
use Rattle.rows.specs.declared.kinds.Kind.TheVariants.{Block}
use Rattle.rows.proofs.Numbers.{ne-true, ne-false}
use Rattle.shape.proofs.is_body.Goals as goal

pub returns-then-ne : goal.returns-then-ne
returns-then-ne c =
    sym (other-root c.args.rows.now (c.requires.1 0 (omega arith)) (ne-true _ Block c.kind_at.ensures c.if-ne.ensures))

pub returns : goal.returns
returns c =
    ap (λ (n : ℕ). eqb n (row_count c.args.rows.now)) c.size.ensures
    ∙ sym (block-root c.args.rows.now (c.requires.1 0 (omega arith)) (ne-false _ Block c.kind_at.ensures c.if-ne.ensures))
