-- The current label stands before the row, and a body has at most 2,000 rows, so its word fits.
-- Assumes nothing.
use native.Mathlib.Omega.{arith}
use Rattle.label_walk.proofs.CurrentLabel.{current-before}
use Rattle.label_walk.proofs.set_block_label.Goals as goal

pub word_of-requires : goal.word_of-requires
word_of-requires c =
    rw c.current_label.ensures
    (omega (
      arith,
      current-before c.args.body.rows.now c.args.body.pairs.now c.args.body.bytes.now c.args.row.0,
      c.requires.row_bound.0,
      c.requires.listing.body.most_rows,
    ))
