-- The digits that `io::decimal` puts are as few as hold the number, so they are the number in decimal; they fit an array of 20.
-- Assumes nothing.
use mathlib.Core.Path.{◌∙◌}
use Prim.Native.Nat.{◌<◌}
use native.Mathlib.Omega.{arith}
use Rattle.report_lines.proofs.Decimals.{fewest-twenty, fewest-decimal}
use Rattle.report_lines.proofs.Writing.{same_text}
use Rattle.report_lines.proofs.text.number.Goals as goal

pub returns : goal.returns
returns c =
    let d = c.decimal-k.ensures in
    let h : c.args.n < 100000000000000000000 = omega arith in
    same_text (d.digits ∙ fewest-decimal _ _ d.len (fewest-twenty _ _ h d.len)) c.bytes.ensures
