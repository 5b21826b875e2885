-- The loop's invariant: the first i lines stand behind the heading, each of at most 44 bytes.
-- Assumes nothing.
use Prim.Native.Nat.{◌+◌, ◌*◌, ◌≤◌}
use Rattle.rules.specs.Labels.{each}
use Rattle.report_lines.specs.Wrote.{Wrote}
use Rattle.report_lines.specs.Lines.{sheet_line}
use Rattle.report_lines.proofs.sheet_text.Given as goal

abbrev pub invariant-loop-i : goal.invariant-loop-i
invariant-loop-i l = (l.end ≤ l.initial.end + l.i * 44) × Wrote l.initial.out l.out l.initial.end (each (sheet_line l.sheet) l.i) l.end
