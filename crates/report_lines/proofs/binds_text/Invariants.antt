-- The loop's invariant: the lines of the rows passed stand behind the heading, each of at most 16 bytes.
-- Assumes nothing.
use Prim.Native.Nat.{◌+◌, ◌*◌, ◌≤◌}
use Rattle.rules.specs.Labels.{each}
use Rattle.report_lines.specs.Text.{bind_line}
use Rattle.report_lines.specs.Wrote.{Wrote}
use Rattle.report_lines.proofs.binds_text.Given as goal

abbrev pub invariant-loop-row : goal.invariant-loop-row
invariant-loop-row l = (l.end ≤ l.initial.end + l.row * 16) × Wrote l.initial.out l.out l.initial.end (each (bind_line l.bindings) l.row) l.end
