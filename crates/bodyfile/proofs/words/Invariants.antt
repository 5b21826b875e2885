-- The loop's invariant: the first k words of `out` are the first k words of the file from `from` on.
-- Assumes nothing.
use mathlib.Core.Path.{◌≡◌}
use lib.ListN.{take}
use Rattle.bodyfile.specs.File.{words}
use Rattle.bodyfile.proofs.words.Given as goal

abbrev pub invariant-loop-k : goal.invariant-loop-k
invariant-loop-k l = take l.k l.out ≡ words l.file l.from l.k
