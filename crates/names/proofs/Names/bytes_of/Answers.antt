-- `bytes_of` meets its contract: the three ways are those of the definition. Where causes 2 and 3 are ruled out,
-- the pair ends within the bytes, so the part is there.
-- Assumes nothing.
use Rattle.std.proofs.Common.{sym}
use Rattle.rules.proofs.Pairs.{no_name, past-names}
use Rattle.names.proofs.Parts.{part-within, part-name}
use Rattle.names.proofs.Names.bytes_of.Goals as goal

pub returns-then-n-eq0 : goal.returns-then-n-eq0
returns-then-n-eq0 c = sym (no_name _ _ _ c.if-n-eq0.true)

pub returns-then-self-n : goal.returns-then-self-n
returns-then-self-n c = sym (past-names _ _ _ c.if-self-n.true)

pub slice_bounds-result-end-2 : goal.slice_bounds-result-end-2
slice_bounds-result-end-2 c = part-within _ _ _ c.args.self.ok c.if-n-eq0.false c.if-self-n.false

pub returns : goal.returns
returns c = part-name _ _ _ c.args.self.ok c.if-n-eq0.false c.if-self-n.false
