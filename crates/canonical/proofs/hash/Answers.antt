-- `hash` meets its contract: the fold over the bytes reversed is the hash.
-- Assumes nothing.
use Rattle.std.proofs.Common.{◌≡◌, rules, reverse, ◌∙◌}
use Rattle.std.specs.List.{fold}
use Rattle.canonical.proofs.Hashing.{turn, hash-fold}
use Rattle.canonical.proofs.hash.Goals as goal

pub returns : goal.returns
returns c =
    let e : c.fold.result ≡ fold turn 0 (reverse c.args.name.now) = search rules in
    e ∙ hash-fold c.args.name.now
