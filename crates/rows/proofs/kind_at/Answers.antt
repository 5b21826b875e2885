-- A kind whose detail is allowed is below 21.
-- Assumes nothing.
use Rattle.rules.proofs.Details.{allowed-small}
use Rattle.rows.proofs.kind_at.Goals as goal

pub numbered-requires : goal.numbered-requires
numbered-requires c = rw c.kind.ensures (allowed-small _ _ c.requires.allowed).0
