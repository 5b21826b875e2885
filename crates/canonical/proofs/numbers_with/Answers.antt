use Rattle.std.proofs.Common.{arith}
use Rattle.canonical.proofs.Numbering.{numbering_start, numbering-next, key-hash}
use Rattle.canonical.proofs.numbers_with.Goals as goal

pub loop-n-init : goal.loop-n-init
loop-n-init g c = rw (c.new-slots.ensures.0, c.new-slots.ensures.1, c.new-slots.ensures.2) (numbering_start _ _ _ _ _)

pub loop-n-preserved : goal.loop-n-preserved
loop-n-preserved g c =
    rw (c.link.ensures.heads, c.link.ensures.next_in_slot, c.link.ensures.keys)
    (numbering-next _ _ _ _ _ _ _ _ _ _ c.loop-n.invariant (omega arith) _ _ (key-hash _ _ _ _ _ c.bytes_of.ensures c.hash-key.ensures) c.first_same.ensures
    c.requires.sizes.0 (omega arith) (omega arith))
