-- While the list in hand has not ended it is the one around the row; else `still_open` finds that one.
-- Assumes nothing.
use mathlib.Core.Path.{ap}
use native.Mathlib.Omega.{arith}
use Rattle.rules.specs.Labels.{word}
use Rattle.lists.proofs.Opened.{open-found, open_kept}
use Rattle.lists.proofs.list_at.Goals as goal

pub returns-then-r-before : goal.returns-then-r-before
returns-then-r-before c =
    let h = c.requires.sized.1 in
    (open_kept _ _ _ _ h.0 h.1 c.if-r-before.true, h.1)

pub end_of-end-requires : goal.end_of-end-requires
end_of-end-requires c =
    (c.requires.sized.0, omega (arith, c.requires.r_bound, (open-found _ _ _ (ap word c.still_open-list.ensures)).before))
