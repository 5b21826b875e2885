use Rattle.std.proofs.Common.{refl}
use Rattle.sorting.proofs.Halves.{sorted-short, halves-same}
use Rattle.sorting.proofs.+sort.Goals as goal

pub returns-then-n-lt2 : goal.returns-then-n-lt2
returns-then-n-lt2 t c = (sorted-short _ _ c.args.numbers.now c.if-n-lt2.true, λ P. refl)

pub returns : goal.returns
returns t c =
    let h = halves-same c.args.numbers.now c.sort.new.numbers c.sort-2.new.numbers c.merge.new.out c.sort.auto.numbers c.sort.ensures.1 c.sort-2.ensures.1 in
    rw c.copy.ensures (c.merge.ensures.0, h c.merge.ensures.1)
