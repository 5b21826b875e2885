-- What `rows::is_marked` says of a row's detail: where it is true the detail is 1, and where it is false it isn't.
--   `if rows::is_marked(rows, row)`   marked c.is_marked.ensures c.if-is_marked.true : detail w r ≡ 1; where it fails,
--                                     unmarked c.is_marked.ensures c.if-is_marked.false : detail w r ≡ 1 → ⊥
-- Assumes nothing.
use mathlib.Core.Path.{◌≡◌, sym, ◌∙◌}
use mathlib.Core.Bool.{Bool, true, false}
use Prim.Native.Nat.{ℕ}
use lib.Dec.{eqb}
use borrow.Author.Tests.{eqb-true, eq-eqb}
use Rattle.rules.proofs.Test.{clash}

pub marked : {v : Bool} {d : ℕ} → v ≡ eqb d 1 → v ≡ true → d ≡ 1
marked {v} {d} e t = eqb-true d 1 (sym e ∙ t)

pub unmarked : {v : Bool} {d : ℕ} → v ≡ eqb d 1 → v ≡ false → d ≡ 1 → ⊥
unmarked {v} {d} e f i = clash (cc (sym f ∙ e, eq-eqb d 1 i))
