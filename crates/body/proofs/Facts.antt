-- The facts of the body that a function has, since it is well-formed; and what they say of a row, where the check itself cites it.
-- Assumes nothing.
use mathlib.Core.Path.{◌≡◌}
use mathlib.Core.Bool.{true}
use Prim.Native.Nat.{ℕ, ◌+◌, ◌≤◌, ◌<◌}
use native.Mathlib.Omega.{arith}
use Rattle.rules.specs.Rows.{row_count, kind, detail, size}
use Rattle.rules.specs.Class.{detail_allowed}
use Rattle.rules.specs.Body as rules
use Rattle.rules.proofs.Facts.{body}
use Rattle.body.specs.declared.Body.{Body}

module _ (b : Body) where
  pub facts_of : rules.Body b.rows.now b.pairs.now b.bytes.now
  facts_of = body _ _ _ b.well_formed

  module _ (r : ℕ) (h : r < row_count b.rows.now) where
    pub allowed : detail_allowed (kind b.rows.now r) (detail b.rows.now r) ≡ true
    allowed = facts_of.details r h

    pub some_rows : 0 < size b.rows.now r
    some_rows = facts_of.sized.some_rows r h

    pub end_fits : size b.rows.now r + r ≤ 2000
    end_fits = omega (arith, facts_of.sized.within r h, facts_of.most_rows)
