-- A default clause has detail 1 and kind 14 or 17, and nothing else has: the table of the classes says the same.
-- Assumes nothing.
use mathlib.Core.Path.{◌≡◌, ◌∙◌}
use mathlib.Core.Bool.{Bool, true, false, ◌&&◌}
use mathlib.Core.List.{List, [], ◌∷◌}
use Prim.Native.Nat.{ℕ}
use lib.Dec.{eqb}
use Rattle.rules.specs.Rows.{kind, detail}
use Rattle.rules.specs.Class.{is_default, detail_allowed, base}
use Rattle.rules.proofs.ByKind.{among, kind-default}
use Rattle.rows.specs.declared.kinds.Kind.TheVariants.{Case, Comm}
use Rattle.rows.proofs.Numbers.{one-of, not-among}
use Rattle.std.proofs.Common.{rules}
use Rattle.body.proofs.defaults.is_default.Goals as goal

module _ (w : List ℕ) (r : ℕ) (a : detail_allowed (kind w r) (detail w r) ≡ true) {v : Bool} (e : v ≡ eqb (detail w r) 1) where
  by-words : (v && among (14 ∷ 17 ∷ []) (kind w r)) ≡ is_default (base w r)
  unfolding base
  by-words = rw e (kind-default (kind w r) (detail w r) a)

  unmarked : v ≡ false → v ≡ is_default (base w r)
  unmarked f = let b = by-words in f ∙ (rw f at b)

  by_kind : v ≡ true → {t : Bool} → among (14 ∷ 17 ∷ []) (kind w r) ≡ t → t ≡ is_default (base w r)
  by_kind h i = let b = by-words in rw (h, i) at b

pub returns-else-is_marked : goal.returns-else-is_marked
returns-else-is_marked c =
    unmarked c.args.rows.now c.args.row.0 (c.requires.1 _ c.requires.0) c.is_marked.ensures c.if-is_marked.false

pub returns-in-Case : goal.returns-in-Case
returns-in-Case c =
    by_kind c.args.rows.now c.args.row.0 (c.requires.1 _ c.requires.0) c.is_marked.ensures c.if-is_marked.true
    (one-of _ (Case ∷ Comm ∷ []) c.kind_at.ensures (search rules))

pub returns-in_default : goal.returns-in_default
returns-in_default c =
    by_kind c.args.rows.now c.args.row.0 (c.requires.1 _ c.requires.0) c.is_marked.ensures c.if-is_marked.true
    (not-among _ (Case ∷ Comm ∷ []) c.kind_at.ensures (search rules))
