-- The statements that both of goscript's walks go into by their one child: it is a Block, as what fits below such a class is, and it ends with them.
-- Assumes nothing.
use mathlib.Core.Path.{◌≡◌, refl}
use mathlib.Core.Bool.{Bool, true}
use mathlib.Core.List.{List, [], ◌∷◌}
use Prim.Native.Nat.{ℕ, suc, ◌<◌}
use Rattle.rules.specs.Scan.{lowest}
use Rattle.rules.specs.Rows.{row_count, end, here}
use Rattle.rules.specs.Class.{Class, if, switch, type_switch, select, for, for_cond, one_of, class}
use Rattle.rules.specs.Refusals.{body as one_block, holding}
use Rattle.rules.specs.Scope.{is_block}
use Rattle.rules.specs.Body.{Body}
use Rattle.rules.proofs.Every.{every}
use Rattle.rules.proofs.ClassRules.{by_one, child-rule}

abbrev pub has_block : Class → Bool
has_block = one_of (if ∷ switch ∷ type_switch ∷ select ∷ for ∷ for_cond ∷ [])

pub block-below : {w p b : List ℕ} (body : Body w p b) (r : ℕ) → r < row_count w → has_block (class w r) ≡ true
    → (suc r < end w r) × (end w (suc r) ≡ end w r) × (is_block (class w (suc r)) ≡ true)
unfolding every lowest
block-below {w} body r h t =
    let k : holding (class w r) ≡ one_block = by_one _ (if ∷ switch ∷ type_switch ∷ select ∷ for ∷ for_cond ∷ []) (class w r) t
    (λ e. rw e) (λ e. rw e) (λ e. rw e) (λ e. rw e) (λ e. rw e) (λ e. rw e) in
    let (l, q) = body.one_block r h k in
    (l, q, child-rule has_block is_block refl (class w r) (class w (suc r)) t (body.child_fits r (suc r) h (here l)))
