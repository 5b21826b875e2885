-- Rows that carry the same name have the same declared label, since the same labels have it, and the first of them is the declared one. Identifiers
-- are compared as `rules` compares names: by their bytes.
-- Assumes nothing.
use mathlib.Core.Path.{◌≡◌, refl, sym, ◌∙◌}
use mathlib.Core.Bool.{true}
use mathlib.Core.List.{List}
use mathlib.Core.Option.{some}
use Prim.Native.Nat.{ℕ}
use Rattle.rules.specs.Rows.{name}
use Rattle.rules.specs.Names.{same_bytes, same_name}
use Rattle.rules.specs.Labels.{labels, declared, same_names}
use Rattle.rules.proofs.Test.{case-found}
use Rattle.rules.proofs.RowNames.{same_bytes_lem}
use Rattle.rules.proofs.LabelRows.{is_declared_lem, is-labels, declared-first, declared-is, declared-none, none-declared}
use Rattle.goscript.specs.Syntax.{ident}

module _ (w p b : List ℕ) where
  pub same-ident : (r s : ℕ) → same_bytes (ident w p b r) (ident w p b s) ≡ same_names w p b r s
  unfolding ident same_name
  same-ident r s = refl

  labels-same : (g h r : ℕ) → same_names w p b g h ≡ true → labels w p b g r ≡ labels w p b h r
  unfolding labels same_name
  labels-same g h r t = rw (same_bytes_lem p b (name w g) (name w h) t, labels, same_name)

  pub declared_same : (g h : ℕ) → same_names w p b g h ≡ true → declared w p b g ≡ declared w p b h
  declared_same g h t = case-found (declared w p b h)
      (λ d e.
      let (m, u) = is_declared_lem w p b h d e in
      declared-is w p b g d m (labels-same g h d t ∙ u) (λ r l. labels-same g h r t ∙ declared-first w p b h d r e l) ∙ sym e)
      (λ e. none-declared w p b g (λ r l. labels-same g h r t ∙ declared-none w p b h r e l) ∙ sym e)

  -- the declared label of a name is that of its own
  pub declared-own : (g d : ℕ) → declared w p b g ≡ some d → declared w p b d ≡ some d
  declared-own g d e =
      let (m, u) = is_declared_lem w p b g d e in
      declared_same d g (is-labels w p b g d u).1 ∙ e
