-- The declared label of a rank is that of each row with a name of that rank: two names of the body have the same rank exactly when their bytes are the same.
-- Assumes nothing.
use mathlib.Core.Path.{◌≡◌, sym, ◌∙◌, ap}
use mathlib.Core.Bool.{true}
use mathlib.Core.List.{List}
use mathlib.Core.Option.{some}
use Prim.Native.Nat.{ℕ, ◌<◌}
use native.Mathlib.Omega.{arith}
use Rattle.rules.specs.Rows.{row_count, name}
use Rattle.rules.specs.Names.{rank}
use Rattle.rules.specs.Body.{Body}
use Rattle.rules.specs.Labels.{is_label, labels, declared, declared_at}
use Rattle.rules.proofs.Test.{case-of, clash}
use Rattle.rules.proofs.Scan.{lowest-same}
use Rattle.rules.proofs.Order.{same_rank, rank_same}
use Rattle.rules.proofs.RowNames.{same_bytes_lem, bytes_same, name-within, labeled-named}
use Rattle.rules.proofs.LabelRows.{is-label, labels-is, is-labels}
use Rattle.rules.proofs.SheetRows.{is_ranked, ranked-is, is-ranked, is-declared-at}

module _ {w p b : List ℕ} (body : Body w p b) where
  pub label-named : (r : ℕ) → r < row_count w → is_label w p b r ≡ true → 0 < name w r
  label-named r h t = labeled-named body r h (is-label w p b r (omega (arith, body.root_size)) t).labels

  -- a label with the rank of a name is one of that name
  ranked-labels : (g r : ℕ) → g < row_count w → 0 < name w g → r < row_count w → is_ranked w p b (rank p b (name w g)) r ≡ labels w p b g r
  ranked-labels g r h z k = case-of (labels w p b g r)
      (λ t.
      let x = is-labels w p b g r t in
      ranked-is w p b (rank p b (name w g)) r x.0 (same_rank p b (name w r) (name w g) (same_bytes_lem p b (name w r) (name w g) x.1)) ∙ sym t)
      (λ f. case-of (is_ranked w p b (rank p b (name w g)) r)
      (λ t.
      let x = is-ranked w p b (rank p b (name w g)) r t in
      let e = rank_same p b (name w r) (name w g) (label-named r k x.0) (name-within body r k) z (name-within body g h) x.1 in
      absurd (clash (cc (f, labels-is w p b g r x.0 (bytes_same p b (name w r) (name w g) e)))))
      (λ u. u ∙ sym f))

  pub declared-rank : (g : ℕ) → g < row_count w → 0 < name w g → declared_at w p b (rank p b (name w g)) ≡ declared w p b g
  unfolding declared_at declared
  declared-rank g h z = lowest-same (is_ranked w p b (rank p b (name w g))) (labels w p b g) _ (λ r k. ranked-labels g r h z (omega (arith, body.root_size)))

  -- the declared label of a rank is the declared one of its own name, which has that rank
  pub label_at : (c d : ℕ) → declared_at w p b c ≡ some d
      → (d < row_count w) × (is_label w p b d ≡ true) × (declared w p b d ≡ some d) × (rank p b (name w d) ≡ c)
  label_at c d e =
      let i = is-declared-at w p b c d e in
      let x = is-ranked w p b c d i.1 in
      let row : d < row_count w = omega (arith, i.0, body.root_size) in
      (row, x.0, sym (declared-rank d row (label-named d row x.0)) ∙ ap (declared_at w p b) x.1 ∙ e, x.1)
