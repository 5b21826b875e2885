-- The loop over all rows: the rows before r have their steps, and where each row's begin is written up to r. There is room, since a body has 3 steps a row
-- at most.
-- Assumes nothing.
use mathlib.Core.Path.{◌≡◌, sym, ◌∙◌}
use mathlib.Core.List.{List}
use Prim.Native.Nat.{ℕ, suc, ◌+◌, ◌*◌, ◌≤◌, ◌<◌}
use native.Mathlib.Omega.{arith}
use native.Mathlib.Numerals.{add-one}
use native.Mathlib.Decide.{ℕ_discrete}
use lib.ListN.{length, get_or, set, length-set}
use lib.Seq.{get_or-set_same, get_or-set_other}
use Rattle.rules.specs.Rows.{row_count}
use Rattle.rules.specs.Body.{Body}
use Rattle.rules.specs.Runner.{at, choices}
use Rattle.steps.specs.StepTable.{steps_before, StepsOf, StepTable}
use Rattle.steps.specs.Written.{RowWritten}
use Rattle.steps.proofs.Total.{before-none, before_more, before-rises, steps-most}

pub record StepsTo (w p b firsts steps : List ℕ) (r first : ℕ) : Type 0 where
  pub room : row_count w < length firsts
  pub at_row : first ≡ steps_before w p b r
  pub begins : (q : ℕ) → q ≤ r → get_or firsts q 0 ≡ steps_before w p b q
  pub leads : (q : ℕ) → q < r → StepsOf w p b steps q (steps_before w p b q)

pub steps-start : (w p b firsts steps : List ℕ) → row_count w < length firsts → StepsTo w p b (set firsts 0 0) steps 0 0
steps-start w p b firsts steps l = record {
  room = simp length-set l;
  at_row = sym (before-none w p b);
  begins = λ q h. let z : q ≡ 0 = omega arith in rw z (get_or-set_same firsts 0 0 0 (omega arith) ∙ sym (before-none w p b));
  leads = λ q h. absurd (omega arith);
}

module _ {w p b firsts steps : List ℕ} {r first : ℕ} (body : Body w p b) (l : r < row_count w) (x : StepsTo w p b firsts steps r first) where
  -- there is room for the steps of row r
  pub row_room : (n : ℕ) → row_count w * 3 ≤ n → first + choices w p b (at r) ≤ n
  row_room n h = omega (arith, x.at_row, before_more w p b r, before-rises w p b (suc r) (row_count w) l, steps-most body)

  module _ {new : List ℕ} {end' : ℕ} (y : RowWritten w p b steps new r first end') where
    ends : end' ≡ steps_before w p b (suc r)
    ends = omega (arith, y.ends, x.at_row, before_more w p b r)

    pub end-small : end' ≤ 6000
    end-small = omega (arith, ends, before-rises w p b (suc r) (row_count w) l, steps-most body, body.most_rows)

    pub steps-more : StepsTo w p b (set firsts (r + 1) end') new (r + 1) end'
    steps-more = rw (add-one r) (record {
      room = simp length-set x.room;
      at_row = ends;
      begins = λ q h. elim (ℕ_discrete q (suc r)) [
        | yes z ↦ rw z (get_or-set_same firsts (suc r) end' 0 (omega (arith, x.room)) ∙ ends)
        | no z ↦ get_or-set_other firsts (suc r) q end' 0 z ∙ x.begins q (omega arith)
      ];
      leads = λ q h. elim (ℕ_discrete q r) [
        | yes z ↦ rw (z, ← x.at_row) y.steps
        | no z ↦ kept_row q (omega arith)
      ];
    })
      where
        -- what was written before stays
        kept_row : (q : ℕ) → q < r → StepsOf w p b new q (steps_before w p b q)
        kept_row q h c g =
            let k = y.kept (steps_before w p b q + c) (omega (arith, before_more w p b q, before-rises w p b (suc q) r h, x.at_row)) in
            rw k (x.leads q h c g)

pub steps-end : {w p b firsts steps : List ℕ} {r first : ℕ} → Body w p b → StepsTo w p b firsts steps r first → row_count w ≤ r
    → row_count w * 3 ≤ length steps → StepTable w p b firsts steps
steps-end body x d l = record {
  room = x.room;
  begins = λ q h. x.begins q (omega arith);
  all = omega (arith, steps-most body);
  leads = λ q h. x.leads q (omega arith);
}
