-- The last pass over the rows, from the end of the walk to the gotos and the table of used labels: where it starts, one turn after another, and what it leaves.
-- Assumes nothing.
use mathlib.Core.Path.{◌≡◌, refl, sym, ◌∙◌, ap}
use mathlib.Core.Bool.{not}
use mathlib.Core.List.{List}
use Prim.Native.Nat.{ℕ, suc, ◌+◌, ◌*◌, ◌≤◌, ◌<◌}
use native.Mathlib.Numerals.{add-one}
use native.Mathlib.Omega.{arith}
use lib.ListN.{length, get_or, length-append}
use borrow.Author.Tests.{eq-eqb}
use Rattle.rules.specs.Rows.{row_count}
use Rattle.rules.specs.Names.{count_of_pairs}
use Rattle.rules.specs.Body.{Body}
use Rattle.rules.specs.Labels.{Fault, unresolved}
use Rattle.rules.specs.Calls.{fault_words}
use Rattle.walk_state.specs.Walk.{binding_at}
use Rattle.walk_state.proofs.WalkFaults.{drop-further}
use Rattle.walk_state.proofs.WalkBindings.{are-bindings, word-before}
use Rattle.label_rest.specs.Rest.{Reported, faults_left, AtEnd, UsedTable}
use Rattle.label_rest.specs.Left.{left_at, LeftOver}
use Rattle.label_rest.proofs.LeftRows.{left-zero, left-suc, before-zero, before-end}

more-faults : (w p b : List ℕ) (r : ℕ) → length (left_at w p b r) ≤ length (left_at w p b (suc r))
more-faults w p b r = let e = ap length (left-suc w p b r) ∙ length-append (left_at w p b r) (unresolved w p b r) in omega arith

module _ {w p b : List ℕ} where
  -- ---- the start
  pub over-start : (faults : ℕ) (s t u : List ℕ) → AtEnd w p b faults s t → count_of_pairs p < length u → ((c : ℕ) → get_or u c 0 ≡ 0) → LeftOver w p b 0 faults s s u
  over-start faults s t u at h z = record {
    state = record {
      count = at.count ∙ ap length (sym (left-zero w p b));
      sheet_room = at.sheet_room;
      reported = at.reported ∙ ap (λ (l : List Fault). fault_words l) (sym (left-zero w p b));
      used_room = h;
      used_at = λ c d y k e. rw (z c, before-zero w p b d) (eq-eqb 0 0 refl);
    };
    sheet_length = refl;
    sheet_kept = refl;
  }

  -- the word of a row
  pub word_read : (faults : ℕ) (s t : List ℕ) (g : ℕ) → AtEnd w p b faults s t → g < row_count w → get_or t g 0 ≡ binding_at w p b (row_count w) g
  word_read faults s t g at h = are-bindings w p b (row_count w) t g at.bound h ∙ word-before w p b (row_count w) g h

  -- ---- one turn more
  pub over-next : (r at at' : ℕ) (s₀ s s' u u' : List ℕ) → LeftOver w p b r at s₀ s u → LeftOver w p b (suc r) at' s s' u' → LeftOver w p b (r + 1) at' s₀ s' u'
  over-next r at at' s₀ s s' u u' x y = record {
    state = rw (add-one r) y.state;
    sheet_length = y.sheet_length ∙ x.sheet_length;
    sheet_kept = y.sheet_kept ∙ drop-further (at * 4) (at' * 4) s s₀ (omega (arith, x.state.count, y.state.count, more-faults w p b r)) x.sheet_kept;
  }

  -- ---- the end
  pub over-end : {r at : ℕ} {s₀ s u : List ℕ} → r ≡ row_count w → LeftOver w p b r at s₀ s u → LeftOver w p b (row_count w) at s₀ s u
  over-end e x = rw e at x

  pub over-reported : (at : ℕ) (s₀ s u : List ℕ) → LeftOver w p b (row_count w) at s₀ s u → Reported at (faults_left w p b) s₀ s
  unfolding faults_left left_at
  over-reported at s₀ s u x =
      record { count = x.state.count; reported = x.state.reported; sheet_length = x.sheet_length; sheet_kept = x.sheet_kept }

  pub over-used : (at : ℕ) (s₀ s u : List ℕ) → Body w p b → LeftOver w p b (row_count w) at s₀ s u → UsedTable w p b u
  over-used at s₀ s u body x = record {
    room = x.state.used_room;
    at_canon = λ c d z h e.
        x.state.used_at c d z h e ∙ ap not (before-end w p b d);
  }
