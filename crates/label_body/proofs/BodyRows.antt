-- The walk of a body from its start to its end: the walk's state at row 0, and what stands on the sheet and in the bindings when all is reported.
-- Assumes nothing.
use mathlib.Core.Path.{◌≡◌, sym, ◌∙◌, ap}
use mathlib.Core.List.{List, [], ◌∷◌}
use mathlib.Core.Option.{Option, none}
use Prim.Native.Nat.{ℕ, suc, ◌*◌, ◌≤◌, ◌<◌}
use native.Mathlib.Omega.{arith}
use lib.ListN.{length, get_or, take, length-append}
use lib.Seq.{ext_get_or, length-take-le, get_or-take}
use Rattle.rules.specs.Rows.{row_count}
use Rattle.rules.specs.Class.{goto, class}
use Rattle.rules.specs.Names.{count_of_pairs}
use Rattle.rules.specs.Body.{Body}
use Rattle.rules.specs.Labels.{Fault, each, is_class, word, binding, unresolved, unused, sheet as sheet_of, bindings as bindings_of}
use Rattle.rules.specs.Calls.{fault_words}
use Rattle.rules.proofs.Test.{case-of, clash}
use Rattle.rules.proofs.Scan.{none-highest}
use Rattle.rules.proofs.Each.{each-length, each_at}
use Rattle.rules.proofs.ClassTests.{one-is}
use Rattle.rules.proofs.Every.{is_one}
use Rattle.context.specs.declared.Context.{Context}
use Rattle.tables.specs.Canon.{CanonTable, DeclaredTable, Tables}
use Rattle.walk_state.specs.Walk.{Walking, Walked, faults_at, binding_at, previous_pending}
use Rattle.walk_state.proofs.WalkFaults.{faults-zero, drop-further}
use Rattle.walk_state.proofs.WalkBindings.{bindings_zero, are-bindings, word-before, at_other}
use Rattle.walk_state.proofs.WalkPending.{waits}
use Rattle.label_rest.specs.Rest.{Reported, faults_left}
use Rattle.label_body.specs.Answered.{Lent, Answered}
use Rattle.label_rest.proofs.LeftRows.{branch-word}
use Rattle.label_rest.proofs.UnusedRows.{nines_to, nines-sheet}

-- ---- the walk's start
module _ (w p b : List ℕ) where
  nothing-pending : (c : ℕ) → previous_pending w p b 0 c 0 ≡ none
  unfolding previous_pending
  nothing-pending c = none-highest (waits w p b 0 c) 0 (λ k h. absurd (omega arith))

  pub walking_start : {cs ds ls s t h l : List ℕ} {c : List (Context ℕ)} {u : List ℕ} → Lent w p cs ds ls s t h l c u → Walking w p b 0 0 s t h l
  walking_start {t = t} lent = record {
    rows = omega arith;
    count = ap length (sym (faults-zero w p b));
    sheet_room = lent.sheet_room;
    reported = ap (λ (f : List Fault). fault_words f) (sym (faults-zero w p b));
    bindings_room = lent.bindings_room;
    bound = bindings_zero w p b t lent.bindings_room lent.bindings_zero;
    heads_room = lent.heads_room;
    heads_are = λ c z y. lent.heads_zero c ∙ ap (λ (o : Option ℕ). word o) (sym (nothing-pending c));
    block_labels = (lent.goto_or_label_room, λ k y e. absurd (omega arith));
    goto_before = λ g y e z. absurd (omega arith);
  }

-- the tables are made, but for the lists
pub first_tables : {w p b cs ds ls : List ℕ} → Body w p b → CanonTable p b cs → DeclaredTable w p b ds → row_count w ≤ length ls → Tables w p b cs ds ls 0
first_tables body by_name by_canon room =
    record { body = body; by_name = by_name; by_canon = by_canon; lists_room = room; listed = λ r z. absurd (omega arith) }

-- ---- the walk's end
module _ {w p b : List ℕ} (body : Body w p b) where
  -- words that are the rows' bindings one by one
  pub bindings-by-row : (t : List ℕ) → row_count w ≤ length t → ((g : ℕ) → g < row_count w → get_or t g 0 ≡ binding w p b g)
      → take (row_count w) t ≡ bindings_of w p b
  unfolding bindings_of
  bindings-by-row t h e =
      let n = length-take-le (row_count w) t h in
      ext_get_or 0 (take (row_count w) t) (each (λ r. binding w p b r ∷ []) (row_count w)) (n ∙ sym (each-length (binding w p b) (row_count w)))
      (λ g l. get_or-take (row_count w) t g 0 (omega arith) ∙ e g (omega arith) ∙ sym (each_at (binding w p b) (row_count w) g (omega arith)))

  end-word : (g : ℕ) → binding_at w p b (row_count w) g ≡ binding w p b g
  end-word g = case-of (is_class w goto g)
      (λ u. branch-word body g (rw (is_one (class w g) goto u)))
      (λ u. at_other w p b (row_count w) g (λ e. clash (cc (one-is (class w g) goto e))))

  left-more : length (faults_left w p b) ≤ length (sheet_of w p b)
  unfolding nines_to
  left-more = omega (arith, ap length (nines-sheet body), length-append (faults_left w p b) (each (λ i. unused w p b (suc i)) (count_of_pairs p)))

  walked_more : length (faults_at w p b (row_count w)) ≤ length (faults_left w p b)
  unfolding faults_left
  walked_more = omega (arith, length-append (faults_at w p b (row_count w)) (each (unresolved w p b) (row_count w)))

  pub walked-answered : (n m k : ℕ) (s t s₁ t' h l s₂ s' : List ℕ) → Walked w p b (row_count w) n s t s₁ t' h l → Reported m (faults_left w p b) s₁ s₂
      → Reported k (sheet_of w p b) s₂ s' → Answered w p b k s t s' t'
  walked-answered n m k s t s₁ t' h l s₂ s' x left all =
      let nm : n ≤ m = omega (arith, x.state.count, left.count, walked_more) in
      let mk : m ≤ k = omega (arith, all.count, left.count, left-more) in
      record {
        on_sheet = record {
          count = all.count;
          reported = all.reported;
          sheet_length = all.sheet_length ∙ left.sheet_length ∙ x.sheet_length;
          sheet_kept = all.sheet_kept ∙ drop-further (m * 4) (k * 4) s₂ s₁ (omega arith) left.sheet_kept
              ∙ drop-further (n * 4) (k * 4) s₁ s (omega arith) x.sheet_kept;
        };
        bindings_length = x.bindings_length;
        bound = bindings-by-row t' x.state.bindings_room
            (λ g r. are-bindings w p b (row_count w) t' g x.state.bound r ∙ word-before w p b (row_count w) g r ∙ end-word g);
        bindings_kept = x.bindings_kept;
      }
