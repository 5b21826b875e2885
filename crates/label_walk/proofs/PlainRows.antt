-- A row that is no label and no branch, by its kind and its detail. With detail 1 it is no Block, and a declaration if it is a Decl or Assign; with another
-- detail it is no declaration. So the links and the contexts are right after it.
-- Assumes nothing.
use mathlib.Core.Path.{◌≡◌, refl, sym}
use mathlib.Core.Bool.{true, false, ◌||◌}
use mathlib.Core.List.{List}
use Prim.Native.Nat.{ℕ, suc, ◌≤◌, ◌<◌}
use lib.Dec.{eqb}
use lib.ListN.{set}
use Rattle.rules.specs.Rows.{row_count, kind, detail}
use Rattle.rules.specs.Class.{declaration, labeled, class}
use Rattle.rules.specs.Scope.{is_block}
use Rattle.rules.specs.Labels.{is_class, word}
use Rattle.rules.proofs.Test.{clash}
use Rattle.context.specs.declared.Context.{Context}
use Rattle.walk_state.specs.Walk.{current_label}
use Rattle.label_walk.specs.Contexts.{Listing, Contexts, BlockLabelled}
use Rattle.label_walk.proofs.RowWords.{unlabelled, is-block, no_block, no-declaration, unmarked-declares, marked-block}
use Rattle.label_walk.proofs.ContextRows.{contexts-kept}

-- what the code for such a row requires
abbrev pub AtPlain : (w p b ls : List ℕ) (contexts : List (Context ℕ)) (x room : ℕ) → Type 0
AtPlain w p b ls contexts x room = record {
  listing : Listing w p b ls (suc x);
  contexts : Contexts w p b x contexts;
  row_bound : (x < row_count w) × (is_class w labeled x ≡ false) × (row_count w ≤ room);
}

module _ {w p b ls : List ℕ} {contexts : List (Context ℕ)} {x room : ℕ} (q : AtPlain w p b ls contexts x room) where
  unlinked : is_block (class w x) ≡ false → {l : List ℕ} → BlockLabelled w p b x l l
  unlinked n = record { at_block = λ i. absurd (clash (cc)); elsewhere = λ i. refl }

  kept : is_class w declaration x ≡ false → Contexts w p b (suc x) contexts
  kept n = contexts-kept q.contexts n (unlabelled w p b x q.row_bound.1)

  pub unlinked-block : (kind w x ≡ 12 → ⊥) → {l : List ℕ} → BlockLabelled w p b x l l
  unlinked-block n = unlinked (no_block q.listing.body q.row_bound.0 n)

  pub linked-block : {l l' : List ℕ} → kind w x ≡ 12 → l' ≡ set l x (word (current_label w p b x)) → BlockLabelled w p b x l l'
  linked-block i g = record { at_block = λ y. g; elsewhere = λ f. absurd (clash (cc (is-block q.listing.body q.row_bound.0 i))) }

  -- k is the row's kind
  pub undeclared : {k : ℕ} → k ≡ kind w x → false ≡ (eqb k 1 || eqb k 7) → Contexts w p b (suc x) contexts
  undeclared e f = kept (no-declaration q.listing.body q.row_bound.0 (sym e) (sym f))

  -- ---- by its detail
  pub marked : true ≡ eqb (detail w x) 1 → {l : List ℕ} → BlockLabelled w p b x l l
  marked m = unlinked (marked-block q.listing.body q.row_bound.0 m)

  pub unmarked : false ≡ eqb (detail w x) 1 → Contexts w p b (suc x) contexts
  unmarked m = kept (unmarked-declares q.listing.body q.row_bound.0 m)
