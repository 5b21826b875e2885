-- The contexts of the lists as the code reads and writes them: `list` is the word of row x in the table of the lists, 1 + the row of its list. Each
-- record is what the code for such a row requires.
-- Assumes nothing.
use mathlib.Core.Path.{◌≡◌, refl, sym, ◌∙◌, ap}
use mathlib.Core.Bool.{true, false}
use mathlib.Core.List.{List}
use mathlib.Core.Option.{Option, none, some}
use Prim.Native.Nat.{ℕ, suc, ◌+◌, ◌-◌, ◌≤◌, ◌<◌}
use native.Mathlib.Numerals.{add-one}
use native.Mathlib.Omega.{arith}
use lib.ListN.{length, get_or, set}
use Rattle.rules.specs.Rows.{row_count, name, size}
use Rattle.rules.specs.Class.{declaration, labeled, class}
use Rattle.rules.specs.Scope.{is_block, list_of}
use Rattle.rules.specs.Labels.{is_class, is_label, latest_declaration, word}
use Rattle.rules.proofs.Test.{case-of, clash}
use Rattle.rules.proofs.Found.{word-found}
use Rattle.rules.proofs.Every.{is_one}
use Rattle.rules.proofs.LabelRows.{other-label}
use Rattle.context.specs.declared.Context.{Context}
use Rattle.context.specs.Fields.{latest_word, label_word, with_latest, with_label}
use Rattle.tables.specs.Canon.{Tables}
use Rattle.walk_state.specs.Walk.{current_label, Walking, Walked}
use Rattle.tables.proofs.Labelling.{label-numbered, numbered-label}
use Rattle.walk_state.proofs.TableRows.{canon-read}
use Rattle.label_walk.specs.Contexts.{none_yet, latest_label, Listing, Contexts}
use Rattle.label_walk.proofs.ListRows.{list-before, InList, listing, block-word, in_list}
use Rattle.label_walk.proofs.CurrentLabel.{no-list, no_label, open-label, ended-label, found}
use Rattle.label_walk.proofs.ContextRows.{contexts-kept, contexts-declared, contexts-labelled, latest-declaration}
use Rattle.label_walk.proofs.WalkSteps.{labeled-passed}

-- ---- no row, by its word
word-none : (o : Option ℕ) → word o ≡ 0 → o ≡ none
word-none (some k) e = absurd (omega arith)
word-none none e = refl

-- ---- the word of a row's list leads to a place in the contexts
placed : {w p b : List ℕ} {contexts : List (Context ℕ)} {x list : ℕ} → x < row_count w → Contexts w p b x contexts → InList w x list
    → (0 < list) × (list ≤ length contexts)
placed h contexts j = (j.some-row, omega (arith, j.before, contexts.latest_decls_are.room))

-- ---- a declaration
abbrev pub AtDeclaration : (w p b ls : List ℕ) (contexts : List (Context ℕ)) (x : ℕ) → Type 0
AtDeclaration w p b ls contexts x = record {
  listing : Listing w p b ls (suc x);
  contexts : Contexts w p b x contexts;
  row_bound : (x < row_count w) × (is_class w declaration x ≡ true);
}

module _ {w p b ls : List ℕ} {contexts : List (Context ℕ)} {x : ℕ} (q : AtDeclaration w p b ls contexts x) {list : ℕ} (e : list ≡ get_or ls x 0) where
  its-class : class w x ≡ declaration
  its-class = is_one (class w x) declaration q.row_bound.1

  its-list : InList w x list
  its-list =
      let c = its-class in
      in_list q.listing q.row_bound.0 list e (rw c) (λ j. clash (cc))

  pub declared-list : (0 < list) × (list ≤ length contexts)
  declared-list = placed q.row_bound.0 q.contexts its-list

  pub declared : {entry : Context ℕ} → entry ≡ with_latest (get_or contexts (list - 1) none_yet) (x + 1)
      → Contexts w p b (suc x) (set contexts (list - 1) entry)
  declared i =
      let j = its-list in
      let c = its-class in
      rw (i, add-one x)
      (contexts-declared q.contexts j.is-list (omega (arith, j.before, j.some-row, q.row_bound.0)) q.row_bound.1 (other-label w p b x (λ l. clash (cc))))

-- ---- a Labeled row; n is its canonical number
abbrev pub AtLabeled : (w p b cs ds ls sheet bindings heads links : List ℕ) (contexts : List (Context ℕ)) (x faults : ℕ) → Type 0
AtLabeled w p b cs ds ls sheet bindings heads links contexts x faults = record {
  tables : Tables w p b cs ds ls (suc x);
  walking : Walking w p b x faults sheet bindings heads links;
  contexts : Contexts w p b x contexts;
  row_bound : (x < row_count w) × (class w x ≡ labeled);
}

module _ {w p b cs ds ls sheet bindings heads links : List ℕ} {contexts : List (Context ℕ)} {x faults : ℕ}
    (q : AtLabeled w p b cs ds ls sheet bindings heads links contexts x faults) {n : ℕ} (en : n ≡ get_or cs (name w x) 0) where
  blank : n ≡ 0 → is_label w p b x ≡ false
  blank z = case-of (is_label w p b x)
      (λ u. absurd (omega (arith, label-numbered q.tables.body x q.row_bound.0 u, canon-read q.tables x n q.row_bound.0 en)))
      (λ u. u)

  pub blank-walked : n ≡ 0 → Walked w p b (suc x) faults sheet bindings sheet bindings heads links
  blank-walked z = labeled-passed q.row_bound.0 q.walking q.row_bound.1 (blank z)

  no-declaration : is_class w declaration x ≡ false
  no-declaration = let c = q.row_bound.1 in rw c

  pub blank-contexts : n ≡ 0 → Contexts w p b (suc x) contexts
  blank-contexts z = contexts-kept q.contexts no-declaration (blank z)

  module _ (z : n ≡ 0 → ⊥) where
    pub labels : is_label w p b x ≡ true
    labels = numbered-label q.tables.body x q.row_bound.0 q.row_bound.1 (omega (arith, canon-read q.tables x n q.row_bound.0 en))

    module _ {list : ℕ} (e : list ≡ get_or ls x 0) where
      label-in : InList w x list
      label-in =
          let c = q.row_bound.1 in
          in_list (listing q.tables) q.row_bound.0 list e (rw c) (λ j. clash (cc))

      label-list-row : list - 1 < row_count w
      label-list-row = omega (arith, label-in.before, label-in.some-row, q.row_bound.0)

      pub label-list : (0 < list) × (list ≤ length contexts)
      label-list = placed q.row_bound.0 q.contexts label-in

      module _ {entry : Context ℕ} (i : entry ≡ with_label (get_or contexts (list - 1) none_yet) (x + 1)) where
        pub label-latest : latest_word entry ≡ word (latest_declaration w p b x)
        label-latest =
            ap latest_word i ∙ q.contexts.latest_decls_are.at_list (list - 1) label-list-row
            ∙ ap word (latest-declaration w p b x (list - 1) label-in.is-list)

        pub labelled : Contexts w p b (suc x) (set contexts (list - 1) entry)
        labelled = rw (i, add-one x) (contexts-labelled q.contexts label-in.is-list label-list-row no-declaration labels)

-- ---- a Block
abbrev pub AtBlock : (w p b ls : List ℕ) (contexts : List (Context ℕ)) (x : ℕ) → Type 0
AtBlock w p b ls contexts x = record {
  listing : Listing w p b ls (suc x);
  contexts : Contexts w p b x contexts;
  row_bound : (x < row_count w) × (is_block (class w x) ≡ true);
}

module _ {w p b ls : List ℕ} {contexts : List (Context ℕ)} {x : ℕ} (q : AtBlock w p b ls contexts x) where
  pub outside : 0 ≡ get_or ls x 0 → none ≡ current_label w p b x
  outside e = sym (no-list q.listing.body x (word-none (list_of w x) (sym (e ∙ block-word q.listing q.row_bound.0 q.row_bound.1))))

  -- l is its list
  module _ {l : ℕ} (e : suc l ≡ get_or ls x 0) where
    block_in : list_of w x ≡ some l
    block_in = word-found (list_of w x) l (sym (e ∙ block-word q.listing q.row_bound.0 q.row_bound.1))

    list-row : l < row_count w
    list-row = omega (arith, (list-before q.listing.body x l block_in).before, q.row_bound.0)

    pub block-place : l < length contexts
    block-place = omega (arith, list-row, q.contexts.latest_labels_are.room)

    latest-of : {n : ℕ} → n ≡ label_word (get_or contexts l none_yet) → word (latest_label w p b l x) ≡ n
    latest-of f = sym (f ∙ q.contexts.latest_labels_are.at_list l list-row)

    pub unlabelled-block : 0 ≡ label_word (get_or contexts l none_yet) → none ≡ current_label w p b x
    unlabelled-block f = sym (no_label q.listing.body x l q.row_bound.0 block_in (word-none (latest_label w p b l x) (latest-of f)))

    -- t is the label of that list's context, s the size of its statement
    module _ {t : ℕ} (f : suc t ≡ label_word (get_or contexts l none_yet)) where
      latest : latest_label w p b l x ≡ some t
      latest = word-found (latest_label w p b l x) t (latest-of f)

      pub label-row : t < row_count w
      label-row = omega (arith, (found q.listing.body x l q.row_bound.0 block_in t latest).0)

      module _ {s : ℕ} (es : s ≡ size w t) where
        pub ended : t + s ≤ x → none ≡ current_label w p b x
        ended k = sym (ended-label q.listing.body x l q.row_bound.0 block_in t latest (omega arith))

        pub current : x < t + s → some t ≡ current_label w p b x
        current k = sym (open-label q.listing.body x l q.row_bound.0 block_in t latest (omega arith))
