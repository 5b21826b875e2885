-- The contexts of the lists, one row further. A row that is no declaration leaves the latest declaration of every list, and a declaration is the latest of its
-- own list and leaves the others; so it is with labels. Either writes one word of its list's context and leaves the other. At row 0 there is none.
-- Assumes nothing.
use mathlib.Core.Path.{◌≡◌, refl, sym, ◌∙◌, ap}
use mathlib.Core.Bool.{Bool, true, false, ◌&&◌}
use mathlib.Core.List.{List}
use mathlib.Core.Option.{Option, none, some}
use Prim.Native.Nat.{ℕ, suc, ◌≤◌, ◌<◌}
use native.Mathlib.Omega.{arith}
use native.Mathlib.Decide.{ℕ_discrete}
use lib.ListN.{length, get_or, set, length-set}
use lib.Seq.{get_or-set_same, get_or-set_other}
use borrow.Author.Tests.{ne_eqb}
use Rattle.rules.specs.Scan.{highest}
use Rattle.rules.specs.Rows.{row_count}
use Rattle.rules.specs.Class.{declaration}
use Rattle.rules.specs.Scope.{list_of}
use Rattle.rules.specs.Labels.{is, is_class, is_label, word, latest_declaration}
use Rattle.rules.proofs.Test.{case-of}
use Rattle.rules.proofs.Found.{found-is}
use Rattle.rules.proofs.Scan.{none-highest}
use Rattle.context.specs.declared.Context.{Context}
use Rattle.context.specs.Fields.{latest_word, label_word, with_latest, with_label}
use Rattle.walk_state.specs.Walk.{latest_in}
use Rattle.rules.proofs.Scan.{highest-same, highest-yes, highest-no}
use Rattle.label_walk.specs.Contexts.{none_yet, latest_label, ListTable, Contexts}

-- ---- the latest row of a list that passes the test Q, as the word `of` of the list's context
module _ (w : List ℕ) (Q : ℕ → Bool) where
  abbrev passes : ℕ → ℕ → Bool
  passes l t = Q t && is (list_of w t) l

  abbrev latest_row : ℕ → ℕ → Option ℕ
  latest_row l x = highest (passes l) x

  elsewhere : (l x : ℕ) → is (list_of w x) l ≡ false → passes l x ≡ false
  elsewhere l x f = case-of (Q x) (λ t. rw (t, f)) (λ t. rw t)

  module _ (of : Context ℕ → ℕ) where
    row-start : {contexts : List (Context ℕ)} → row_count w ≤ length contexts → ((l : ℕ) → get_or contexts l none_yet ≡ none_yet) → of none_yet ≡ 0
        → ListTable w latest_row 0 of contexts
    row-start room zero e = record {
      room = room;
      at_list = λ l h. ap of (zero l) ∙ e ∙ ap word (sym (none-highest (passes l) 0 (λ j a. absurd (omega arith))));
    }

    module _ {x : ℕ} {contexts : List (Context ℕ)} (t : ListTable w latest_row x of contexts) where
      row_kept : Q x ≡ false → ListTable w latest_row (suc x) of contexts
      row_kept f = record {
        room = t.room;
        at_list = λ l h. t.at_list l h ∙ ap word (sym (highest-no (passes l) x (rw f)));
      }

      -- the context of list k is written
      module _ {k : ℕ} (h : k < row_count w) (entry : Context ℕ) where
        entry-set : of entry ≡ word (latest_row k (suc x)) → ((l : ℕ) → (l ≡ k → ⊥) → latest_row l (suc x) ≡ latest_row l x)
            → ListTable w latest_row (suc x) of (set contexts k entry)
        entry-set e others = record {
          room = rw length-set t.room;
          at_list = λ l m. elim (ℕ_discrete l k) [
            | yes i ↦ rw i (ap of (get_or-set_same contexts k entry none_yet (omega (arith, t.room))) ∙ e)
            | no o ↦ ap of (get_or-set_other contexts k l entry none_yet o) ∙ t.at_list l m ∙ ap word (sym (others l o))
          ];
        }

        word-set : Q x ≡ true → list_of w x ≡ some k → of entry ≡ suc x → ListTable w latest_row (suc x) of (set contexts k entry)
        word-set q e s = entry-set
            (s ∙ ap word (sym (highest-yes (passes k) x (rw (q, found-is (list_of w x) k e)))))
            (λ l o. highest-no (passes l) x (elsewhere l x (rw e (ne_eqb k l (λ i. o (sym i))))))

        word-kept : Q x ≡ false → of entry ≡ of (get_or contexts k none_yet) → ListTable w latest_row (suc x) of (set contexts k entry)
        word-kept f s = entry-set (s ∙ (row_kept f).at_list k h) (λ l o. highest-no (passes l) x (rw f))

-- ---- both words
pub contexts-start : {w p b : List ℕ} {contexts : List (Context ℕ)} → row_count w ≤ length contexts
    → ((l : ℕ) → get_or contexts l none_yet ≡ none_yet) → Contexts w p b 0 contexts
unfolding latest_in latest_label
contexts-start {w} {p} {b} room zero = record {
  latest_decls_are = row-start w (is_class w declaration) latest_word room zero refl;
  latest_labels_are = row-start w (is_label w p b) label_word room zero refl;
}

module _ {w p b : List ℕ} {x : ℕ} {contexts : List (Context ℕ)} (c : Contexts w p b x contexts) where
  pub contexts-kept : is_class w declaration x ≡ false → is_label w p b x ≡ false → Contexts w p b (suc x) contexts
  unfolding latest_in latest_label
  contexts-kept f g = record {
    latest_decls_are = row_kept w (is_class w declaration) latest_word c.latest_decls_are f;
    latest_labels_are = row_kept w (is_label w p b) label_word c.latest_labels_are g;
  }

  module _ {k : ℕ} (e : list_of w x ≡ some k) (h : k < row_count w) where
    pub contexts-declared : is_class w declaration x ≡ true → is_label w p b x ≡ false
        → Contexts w p b (suc x) (set contexts k (with_latest (get_or contexts k none_yet) (suc x)))
    unfolding latest_in latest_label
    contexts-declared t g =
        let entry = with_latest (get_or contexts k none_yet) (suc x) in
        record {
          latest_decls_are = word-set w (is_class w declaration) latest_word c.latest_decls_are h entry t e refl;
          latest_labels_are = word-kept w (is_label w p b) label_word c.latest_labels_are h entry g refl;
        }

    pub contexts-labelled : is_class w declaration x ≡ false → is_label w p b x ≡ true
        → Contexts w p b (suc x) (set contexts k (with_label (get_or contexts k none_yet) (suc x)))
    unfolding latest_in latest_label
    contexts-labelled f t =
        let entry = with_label (get_or contexts k none_yet) (suc x) in
        record {
          latest_decls_are = word-kept w (is_class w declaration) latest_word c.latest_decls_are h entry f refl;
          latest_labels_are = word-set w (is_label w p b) label_word c.latest_labels_are h entry t e refl;
        }

-- the latest declaration before a label
pub latest-declaration : (w p b : List ℕ) (x l : ℕ) → list_of w x ≡ some l → latest_in w p b l x ≡ latest_declaration w p b x
unfolding latest_declaration latest_in
latest-declaration w p b x l e = highest-same (passes w (is_class w declaration) l)
    (λ d. is_class w declaration d && elim (list_of w x) [ none ↦ false | some k ↦ is (list_of w d) k ]) x
    (λ d h. rw e)
