-- The declared label of a goto's name, step by step: c is the goto's canonical number, label the row of its declared label, list the row in whose
-- list the label stands. The label is the goto's earlier one where it stands before the goto and that list holds the goto.
-- Assumes nothing.
use mathlib.Core.Path.{◌≡◌, refl, sym, ◌∙◌}
use mathlib.Core.Bool.{◌&&◌}
use mathlib.Core.List.{List}
use mathlib.Core.Option.{Option, none, some}
use Prim.Native.Nat.{ℕ, suc, ◌+◌, ◌≤◌, ◌<◌}
use native.Mathlib.Omega.{arith}
use lib.ListN.{get_or}
use lib.Dec.{ltb}
use borrow.Author.Tests.{lt-ltb, le-ltb}
use Rattle.rules.specs.Rows.{row_count, name, size, end}
use Rattle.rules.specs.Scope.{list_of, in_list_of}
use Rattle.rules.specs.Labels.{word, declared, earlier}
use Rattle.rules.proofs.Found.{word-found}
use Rattle.rules.proofs.LabelRows.{is_declared_lem}
use Rattle.rules.proofs.GotoRows.{list-some, list-none, earlier-is, earlier-after, earlier-outside, earlier-none}
use Rattle.tables.specs.Canon.{Tables}
use Rattle.tables.proofs.Labelling.{declared-blank, labels-canon}
use Rattle.walk_state.proofs.TableRows.{canon-read, declared-read, list_read, list-before}

-- a word is that of one row at most
pub word-same : (a o : Option ℕ) → word a ≡ word o → o ≡ a
word-same (some k) o e = word-found o k (sym e)
word-same none (some k) e = absurd (omega arith)
word-same none none e = refl

module _ {w p b cs ds ls : List ℕ} {g : ℕ} (t : Tables w p b cs ds ls (suc g)) (c : ℕ) (row : g < row_count w) (ec : c ≡ get_or cs (name w g) 0) where
  pub no-canon : c ≡ 0 → none ≡ earlier w p b g
  no-canon z = sym (earlier-none w p b g (declared-blank t.body g row (sym (canon-read t g c row ec) ∙ z)))

  module _ (z : c ≡ 0 → ⊥) where
    declared-is : (o : Option ℕ) → word o ≡ get_or ds c 0 → declared w p b g ≡ o
    declared-is o e = word-same o (declared w p b g) (declared-read t g c (word o) row ec z e)

    pub no-declared : 0 ≡ get_or ds c 0 → none ≡ earlier w p b g
    no-declared e = sym (earlier-none w p b g (declared-is none e))

    module _ (label : ℕ) (ed : suc label ≡ get_or ds c 0) where
      label-is : declared w p b g ≡ some label
      label-is = declared-is (some label) ed

      pub label_after : g ≤ label → none ≡ earlier w p b g
      label_after h = sym (earlier-after w p b g label label-is h)

      module _ (h : label < g) where
        list-is : (o : Option ℕ) → word o ≡ get_or ls label 0 → list_of w label ≡ o
        list-is o e =
            let i = is_declared_lem w p b g label label-is in
            let s = (labels-canon t.body g label row i.0 i.1).0 in
            word-same o (list_of w label) (e ∙ list_read t label (omega arith) i.0 (rw s))

        pub no-list : 0 ≡ get_or ls label 0 → none ≡ earlier w p b g
        no-list e = sym (earlier-outside w p b g label label-is (list-none w label g (list-is none e)))

        module _ (list : ℕ) (el : suc list ≡ get_or ls label 0) where
          before : list < g
          before = omega (arith, list-before t label (omega arith))

          pub list-in : list < row_count w
          list-in = omega (arith, before)

          in-list : in_list_of w label g ≡ (ltb list g && ltb g (end w list))
          in-list = list-some w label g list (list-is (some list) el)

          module _ (s : ℕ) (es : s ≡ size w list) where
            pub list-ended : list + s ≤ g → none ≡ earlier w p b g
            list-ended k =
                sym (earlier-outside w p b g label label-is (in-list ∙ rw (lt-ltb list g before, le-ltb g (end w list) (omega arith))))

            pub list-around : g < list + s → some label ≡ earlier w p b g
            list-around k =
                sym (earlier-is w p b g label label-is h (in-list ∙ rw (lt-ltb list g before, lt-ltb g (end w list) (omega arith))))
