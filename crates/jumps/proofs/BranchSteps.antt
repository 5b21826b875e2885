-- What the walk does at a Branch row, by its class: nothing, one fault, a binding, or one more pending goto; each gives the state after the row.
-- Assumes nothing.
use mathlib.Core.Path.{◌≡◌, refl, sym, ◌∙◌, ap}
use mathlib.Core.Bool.{true, false, not}
use mathlib.Core.List.{List, [], ◌∷◌}
use mathlib.Core.Option.{none, some}
use Prim.Native.Nat.{ℕ, suc, ◌+◌, ◌*◌, ◌≤◌, ◌<◌}
use native.Mathlib.Numerals.{add-one}
use native.Mathlib.Omega.{arith}
use native.Mathlib.Decide.{ℕ_discrete}
use lib.ListN.{length, get_or, set}
use lib.Seq.{sets}
use borrow.Author.Tests.{not-true}
use Rattle.rules.specs.Scan.{lowest}
use Rattle.rules.specs.Rows.{row_count, position, detail, name}
use Rattle.rules.specs.Class.{Class, break, continue, goto, fallthrough, one_of, is_branch, class}
use Rattle.rules.specs.Scope.{is_block}
use Rattle.rules.specs.Labels.{fault, is_label, labelled_break, valid_target, earlier, report, word}
use Rattle.rules.proofs.Test.{clash}
use Rattle.rules.proofs.Every.{every}
use Rattle.rules.proofs.ClassRules.{class-rule}
use Rattle.rules.proofs.ClassTests.{break-branch, branch-goto}
use Rattle.rules.proofs.RowNames.{goto-named}
use Rattle.rules.proofs.GotoRows.{is-earlier}
use Rattle.rules.proofs.BreakRows.{labelled-is, other-labelled, is-valid}
use Rattle.rules.proofs.BindingRows.{branch-label, binding-break, binding-invalid, binding-other}
use Rattle.rules.proofs.SheetRows.{report-valid, report-break, report-continue, report-fallthrough, report-other}
use Rattle.tables.specs.Canon.{Tables}
use Rattle.walk_state.specs.Walk.{binding_at, Walking, Walked}
use Rattle.tables.proofs.Labelling.{row-canon-within}
use Rattle.walk_state.proofs.TableRows.{canon-read, declared-read}
use Rattle.jumps.proofs.BlockLabels.{target-named}
use Rattle.jumps.proofs.BranchRows.{detail-fallthrough, zero-break, not-zero-continue}
use Rattle.walk_state.proofs.WalkBindings.{at-goto, at-later, at_other, later-own}
use Rattle.walk_state.proofs.WalkPending.{pending-other, pending-earlier, pending-own}
use Rattle.walk_state.proofs.WalkRoom.{faults-fit}
use Rattle.walk_state.proofs.WalkRows.{Written, goto-or-label-other, written_same, written-bound, written-fault, one-fits, walked, walked-blank}
use Rattle.walk_state.proofs.WalkRows.{walked-pending, idle-walked}

no_block : (c : Class) → is_branch c ≡ true → is_block c ≡ false
unfolding every lowest
no_block c t = not-true (is_block c) (class-rule is_branch (λ c. not (is_block c)) refl c t)

module _ {w p b cs ds ls : List ℕ} {upto : ℕ} (t : Tables w p b cs ds ls upto) (x faults : ℕ) (s bs h l : List ℕ) (row : x < row_count w)
    (walking : Walking w p b x faults s bs h l) where
  pub faults-small : faults ≤ 4000
  faults-small = omega (arith, walking.count, faults-fit w p b x (omega arith), t.body.most_rows)

  -- the row's canonical number has a place among the pending gotos
  pub head-place : (c : ℕ) → c ≡ get_or cs (name w x) 0 → c < length h
  head-place c e = omega (arith, walking.heads_room, row-canon-within w p b x, canon-read t x c row e)

  -- ---- a branch without a label
  pub unlabelled : is_branch (class w x) ≡ true → name w x ≡ 0 → Walked w p b (suc x) faults s bs s bs h l
  unlabelled br z = idle-walked w p b x faults s bs h l row
      (record {
        no_label = branch-label w p b x br;
        no-goto = λ c. omega (arith, goto-named t.body x row c);
        no-break = λ y. omega (arith, y.has-name);
        no-fallthrough = λ y. omega (arith, y.has-name);
      }) walking (no_block (class w x) br)

  -- ---- one that is no goto, and reports a fault or binds
  module _ (br : is_branch (class w x) ≡ true) (n : class w x ≡ goto → ⊥) where
    none-label : is_label w p b x ≡ false
    none-label = branch-label w p b x br

    reported : (code : ℕ) → report w p b x ≡ fault w code x ∷ [] → binding_at w p b (suc x) x ≡ 0
        → (s' : List ℕ) → s' ≡ sets s (faults * 4) (code ∷ position w x ∷ name w x ∷ 0 ∷ []) → Walked w p b (suc x) (faults + 1) s bs s' bs h l
    reported code r e s' i =
        walked w p b x faults s bs h l row none-label walking (faults + 1) s' bs
        (written-fault w p b x faults s bs h l row none-label walking (fault w code x) r e s' i)
        l (pending-other w p b (suc x) x n) (goto-or-label-other w p b x l (no_block (class w x) br) walking.block_labels) (λ g o. refl)

    bound : (v : ℕ) → report w p b x ≡ [] → v ≡ binding_at w p b (suc x) x → Walked w p b (suc x) faults s bs s (set bs x v) h l
    bound v r e =
        walked w p b x faults s bs h l row none-label walking faults s (set bs x v)
        (written-bound w p b x faults s bs h l row none-label walking v r e)
        l (pending-other w p b (suc x) x n) (goto-or-label-other w p b x l (no_block (class w x) br) walking.block_labels) (λ g o. refl)

  -- ---- a fallthrough with a label
  module _ (br : is_branch (class w x) ≡ true) (d : 3 ≡ detail w x) (z : 0 < name w x) where
    falls : class w x ≡ fallthrough
    falls = detail-fallthrough w x (t.body.details x row) br (sym d)

    falls-report : report w p b x ≡ fault w 6 x ∷ []
    falls-report = report-fallthrough w p b x (branch-label w p b x br) (other-labelled w p b x (rw falls))
        (record { falls-through = falls; has-name = z })

    pub fallthrough-fits : faults * 4 + 4 ≤ length s
    fallthrough-fits = one-fits w p b x faults s bs h l row (branch-label w p b x br) walking (fault w 6 x) falls-report

    pub fallthrough-walked : (s' : List ℕ) → s' ≡ sets s (faults * 4) (6 ∷ position w x ∷ name w x ∷ 0 ∷ [])
        → Walked w p b (suc x) (faults + 1) s bs s' bs h l
    fallthrough-walked =
        let n : class w x ≡ goto → ⊥ = λ e. clash (cc (falls)) in
        reported br n 6 falls-report
        (at_other w p b (suc x) x n ∙ binding-other w p b x (branch-label w p b x br) n (other-labelled w p b x (rw falls)))

  -- ---- a break or continue with a label
  module _ (k : one_of (break ∷ continue ∷ []) (class w x) ≡ true) (z : 0 < name w x) where
    no-goto : class w x ≡ goto → ⊥
    no-goto e = let y : false ≡ true = rw e at k in clash (cc)

    branch : is_branch (class w x) ≡ true
    branch = break-branch (class w x) k

    labelled : labelled_break w p b x ≡ true
    labelled = labelled-is w p b x (record { breaks = k; has-name = z })

    -- a valid target has the name
    pub valid-numbered : (c : ℕ) → c ≡ get_or cs (name w x) 0 → valid_target w p b x ≡ true → c ≡ 0 → ⊥
    valid-numbered c e v y =
        let (g, f, u) = is-valid w p b x v in
        let m = target-named t.body x row g f in
        omega (arith, m, canon-read t x c row e)

    pub break-bound : (c v : ℕ) → c ≡ get_or cs (name w x) 0 → v ≡ get_or ds c 0 → true ≡ valid_target w p b x
        → Walked w p b (suc x) faults s bs s (set bs x v) h l
    break-bound c v e f u =
        let n = branch-label w p b x branch in
        bound branch no-goto v (report-valid w p b x n labelled (sym u))
        (declared-read t x c v row e (valid-numbered c e (sym u)) f
        ∙ sym (at_other w p b (suc x) x no-goto ∙ binding-break w p b x n no-goto labelled (sym u)))

    -- without a valid target
    module _ (f : false ≡ valid_target w p b x) where
      unbound : binding_at w p b (suc x) x ≡ 0
      unbound = at_other w p b (suc x) x no-goto ∙ binding-invalid w p b x (branch-label w p b x branch) no-goto (sym f)

      break-report : detail w x ≡ 0 → report w p b x ≡ fault w 4 x ∷ []
      break-report e = report-break w p b x (branch-label w p b x branch) labelled (sym f) (zero-break w x (t.body.details x row) k e)

      continue-report : (detail w x ≡ 0 → ⊥) → report w p b x ≡ fault w 5 x ∷ []
      continue-report n = report-continue w p b x (branch-label w p b x branch) labelled (sym f) (not-zero-continue w x (t.body.details x row) k n)

      pub invalid-fits : faults * 4 + 4 ≤ length s
      invalid-fits = elim (ℕ_discrete (detail w x) 0) [
        | yes e ↦ one-fits w p b x faults s bs h l row (branch-label w p b x branch) walking (fault w 4 x) (break-report e)
        | no n ↦ one-fits w p b x faults s bs h l row (branch-label w p b x branch) walking (fault w 5 x) (continue-report n)
      ]

      module _ (s' : List ℕ) where
        pub break-walked : detail w x ≡ 0 → s' ≡ sets s (faults * 4) (4 ∷ position w x ∷ name w x ∷ 0 ∷ [])
            → Walked w p b (suc x) (faults + 1) s bs s' bs h l
        break-walked e = reported branch no-goto 4 (break-report e) unbound s'

        pub continue-walked : (detail w x ≡ 0 → ⊥) → s' ≡ sets s (faults * 4) (5 ∷ position w x ∷ name w x ∷ 0 ∷ [])
            → Walked w p b (suc x) (faults + 1) s bs s' bs h l
        continue-walked n = reported branch no-goto 5 (continue-report n) unbound s'

  -- ---- a goto
  module _ (c : class w x ≡ goto) where
    goto-label : is_label w p b x ≡ false
    goto-label = branch-label w p b x (branch-goto (class w x) c)

    goto-block : is_block (class w x) ≡ false
    goto-block = no_block (class w x) (branch-goto (class w x) c)

    goto-report : report w p b x ≡ []
    goto-report = report-other w p b x goto-label (other-labelled w p b x (rw c)) (λ y. clash (cc y.falls-through))

    -- bound to a label before it
    module _ (label : ℕ) (e : some label ≡ earlier w p b x) where
      pub label_small : label < 2000
      label_small = let m = (is-earlier w p b x label (sym e)).1 in omega (arith, t.body.most_rows)

      pub goto-bound : Walked w p b (suc x) faults s bs s (set bs x (label + 1)) h l
      goto-bound =
          walked w p b x faults s bs h l row goto-label walking faults s (set bs x (label + 1))
          (written-bound w p b x faults s bs h l row goto-label walking (label + 1) goto-report (add-one label ∙ sym (at-goto w p b (suc x) x label c (sym e))))
          l (pending-earlier w p b (suc x) x label (sym e)) (goto-or-label-other w p b x l goto-block walking.block_labels) (λ g o. refl)

    -- pending
    module _ (z : none ≡ earlier w p b x) where
      no-earlier : earlier w p b x ≡ none
      no-earlier = sym z

      goto-written : Written w p b (suc x) faults s bs s bs
      goto-written = written_same w p b x faults s bs h l row goto-label walking goto-report
          (at-later w p b (suc x) x c no-earlier ∙ ap word (later-own w p b x))

      module _ (d : ℕ) (ed : d ≡ get_or cs (name w x) 0) where
        pub goto-blank : d ≡ 0 → Walked w p b (suc x) faults s bs s bs h l
        goto-blank y = walked-blank w p b x faults s bs h l row goto-label walking faults s bs goto-written
            (pending-own w p b x c no-earlier) (sym (canon-read t x d row ed) ∙ y) goto-block

        pub goto-pending : (d ≡ 0 → ⊥) → Walked w p b (suc x) faults s bs s bs (set h d (x + 1)) (set l x (get_or h d 0))
        goto-pending y =
            let e = canon-read t x d row ed in
            rw (e, add-one x) (walked-pending w p b x faults s bs h l row goto-label walking faults s bs goto-written
            (pending-own w p b x c no-earlier) (omega arith) (row-canon-within w p b x) goto-block)
