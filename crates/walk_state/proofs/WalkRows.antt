-- One row of the walk that is no label: the state after it, from the state before it and what the row did, by what it reports, what it binds and whether
-- it is pending.
-- Assumes nothing.
use mathlib.Core.Path.{◌≡◌, refl, sym, ◌∙◌, ap}
use mathlib.Core.Bool.{true, false}
use mathlib.Core.List.{List, [], ◌∷◌}
use Prim.Native.Nat.{ℕ, suc, ◌+◌, ◌*◌, ◌≤◌, ◌<◌}
use native.Mathlib.Omega.{arith}
use native.Mathlib.Decide.{ℕ_discrete}
use lib.ListN.{length, get_or, take, drop, set, length-set}
use lib.Seq.{sets, get_or-set_same, get_or-set_other}
use Rattle.rules.specs.Rows.{row_count}
use Rattle.rules.specs.Class.{goto, class}
use Rattle.rules.specs.Names.{count_of_pairs}
use Rattle.rules.specs.Scope.{is_block}
use Rattle.rules.specs.Labels.{Fault, is_label, pending, report, word}
use Rattle.rules.specs.Calls.{fault_words}
use Rattle.rules.proofs.Test.{clash}
use Rattle.rules.proofs.BreakRows.{LabelledBreak, not-labelled}
use Rattle.rules.proofs.BindingRows.{binding-other}
use Rattle.rules.proofs.SheetRows.{LabelledFallthrough, report-other}
use Rattle.tables.specs.Canon.{row_canon}
use Rattle.walk_state.specs.Walk.{faults_at, binding_at, bindings_at, previous_pending, current_label, BlockLabels, Walking, Walked}
use Rattle.walk_state.proofs.WalkFaults.{faults-none, faults-one, snoc-length, put-length, put-reported, put-kept}
use Rattle.walk_state.proofs.WalkBindings.{at_other, not-later, bindings-set, bindings_kept, bindings-same}
use Rattle.walk_state.proofs.WalkPending.{pending-same, pending-other, previous-same, previous-top, previous-other, previous-not}
use Rattle.walk_state.proofs.WalkRoom.{faults-fit}

module _ (w p b : List ℕ) where
  -- ---- the labels of Blocks

  -- a row that is none
  pub goto-or-label-other : (x : ℕ) (goto-or-label : List ℕ) → is_block (class w x) ≡ false → BlockLabels w p b x goto-or-label
      → BlockLabels w p b (suc x) goto-or-label
  goto-or-label-other x goto-or-label f l = (
    l.0,
    λ k h t. elim (ℕ_discrete k x) [
      | yes i ↦ let u : is_block (class w x) ≡ true = rw i at t in absurd (clash (cc))
      | no n ↦ l.1 k (omega arith) t
    ],
  )

  -- a row that is one
  pub goto-or-label-block : (x v : ℕ) (goto-or-label : List ℕ) → x < row_count w → v ≡ word (current_label w p b x) → BlockLabels w p b x goto-or-label
      → BlockLabels w p b (suc x) (set goto-or-label x v)
  goto-or-label-block x v goto-or-label row e l = (
    rw length-set l.0,
    λ k h t. elim (ℕ_discrete k x) [
      | yes i ↦ rw i (get_or-set_same goto-or-label x v 0 (omega (arith, l.0)) ∙ e)
      | no n ↦ get_or-set_other goto-or-label x k v 0 n ∙ l.1 k (omega arith) t
    ],
  )

  -- other words may change at rows that are none
  pub goto-or-label-kept : (x : ℕ) (goto-or-label goto-or-label' : List ℕ) → row_count w ≤ length goto-or-label'
      → ((k : ℕ) → k < x → is_block (class w k) ≡ true → get_or goto-or-label' k 0 ≡ get_or goto-or-label k 0)
      → BlockLabels w p b x goto-or-label → BlockLabels w p b x goto-or-label'
  goto-or-label-kept x goto-or-label goto-or-label' room same l = (room, λ k h t. same k h t ∙ l.1 k h t)

  -- ---- the sheet and the bindings after row x, with the words at entry
  pub record Written (x faults : ℕ) (sheet bindings sheet' bindings' : List ℕ) : Type 0 where
    pub count : faults ≡ length (faults_at w p b x)
    pub reported : take (faults * 4) sheet' ≡ fault_words (faults_at w p b x)
    pub bound : take (row_count w) bindings' ≡ bindings_at w p b x
    pub sheet_length : length sheet' ≡ length sheet
    pub sheet_kept : drop (faults * 4) sheet' ≡ drop (faults * 4) sheet
    pub bindings_length : length bindings' ≡ length bindings
    pub bindings_kept : drop (row_count w) bindings' ≡ drop (row_count w) bindings

  module _ (x faults : ℕ) (s t h l : List ℕ) (row : x < row_count w) (n : is_label w p b x ≡ false) (walking : Walking w p b x faults s t h l) where
    -- what is reported and what is bound
    pub written_same : report w p b x ≡ [] → binding_at w p b (suc x) x ≡ 0 → Written (suc x) faults s t s t
    written_same r e =
        let f = faults-none w p b x r in
        record {
          count = walking.count ∙ ap length (sym f);
          reported = rw f walking.reported;
          bound = bindings-same w p b x row n t walking.bindings_room walking.bound e;
          sheet_length = refl;
          sheet_kept = refl;
          bindings_length = refl;
          bindings_kept = refl;
        }

    pub written-bound : (v : ℕ) → report w p b x ≡ [] → v ≡ binding_at w p b (suc x) x → Written (suc x) faults s t s (set t x v)
    written-bound v r e =
        let f = faults-none w p b x r in
        record {
          count = walking.count ∙ ap length (sym f);
          reported = rw f walking.reported;
          bound = bindings-set w p b x row n t walking.bindings_room walking.bound v e;
          sheet_length = refl;
          sheet_kept = refl;
          bindings_length = length-set t x v;
          bindings_kept = bindings_kept w p b x row n t walking.bindings_room walking.bound v;
        }

    -- there is room for one fault
    pub one-fits : (f : Fault) → report w p b x ≡ f ∷ [] → faults * 4 + 4 ≤ length s
    one-fits f r =
        let e : length (faults_at w p b (suc x)) ≡ length (faults_at w p b x) + 1 = ap length (faults-one w p b x f r) ∙ snoc-length (faults_at w p b x) f in
        omega (arith, faults-fit w p b (suc x) (omega arith), walking.count, walking.sheet_room)

    pub written-fault : (f : Fault) → report w p b x ≡ f ∷ [] → binding_at w p b (suc x) x ≡ 0
        → (s' : List ℕ) → s' ≡ sets s (faults * 4) (f.code ∷ f.position ∷ f.name ∷ f.other ∷ []) → Written (suc x) (faults + 1) s t s' t
    written-fault f r e s' i =
        let q = faults-one w p b x f r in
        let fits = one-fits f r in
        record {
          count = ap (λ (k : ℕ). k + 1) walking.count ∙ sym (ap length q ∙ snoc-length (faults_at w p b x) f);
          reported = rw (i, q) (put-reported s faults f fits (faults_at w p b x) walking.reported);
          bound = bindings-same w p b x row n t walking.bindings_room walking.bound e;
          sheet_length = rw i (put-length s faults f fits);
          sheet_kept = rw i (put-kept s faults f fits);
          bindings_length = refl;
          bindings_kept = refl;
        }

    -- ---- what waits
    waits-before : (g : ℕ) → pending w p b (suc x) g ≡ true → pending w p b x g ≡ true
    waits-before g q = sym (pending-same w p b x g (not-later w p b x g n)) ∙ q

    module _ (faults' : ℕ) (s' t' : List ℕ) (done : Written (suc x) faults' s t s' t') where
      -- the state after the row, from its heads and links
      state : (h' l' : List ℕ) → count_of_pairs p < length h'
          → ((c : ℕ) → 0 < c → c ≤ count_of_pairs p → get_or h' c 0 ≡ word (previous_pending w p b (suc x) c (suc x)))
          → BlockLabels w p b (suc x) l'
          → ((g : ℕ) → g < suc x → pending w p b (suc x) g ≡ true → 0 < row_canon w p b g
          → get_or l' g 0 ≡ word (previous_pending w p b (suc x) (row_canon w p b g) g))
          → Walked w p b (suc x) faults' s t s' t' h' l'
      state h' l' room heads blocks gotos = record {
        state = record {
          rows = row;
          count = done.count;
          sheet_room = rw done.sheet_length walking.sheet_room;
          reported = done.reported;
          bindings_room = rw done.bindings_length walking.bindings_room;
          bound = done.bound;
          heads_room = room;
          heads_are = heads;
          block_labels = blocks;
          goto_before = gotos;
        };
        sheet_length = done.sheet_length;
        sheet_kept = done.sheet_kept;
        bindings_length = done.bindings_length;
        bindings_kept = done.bindings_kept;
      }

      -- the row is not pending; its word in the table may change
      pub walked : (l' : List ℕ) → pending w p b (suc x) x ≡ false → BlockLabels w p b (suc x) l' → ((g : ℕ) → (g ≡ x → ⊥) → get_or l' g 0 ≡ get_or l g 0)
          → Walked w p b (suc x) faults' s t s' t' h l'
      walked l' f blocks same = state h l' walking.heads_room
          (λ c z k. walking.heads_are c z k ∙ ap word (sym (previous-not w p b (suc x) x c f ∙ previous-same w p b x c x n)))
          blocks
          (λ g k q z. elim (ℕ_discrete g x) [
            | yes i ↦ let u : pending w p b (suc x) x ≡ true = rw i at q in absurd (clash (cc))
            | no o ↦
                same g o ∙ walking.goto_before g (omega arith) (waits-before g q) z ∙ ap word (sym (previous-same w p b x (row_canon w p b g) g n))
          ])

      -- the row is pending and has no canonical number
      pub walked-blank : pending w p b (suc x) x ≡ true → row_canon w p b x ≡ 0 → is_block (class w x) ≡ false → Walked w p b (suc x) faults' s t s' t' h l
      walked-blank q e o = state h l walking.heads_room
          (λ c z k. walking.heads_are c z k ∙ ap word (sym (previous-other w p b (suc x) x c q (λ i. omega arith) ∙ previous-same w p b x c x n)))
          (goto-or-label-other x l o walking.block_labels)
          (λ g k u z. elim (ℕ_discrete g x) [
            | yes i ↦ let v : 0 < row_canon w p b x = rw i at z in absurd (omega arith)
            | no m ↦ walking.goto_before g (omega arith) (waits-before g u) z ∙ ap word (sym (previous-same w p b x (row_canon w p b g) g n))
          ])

      -- the row is pending: it comes on top of those of its name
      pub walked-pending : pending w p b (suc x) x ≡ true → 0 < row_canon w p b x → row_canon w p b x ≤ count_of_pairs p → is_block (class w x) ≡ false
          → Walked w p b (suc x) faults' s t s' t' (set h (row_canon w p b x) (suc x)) (set l x (get_or h (row_canon w p b x) 0))
      walked-pending q z k o =
          let c = row_canon w p b x in
          let room = walking.heads_room in
          state (set h c (suc x)) (set l x (get_or h c 0)) (rw length-set room)
          (λ d y m. elim (ℕ_discrete d c) [
            | yes i ↦
                rw i (get_or-set_same h c (suc x) 0 (omega arith) ∙ ap word (sym (previous-top w p b (suc x) x c q refl)))
            | no j ↦
                get_or-set_other h c d (suc x) 0 j ∙ walking.heads_are d y m
                ∙ ap word (sym (previous-other w p b (suc x) x d q (λ i. j (sym i)) ∙ previous-same w p b x d x n))
          ])
          (goto-or-label-other x (set l x (get_or h c 0)) o
          (goto-or-label-kept x l (set l x (get_or h c 0)) (rw length-set walking.block_labels.0)
          (λ r a u. get_or-set_other l x r (get_or h c 0) 0 (λ i. omega arith))
          walking.block_labels))
          (λ g a u y. elim (ℕ_discrete g x) [
            | yes i ↦
                rw i (get_or-set_same l x (get_or h c 0) 0 (omega (arith, walking.block_labels.0)) ∙ walking.heads_are c z k
                ∙ ap word (sym (previous-same w p b x c x n)))
            | no j ↦
                get_or-set_other l x g (get_or h c 0) 0 j ∙ walking.goto_before g (omega arith) (waits-before g u) y
                ∙ ap word (sym (previous-same w p b x (row_canon w p b g) g n))
          ])

  -- ---- a row that does nothing
  pub record Idle (x : ℕ) : Type 0 where
    pub no_label : is_label w p b x ≡ false
    pub no-goto : class w x ≡ goto → ⊥
    pub no-break : LabelledBreak w p b x → ⊥
    pub no-fallthrough : LabelledFallthrough w p b x → ⊥

  module _ (x faults : ℕ) (s t h l : List ℕ) (row : x < row_count w) (idle : Idle x) (walking : Walking w p b x faults s t h l) where
    idle-written : Written (suc x) faults s t s t
    idle-written =
        let n = idle.no_label in
        let f = not-labelled w p b x idle.no-break in
        written_same x faults s t h l row n walking (report-other w p b x n f idle.no-fallthrough)
        (at_other w p b (suc x) x idle.no-goto ∙ binding-other w p b x n idle.no-goto f)

    pub idle-walked : is_block (class w x) ≡ false → Walked w p b (suc x) faults s t s t h l
    idle-walked o = walked x faults s t h l row idle.no_label walking faults s t idle-written l
        (pending-other w p b (suc x) x idle.no-goto) (goto-or-label-other x l o walking.block_labels) (λ g i. refl)

    pub block_walked : (v : ℕ) → v ≡ word (current_label w p b x) → Walked w p b (suc x) faults s t s t h (set l x v)
    block_walked v e = walked x faults s t h l row idle.no_label walking faults s t idle-written (set l x v)
        (pending-other w p b (suc x) x idle.no-goto) (goto-or-label-block x v l row e walking.block_labels) (λ g i. get_or-set_other l x g v 0 i)
