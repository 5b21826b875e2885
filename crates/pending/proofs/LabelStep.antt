-- The state of the walk after a Labeled row, not `_`: its own binding or its two reports, then the gotos that it resolves, each bound to it and reported
-- where it jumps over a declaration, then the head of its number. The room for the reports is that of all rows up to it.
-- Assumes nothing.
use mathlib.Core.Path.{◌≡◌, sym, ◌∙◌, ap}
use mathlib.Core.Bool.{Bool, true}
use mathlib.Core.List.{List, ◌++◌, append_assoc}
use mathlib.Core.Option.{some}
use Prim.Native.Nat.{ℕ, suc, ◌+◌, ◌-◌, ◌*◌, ◌≤◌, ◌<◌}
use native.Mathlib.Omega.{arith}
use native.Mathlib.Decide.{ℕ_discrete, dec_lt}
use lib.ListN.{length, get_or, take, drop, set, length-set, length-append}
use lib.Seq.{sets, sets-eq, length-sets, drop-drop, take_at, drop_at, length-take-le, get_or-set_same, get_or-set_other, drop-set-lt}
use borrow.Author.Tests.{ne_eqb}
use Rattle.rules.specs.Scan.{highest}
use Rattle.rules.specs.Rows.{row_count, name}
use Rattle.rules.specs.Names.{count_of_pairs}
use Rattle.rules.specs.Labels.{Fault, each, is_label, declared, latest_declaration, repeated, jumps_over, word, binding}
use Rattle.rules.specs.Calls.{fault_words}
use Rattle.rules.proofs.Test.{case-of, case-found}
use Rattle.rules.proofs.RowNames.{same-own}
use Rattle.rules.proofs.LabelRows.{labels-is, some-declared}
use Rattle.rules.proofs.GotoRows.{is-latest}
use Rattle.rules.proofs.BindingRows.{binding-declared, binding-repeated}
use Rattle.rules.proofs.SheetRows.{repeated-not, repeated-is, report-label}
use Rattle.tables.specs.Canon.{row_canon, Tables}
use Rattle.walk_state.specs.Walk.{faults_at, previous_pending, Walking, Walked}
use Rattle.pending.specs.Chain.{Chain, count_over, stored, Counting, Resolving, Resolved, Declaring}
use Rattle.walk_state.proofs.TableRows.{canon-read, declared-read}
use Rattle.walk_state.proofs.WalkFaults.{faults-suc, words_append, words-length}
use Rattle.walk_state.proofs.WalkBindings.{word_at, word-before, word-from, bindings-are, are-bindings, at_other}
use Rattle.walk_state.proofs.WalkPending.{waits}
use Rattle.walk_state.proofs.WalkRoom.{faults-fit}
use Rattle.walk_state.proofs.WalkRows.{goto-or-label-other}
use Rattle.pending.proofs.Chained.{over-faults-length}
use Rattle.pending.proofs.Downward.{down, highest-word, stored-length, stored-not, stored_at, stored-drop}
use Rattle.pending.proofs.LabelRow.{no-goto, no_block, numbered-row, canon-in, lo, list-within, takes, head-other, head-own, still-waits, link-same}
use Rattle.pending.proofs.LabelRow.{jumps, bound-taken, bound-not, chain}

-- ---- faults put behind k others
module _ (s : List ℕ) (k : ℕ) (fs : List Fault) (fits : (k + length fs) * 4 ≤ length s) where
  words-fit : k * 4 + length (fault_words fs) ≡ (k + length fs) * 4
  words-fit = omega (arith, words-length fs)

  parts : sets s (k * 4) (fault_words fs) ≡ (take (k * 4) s ++ fault_words fs) ++ drop ((k + length fs) * 4) s
  parts = sets-eq (fault_words fs) s (k * 4) (omega (arith, words-fit))
      ∙ rw (words-fit, append_assoc)

  front : length (take (k * 4) s ++ fault_words fs) ≡ (k + length fs) * 4
  front = length-append (take (k * 4) s) (fault_words fs) ∙ (omega (arith, length-take-le (k * 4) s (omega arith), words-fit))

  pub puts-reported : (xs : List Fault) → take (k * 4) s ≡ fault_words xs → take ((k + length fs) * 4) (sets s (k * 4) (fault_words fs)) ≡ fault_words (xs ++ fs)
  puts-reported xs e =
      ap (take ((k + length fs) * 4)) parts
      ∙ take_at (take (k * 4) s ++ fault_words fs) (drop ((k + length fs) * 4) s) ((k + length fs) * 4) front
      ∙ ap (λ (l : List ℕ). l ++ fault_words fs) e
      ∙ sym (words_append xs fs)

  pub puts-kept : drop ((k + length fs) * 4) (sets s (k * 4) (fault_words fs)) ≡ drop ((k + length fs) * 4) s
  puts-kept =
      ap (drop ((k + length fs) * 4)) parts
      ∙ drop_at (take (k * 4) s ++ fault_words fs) (drop ((k + length fs) * 4) s) ((k + length fs) * 4) front

-- what the row's work may assume
abbrev pub AtLabel : (w p b cs ds ls s t heads goto-or-label : List ℕ) (x faults latest : ℕ) → Type 0
AtLabel w p b cs ds ls s t heads goto-or-label x faults latest = record {
  tables : Tables w p b cs ds ls (suc x);
  walking : Walking w p b x faults s t heads goto-or-label;
  row_bound : (x < row_count w) × (is_label w p b x ≡ true);
  latest_value : latest ≡ word (latest_declaration w p b x);
}

module _ {w p b cs ds ls s t heads goto-or-label : List ℕ} {x faults latest : ℕ} (q : AtLabel w p b cs ds ls s t heads goto-or-label x faults latest) where
  abbrev pub tables : Tables w p b cs ds ls (suc x)
  tables = q.tables

  abbrev pub walking : Walking w p b x faults s t heads goto-or-label
  walking = q.walking

  abbrev pub row : x < row_count w
  row = q.row_bound.0

  abbrev pub label : is_label w p b x ≡ true
  label = q.row_bound.1

  abbrev pub latest-is : latest ≡ word (latest_declaration w p b x)
  latest-is = q.latest_value

  -- ---- the label's own work
  own : (d : ℕ) × (declared w p b x ≡ some d) × (d ≤ x)
  own = some-declared w p b x x (omega arith) (labels-is w p b x x label (same-own w p b x))

  abbrev fs : List Fault
  fs = repeated w p b x

  abbrev js : List Fault
  js = each (jumps_over w p b x) x

  pub all-faults : faults_at w p b (suc x) ≡ (faults_at w p b x ++ fs) ++ js
  all-faults = faults-suc w p b x ∙ rw (report-label w p b x label, append_assoc)

  pub fits : (faults + length fs + length js) * 4 ≤ length s
  fits =
      let e : length (faults_at w p b (suc x)) ≡ faults + length fs + length js = ap length all-faults
      ∙ length-append (faults_at w p b x ++ fs) js ∙ rw (length-append, walking.count) in
      omega (arith, faults-fit w p b (suc x) (omega arith), walking.sheet_room)

  -- what it leaves
  pub record Own (s' t' : List ℕ) (more : ℕ) : Type 0 where
    pub more-is : more ≡ faults + length fs
    pub sheet-is : s' ≡ sets s (faults * 4) (fault_words fs)
    pub others : (k : ℕ) → (k ≡ x → ⊥) → get_or t' k 0 ≡ get_or t k 0
    pub own-bound : get_or t' x 0 ≡ binding w p b x
    pub same_length : length t' ≡ length t
    pub kept : drop (row_count w) t' ≡ drop (row_count w) t

  module _ {c d : ℕ} (canon-is : c ≡ get_or cs (name w x) 0) (declared-is : d ≡ get_or ds c 0) where
    canon-row : c ≡ row_canon w p b x
    canon-row = canon-read tables x c row canon-is

    declared-word : d ≡ word (declared w p b x)
    declared-word = declared-read tables x c d row canon-is (λ e. omega (arith, canon-row, numbered-row tables row label)) declared-is

    declared-suc : d ≡ suc own.0
    declared-suc = declared-word ∙ ap word own.1

    repeats : (d ≡ suc x → ⊥) → length fs ≡ 2
    repeats n = ap length (repeated-is w p b x own.0 own.1 (λ e. n (declared-suc ∙ ap suc e)))

    pub declared-row : (0 < d) × (d ≤ row_count w) × (row_count w ≤ 2000)
    declared-row = (omega (arith, declared-suc), omega (arith, declared-suc, own.2), tables.body.most_rows)

    pub repeats-fit : (d ≡ suc x → ⊥) → faults * 4 + 8 ≤ length s
    repeats-fit n = omega (arith, repeats n, fits)

    pub declare-leaves : {s' t' : List ℕ} {more : ℕ} → Declaring w s t s' t' d x faults more → Own s' t' more
    declare-leaves {s'} {t'} {more} y = elim (ℕ_discrete d (suc x)) [
      | yes e ↦
          let i : own.0 ≡ x = omega (arith, declared-suc) in
          let f : declared w p b x ≡ some x = own.1 ∙ ap some i in
          let n = repeated-not w p b x f in
          let z = y.first e in
          record {
            more-is = rw n (z.0 ∙ (omega arith));
            sheet-is = rw n z.1;
            others = λ k o. rw z.2 (get_or-set_other t x k d 0 o);
            own-bound = rw z.2 (get_or-set_same t x d 0 (omega (arith, walking.bindings_room)) ∙ e ∙ sym (binding-declared w p b x label f));
            same_length = rw z.2 (length-set t x d);
            kept = rw z.2 (drop-set-lt (row_count w) t x d row);
          }
      | no o ↦
          let m : own.0 ≡ x → ⊥ = λ i. o (declared-suc ∙ ap suc i) in
          let n = repeated-is w p b x own.0 own.1 m in
          let z = y.again o in
          let i : d - 1 ≡ own.0 = omega (arith, declared-suc) in
          record {
            more-is = rw n z.0;
            sheet-is = rw n (z.2 ∙ rw i);
            others = λ k u. ap (λ (l : List ℕ). get_or l k 0) z.1;
            own-bound = ap (λ (l : List ℕ). get_or l x 0) z.1 ∙ are-bindings w p b x t x walking.bound row ∙ word-from w p b x x (omega arith)
                ∙ sym (binding-repeated w p b x label (rw own.1 (ne_eqb own.0 x m)));
            same_length = ap length z.1;
            kept = ap (drop (row_count w)) z.1;
          }
    ]

  -- ---- the gotos that it resolves
  latest-within : latest ≤ row_count w
  latest-within = case-found (latest_declaration w p b x)
      (λ d e. let i : latest ≡ suc d = latest-is ∙ ap word e in omega (arith, (is-latest w p b x d e).0))
      (λ e. let i : latest ≡ 0 = latest-is ∙ ap word e in omega arith)

  abbrev pub taken : List ℕ
  taken = down (takes tables row label) x

  abbrev pub left : ℕ
  left = word (highest (waits w p b x (row_canon w p b x)) (lo tables row label))

  pub left-within : left ≤ x
  left-within = omega (arith, highest-word (waits w p b x (row_canon w p b x)) (lo tables row label), list-within tables row label)

  jump-count : count_over latest taken ≡ length js
  jump-count = sym (over-faults-length w latest taken) ∙ ap length (jumps tables row label latest latest-is)

  pub head-place : {c : ℕ} → c ≡ get_or cs (name w x) 0 → c < length heads
  head-place {c} e = omega (arith, canon-read tables x c row e, canon-in tables row label, walking.heads_room)

  module _ {c list head : ℕ} (canon-is : c ≡ get_or cs (name w x) 0) (list-is : list ≡ get_or ls x 0) (head-is : head ≡ get_or heads c 0) where
    the-canon : c ≡ row_canon w p b x
    the-canon = canon-read tables x c row canon-is

    head-row : head ≡ get_or heads (row_canon w p b x) 0
    head-row = head-is ∙ ap (λ (n : ℕ). get_or heads n 0) the-canon

    pub the-chain : Chain goto-or-label list head taken left
    the-chain = rw (head-row, list-is) (chain tables row label walking)

    pub head-within : head ≤ x
    unfolding previous_pending
    head-within =
        let e = walking.heads_are (row_canon w p b x) (numbered-row tables row label) (canon-in tables row label) in
        omega (arith, head-row ∙ e, highest-word (waits w p b x (row_canon w p b x)) x)

    abbrev pub counting-asks : Counting goto-or-label head list
    counting-asks = record { rows = taken; last = left; chain = the-chain; room = omega (arith, head-within, walking.block_labels.0) }

    -- the rest of the work, after the label's own
    module _ {s' t' : List ℕ} {more over : ℕ} (done : Own s' t' more) (over-is : over ≡ count_over latest taken) where
      pub end_fits : (more + over) * 4 ≤ length s'
      end_fits =
          let e : length s' ≡ length s = ap length done.sheet-is ∙ length-sets s (faults * 4) (fault_words fs) in
          omega (arith, fits, done.more-is, over-is, jump-count)

      pub resolve-asks : Resolving w s' t' goto-or-label head x list latest (more + over)
      resolve-asks = record {
        counting = counting-asks;
        few = tables.body.most_rows;
        row_in = row;
        head_in = omega (arith, head-within);
        latest_within = latest-within;
        bindings_room = omega (arith, done.same_length, walking.bindings_room);
        from = omega (arith, over-is);
        room = end_fits;
      }

      -- the state after it
      module _ {s'' t'' : List ℕ} {rest : ℕ} (end-done : Resolved w s' t' s'' t'' x latest (more + over) left rest taken) where
        abbrev end_of : ℕ
        end_of = more + over

        end_is : end_of ≡ faults + length fs + length js
        end_is = omega (arith, done.more-is, over-is, jump-count)

        more-fits : (faults + length fs) * 4 ≤ length s
        more-fits = omega (arith, fits)

        sheet-same : length s' ≡ length s
        sheet-same = ap length done.sheet-is ∙ length-sets s (faults * 4) (fault_words fs)

        last_fits : (faults + length fs + length js) * 4 ≤ length s'
        last_fits = omega (arith, fits, sheet-same)

        sheet-last : s'' ≡ sets s' ((faults + length fs) * 4) (fault_words js)
        sheet-last = end-done.reported more (ap (λ (n : ℕ). more + n) (sym over-is))
            ∙ rw (jumps tables row label latest latest-is, done.more-is)

        reported-own : take ((faults + length fs) * 4) s' ≡ fault_words (faults_at w p b x ++ fs)
        reported-own = rw done.sheet-is (puts-reported s faults fs more-fits (faults_at w p b x) walking.reported)

        reported-all : take (end_of * 4) s'' ≡ fault_words (faults_at w p b (suc x))
        reported-all = rw (end_is, all-faults, sheet-last)
            (puts-reported s' (faults + length fs) js last_fits (faults_at w p b x ++ fs) reported-own)

        kept-all : drop (end_of * 4) s'' ≡ drop (end_of * 4) s
        kept-all =
            let a = (faults + length fs) * 4 in
            let e : end_of * 4 ≡ a + length js * 4 = omega (arith, end_is) in
            let f : (faults + length fs + length js) * 4 ≡ a + length js * 4 = omega arith in
            let own-kept : drop a s' ≡ drop a s = rw done.sheet-is (puts-kept s faults fs more-fits) in
            let last-kept : drop (a + length js * 4) s'' ≡ drop (a + length js * 4) s' =
            rw sheet-last (rw f at (puts-kept s' (faults + length fs) js last_fits)) in
            rw e (last-kept ∙ sym (drop-drop (length js * 4) a s') ∙ ap (drop (length js * 4)) own-kept ∙ drop-drop (length js * 4) a s)

        abbrev Q : ℕ → Bool
        Q = takes tables row label

        bound-before : (g : ℕ) → g < row_count w → g < x → get_or (stored t' taken (suc x)) g 0 ≡ word_at w p b (suc x) g
        bound-before g h l = case-of (Q g)
            (λ u.
            stored_at Q (suc x) x g t' (omega (arith, done.same_length, walking.bindings_room)) l u
            ∙ sym (word-before w p b (suc x) g (omega arith) ∙ bound-taken tables row label g l u))
            (λ u.
            stored-not Q (suc x) x g t' (λ m. u) ∙ done.others g (λ e. omega arith) ∙ are-bindings w p b x t g walking.bound h
            ∙ word-before w p b x g l ∙ sym (word-before w p b (suc x) g (omega arith) ∙ bound-not tables row label g l u))

        bound_at : (g : ℕ) → g < row_count w → get_or (stored t' taken (suc x)) g 0 ≡ word_at w p b (suc x) g
        bound_at g h = elim (dec_lt g x) [
          | yes l ↦ bound-before g h l
          | no n ↦ stored-not Q (suc x) x g t' (λ m. absurd (n m)) ∙ elim (ℕ_discrete g x) [
            | yes e ↦ rw e (done.own-bound ∙ sym (word-before w p b (suc x) x (omega arith) ∙ at_other w p b (suc x) x (no-goto tables row label)))
            | no o ↦
                done.others g o ∙ are-bindings w p b x t g walking.bound h ∙ word-from w p b x g (omega arith)
                ∙ sym (word-from w p b (suc x) g (omega arith))
          ]
        ]

        bindings-same : length t'' ≡ length t
        bindings-same = ap length end-done.bound ∙ stored-length t' taken (suc x) ∙ done.same_length

        heads-at : (d : ℕ) → 0 < d → d ≤ count_of_pairs p → get_or (set heads c rest) d 0 ≡ word (previous_pending w p b (suc x) d (suc x))
        heads-at d z k = elim (ℕ_discrete d (row_canon w p b x)) [
          | yes e ↦
              let i : d ≡ c = e ∙ sym the-canon in
              ap (λ (n : ℕ). get_or (set heads c rest) n 0) i ∙ get_or-set_same heads c rest 0 (omega (arith, walking.heads_room)) ∙ end-done.left
              ∙ ap word (sym (head-own tables row label)) ∙ ap (λ (n : ℕ). word (previous_pending w p b (suc x) n (suc x))) (sym e)
          | no n ↦
              get_or-set_other heads c d rest 0 (λ e. n (e ∙ the-canon)) ∙ walking.heads_are d z k ∙ ap word (sym (head-other tables row label d n))
        ]

        pub label-walked : Walked w p b (suc x) end_of s t s'' t'' (set heads c rest) goto-or-label
        label-walked = record {
          state = record {
            rows = row;
            count = end_is ∙ sym (ap length all-faults ∙ length-append (faults_at w p b x ++ fs) js ∙ rw (length-append, walking.count));
            sheet_room = omega (arith, walking.sheet_room, sheet-same, ap length sheet-last ∙ length-sets s' ((faults + length fs) * 4) (fault_words js));
            reported = reported-all;
            bindings_room = omega (arith, walking.bindings_room, bindings-same);
            bound = rw end-done.bound
                (bindings-are w p b (suc x) (stored t' taken (suc x))
                (omega (arith, walking.bindings_room, stored-length t' taken (suc x), done.same_length)) bound_at);
            heads_room = rw length-set walking.heads_room;
            heads_are = heads-at;
            block_labels = goto-or-label-other w p b x goto-or-label (no_block tables row label) walking.block_labels;
            goto_before = λ g h q z.
                let (l, q') = still-waits tables row label g h q in
                walking.goto_before g l q' z ∙ ap word (sym (link-same tables row label g l q));
          };
          sheet_length = ap length sheet-last ∙ length-sets s' ((faults + length fs) * 4) (fault_words js) ∙ sheet-same;
          sheet_kept = kept-all;
          bindings_length = bindings-same;
          bindings_kept = rw end-done.bound (stored-drop Q (suc x) x (row_count w) t' (omega arith) ∙ done.kept);
        }
