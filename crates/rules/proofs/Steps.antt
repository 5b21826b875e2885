-- Document 01, "Runner", sentence by sentence: where the runner goes from each kind of row and by which choices. Each law opens `choices` and `step` at
-- one class; the laws of going on open `climb`, which passes the rows that are not around s and so comes to the parent of s first.
-- Assumes nothing.
use mathlib.Core.Path.{◌≡◌, refl, ap, ◌∙◌}
use mathlib.Core.Bool.{Bool, true, false, ◌&&◌, ◌||◌, not}
use mathlib.Core.Logic.{inl, inr}
use mathlib.Core.List.{List, [], ◌∷◌}
use mathlib.Core.Option.{Option, none, some}
use Prim.Native.Nat.{ℕ, zero, suc, ◌+◌, ◌≤◌, ◌<◌}
use native.Mathlib.Omega.{arith}
use native.Mathlib.Decide.{ℕ_discrete, dec_lt}
use lib.Dec.{ltb, leb, eqb}
use borrow.Author.Tests.{ltb-true, lt-ltb, le-ltb, eq-eqb, ne_eqb}
use Rattle.rules.specs.Scan.{lowest}
use Rattle.rules.specs.Rows.{row_count, kind, detail, name, size, end, parent, Item, here, later, Child}
use Rattle.rules.specs.Body.{Sized, OneChild, Body}
use Rattle.rules.specs.Refusals.{holding, body}
use Rattle.rules.specs.Class.{Class, plain, declaration, empty, labeled, stop, break, continue, goto, fallthrough, block, case_block, comm_block, if}
use Rattle.rules.specs.Class.{if_else, case, default_case, comm, default_comm, switch, type_switch, select, for, for_cond, code, one_of, is_switch, is_loop}
use Rattle.rules.specs.Class.{is_case, is_default, detail_allowed, class_of, base, following, class}
use Rattle.rules.specs.Scope.{is_list, around, innermost, list_of, in_list_of, next_case}
use Rattle.rules.specs.Labels.{word, labels, goto_label, binding}
use Rattle.rules.specs.Verdict.{label_on, refers_to, any_default, has_default}
use Rattle.rules.specs.Runner.{State, at, stopped, brace, climb, after, onward, next, up, item_at, item_count, clause_count, break_to, continue_to, goto_to}
use Rattle.rules.specs.Runner.{choices_as, enter, clause, step_as, choices, step, Walk, go, Route}
use Rattle.rules.proofs.Test.{case-of, case-found, clash, or-true, or-false, and-true}
use Rattle.rules.proofs.Scan.{highest-found, highest-last, highest-none}
use Rattle.rules.proofs.Every.{every, same, same-eq, of-classes, is-class}
use Rattle.rules.proofs.Details.{of-allowed}
use Rattle.rules.proofs.LabelRows.{other-label}
use Rattle.rules.proofs.GotoRows.{goto-label}
use Rattle.rules.proofs.BindingRows.{binding-goto}

-- ---- what holds at each class of a list holds at a class that is one of them
abbrev AtEach : (Class → Type 0) → List Class → Type 0
AtEach P [] = Unit {0}
AtEach P (d ∷ ds) = P d × AtEach P ds

at-one-of : (P : Class → Type 0) (ds : List Class) → AtEach P ds → (c : Class) → one_of ds c ≡ true → P c
at-one-of P [] h c t = absurd (clash (cc))
at-one-of P (d ∷ ds) h c t = elim (or-true (eqb (code c) (code d)) (one_of ds c) t) [
  | inl e ↦ rw (is-class c d e) h.0
  | inr e ↦ at-one-of P ds h.1 c e
]

-- ---- clauses by number: each number below the count is an item, and each item has a number
module _ (w : List ℕ) where
  item-of-number : (f e c i : ℕ) → i < item_count w f e c → Item w e c (item_at w c i)
  unfolding item_count item_at
  item-of-number zero e c i h = absurd (omega arith)
  item-of-number (suc f) e c zero h = case-of (ltb c e) (λ t. here (ltb-true c e t)) (λ t. let z : 0 < 0 = rw (t, item_count) at h in absurd (omega arith))
  item-of-number (suc f) e c (suc i) h = case-of (ltb c e)
      (λ t.
      let z : suc i < suc (item_count w f e (end w c)) = rw (t, item_count) at h in
      later (ltb-true c e t) (item-of-number f e (end w c) i (omega arith)))
      (λ t. let z : suc i < 0 = rw (t, item_count) at h in absurd (omega arith))

  number-of-item : Sized w → {e c s : ℕ} → (f : ℕ) → e ≤ c + f → e ≤ row_count w → Item w e c s → (i : ℕ) × (i < item_count w f e c) × (item_at w c i ≡ s)
  unfolding item_count item_at
  number-of-item sized zero h m (here l) = absurd (omega arith)
  number-of-item sized zero h m (later l i) = absurd (omega arith)
  number-of-item sized {e} {c} (suc f) h m (here l) = (0, rw (lt-ltb c e l, item_count) (omega arith), refl)
  number-of-item sized {e} {c} (suc f) h m (later l i) =
      let r = number-of-item sized {c = end w c} f (omega (arith, sized.some_rows c (omega arith))) m i in
      (suc r.0, rw (lt-ltb c e l, item_count) (omega (arith, r.1)), r.2)

-- ---- a default, as one of the clauses
module _ (w : List ℕ) where
  default-found : (f e c : ℕ) → any_default w f e c ≡ true → (s : ℕ) × Item w e c s × (is_default (class w s) ≡ true)
  unfolding any_default
  default-found zero e c t = absurd (clash (cc))
  default-found (suc f) e c t = case-of (ltb c e)
      (λ l.
      let u : is_default (class w c) || any_default w f e (end w c) ≡ true = rw (l, any_default) at t in
      elim (or-true (is_default (class w c)) (any_default w f e (end w c)) u) [
        | inl d ↦ (c, here (ltb-true c e l), d)
        | inr d ↦ let (s, i, x) = default-found f e (end w c) d in (s, later (ltb-true c e l) i, x)
      ])
      (λ l. let z : false ≡ true = rw (l, any_default) at t in absurd (clash (cc)))

  no_default : Sized w → {e c s : ℕ} → (f : ℕ) → e ≤ c + f → e ≤ row_count w → any_default w f e c ≡ false → Item w e c s → is_default (class w s) ≡ false
  unfolding any_default
  no_default sized zero h m t (here l) = absurd (omega arith)
  no_default sized zero h m t (later l i) = absurd (omega arith)
  no_default sized {e} {c} (suc f) h m t (here l) =
      (or-false (is_default (class w c)) (any_default w f e (end w c)) (rw (lt-ltb c e l, any_default) at t)).0
  no_default sized {e} {c} (suc f) h m t (later l i) =
      no_default sized {c = end w c} f (omega (arith, sized.some_rows c (omega arith))) m
      (or-false (is_default (class w c)) (any_default w f e (end w c)) (rw (lt-ltb c e l, any_default) at t)).1 i

  pub with-default : Sized w → (r : ℕ) → r < row_count w → OneChild w r → has_default w r ≡ true → (s : ℕ) × Child w (suc r) s × (is_default (class w s) ≡ true)
  unfolding has_default
  with-default sized r row (l, e) t = rw e (default-found (size w r) (end w r) (suc (suc r)) t)

  pub without-default : Sized w → (r : ℕ) → r < row_count w → OneChild w r → has_default w r ≡ false → (s : ℕ) → Child w (suc r) s → is_default (class w s) ≡ false
  unfolding has_default
  without-default sized r row (l, e) t s i = no_default sized (size w r) (omega arith) (sized.within r row) t (rw e at i)

-- ---- the kinds of the plain rows: 0, 1, 2, 4 without panic, 5 to 9
abbrev pub is_plain : Class → Bool
is_plain = one_of (plain ∷ declaration ∷ empty ∷ [])

abbrev pub plain_kind : ℕ → ℕ → Bool
plain_kind k d = elim (eqb k 4) [ true ↦ eqb d 0 | false ↦ leb k 9 && not (eqb k 3) ]

plain-pair : (k d : ℕ) → detail_allowed k d ≡ true → is_plain (class_of k d) ≡ plain_kind k d
unfolding every lowest detail_allowed class_of
plain-pair k d t = same-eq (is_plain (class_of k d)) (plain_kind k d) (of-allowed (λ k d. same (is_plain (class_of k d)) (plain_kind k d)) refl k d t)

follows-plain : (a c : Class) → is_plain (following a c) ≡ is_plain c
unfolding every lowest
follows-plain a c = same-eq (is_plain (following a c)) (is_plain c) (of-classes (λ a c. same (is_plain (following a c)) (is_plain c)) refl a c)

pub plain-kinds : (w : List ℕ) (r : ℕ) → detail_allowed (kind w r) (detail w r) ≡ true → is_plain (class w r) ≡ plain_kind (kind w r) (detail w r)
unfolding class base
plain-kinds w zero t = plain-pair (kind w 0) (detail w 0) t
plain-kinds w (suc q) t = follows-plain (base w q) (base w (suc q)) ∙ plain-pair (kind w (suc q)) (detail w (suc q)) t

-- ---- the steps from row r
module _ (w p b : List ℕ) (r : ℕ) where
  -- one choice, which leads to o (none where the runner is stuck)
  abbrev pub OneWay : Option State → Type 0
  OneWay o = (choices w p b (at r) ≡ 1) × ((c : ℕ) → step w p b (at r) c ≡ o)

  -- two choices: 1 leads to s, 0 to t
  abbrev pub TwoWays : State → State → Type 0
  TwoWays s t = (choices w p b (at r) ≡ 2) × (step w p b (at r) 1 ≡ some s) × (step w p b (at r) 0 ≡ some t)

  abbrev OneWayAs : Option State → Class → Type 0
  OneWayAs o k = (choices_as w p b k r ≡ 1) × ((c : ℕ) → step_as w p b k r c ≡ o)

  -- "Plain rows (0, 1, 2, 4 without panic, 5 to 9) go on."
  pub plain-goes-on : is_plain (class w r) ≡ true → OneWay (some (after w r))
  unfolding choices step
  plain-goes-on t = at-one-of (OneWayAs (some (after w r))) (plain ∷ declaration ∷ empty ∷ [])
      ((refl, λ c. refl), ((refl, λ c. refl), ((refl, λ c. refl), tt))) (class w r) t

  -- "Return and panic stop."
  pub stop-stops : class w r ≡ stop → OneWay (some stopped)
  unfolding choices step
  stop-stops e = rw e (refl, λ c. refl)

  -- "Labeled enters its statement."
  pub labeled-enters : class w r ≡ labeled → OneWay (some (at (suc r)))
  unfolding choices step
  labeled-enters e = rw e (refl, λ c. refl)

  -- "Block, Case and Comm then go to their first item, or past the list's end if they have none."
  list-enters : is_list (class w r) ≡ true → OneWay (some (enter w p b r))
  unfolding choices step
  list-enters t = at-one-of (OneWayAs (some (enter w p b r))) (block ∷ case ∷ default_case ∷ comm ∷ default_comm ∷ [])
      ((refl, λ c. refl), ((refl, λ c. refl), ((refl, λ c. refl), ((refl, λ c. refl), ((refl, λ c. refl), tt))))) (class w r) t

  pub list-first-item : is_list (class w r) ≡ true → 1 < size w r → OneWay (some (at (suc r)))
  list-first-item t h = rw (lt-ltb 1 (size w r) h, enter) at (list-enters t)

  pub list-without-items : is_list (class w r) ≡ true → size w r ≤ 1 → OneWay (some (after w r))
  list-without-items t h = rw (le-ltb 1 (size w r) h, enter) at (list-enters t)

  -- "If takes its body, or its else, or without one goes on."
  pub if-ways : class w r ≡ if → TwoWays (at (suc r)) (after w r)
  unfolding choices step
  if-ways e = rw e (refl, refl, refl)

  pub if-else-ways : class w r ≡ if_else → TwoWays (at (suc r)) (at (end w (suc r)))
  unfolding choices step
  if-else-ways e = rw e (refl, refl, refl)

  -- "For with condition and Range take the body or go on; For without takes the body."
  pub for-condition-ways : class w r ≡ for_cond → TwoWays (at (suc r)) (after w r)
  unfolding choices step
  for-condition-ways e = rw e (refl, refl, refl)

  pub for-enters : class w r ≡ for → OneWay (some (at (suc r)))
  unfolding choices step
  for-enters e = rw e (refl, λ c. refl)

  -- "A switch takes any Case, or goes on if no default."
  switch-step : is_switch (class w r) ≡ true → (c : ℕ) → step w p b (at r) c ≡ some (clause w p b r c (after w r))
  unfolding step
  switch-step t c = at-one-of (λ k. step_as w p b k r c ≡ some (clause w p b r c (after w r))) (switch ∷ type_switch ∷ [])
      (refl, (refl, tt)) (class w r) t

  switch-choices : is_switch (class w r) ≡ true → choices w p b (at r) ≡ choices_as w p b switch r
  unfolding choices
  switch-choices t = at-one-of (λ k. choices_as w p b k r ≡ choices_as w p b switch r) (switch ∷ type_switch ∷ []) (refl, (refl, tt)) (class w r) t

  pub switch-takes : is_switch (class w r) ≡ true → (c : ℕ) → c < clause_count w r → step w p b (at r) c ≡ some (at (item_at w (suc (suc r)) c))
  switch-takes t c h = rw (lt-ltb c (clause_count w r) h, clause) at (switch-step t c)

  pub switch-with-default : is_switch (class w r) ≡ true → has_default w r ≡ true → choices w p b (at r) ≡ clause_count w r
  switch-with-default t d = rw (d, choices_as) at (switch-choices t)

  pub switch-without-default : is_switch (class w r) ≡ true → has_default w r ≡ false
      → (choices w p b (at r) ≡ suc (clause_count w r)) × (step w p b (at r) (clause_count w r) ≡ some (after w r))
  switch-without-default t d =
      (rw (d, choices_as) at (switch-choices t), rw (le-ltb (clause_count w r) (clause_count w r) (omega arith), clause) at (switch-step t (clause_count w r)))

  -- "Select takes any Comm; empty, it stops."
  select-step : class w r ≡ select → (c : ℕ) → step w p b (at r) c ≡ some (clause w p b r c stopped)
  unfolding step
  select-step e c = rw e

  pub select-takes : class w r ≡ select → (c : ℕ) → c < clause_count w r → step w p b (at r) c ≡ some (at (item_at w (suc (suc r)) c))
  select-takes e c h = rw (lt-ltb c (clause_count w r) h, clause) at (select-step e c)

  pub select-choices : class w r ≡ select → 0 < clause_count w r → choices w p b (at r) ≡ clause_count w r
  unfolding choices
  select-choices e h = rw e (at_least_one (clause_count w r) h)
    where
      at_least_one : (n : ℕ) → 0 < n → elim n [ zero ↦ 1 | suc m ↦ suc m ] ≡ n
      at_least_one zero l = absurd (omega arith)
      at_least_one (suc m) l = refl

  pub select-without-clauses : class w r ≡ select → clause_count w r ≡ 0 → OneWay (some stopped)
  unfolding choices
  select-without-clauses e z =
      (rw (e, z, choices_as), λ c. rw (le-ltb c (clause_count w r) (rw z (omega arith)), clause) at (select-step e c))

  -- "any Case" and "any Comm": in a body each clause is taken by some choice, and the clauses are all that is taken
  abbrev pub TakesAny : Type 0
  TakesAny = ((s : ℕ) → Child w (suc r) s → (c : ℕ) × (c < choices w p b (at r)) × (step w p b (at r) c ≡ some (at s)))
      × ((c : ℕ) → c < clause_count w r → Child w (suc r) (item_at w (suc (suc r)) c))

  takes-any : Sized w → r < row_count w → OneChild w r → clause_count w r ≤ choices w p b (at r)
      → ((c : ℕ) → c < clause_count w r → step w p b (at r) c ≡ some (at (item_at w (suc (suc r)) c))) → TakesAny
  unfolding clause_count
  takes-any sized row (l, e) many takes = (
    λ s i.
        let j : Item w (end w r) (suc (suc r)) s = rw e at i in
        let (c, h, f) = number-of-item w sized (size w r) (omega arith) (sized.within r row) j in
        (c, omega arith, takes c h ∙ rw f),
    λ c h. rw e (item-of-number w (size w r) (end w r) (suc (suc r)) c h),
  )

  pub switch-takes-any : Body w p b → r < row_count w → is_switch (class w r) ≡ true → TakesAny
  switch-takes-any facts row t =
      let one = facts.one_block r row (at-one-of (λ c. holding c ≡ body) (switch ∷ type_switch ∷ []) (refl, (refl, tt)) (class w r) t) in
      takes-any facts.sized row one
      (case-of (has_default w r) (λ d. omega (arith, switch-with-default t d)) (λ d. omega (arith, (switch-without-default t d).0)))
      (switch-takes t)

  pub select-takes-any : Body w p b → r < row_count w → class w r ≡ select → TakesAny
  select-takes-any facts row e =
      let one = facts.one_block r row (rw e) in
      takes-any facts.sized row one (elim (dec_lt 0 (clause_count w r)) [ yes y ↦ omega (arith, select-choices e y) | no z ↦ omega arith ]) (select-takes e)

-- ---- going on

not-both : (a c : Bool) → c ≡ false → a && c ≡ false
not-both true c e = e
not-both false c e = refl

list-next : (c : Class) → is_list c ≡ true → onward c ≡ next
list-next = at-one-of (λ c. onward c ≡ next) (block ∷ case ∷ default_case ∷ comm ∷ default_comm ∷ []) (refl, (refl, (refl, (refl, (refl, tt)))))

module _ (w : List ℕ) where
  -- climbing passes the rows that are not around s
  pub climb-past : (n k s : ℕ) → k < n → ((j : ℕ) → k < j → j < n → around w s j ≡ false) → climb w n s ≡ climb w (suc k) s
  unfolding climb
  climb-past zero k s h out = absurd (omega arith)
  climb-past (suc n) k s h out = elim (ℕ_discrete k n) [
    | yes e ↦ rw e
    | no z ↦ rw (out n (omega arith) (omega arith), climb) (climb-past n k s (omega arith) (λ j a l. out j a (omega arith)))
  ]

  -- and where none is around s it comes to the closing brace
  pub climb-out : (n s : ℕ) → ((j : ℕ) → j < n → around w s j ≡ false) → climb w n s ≡ brace
  unfolding climb
  climb-out zero s out = refl
  climb-out (suc n) s out = rw (out n (omega arith), climb) (climb-out n s (λ j l. out j (omega arith)))

  -- the row s and its parent k
  module _ (s k : ℕ) (e : parent w s ≡ some k) where
    around-parent : around w s k ≡ true
    unfolding parent
    around-parent = (highest-found (λ q. ltb s (end w q)) s k e).1

    to-parent : after w s ≡ climb w (suc k) s
    unfolding after parent
    to-parent = climb-past s k s (highest-found (λ q. ltb s (end w q)) s k e).0
        (λ j a l. highest-last (λ q. ltb s (end w q)) s k j e a l)

    -- "Going on: the next item;"
    pub next-item : is_list (class w k) ≡ true → end w s < end w k → after w s ≡ at (end w s)
    unfolding climb
    next-item t h = to-parent ∙ rw (around-parent, list-next (class w k) t, lt-ltb (end w s) (end w k) h, climb)

    -- "past a list's end, after its Block,"
    pub past-list : is_list (class w k) ≡ true → end w k ≤ end w s → after w s ≡ after w k
    unfolding climb after
    past-list t h = to-parent ∙ rw (around-parent, list-next (class w k) t, le-ltb (end w s) (end w k) h, climb)

    -- "past a For or Range body, that row again;"
    pub past-loop-body : is_loop (class w k) ≡ true → after w s ≡ at k
    unfolding climb
    past-loop-body t = to-parent ∙ rw (around-parent, t, climb, onward)

    -- past a row below any other class
    past_up : (ds : List Class) → AtEach (λ c. onward c ≡ up) ds → one_of ds (class w k) ≡ true → after w s ≡ after w k
    unfolding climb after
    past_up ds h t = to-parent ∙ rw (around-parent, at-one-of (λ c. onward c ≡ up) ds h (class w k) t, climb)

    -- "past If or Labeled, after it;"
    pub past-if-or-labeled : one_of (if ∷ if_else ∷ labeled ∷ []) (class w k) ≡ true → after w s ≡ after w k
    past-if-or-labeled = past_up (if ∷ if_else ∷ labeled ∷ []) (refl, (refl, (refl, tt)))

  -- "or after the switch or Select for a clause;": the clause s, the Block k and the switch or Select r
  pub past-clause : (s k r : ℕ) → parent w s ≡ some k → parent w k ≡ some r → one_of (case_block ∷ comm_block ∷ []) (class w k) ≡ true
      → one_of (switch ∷ type_switch ∷ select ∷ []) (class w r) ≡ true → after w s ≡ after w r
  unfolding parent
  past-clause s k r e f t u =
      past_up s k e (case_block ∷ comm_block ∷ []) (refl, (refl, tt)) t
      ∙ past_up k r f (switch ∷ type_switch ∷ select ∷ []) (refl, (refl, (refl, tt))) u

  -- "past row 0, the closing brace."
  pub past-root : after w 0 ≡ brace
  unfolding after
  past-root = climb-out 0 0 (λ j l. absurd (omega arith))

-- ---- the branches
module _ (w p b : List ℕ) (r : ℕ) where
  -- "Break goes on after the statement it refers to,"
  pub break-goes : (s : ℕ) → class w r ≡ break → break_to w p b r ≡ some s → OneWay w p b r (some (after w s))
  unfolding choices step
  break-goes s e f = rw e (refl, λ c. rw f)

  -- "continue to the For or Range its label is directly on or, unlabelled, to the innermost around it,"
  pub continue-goes : (s : ℕ) → class w r ≡ continue → continue_to w p b r ≡ some s → OneWay w p b r (some (at s))
  unfolding choices step
  continue-goes s e f = rw e (refl, λ c. rw f)

  -- "goto to its labelled row,"
  pub goto-goes : (s : ℕ) → class w r ≡ goto → goto_to w p b r ≡ some s → OneWay w p b r (some (at s))
  unfolding choices step
  goto-goes s e f = rw e (refl, λ c. rw f)

  -- "fallthrough into the next Case."
  pub fallthrough-goes : (s : ℕ) → class w r ≡ fallthrough → next_case w r ≡ some s → OneWay w p b r (some (at s))
  unfolding choices step
  fallthrough-goes s e f = rw e (refl, λ c. rw f)

  -- these places: of a break a statement that it refers to, and none only where it refers to none
  pub break-refers : (s : ℕ) → break_to w p b r ≡ some s → refers_to w p b r s ≡ true
  unfolding break_to
  break-refers s e = (highest-found (refers_to w p b r) r s e).1

  pub break-refers-to-none : break_to w p b r ≡ none → (s : ℕ) → s < r → refers_to w p b r s ≡ false
  unfolding break_to
  break-refers-to-none e s l = highest-none (refers_to w p b r) r s e l

  -- of a continue the innermost loop around it or, with a label, a loop that the label is directly on
  pub continue-unlabelled : name w r ≡ 0 → continue_to w p b r ≡ innermost w is_loop r
  unfolding continue_to
  continue-unlabelled z = rw (eq-eqb (name w r) 0 z, continue_to)

  pub continue-labelled : (s : ℕ) → 0 < name w r → continue_to w p b r ≡ some s
      → (around w r s ≡ true) × (is_loop (class w s) ≡ true) × (label_on w p b r s ≡ true)
  unfolding continue_to
  continue-labelled s l e =
      let f = rw (ne_eqb (name w r) 0 (λ z. omega arith), continue_to) at e in
      let x = and-true (around w r s) (is_loop (class w s) && label_on w p b r s)
      (highest-found (λ q. around w r q && (is_loop (class w q) && label_on w p b r q)) r s f).1 in
      let y = and-true (is_loop (class w s)) (label_on w p b r s) x.1 in
      (x.0, y.0, y.1)

  -- of a goto a row labelled with its name, in a list around it
  pub goto-labelled : (s : ℕ) → goto_to w p b r ≡ some s → (labels w p b r s ≡ true) × (in_list_of w s r ≡ true)
  unfolding goto_to
  goto-labelled s e = let x = goto-label w p b r s e in (x.1, x.2)

  -- and so the row that its binding word names; where the word is 0 the runner is stuck
  pub goto-binding : class w r ≡ goto → OneWay w p b r (elim (binding w p b r) [ zero ↦ none | suc s ↦ some (at s) ])
  unfolding choices step goto_to
  goto-binding e =
      let n = other-label w p b r (λ x. clash (cc)) in
      let z = binding-goto w p b r n e in
      case-found (goto_label w p b r)
      (λ s f. let i : binding w p b r ≡ suc s = z ∙ ap word f in rw (e, i) (refl, λ c. rw f))
      (λ f. let i : binding w p b r ≡ 0 = z ∙ ap word f in rw (e, i) (refl, λ c. rw f))

  -- of a fallthrough the Case that begins where its own Case c ends, inside the Block k of the switch
  pub fallthrough-case : (c k : ℕ) → list_of w r ≡ some c → is_case (class w c) ≡ true → innermost w (one_of (case_block ∷ [])) c ≡ some k
      → end w c < end w k → next_case w r ≡ some (end w c)
  unfolding next_case
  fallthrough-case c k e t f h = rw (e, t, f, lt-ltb (end w c) (end w k) h, next_case)

  -- "Without such a place the runner is stuck."
  pub break-stuck : class w r ≡ break → break_to w p b r ≡ none → OneWay w p b r none
  unfolding choices step
  break-stuck e f = rw e (refl, λ c. rw f)

  pub continue-stuck : class w r ≡ continue → continue_to w p b r ≡ none → OneWay w p b r none
  unfolding choices step
  continue-stuck e f = rw e (refl, λ c. rw f)

  pub goto-stuck : class w r ≡ goto → goto_to w p b r ≡ none → OneWay w p b r none
  unfolding choices step
  goto-stuck e f = rw e (refl, λ c. rw f)

  pub fallthrough-stuck : class w r ≡ fallthrough → next_case w r ≡ none → OneWay w p b r none
  unfolding choices step
  fallthrough-stuck e f = rw e (refl, λ c. rw f)

-- "Stopped is the one lawful stop.", and nothing follows the closing brace
module _ (w p b : List ℕ) where
  pub no-step-stopped : (choices w p b stopped ≡ 0) × ((c : ℕ) → step w p b stopped c ≡ none)
  unfolding choices step
  no-step-stopped = (refl, λ c. refl)

  pub no-step-brace : (choices w p b brace ≡ 0) × ((c : ℕ) → step w p b brace c ≡ none)
  unfolding choices step
  no-step-brace = (refl, λ c. refl)

  -- "A route is a list of states from row 0 on, each a step from the one before by any choice open there."
  pub route-starts : (s : State) (l : List State) → Route w p b (s ∷ l) → (s ≡ at 0) × Walk w p b s l
  route-starts s l r = r

  pub walk_steps : {s t : State} {l : List State} → Walk w p b s (t ∷ l)
      → (c : ℕ) × (c < choices w p b s) × (step w p b s c ≡ some t) × Walk w p b t l
  walk_steps (go c h e k) = (c, h, e, k)
