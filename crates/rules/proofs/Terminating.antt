-- The verdict's rules, one law for each rule of a row, of a list and of the clauses, and what a break refers to. Nobody else opens these definitions.
-- Assumes nothing.
use mathlib.Core.Path.{◌≡◌, refl, ◌∙◌, ap}
use mathlib.Core.Bool.{Bool, true, false, ◌&&◌, ◌||◌, not}
use mathlib.Core.List.{List, [], ◌∷◌}
use mathlib.Core.Option.{some}
use Prim.Native.Nat.{ℕ, zero, suc, ◌+◌, ◌≤◌, ◌<◌}
use native.Mathlib.Omega.{arith}
use lib.Dec.{ltb, eqb}
use borrow.Author.Tests.{ltb-true, eqb-true, lt-ltb, le-ltb, eq-eqb, ne_eqb}
use Rattle.rules.specs.Scan.{lowest}
use Rattle.rules.specs.Rows.{name, size, end}
use Rattle.rules.specs.Class.{plain, declaration, empty, labeled, stop, break, continue, goto, fallthrough, block, case_block, comm_block, if}
use Rattle.rules.specs.Class.{if_else, case, default_case, comm, default_comm, switch, type_switch, select, for, for_cond, is_switch, is_breakable}
use Rattle.rules.specs.Class.{is_default, class}
use Rattle.rules.specs.Scope.{is_list, around, innermost, only_empty}
use Rattle.rules.specs.Labels.{is, is_class, same_names}
use Rattle.rules.specs.Verdict.{any_default, has_default, label_on, refers_to, has_own_break, terminating, terminating_list, terminating_clauses, verdict}
use Rattle.rules.proofs.Every.{is_one}
use Rattle.rules.proofs.Test.{case-found, clash, and-true}
use Rattle.rules.proofs.Scan.{lowest-none, lowest-found}
use Rattle.rules.proofs.ClassRules.{is_clause_block, is_never, is_always, by_one}
use Rattle.rules.proofs.Around.{around-true, true-around, Innermost, innermost-found}

-- ---- defaults
module _ (w : List ℕ) where
  pub any-default-zero : (e c : ℕ) → any_default w 0 e c ≡ false
  unfolding any_default
  any-default-zero e c = refl

  pub any-default-more : (f e c : ℕ) → c < e → any_default w (suc f) e c ≡ (is_default (class w c) || any_default w f e (end w c))
  unfolding any_default
  any-default-more f e c l = rw (lt-ltb c e l, any_default)

  pub any-default-none : (f e c : ℕ) → e ≤ c → any_default w f e c ≡ false
  unfolding any_default
  any-default-none zero e c l = refl
  any-default-none (suc f) e c l = rw (le-ltb c e l, any_default)

  pub has-default : (r : ℕ) → has_default w r ≡ any_default w (size w r) (end w r) (suc (suc r))
  unfolding has_default
  has-default r = refl

module _ (w p b : List ℕ) where
  -- ---- what a break refers to
  pub label-on : (g t : ℕ) → class w t ≡ labeled → same_names w p b t g ≡ true → label_on w p b g (suc t) ≡ true
  unfolding label_on
  label-on g t e s = rw (e, s)

  -- it is the label of the row before
  pub on-label : (g s : ℕ) → label_on w p b g s ≡ true → (t : ℕ) × (s ≡ suc t) × (class w t ≡ labeled) × (same_names w p b t g ≡ true)
  unfolding label_on
  on-label g zero t = absurd (clash (cc))
  on-label g (suc q) t =
      let y = and-true (is_class w labeled q) (same_names w p b q g) t in
      (q, refl, is_one (class w q) labeled y.0, y.1)

  -- of the statements around it that a break may leave, the break refers to s
  abbrev chosen : ℕ → ℕ → Bool
  chosen g s = elim (eqb (name w g) 0) [ true ↦ is (innermost w is_breakable g) s | false ↦ label_on w p b g s ]

  pub refers-inside : (g s : ℕ) → refers_to w p b g s ≡ true → Innermost w is_breakable g s
  unfolding refers_to
  refers-inside g s t =
      let x = and-true (is_breakable (class w s) && (ltb s g && around w g s)) (chosen g s) t in
      let y = and-true (is_breakable (class w s)) (ltb s g && around w g s) x.0 in
      let z = and-true (ltb s g) (around w g s) y.1 in
      record { before = ltb-true s g z.0; reaches = around-true w g s z.1; passes = y.0 }

  refers : (g s : ℕ) → Innermost w is_breakable g s → chosen g s ≡ true → refers_to w p b g s ≡ true
  unfolding refers_to
  refers g s i e = rw (i.passes, lt-ltb s g i.before, true-around w g s i.reaches) e

  -- without a label, to the innermost
  pub refers-innermost : (g s : ℕ) → name w g ≡ 0 → innermost w is_breakable g ≡ some s → refers_to w p b g s ≡ true
  refers-innermost g s n e = refers g s (innermost-found w is_breakable g s e) (rw (eq-eqb (name w g) 0 n, chosen, e) (eq-eqb s s refl))

  -- with one, to the statement around it on which the label is
  pub refers-labelled : (g s : ℕ) → 0 < name w g → Innermost w is_breakable g s → label_on w p b g s ≡ true → refers_to w p b g s ≡ true
  refers-labelled g s n i e = refers g s i (rw (ne_eqb (name w g) 0 (λ z. omega arith), chosen) e)

  -- and what it says of the two
  refers-chosen : (g s : ℕ) → refers_to w p b g s ≡ true → chosen g s ≡ true
  unfolding refers_to
  refers-chosen g s t = (and-true (is_breakable (class w s) && (ltb s g && around w g s)) (chosen g s) t).1

  pub innermost-refers : (g s : ℕ) → refers_to w p b g s ≡ true → name w g ≡ 0 → innermost w is_breakable g ≡ some s
  innermost-refers g s t n =
      let u : is (innermost w is_breakable g) s ≡ true = rw (eq-eqb (name w g) 0 n, chosen) at (refers-chosen g s t) in
      case-found (innermost w is_breakable g)
      (λ k f. let z : eqb k s ≡ true = rw (f, is) at u in f ∙ ap some (eqb-true k s z))
      (λ f. let z : false ≡ true = rw (f, is) at u in absurd (clash (cc)))

  pub label-refers : (g s : ℕ) → refers_to w p b g s ≡ true → 0 < name w g → label_on w p b g s ≡ true
  label-refers g s t n = rw (ne_eqb (name w g) 0 (λ z. omega arith), chosen) at (refers-chosen g s t)

  pub no-break : (s g : ℕ) → has_own_break w p b s ≡ false → g < end w s → class w g ≡ break → refers_to w p b g s ≡ true → ⊥
  unfolding has_own_break
  no-break s g n l e t = case-found (lowest (λ g. is_class w break g && refers_to w p b g s) (end w s))
      (λ k f. let z : true ≡ false = rw (f, has_own_break) at n in clash (cc))
      (λ f.
      let z = lowest-none (λ g. is_class w break g && refers_to w p b g s) (end w s) g f l in
      let u : (is_class w break g && refers_to w p b g s) ≡ true = rw (e, t) in
      clash (cc))

  pub some-break : (s : ℕ) → has_own_break w p b s ≡ true → (g : ℕ) × (g < end w s) × (class w g ≡ break) × (refers_to w p b g s ≡ true)
  unfolding has_own_break
  some-break s t = case-found (lowest (λ g. is_class w break g && refers_to w p b g s) (end w s))
      (λ k f.
      let (l, u) = lowest-found (λ g. is_class w break g && refers_to w p b g s) (end w s) k f in
      let x = and-true (is_class w break k) (refers_to w p b k s) u in
      (k, l, is_one (class w k) break x.0, x.1))
      (λ f. let z : false ≡ true = rw (f, has_own_break) at t in absurd (clash (cc)))

  -- ---- the rules of a row; without steps left the answer is no
  pub terminating-zero : (r : ℕ) → terminating w p b 0 r ≡ false
  unfolding terminating
  terminating-zero r = refl

  pub terminating-never : (f r : ℕ) → is_never (class w r) ≡ true → terminating w p b f r ≡ false
  unfolding terminating
  terminating-never zero r t = refl
  terminating-never (suc f) r t = by_one _ (plain ∷ declaration ∷ empty ∷ break ∷ continue ∷ if ∷ for_cond ∷ []) (class w r) t
      (λ e. rw (e, terminating)) (λ e. rw (e, terminating)) (λ e. rw (e, terminating)) (λ e. rw (e, terminating))
      (λ e. rw (e, terminating)) (λ e. rw (e, terminating)) (λ e. rw (e, terminating))

  pub terminating-always : (f r : ℕ) → is_always (class w r) ≡ true → terminating w p b (suc f) r ≡ true
  unfolding terminating
  terminating-always f r t =
      by_one _ (stop ∷ goto ∷ fallthrough ∷ []) (class w r) t (λ e. rw (e, terminating)) (λ e. rw (e, terminating)) (λ e. rw (e, terminating))

  pub terminating-labeled : (f r : ℕ) → class w r ≡ labeled → terminating w p b (suc f) r ≡ terminating w p b f (suc r)
  unfolding terminating
  terminating-labeled f r e = rw (e, terminating)

  pub terminating-statements : (f r : ℕ) → is_list (class w r) ≡ true → terminating w p b (suc f) r ≡ terminating_list w p b f (end w r) (suc r)
  unfolding terminating
  terminating-statements f r t = by_one _ (block ∷ case ∷ default_case ∷ comm ∷ default_comm ∷ []) (class w r) t
      (λ e. rw (e, terminating)) (λ e. rw (e, terminating)) (λ e. rw (e, terminating)) (λ e. rw (e, terminating)) (λ e. rw (e, terminating))

  pub terminating-clauses : (f r : ℕ) → is_clause_block (class w r) ≡ true → terminating w p b (suc f) r ≡ terminating_clauses w p b f (end w r) (suc r)
  unfolding terminating
  terminating-clauses f r t = by_one _ (case_block ∷ comm_block ∷ []) (class w r) t (λ e. rw (e, terminating)) (λ e. rw (e, terminating))

  pub terminating-if_else : (f r : ℕ) → class w r ≡ if_else
      → terminating w p b (suc f) r ≡ (terminating w p b f (suc r) && terminating w p b f (end w (suc r)))
  unfolding terminating
  terminating-if_else f r e = rw (e, terminating)

  pub terminating-switch : (f r : ℕ) → is_switch (class w r) ≡ true
      → terminating w p b (suc f) r ≡ ((has_default w r && not (has_own_break w p b r)) && terminating w p b f (suc r))
  unfolding terminating
  terminating-switch f r t = by_one _ (switch ∷ type_switch ∷ []) (class w r) t (λ e. rw (e, terminating)) (λ e. rw (e, terminating))

  pub terminating-select : (f r : ℕ) → class w r ≡ select → terminating w p b (suc f) r ≡ (not (has_own_break w p b r) && terminating w p b f (suc r))
  unfolding terminating
  terminating-select f r e = rw (e, terminating)

  pub terminating-for : (f r : ℕ) → class w r ≡ for → terminating w p b (suc f) r ≡ not (has_own_break w p b r)
  unfolding terminating
  terminating-for f r e = rw (e, terminating)

  -- ---- of a list
  pub list-zero : (e c : ℕ) → terminating_list w p b 0 e c ≡ false
  unfolding terminating
  list-zero e c = refl

  pub list-none : (f e c : ℕ) → e ≤ c → terminating_list w p b f e c ≡ false
  unfolding terminating
  list-none zero e c l = refl
  list-none (suc f) e c l = rw (le-ltb c e l, terminating_list)

  -- only Empty follows the item c
  pub list-last : (f e c : ℕ) → c < e → only_empty w (end w c) e ≡ true → terminating_list w p b (suc f) e c ≡ terminating w p b f c
  unfolding terminating
  list-last f e c l t = rw (lt-ltb c e l, terminating_list, t)

  pub list-more : (f e c : ℕ) → c < e → only_empty w (end w c) e ≡ false → terminating_list w p b (suc f) e c ≡ terminating_list w p b f e (end w c)
  unfolding terminating
  list-more f e c l t = rw (lt-ltb c e l, terminating_list, t)

  -- ---- of the clauses
  pub clauses-zero : (e c : ℕ) → terminating_clauses w p b 0 e c ≡ false
  unfolding terminating
  clauses-zero e c = refl

  pub clauses-none : (f e c : ℕ) → e ≤ c → terminating_clauses w p b (suc f) e c ≡ true
  unfolding terminating
  clauses-none f e c l = rw (le-ltb c e l, terminating_clauses)

  pub clauses-more : (f e c : ℕ) → c < e
      → terminating_clauses w p b (suc f) e c ≡ (terminating w p b f c && terminating_clauses w p b f e (end w c))
  unfolding terminating
  clauses-more f e c l = rw (lt-ltb c e l, terminating_clauses)

  -- ---- the verdict
  pub verdict-is : verdict w p b ≡ terminating w p b (suc (size w 0 + size w 0)) 0
  unfolding verdict
  verdict-is = refl
