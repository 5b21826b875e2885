-- What `resolve`, run through the jumps below n, leaves in the checker: each jump of the label's name is a use of the label and is reported where it jumps over
-- a declaration, in the order of the jumps. By steps from n to one more.
-- Assumes nothing.
use mathlib.Core.Path.{◌≡◌, refl, sym, ◌∙◌, ap}
use mathlib.Core.Bool.{Bool, true, false, ◌&&◌}
use mathlib.Core.Logic.{◌⊎◌, inl, inr}
use mathlib.Core.List.{List, [], ◌++◌, append-nil, append_assoc}
use Prim.Native.Nat.{ℕ, suc, ◌<◌}
use native.Mathlib.Omega.{arith}
use native.Mathlib.Decide.{ℕ_discrete}
use Rattle.rules.specs.Rows.{position, name}
use Rattle.rules.specs.Names.{same_bytes}
use Rattle.rules.specs.Labels.{Fault, each, only}
use Rattle.rules.proofs.Test.{case-of, clash}
use Rattle.rules.proofs.Each.{each-zero, each-suc}
use Rattle.goscript.specs.Syntax.{through, contains, ident}
use Rattle.goscript.specs.Context.{Context, jumps_over_var_decl}
use Rattle.goscript.specs.Checker.{Checker, error, label_set_used, record_use, used_by}
use Rattle.goscript.specs.Label.{resolve, var_decl}
use Rattle.goscript.proofs.Passing.{passing, through-passing}
use Rattle.goscript.proofs.UseRows.{used-own, used-other, contains-own, contains-kept, contains-cases}
use Rattle.goscript.proofs.CheckerRows.{error-none}

-- 3: the jump g jumps over the declaration at this position
abbrev pub over_fault : List ℕ → ℕ → ℕ → Fault
over_fault w g o = record { code = 3; position = position w g; name = name w g; other = o }

abbrev pub over_report : List ℕ → Context → ℕ → List Fault
over_report w ctx g = only (jumps_over_var_decl ctx g) (over_fault w g (var_decl ctx.var_decl_pos))

-- the row g has the name of the row s
abbrev pub same_as : List ℕ → List ℕ → List ℕ → ℕ → ℕ → Bool
same_as w p b s g = same_bytes (ident w p b g) (ident w p b s)

-- of the rows that pass a test, those that the label s resolves, and what is reported of each
module _ (w p b : List ℕ) (s : ℕ) (ctx : Context) (Q : ℕ → Bool) where
  abbrev resolves : ℕ → Bool
  resolves g = Q g && same_as w p b s g

  abbrev pub reports : ℕ → List Fault
  reports g = elim (resolves g) [ true ↦ over_report w ctx g | false ↦ [] ]

  pub reports-is : (g : ℕ) → resolves g ≡ true → reports g ≡ over_report w ctx g
  reports-is g t = rw (t, reports)

  pub reports-not : (g : ℕ) → resolves g ≡ false → reports g ≡ []
  reports-not g f = rw (f, reports)

module _ (w p b : List ℕ) (s : ℕ) (ctx : Context) where
  -- ---- one jump
  resolve-not : (g : ℕ) (c : Checker) → same_as w p b s g ≡ false → resolve w p b s ctx g c ≡ c
  unfolding resolve
  resolve-not g c f = rw (f, resolve)

  abbrev resolved_at : ℕ → Checker → Checker
  resolved_at g c = error (over_report w ctx g) (record_use g s (label_set_used s c))

  resolve-is : (g : ℕ) (c : Checker) → same_as w p b s g ≡ true → resolve w p b s ctx g c ≡ resolved_at g c
  unfolding resolve
  resolve-is g c t = case-of (jumps_over_var_decl ctx g)
      (λ u. rw (t, u, resolve))
      (λ u. rw (t, u, resolve) (sym (error-none (record_use g s (label_set_used s c)))))

  -- ---- those below n that pass a test
  module _ (Q : ℕ → Bool) (c : Checker) where
    abbrev taken : ℕ → Bool
    taken = resolves w p b s ctx Q

    abbrev reported : ℕ → List Fault
    reported = reports w p b s ctx Q

    -- the label d is one of those used before, or it is s and some row below n is resolved
    abbrev pub Used : ℕ → ℕ → Type 0
    Used n d = (contains d c.used ≡ true) ⊎ ((d ≡ s) × ((g : ℕ) × (g < n) × (taken g ≡ true)))

    used-more : (n d : ℕ) → Used n d → Used (suc n) d
    used-more n d (inl u) = inl u
    used-more n d (inr (i, (g, h, t))) = inr (i, (g, omega arith, t))

    pub record Resolved (n : ℕ) (e : Checker) : Type 0 where
      pub all_same : e.all ≡ c.all
      pub defs-same : e.defs ≡ c.defs
      pub errors-are : e.errors ≡ c.errors ++ each reported n
      pub taken-use : (g : ℕ) → g < n → taken g ≡ true → used_by e.uses g ≡ suc s
      pub other-use : (g : ℕ) → (g < n → taken g ≡ false) → used_by e.uses g ≡ used_by c.uses g
      pub label-used : (g : ℕ) → g < n → taken g ≡ true → contains s e.used ≡ true
      pub used-kept : (d : ℕ) → contains d c.used ≡ true → contains d e.used ≡ true
      pub used-cases : (d : ℕ) → contains d e.used ≡ true → Used n d

    start : Resolved 0 c
    start = record {
      all_same = refl;
      defs-same = refl;
      errors-are = sym (rw (each-zero reported) (append-nil c.errors));
      taken-use = λ g h t. absurd (omega arith);
      other-use = λ g h. refl;
      label-used = λ g h t. absurd (omega arith);
      used-kept = λ d t. t;
      used-cases = λ d t. inl t;
    }

    -- a row that is not resolved
    other_step : (n : ℕ) (e : Checker) → taken n ≡ false → Resolved n e → Resolved (suc n) e
    other_step n e f r = record {
      all_same = r.all_same;
      defs-same = r.defs-same;
      errors-are = r.errors-are
          ∙ ap (λ (l : List Fault). c.errors ++ l) (sym (each-suc reported n ∙ rw (reports-not w p b s ctx Q n f) (append-nil (each reported n))));
      taken-use = λ g h t. r.taken-use g (other-below g h t) t;
      other-use = λ g h. r.other-use g (λ l. h (omega arith));
      label-used = λ g h t. r.label-used g (other-below g h t) t;
      used-kept = r.used-kept;
      used-cases = λ d t. used-more n d (r.used-cases d t);
    }
      where
        other-below : (g : ℕ) → g < suc n → taken g ≡ true → g < n
        other-below g h t = elim (ℕ_discrete g n) [
          | yes i ↦ let z : taken n ≡ true = rw i at t in absurd (clash (cc))
          | no o ↦ omega arith
        ]

    -- one that is
    taken_step : (n : ℕ) (e : Checker) → taken n ≡ true → Resolved n e → Resolved (suc n) (resolved_at n e)
    taken_step n e t r = record {
      all_same = r.all_same;
      defs-same = r.defs-same;
      errors-are = ap (λ (l : List Fault). l ++ over_report w ctx n) r.errors-are ∙ append_assoc c.errors (each reported n) (over_report w ctx n)
          ∙ ap (λ (l : List Fault). c.errors ++ l) (sym (each-suc reported n ∙ rw (reports-is w p b s ctx Q n t)));
      taken-use = λ g h u. elim (ℕ_discrete n g) [
        | yes i ↦ used-own e.uses n s g i
        | no o ↦ used-other e.uses n s g o ∙ r.taken-use g (omega arith) u
      ];
      other-use = λ g h.
          let m : n ≡ g → ⊥ = λ i. let z : taken n ≡ false = rw i (h (omega arith)) in clash (cc) in
          used-other e.uses n s g m ∙ r.other-use g (λ l. h (omega arith));
      label-used = λ g h u. contains-own s s e.used refl;
      used-kept = λ d u. contains-kept d s e.used (r.used-kept d u);
      used-cases = λ d u. elim (contains-cases d s e.used u) [
        | inl i ↦ inr (i, (n, omega arith, t))
        | inr v ↦ used-more n d (r.used-cases d v)
      ];
    }

    pub resolved : (n : ℕ) → Resolved n (through (resolve w p b s ctx) (passing Q n) c)
    resolved n = through-passing (resolve w p b s ctx) Q Resolved c start n
        (λ k e h t r. case-of (same_as w p b s k)
        (λ u. rw (resolve-is k e u) (taken_step k e (rw (t, u)) r))
        (λ u. rw (resolve-not k e u) (other_step k e (rw (t, u)) r)))
        (λ k e h f r. other_step k e (rw f) r)
