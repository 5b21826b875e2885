-- The loop over the clauses: the clauses before c are written, each by its number, and those from c on are left. A turn writes one.
-- Assumes nothing.
use mathlib.Core.Path.{◌≡◌, refl, sym, ◌∙◌, ap}
use mathlib.Core.Bool.{Bool, true, false, ◌||◌}
use mathlib.Core.List.{List}
use mathlib.Core.Logic.{◌⊎◌, ⊎_elim}
use Prim.Native.Nat.{ℕ, zero, suc, ◌+◌, ◌≤◌, ◌<◌}
use native.Mathlib.Omega.{arith}
use native.Mathlib.Numerals.{add-one}
use native.Mathlib.Decide.{ℕ_discrete}
use lib.ListN.{length, get_or, set}
use lib.Seq.{get_or-set_same, get_or-set_other}
use Rattle.rules.specs.Rows.{size, end}
use Rattle.rules.specs.Class.{is_default, class}
use Rattle.rules.specs.Verdict.{any_default, has_default}
use Rattle.rules.specs.Runner.{item_at, item_count, clause_count}
use Rattle.rules.proofs.Going.{item-at-first, item-count-more, item-count-none, clause-count}
use Rattle.rules.proofs.Terminating.{any-default-more, any-default-none, has-default}
use Rattle.classes.specs.Classes.{class_is}
use Rattle.classes.specs.declared.Class.{Class}
use Rattle.classes.specs.declared.Class.TheVariants.{DefaultCase, DefaultComm}
use Rattle.steps.specs.Written.{ClausesWritten}
use Rattle.steps.proofs.Choices.{item-at-next}

-- ---- a default by its class
pub default : (k : Class) → (k ≡ DefaultCase) ⊎ (k ≡ DefaultComm) → true ≡ is_default (class_is k)
default k = ⊎_elim (λ i. rw i) (λ i. rw i)

pub no-default : (k : Class) → (k ≡ DefaultCase → ⊥) × (k ≡ DefaultComm → ⊥) → false ≡ is_default (class_is k)
no-default DefaultCase n = absurd (n.0 refl)
no-default DefaultComm n = absurd (n.1 refl)
no-default k n = refl

-- d was found before
pub or-none : (d t : Bool) → t ≡ false → d ≡ (d || t)
or-none true t e = refl
or-none false t e = sym e

pub or_some : (d t : Bool) → t ≡ true → true ≡ (d || t)
or_some true t e = refl
or_some false t e = sym e

-- ---- what the loop keeps
pub record ClausesTo (w old new : List ℕ) (r first c end' : ℕ) (default : Bool) : Type 0 where
  pub fuel : ℕ
  pub done : ℕ
  pub at-clause : c ≡ item_at w (suc (suc r)) done
  pub count : clause_count w r ≡ done + item_count w fuel (end w r) c
  pub defaults : has_default w r ≡ (default || any_default w fuel (end w r) c)
  pub enough : end w r ≤ c + fuel
  pub ends : end' ≡ first + done
  pub clauses : (i : ℕ) → i < done → get_or new (first + i) 0 ≡ suc (suc (item_at w (suc (suc r)) i))
  pub kept : (j : ℕ) → j < first → get_or new j 0 ≡ get_or old j 0

pub clauses-start : (w old : List ℕ) (r first : ℕ) → ClausesTo w old old r first (r + 2) first false
clauses-start w old r first = rw (let z : r + 2 ≡ suc (suc r) = omega arith in z) (record {
  fuel = size w r;
  done = 0;
  at-clause = sym (item-at-first w (suc (suc r)));
  count = omega (arith, clause-count w r);
  defaults = has-default w r;
  enough = omega arith;
  ends = omega arith;
  clauses = λ i l. absurd (omega arith);
  kept = λ j l. refl;
})

module _ {w old new : List ℕ} {r first c end' : ℕ} {default : Bool} (x : ClausesTo w old new r first c end' default) where
  pub clauses-end : end w r ≤ c → ClausesWritten w old new r first end' default
  clauses-end h =
      let n : clause_count w r ≡ x.done = omega (arith, x.count, item-count-none w x.fuel (end w r) c h) in
      record {
        ends = omega (arith, x.ends);
        clauses = λ i l. x.clauses i (omega arith);
        kept = x.kept;
        defaults = or-none default (any_default w x.fuel (end w r) c) (any-default-none w x.fuel (end w r) c h) ∙ sym x.defaults;
      }

  module _ (h : c < end w r) where
    next-fuel : (f : ℕ) × (x.fuel ≡ suc f)
    next-fuel = by-fuel x.fuel refl
      where
        by-fuel : (f : ℕ) → x.fuel ≡ f → (g : ℕ) × (x.fuel ≡ suc g)
        by-fuel zero z = absurd (omega (arith, x.enough))
        by-fuel (suc g) z = (g, z)

    one_less : clause_count w r ≡ suc x.done + item_count w next-fuel.0 (end w r) (end w c)
    one_less =
        let z : item_count w x.fuel (end w r) c ≡ suc (item_count w next-fuel.0 (end w r) (end w c)) =
        ap (λ (f : ℕ). item_count w f (end w r) c) next-fuel.1 ∙ item-count-more w next-fuel.0 (end w r) c h in
        omega (arith, x.count)

    -- there is room for the step
    pub clause-room : first + clause_count w r ≤ length new → end' < length new
    clause-room l = omega (arith, x.ends, one_less)

    pub clauses-more : {n s : ℕ} (t : Bool) → end' < length new → 0 < size w c → n ≡ c + 2 → s ≡ size w c → t ≡ (default || is_default (class w c))
        → ClausesTo w old (set new end' n) r first (c + s) (end' + 1) t
    clauses-more {n} t l q y z d = rw (z, add-one end') (record {
      fuel = next-fuel.0;
      done = suc x.done;
      at-clause = ap (end w) x.at-clause ∙ sym (item-at-next w (suc (suc r)) x.done);
      count = one_less;
      defaults =
          x.defaults
          ∙ ap (λ (f : ℕ). default || any_default w f (end w r) c) next-fuel.1
          ∙ ap (λ (u : Bool). default || u) (any-default-more w next-fuel.0 (end w r) c h)
          ∙ or_assoc default (is_default (class w c)) (any_default w next-fuel.0 (end w r) (end w c))
          ∙ ap (λ (u : Bool). u || any_default w next-fuel.0 (end w r) (end w c)) (sym d);
      enough = omega (arith, x.enough, next-fuel.1);
      ends = omega (arith, x.ends);
      clauses = λ i g. elim (ℕ_discrete i x.done) [
        | yes o ↦
            let k : first + i ≡ end' = omega (arith, x.ends) in
            rw (k, o, ← x.at-clause) (get_or-set_same new end' n 0 l ∙ (let m : n ≡ suc (suc c) = omega arith in m))
        | no o ↦ get_or-set_other new end' (first + i) n 0 (λ k. omega (arith, x.ends)) ∙ x.clauses i (omega arith)
      ];
      kept = λ j g. get_or-set_other new end' j n 0 (λ k. omega (arith, x.ends)) ∙ x.kept j g;
    })
      where
        or_assoc : (a b c : Bool) → (a || (b || c)) ≡ ((a || b) || c)
        or_assoc true b c = refl
        or_assoc false b c = refl
