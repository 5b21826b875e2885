-- The three ways in which the label call ends: a refusal of the body, buffers that are too short, the sheet and the bindings written. Where it answers with
-- a count it has ended the third way.
-- Assumes nothing.
use mathlib.Core.Path.{◌≡◌, refl, sym, ◌∙◌, ap}
use mathlib.Core.Bool.{Bool, true, false}
use mathlib.Core.List.{List}
use mathlib.Core.Option.{Option, none, some}
use Prim.Native.Nat.{ℕ, suc}
use native.Mathlib.Omega.{arith}
use lib.ListN.{length}
use Rattle.rules.specs.Refusals.{WellFormed, refusal}
use Rattle.rules.specs.Labels.{sheet, bindings}
use Rattle.rules.specs.Calls.{Answer, refused, answered, too_short, fault_words, written, LabelCall, label_call}
use Rattle.rules.proofs.Test.{clash}

-- what an answer is: 0 for a refusal, 1 + the count for a count
abbrev counted : Answer ℕ → ℕ
counted a = elim a [ refused n i ↦ 0 | answered n ↦ suc n ]

module _ (w p b s t : List ℕ) where
  -- both as they were lent
  abbrev Refused : ℕ → ℕ → Type 0
  Refused n i = label_call w p b s t ≡ record { answer = refused n i; sheet_words = s; binding_words = t }

  pub label-refused : (r : ℕ × ℕ) → refusal w p b ≡ some r → Refused r.0 r.1
  unfolding label_call
  label-refused r e = rw (label_call, e)

  pub label-short : WellFormed w p b → too_short w s t ≡ true → Refused 7 0
  unfolding label_call
  label-short f e = rw (label_call, f, e)

  abbrev Written : Type 0
  Written = label_call w p b s t
      ≡ record {
        answer = answered (length (sheet w p b));
        sheet_words = written (fault_words (sheet w p b)) s;
        binding_words = written (bindings w p b) t;
      }

  pub label-written : WellFormed w p b → too_short w s t ≡ false → Written
  unfolding label_call
  label-written f e = rw (label_call, f, e)

  -- a count is the sheet's row count, of a well-formed body
  pub record Counted (n : ℕ) : Type 0 where
    pub well_formed : WellFormed w p b
    pub count : n ≡ length (sheet w p b)
    pub left : Written

  pub label-counted : (n : ℕ) → (label_call w p b s t).answer ≡ answered n → Counted n
  label-counted n e = by-refusal (refusal w p b) refl
    where
      no-refusal : (k i : ℕ) → Refused k i → ⊥
      no-refusal k i q = clash (cc (ap (λ (c : LabelCall). counted c.answer) q, ap counted e))

      by-room : WellFormed w p b → (x : Bool) → too_short w s t ≡ x → Counted n
      by-room f true q = absurd (no-refusal 7 0 (label-short f q))
      by-room f false q =
          let x = label-written f q in
          record {
            well_formed = f;
            count = omega (arith, ap counted (sym e ∙ ap (λ (c : LabelCall). c.answer) x));
            left = x;
          }

      by-refusal : (o : Option (ℕ × ℕ)) → refusal w p b ≡ o → Counted n
      by-refusal (some r) q = absurd (no-refusal r.0 r.1 (label-refused r q))
      by-refusal none q = by-room q (too_short w s t) refl
