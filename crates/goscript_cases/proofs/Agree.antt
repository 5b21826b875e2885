-- The definitions of crate `goscript` answer as goscript's own files did, body by body, in both builds: computed over the whole list, and then said
-- of each body of it.
-- Assumes nothing.
use mathlib.Core.Path.{◌≡◌, refl, sym, ap, ◌∙◌}
use mathlib.Core.Bool.{Bool, true, false, ◌&&◌}
use mathlib.Core.List.{List, [], ◌∷◌, ◌++◌}
use Prim.Native.Nat.{ℕ}
use lib.ListN.{length}
use Rattle.rules.specs.Names.{same_bytes}
use Rattle.rules.specs.Calls.{fault_words}
use Rattle.rules.proofs.Order.{same-equal}
use Rattle.rules.proofs.Test.{and-true, clash}
use Rattle.goscript.specs.Build.{Build, stock, mended_build}
use Rattle.goscript.specs.Label.{sheet, bindings}
use Rattle.goscript.specs.Returns.{verdict}
use Rattle.goscript.proofs.Computed.{computed}
use Rattle.goscript_cases.specs.Case.{Answer, Case, same_verdict, answers, all_answer}
use Rattle.goscript_cases.specs.Answers.{cases}

pub agree : all_answer cases ≡ true
unfolding computed answers all_answer
agree = refl

pub how-many : length cases ≡ 780
how-many = refl

-- ---- each body of the list

-- the build's sheet words, bindings and verdict on this body are the answer
abbrev Gives : Build → List ℕ → List ℕ → List ℕ → Answer → Type 0
Gives build w p b a = (fault_words (sheet build w p b) ≡ a.sheet) × (bindings build w p b ≡ a.bindings) × (verdict build w p b ≡ a.verdict)

same-verdict : (v u : Bool) → same_verdict v u ≡ true → v ≡ u
same-verdict true true e = refl
same-verdict true false e = absurd (clash (cc))
same-verdict false true e = absurd (clash (cc))
same-verdict false false e = refl

gives : (build : Build) (w p b : List ℕ) (a : Answer) → answers build w p b a ≡ true → Gives build w p b a
unfolding answers
gives build w p b a e =
    let words = same_bytes (fault_words (sheet build w p b)) a.sheet in
    let bound = same_bytes (bindings build w p b) a.bindings in
    let judged = same_verdict (verdict build w p b) a.verdict in
    let x = and-true words (bound && judged) e in
    let y = and-true bound judged x.1 in (
      same-equal (fault_words (sheet build w p b)) a.sheet x.0,
      same-equal (bindings build w p b) a.bindings y.0,
      same-verdict (verdict build w p b) a.verdict y.1,
    )

abbrev Agrees : Case → Type 0
Agrees c = Gives stock c.rows c.pairs c.bytes c.stock × Gives mended_build c.rows c.pairs c.bytes c.mended

agrees-in : (l k : List Case) (c : Case) → all_answer (l ++ c ∷ k) ≡ true → Agrees c
unfolding all_answer
agrees-in [] k c e =
    let asked : Build → Answer → Bool = λ build a. answers build c.rows c.pairs c.bytes a in
    let x = and-true (asked stock c.stock && asked mended_build c.mended) (all_answer k) e in
    let y = and-true (asked stock c.stock) (asked mended_build c.mended) x.0 in
    (gives stock c.rows c.pairs c.bytes c.stock y.0, gives mended_build c.rows c.pairs c.bytes c.mended y.1)
agrees-in (d ∷ l) k c e =
    let asked : Build → Answer → Bool = λ build a. answers build d.rows d.pairs d.bytes a in
    agrees-in l k c (and-true (asked stock d.stock && asked mended_build d.mended) (all_answer (l ++ c ∷ k)) e).1

pub agrees : (l k : List Case) (c : Case) → cases ≡ l ++ c ∷ k → Agrees c
agrees l k c e = agrees-in l k c (sym (ap all_answer e) ∙ agree)
