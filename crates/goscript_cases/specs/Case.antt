-- A body with what goscript's stock and mended builds answered for it, and the test that the definitions of crate `goscript` answer so.
-- Assumes nothing.
use Rattle.std.specs.Prelude.{Bool, true, false, ◌&&◌, List, [], ◌∷◌, ℕ}
use Rattle.rules.specs.Names.{same_bytes}
use Rattle.rules.specs.Calls.{fault_words}
use Rattle.goscript.specs.Build.{Build, stock, mended_build}
use Rattle.goscript.specs.Label.{sheet, bindings}
use Rattle.goscript.specs.Returns.{verdict}

-- sheet words, binding words and the verdict
pub record Answer : Type 0 where
  pub sheet : List ℕ
  pub bindings : List ℕ
  pub verdict : Bool

pub record Case : Type 0 where
  pub rows : List ℕ
  pub pairs : List ℕ
  pub bytes : List ℕ
  pub stock : Answer
  pub mended : Answer

-- both builds gave the same answer
abbrev pub both : List ℕ → List ℕ → List ℕ → Answer → Case
both w p b a = record { rows = w; pairs = p; bytes = b; stock = a; mended = a }

-- each gave its own
abbrev pub each : List ℕ → List ℕ → List ℕ → Answer → Answer → Case
each w p b s m = record { rows = w; pairs = p; bytes = b; stock = s; mended = m }

abbrev pub same_verdict : Bool → Bool → Bool
same_verdict v u = elim v [ true ↦ u | false ↦ elim u [ true ↦ false | false ↦ true ] ]

-- the definition answers as that build did
unfoldable pub answers : Build → List ℕ → List ℕ → List ℕ → Answer → Bool
answers build w p b a = same_bytes (fault_words (sheet build w p b)) a.sheet
    && (same_bytes (bindings build w p b) a.bindings && same_verdict (verdict build w p b) a.verdict)

unfoldable pub all_answer : List Case → Bool
all_answer [] = true
all_answer (c ∷ cs) =
    (answers stock c.rows c.pairs c.bytes c.stock && answers mended_build c.rows c.pairs c.bytes c.mended) && all_answer cs
