-- The words that are read one behind the other: none at first, and with each word that is written one more.
-- Assumes nothing.
use mathlib.Core.Path.{◌≡◌, refl}
use mathlib.Core.List.{List, [], ◌∷◌}
use Prim.Native.Nat.{ℕ, ◌+◌, ◌*◌, ◌<◌}
use native.Mathlib.Numerals.{add-one}
use lib.ListN.{length, take, set}
use lib.Seq.{take-suc-set}
use Rattle.rules.specs.Labels.{each}
use Rattle.rules.proofs.Each.{each-suc}
use Rattle.bodyfile.specs.File.{word, words}

pub no_words : (f : List ℕ) (i : ℕ) → [] ≡ words f i 0
unfolding words each
no_words f i = refl

pub one_word : (f out : List ℕ) (i k v : ℕ) → k < length out → take k out ≡ words f i k → v ≡ word f (i + k * 4) → take (k + 1) (set out k v) ≡ words f i (k + 1)
unfolding words
one_word f out i k v h e g = rw (add-one k, take-suc-set out k v h, e, g, each-suc (λ k. word f (i + k * 4) ∷ []) k)
