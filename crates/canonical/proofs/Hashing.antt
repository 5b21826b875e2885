-- The hash of a list of bytes, from the last to the first, is a fold over the list reversed.
-- Assumes nothing.
use Rattle.std.proofs.Common.{◌≡◌, ℕ, ◌+◌, ◌*◌, ◌%◌, List, [], ◌∷◌, reverse, refl, ap, ◌∙◌, arith}
use Rattle.std.specs.List.{fold}
use Rattle.std.proofs.lemmas.List.{reverse-append}
use Rattle.std.proofs.lemmas.List.Sums.{fold_push}
use Rattle.canonical.specs.Hash.{hash}

-- one turn, whose product and sum wrap
abbrev pub turn : ℕ → ℕ → ℕ
turn h x = (h * 37 % 4294967296 + x) % 4294967296

pub hash-fold : (s : List ℕ) → fold turn 0 (reverse s) ≡ hash s
unfolding hash
hash-fold [] = refl
hash-fold (x ∷ s) =
    let e = ap (fold turn 0) (reverse-append (x ∷ []) s) ∙ fold_push turn 0 (reverse s) x in
    rw (e, hash-fold s) (omega arith)
