-- A row counts by its kind, as the table has it: one test at each allowed kind and detail.
-- Assumes nothing.
use mathlib.Core.Path.{◌≡◌, refl}
use mathlib.Core.Bool.{Bool, true, false}
use mathlib.Core.List.{List, [], ◌∷◌}
use Prim.Native.Nat.{ℕ}
use lib.ListN.{get_or}
use Rattle.rules.specs.Scan.{lowest}
use Rattle.rules.specs.Class.{detail_allowed, class_of}
use Rattle.rules.proofs.Every.{every, same, same-eq}
use Rattle.rules.proofs.Details.{of-allowed, allowed-small}
use Rattle.rules.proofs.Lists.{by-words}
use Rattle.placing.specs.Counted.{counted}
use Rattle.placing.proofs.Counting.{own-counted}
use Rattle.placing.proofs.counts.counts.Goals as goal

-- COUNTED
abbrev table : List Bool
table =
    false ∷ false ∷ false ∷ false ∷ false ∷ false ∷ false ∷ false ∷ false ∷ false ∷ false ∷ true ∷ false ∷ false ∷ false ∷ true ∷ true ∷ false ∷ true ∷ true
    ∷ true ∷ []

entry : (k d : ℕ) → detail_allowed k d ≡ true → get_or table k false ≡ counted (class_of k d)
unfolding every lowest detail_allowed class_of
entry k d a =
    same-eq (get_or table k false) (counted (class_of k d)) (of-allowed (λ j i. same (get_or table j false) (counted (class_of j i))) refl k d a)

pub bounds-kind : goal.bounds-kind
bounds-kind c = rw c.kind-kind.ensures (allowed-small _ _ (c.requires.1 _ c.requires.0)).0

pub returns : goal.returns
returns c =
    by-words counted _ _ _ _ (own-counted _ _) c.kind-kind.ensures (c.requires.1 _ c.requires.0) (λ d a. entry _ d a)
