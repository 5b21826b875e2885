-- What the second half of the handbook's law says of the runner: it never comes to the closing brace, always has a next state at a row, and ends stopped
-- if it ends. A state of a route is safe, wherever on the route it stands; and a route that ends where a choice is open goes on by it.
-- Assumes nothing.
use mathlib.Core.Path.{◌≡◌, refl}
use mathlib.Core.Logic.{inl, inr}
use mathlib.Core.List.{List, [], ◌∷◌, ◌++◌}
use mathlib.Core.Option.{some}
use Prim.Native.Nat.{ℕ, ◌<◌}
use Rattle.rules.specs.Runner.{State, at, brace, choices, step, Walk, done, go, Route}
use Rattle.rules.specs.Law.{Safe, All, Good, NeverBrace, NeverStuck, StopsLawfully}
use Rattle.rules.proofs.Test.{clash}
use Rattle.rules.proofs.RouteLaw.{route-law}

all-at : (P : State → Type 0) (l k : List State) (s : State) → All P (l ++ s ∷ k) → P s
all-at P [] k s h = h.0
all-at P (t ∷ l) k s h = all-at P l k s h.1

module _ (w p b : List ℕ) where
  safe_at : Good w p b → (l k : List State) (s : State) → Route w p b (l ++ s ∷ k) → Safe w p b s
  safe_at g l k s r = all-at (Safe w p b) l k s (route-law w p b g.well_formed g.no_fault g.yes g.placed (l ++ s ∷ k) r)

  pub never-brace : NeverBrace w p b
  never-brace g l k r = (safe_at g l k brace r).inside refl

  pub never_stuck : NeverStuck w p b
  never_stuck g l k r h = elim (safe_at g l k (at r) h).goes_on [ inl e ↦ absurd (clash (cc)) | inr m ↦ m ]

  -- ---- a route that ends at s goes on by a choice that is open there
  module _ (s t : State) (c : ℕ) (h : c < choices w p b s) (e : step w p b s c ≡ some t) where
    longer-walk : {q : State} (l : List State) → Walk w p b q (l ++ s ∷ []) → Walk w p b q (l ++ s ∷ t ∷ [])
    longer-walk [] (go d n f done) = go d n f (go c h e done)
    longer-walk (x ∷ l) (go d n f r) = go d n f (longer-walk l r)

    longer-route : (l : List State) → Route w p b (l ++ s ∷ []) → Route w p b (l ++ s ∷ t ∷ [])
    longer-route [] (i, r) = (i, go c h e done)
    longer-route (q ∷ l) (i, r) = (i, longer-walk l r)

  pub stops-lawfully : StopsLawfully w p b
  stops-lawfully g l s r ends = elim (safe_at g l [] s r).goes_on [
    | inl e ↦ e
    | inr m ↦ let (t, f) = m.1 0 m.0 in absurd (ends t (longer-route s t 0 m.0 f l r))
  ]
