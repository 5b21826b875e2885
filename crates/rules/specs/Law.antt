-- The handbook's law (demand 3), as two statements about every well-formed body. proofs/SheetLaw.antt and proofs/RouteLaw.antt prove them.
-- Then what the second says of the runner, without `All` and `Safe`; proofs/RouteEnds.antt draws it from the law.
-- Assumes nothing.
use Rattle.std.specs.Prelude.{◌≡◌, true, false, ◌⊎◌, ◌≢◌, ◌↔◌, List, [], ◌∷◌, ◌++◌, ℕ, suc, ◌<◌}
use Rattle.std.proofs.Math.Option.{none, some}
use Rattle.rules.specs.Rows.{row_count, name}
use Rattle.rules.specs.Class.{labeled, break, continue, goto, declaration, is_branch, class}
use Rattle.rules.specs.Names.{is_blank}
use Rattle.rules.specs.Refusals.{WellFormed}
use Rattle.rules.specs.Scope.{list_of, in_list_of}
use Rattle.rules.specs.Labels.{same_names, target, needs, sheet}
use Rattle.rules.specs.Placing.{placing}
use Rattle.rules.specs.Verdict.{verdict}
use Rattle.rules.specs.Runner.{State, at, stopped, brace, choices, step, Route}

module _ (w p b : List ℕ) where
  -- ---- the first half

  -- a row is a label other than `_`
  pub record Label (r : ℕ) : Type 0 where
    pub row : r < row_count w
    pub labels : class w r ≡ labeled
    pub not_blank : is_blank p b (name w r) ≡ false

  -- declared once: no other Labeled row has its name
  abbrev pub DeclaredOnce : ℕ → Type 0
  DeclaredOnce r = (s : ℕ) → Label s → same_names w p b s r ≡ true → s ≡ r

  -- named: a Branch row has its name
  abbrev pub Named : ℕ → Type 0
  Named r = (g : ℕ) × (g < row_count w) × (is_branch (class w g) ≡ true) × (same_names w p b g r ≡ true)

  -- the lawful destination of a break or continue: its target, of the kind that it needs
  abbrev pub LawfulTarget : ℕ → Type 0
  LawfulTarget g = (t : ℕ) × (target w p b g ≡ some t) × (needs (class w g) (class w (suc t)) ≡ true)

  -- and of a goto: a label of its name in a list around it, with no declaration item of that list between when the label is later
  abbrev pub LawfulLabel : ℕ → Type 0
  LawfulLabel g = (r : ℕ) × Label r × (same_names w p b r g ≡ true) × (in_list_of w r g ≡ true)
      × ((d : ℕ) → g < d → d < r → class w d ≡ declaration → list_of w d ≡ list_of w r → ⊥)

  -- a labelled fallthrough has none
  pub data Lawful (g : ℕ) : Type 0 where
    lawful_break : class w g ≡ break → LawfulTarget g → Lawful g
    lawful_continue : class w g ≡ continue → LawfulTarget g → Lawful g
    lawful_goto : class w g ≡ goto → LawfulLabel g → Lawful g

  -- each label other than `_` is declared once and named by some branch, and each labelled branch has its lawful destination
  pub record AllLawful : Type 0 where
    pub once : (r : ℕ) → Label r → DeclaredOnce r
    pub named : (r : ℕ) → Label r → Named r
    pub destinations : (g : ℕ) → g < row_count w → is_branch (class w g) ≡ true → 0 < name w g → Lawful g

  -- ---- the second half

  -- the runner has come to a lawful stop, or has a next state whichever way it chooses; and it is not at the closing brace
  pub record Safe (s : State) : Type 0 where
    pub goes_on : (s ≡ stopped) ⊎ ((0 < choices w p b s) × ((c : ℕ) → c < choices w p b s → (t : State) × (step w p b s c ≡ some t)))
    pub inside : s ≢ brace

abbrev pub All : (State → Type 0) → List State → Type 0
All P [] = Unit {0}
All P (s ∷ l) = P s × All P l

-- the sheet is empty exactly when all labels and labelled branches are lawful
abbrev pub SheetLaw : List ℕ → List ℕ → List ℕ → Type 0
SheetLaw w p b = WellFormed w p b → (sheet w p b ≡ []) ↔ AllLawful w p b

-- with an empty sheet, verdict yes and good placing, every state of every route is safe
abbrev pub RouteLaw : List ℕ → List ℕ → List ℕ → Type 0
RouteLaw w p b =
    WellFormed w p b → sheet w p b ≡ [] → verdict w p b ≡ true → placing w ≡ none → (l : List State) → Route w p b l → All (Safe w p b) l

-- ---- the second half in the demand's words

-- the premises: a well-formed body with an empty sheet, verdict yes and good placing
pub record Good (w p b : List ℕ) : Type 0 where
  pub well_formed : WellFormed w p b
  pub no_fault : sheet w p b ≡ []
  pub yes : verdict w p b ≡ true
  pub placed : placing w ≡ none

-- the runner never comes to the closing brace
abbrev pub NeverBrace : List ℕ → List ℕ → List ℕ → Type 0
NeverBrace w p b = Good w p b → (l k : List State) → Route w p b (l ++ brace ∷ k) → ⊥

-- at each row of its route some choice is open, and every open choice has a next state
abbrev pub NeverStuck : List ℕ → List ℕ → List ℕ → Type 0
NeverStuck w p b = Good w p b → (l k : List State) (r : ℕ) → Route w p b (l ++ at r ∷ k)
    → (0 < choices w p b (at r)) × ((c : ℕ) → c < choices w p b (at r) → (t : State) × (step w p b (at r) c ≡ some t))

-- a route that can't be made longer ends stopped
abbrev pub StopsLawfully : List ℕ → List ℕ → List ℕ → Type 0
StopsLawfully w p b = Good w p b → (l : List State) (s : State) → Route w p b (l ++ s ∷ []) → ((t : State) → Route w p b (l ++ s ∷ t ∷ []) → ⊥) → s ≡ stopped
