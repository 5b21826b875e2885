-- The facts of a body leave no cause: so a body is well-formed exactly where it has them, and a parameter of the type `Body` asks for no more than they do.
-- Each fact rules one cause out. For the shape, the children of a row are stepped through: each may stand where it does by its class, which is that of its
-- own words but for the Block of a switch or Select; and there are as many as the row has to have.
-- Assumes nothing.
use mathlib.Core.Path.{◌≡◌, refl, sym, ◌∙◌}
use mathlib.Core.Bool.{Bool, true, false, ◌&&◌, not}
use mathlib.Core.List.{List, [], ◌∷◌}
use Prim.Native.Nat.{ℕ, zero, suc, ◌+◌, ◌-◌, ◌%◌, ◌≤◌, ◌<◌}
use native.Mathlib.Omega.{arith}
use native.Mathlib.Decide.{dec_lt}
use lib.Dec.{ltb}
use lib.ListN.{length}
use borrow.Author.Tests.{ne_eqb, eq-eqb, lt-ltb, le-ltb, le-leb}
use Rattle.rules.specs.Scan.{lowest}
use Rattle.rules.specs.Rows.{row_count, kind, detail, position, size, end, depth, Item, here, later, Child}
use Rattle.rules.specs.Class.{Class, block, case_block, comm_block, if, if_else, one_of, is_statement, is_case, is_comm, detail_allowed, class_of, base, following, class}
use Rattle.rules.specs.Refusals.{bad_row_words, bad_row, Holding, nothing, statement, body, branches, statements, cases, comms, holding, may_hold, at_least}
use Rattle.rules.specs.Refusals.{children_fit, is_body, bad_shape, second_default, bad_size, WellFormed}
use Rattle.rules.specs.Body.{Sized, Body, fits}
use Rattle.rules.proofs.Every.{every, class_at, implies, implied, of-classes}
use Rattle.rules.proofs.ByKind.{by_kind}
use Rattle.rules.proofs.Classes.{class-first, class-after}
use Rattle.rules.proofs.Scan.{none-lowest}
use Rattle.rules.proofs.Nesting.{item_from, item-before}
use Rattle.rules.proofs.Children.{fits-ended, fits_next}
use Rattle.rules.proofs.ClassRules.{is_clause_block, class-rule}
use Rattle.rules.proofs.NoSecond.{none-second}
use Rattle.rules.proofs.Pairs.{ok-words, ok-pairs}
use Rattle.rules.proofs.Causes.{accepted, good-1, good-2, is-3, is-4, is-5, is-10, is-6}
use Rattle.row_checks.proofs.RightRows.{right-size, right-shape}

-- ---- from a row's class to the class by its own words

-- Q of the class by its own words, from P of its class by a rule
by-class : (P Q : Class → Bool) → every 23 (λ i. every 23 (λ j. implies (P (following (class_at i) (class_at j))) (Q (class_at j)))) ≡ true
    → (w : List ℕ) (c : ℕ) → 0 < c → P (class w c) ≡ true → Q (base w c) ≡ true
by-class P Q e w c l t =
    implied (P (following (base w (c - 1)) (base w c))) (Q (base w c))
    (of-classes (λ b c. implies (P (following b c)) (Q c)) e (base w (c - 1)) (base w c))
    (rw (class-after w c l) at t)

abbrev is_block : Class → Bool
is_block = one_of (block ∷ [])

-- a Block, whatever it is the Block of
abbrev any-block : Class → Bool
any-block = one_of (block ∷ case_block ∷ comm_block ∷ [])

abbrev branch : Class → Bool
branch = one_of (block ∷ if ∷ if_else ∷ [])

module _ (w : List ℕ) (c : ℕ) (l : 0 < c) where
  own-statement : is_statement (class w c) ≡ true → is_statement (base w c) ≡ true
  unfolding every lowest
  own-statement = by-class is_statement is_statement refl w c l

  own-case : is_case (class w c) ≡ true → is_case (base w c) ≡ true
  unfolding every lowest
  own-case = by-class is_case is_case refl w c l

  own-comm : is_comm (class w c) ≡ true → is_comm (base w c) ≡ true
  unfolding every lowest
  own-comm = by-class is_comm is_comm refl w c l

  own-branch : branch (class w c) ≡ true → branch (base w c) ≡ true
  unfolding every lowest
  own-branch = by-class branch branch refl w c l

  own-block : is_block (class w c) ≡ true → is_block (base w c) ≡ true
  unfolding every lowest
  own-block = by-class is_block is_block refl w c l

  no_clauses : detail_allowed (kind w c) (detail w c) ≡ true → is_clause_block (base w c) ≡ false
  unfolding every lowest detail_allowed class_of base
  no_clauses a = sym (by_kind (λ k. false) is_clause_block refl (kind w c) (detail w c) a)

  -- the Block that a row of class q holds alone
  own-body : (q : Class) → detail_allowed (kind w c) (detail w c) ≡ true → one_of (following q block ∷ []) (class w c) ≡ true → is_block (base w c) ≡ true
  unfolding every lowest
  own-body q a t =
      let any = implied (one_of (following q block ∷ []) (class w c)) (any-block (class w c))
      (of-classes (λ q c. implies (one_of (following q block ∷ []) c) (any-block c)) refl q (class w c)) t in
      let own : any-block (base w c) ≡ true = by-class any-block any-block refl w c l any in
      class-rule (λ c. any-block c && not (is_clause_block c)) is_block refl (base w c) (rw (own, no_clauses a))

-- ---- stepping through the children of a row that holds h and ends at e, with n steps
module _ (w : List ℕ) (h : Holding) (e : ℕ) where
  -- a list, of which each item may stand anywhere
  list-fits : Sized w → e ≤ row_count w → at_least h ≡ 0 → (n i c : ℕ) → 0 < n → e < c + n
      → ((s : ℕ) → Item w e c s → ((j : ℕ) → may_hold h j (base w s) ≡ true) × (end w s ≤ e))
      → children_fit n w h e i c ≡ true
  list-fits sized m few zero i c z l a = absurd (omega arith)
  list-fits sized m few (suc f) i c z l a = elim (dec_lt c e) [
    | yes y ↦
        let t = a c (here y) in
        let s = sized.some_rows c (omega arith) in
        fits_next w h e i c f y (t.0 i) t.1
        ∙ list-fits sized m few f (suc i) (end w c) (omega arith) (omega arith) (λ s k. a s (later y k))
    | no o ↦ fits-ended w h e i c f (omega arith) ∙ le-leb (at_least h) i (omega arith)
  ]

  -- one child, which fills the row
  one-fits : (n c : ℕ) → 1 < n → at_least h ≤ 1 → c < e → may_hold h 0 (base w c) ≡ true → end w c ≡ e → children_fit n w h e 0 c ≡ true
  one-fits zero c z k l t g = absurd (omega arith)
  one-fits (suc zero) c z k l t g = absurd (omega arith)
  one-fits (suc (suc f)) c z k l t g =
      fits_next w h e 0 c (suc f) l t (omega arith) ∙ fits-ended w h e 1 (end w c) f (omega arith) ∙ le-leb (at_least h) 1 k

  -- and two
  two-fit : (n c : ℕ) → 2 < n → at_least h ≤ 2 → c < e → may_hold h 0 (base w c) ≡ true
      → end w c < e → may_hold h 1 (base w (end w c)) ≡ true → end w (end w c) ≡ e → children_fit n w h e 0 c ≡ true
  two-fit zero c z k l t m u g = absurd (omega arith)
  two-fit (suc zero) c z k l t m u g = absurd (omega arith)
  two-fit (suc (suc zero)) c z k l t m u g = absurd (omega arith)
  two-fit (suc (suc (suc f))) c z k l t m u g =
      fits_next w h e 0 c (suc (suc f)) l t (omega arith) ∙ fits_next w h e 1 (end w c) (suc f) m u (omega arith)
      ∙ fits-ended w h e 2 (end w (end w c)) f (omega arith) ∙ le-leb (at_least h) 2 k

-- ---- a body's facts
module _ (w p b : List ℕ) (f : Body w p b) where
  good-words : bad_row_words w ≡ false
  unfolding bad_row_words
  good-words =
      rw (
        ne_eqb (length w) 0 (λ z. omega (arith, f.some_rows, f.words)),
        eq-eqb (length w % 5) 0 (omega (arith, f.words)),
        le-ltb 2000 (row_count w) f.most_rows,
        bad_row_words,
      )

  good-row : (r : ℕ) → r < row_count w → bad_row w p r ≡ false
  unfolding bad_row
  good-row r l = rw (f.details r l, lt-ltb 0 (position w r) (f.positions r l), f.named r l, bad_row)

  good-size : (r : ℕ) → r < row_count w → bad_size w r ≡ false
  good-size r l = right-size w r (f.sized.some_rows r l) (f.sized.within r l)

  is_whole : is_body w ≡ true
  unfolding is_body
  is_whole =
      let t : base w 0 ≡ block = sym (class-first w) ∙ f.root_class in
      rw (t, eq-eqb (size w 0) (row_count w) f.root_size, is_body)

  -- the children of a row, by what it holds
  module _ (r : ℕ) (l : r < row_count w) where
    -- each item of a list is a child, and after the row
    items-fit : (h : Holding) → at_least h ≡ 0
        → ((c : ℕ) → 0 < c → Child w r c → (j : ℕ) → may_hold h j (base w c) ≡ true)
        → children_fit (size w r) w h (end w r) 0 (suc r) ≡ true
    items-fit h few may =
        list-fits w h (end w r) f.sized (f.sized.within r l) few (size w r) 0 (suc r) (f.sized.some_rows r l) (omega arith)
        (λ s i. (may s (omega (arith, item_from i)) i, f.child_within r s l i))

    first : suc r < end w r → Child w r (suc r)
    first y = here y

    children : (h : Holding) → holding (class w r) ≡ h → children_fit (size w r) w h (end w r) 0 (suc r) ≡ true
    children nothing e = items-fit nothing refl (λ c z i. absurd (omega (arith, f.leaf r l e, item_from i, item-before i)))
    children statement e =
        let o = f.one_statement r l e in
        let t : is_statement (class w (suc r)) ≡ true = rw (e, fits) at (f.child_fits r (suc r) l (first o.0)) in
        one-fits w statement (end w r) (size w r) (suc r) (omega (arith, o.0)) (omega arith) o.0 (own-statement w (suc r) (omega arith) t) o.1
    children body e =
        let o = f.one_block r l e in
        let t : one_of (following (class w r) block ∷ []) (class w (suc r)) ≡ true = rw (e, fits) at (f.child_fits r (suc r) l (first o.0)) in
        let g : suc r < row_count w = omega (arith, o.0, f.sized.within r l) in
        one-fits w body (end w r) (size w r) (suc r) (omega (arith, o.0)) (omega arith) o.0
        (own-body w (suc r) (omega arith) (class w r) (f.details (suc r) g) t) o.1
    children branches e =
        let (y, k, m, g) = f.two_parts r l e in
        let h = f.sized.some_rows (suc r) (omega (arith, f.sized.within r l)) in
        let t : branch (class w (end w (suc r))) ≡ true = rw (e, fits) at (f.child_fits r (end w (suc r)) l (later y (here m))) in
        two-fit w branches (end w r) (size w r) (suc r) (omega arith) (omega arith) y (own-block w (suc r) (omega arith) (rw k)) m
        (own-branch w (end w (suc r)) (omega arith) t) g
    children statements e =
        items-fit statements refl
        (λ c z i. let t : is_statement (class w c) ≡ true = rw (e, fits) at (f.child_fits r c l i) in λ j. own-statement w c z t)
    children cases e =
        items-fit cases refl (λ c z i. let t : is_case (class w c) ≡ true = rw (e, fits) at (f.child_fits r c l i) in λ j. own-case w c z t)
    children comms e =
        items-fit comms refl (λ c z i. let t : is_comm (class w c) ≡ true = rw (e, fits) at (f.child_fits r c l i) in λ j. own-comm w c z t)

    good-shape : bad_shape w r ≡ false
    good-shape = right-shape w r (λ z. is_whole) (children (holding (class w r)) refl)

pub whole : (w p b : List ℕ) → Body w p b → WellFormed w p b
whole w p b f =
    let sized = none-lowest (bad_size w) (row_count w) (good-size w p b f) in
    let single = none-second w f.sized f.details (good-shape w p b f) (λ q l t. f.one_default q l) in
    let depths = none-lowest (λ r. ltb 100 (depth w r)) (row_count w) (λ r l. le-ltb 100 (depth w r) (f.shallow r l)) in
    let e4 = is-4 w p ∙ none-lowest (bad_row w p) (row_count w) (good-row w p b f) in
    let e5 = is-5 w sized ∙ none-lowest (bad_shape w) (row_count w) (good-shape w p b f) in
    let e10 = is-10 w ∙ none-lowest (second_default w) (row_count w) single in
    accepted w p b
    (good-1 w (good-words w p b f), (good-2 p b (ok-words p b f.names), (is-3 p b ∙ ok-pairs p b f.names, (e4, (e5, (e10, (is-6 w ∙ depths, tt)))))))
