-- Document 01, "Label call": the sheet and the bindings of a body, in closed form.
-- Assumes nothing.
use Rattle.std.specs.Prelude.{Bool, true, false, ◌&&◌, ◌||◌, not, List, [], ◌∷◌, ◌++◌, ℕ, zero, suc, ltb, eqb}
use Rattle.std.proofs.Math.Option.{Option, none, some}
use Rattle.rules.specs.Scan.{lowest, highest}
use Rattle.rules.specs.Rows.{row_count, position, name, end}
use Rattle.rules.specs.Class.{Class, declaration, labeled, break, continue, goto, fallthrough, one_of, is_branch, is_breakable, is_loop, class}
use Rattle.rules.specs.Names.{count_of_pairs, same_name, is_blank, rank}
use Rattle.rules.specs.Scope.{is_block, around, innermost, list_of, in_list_of}

-- a sheet row: code, then position and name number of the row reported, then other
pub record Fault : Type 0 where
  pub code : ℕ
  pub position : ℕ
  pub name : ℕ
  pub other : ℕ

-- what f gives at each number below n, in order
unfoldable pub each : {A : Type 0} → (ℕ → List A) → ℕ → List A
each f zero = []
each f (suc n) = each f n ++ f n

-- x where the test passes, and nothing else
abbrev pub only : {A : Type 0} → Bool → A → List A
only t x = elim t [ true ↦ x ∷ [] | false ↦ [] ]

abbrev pub is_some : Option ℕ → Bool
is_some o = elim o [ none ↦ false | some k ↦ true ]

abbrev pub is : Option ℕ → ℕ → Bool
is o r = elim o [ none ↦ false | some k ↦ eqb k r ]

abbrev pub is_class : List ℕ → Class → ℕ → Bool
is_class w c r = one_of (c ∷ []) (class w r)

-- rows r and s carry the same name
abbrev pub same_names : List ℕ → List ℕ → List ℕ → ℕ → ℕ → Bool
same_names w p b r s = same_name p b (name w r) (name w s)

-- break needs the target's own statement to be of kind 15, 16, 18, 19 or 20, continue 19 or 20
abbrev pub needs : Class → Class → Bool
needs c s = elim (one_of (break ∷ []) c) [ true ↦ is_breakable s | false ↦ is_loop s ]

-- a row as a binding word
abbrev pub word : Option ℕ → ℕ
word o = elim o [ none ↦ 0 | some r ↦ suc r ]

abbrev pub fault : List ℕ → ℕ → ℕ → Fault
fault w code r = record { code = code; position = position w r; name = name w r; other = 0 }

module _ (w p b : List ℕ) where
  -- ---- labels

  -- r is a label, not `_`
  unfoldable pub is_label : ℕ → Bool
  is_label r = is_class w labeled r && not (is_blank p b (name w r))

  -- r is a label with the name that row g carries
  unfoldable pub labels : ℕ → ℕ → Bool
  labels g r = is_label r && same_names w p b r g

  -- the declared label of the name that row g carries: the first
  unfoldable pub declared : ℕ → Option ℕ
  declared g = lowest (labels g) (row_count w)

  -- ---- gotos

  -- the declared label, where it stands before the goto in a list around it
  unfoldable pub earlier : ℕ → Option ℕ
  earlier g = elim (declared g) [ none ↦ none | some d ↦ elim (ltb d g && in_list_of w d g) [ true ↦ some d | false ↦ none ] ]

  -- the first label of the name, of those before row x, that stands after the goto in a list around it
  unfoldable pub later : ℕ → ℕ → Option ℕ
  later x g = lowest (λ r. ltb g r && (labels g r && in_list_of w r g)) x

  -- the label that the goto binds to
  unfoldable pub goto_label : ℕ → Option ℕ
  goto_label g = elim (earlier g) [ some d ↦ some d | none ↦ later (row_count w) g ]

  -- the latest declaration item (VAR or `:=`, labels taken off) before row r in the list of r
  unfoldable pub latest_declaration : ℕ → Option ℕ
  latest_declaration r = highest (λ d. is_class w declaration d && elim (list_of w r) [ none ↦ false | some l ↦ is (list_of w d) l ]) r

  -- the goto is pending when the walk comes to row x
  unfoldable pub pending : ℕ → ℕ → Bool
  pending x g = is_class w goto g && (not (is_some (earlier g)) && not (is_some (later x g)))

  -- ---- labelled break and continue

  -- no other label, not `_`, is stacked directly below the label t
  unfoldable pub last_in_run : ℕ → Bool
  last_in_run t = elim (lowest (λ k. ltb t k && not (is_class w labeled k)) (end w t)) [
    | none ↦ false
    | some s ↦ not (is_some (lowest (λ k. ltb t k && is_label k) s))
  ]

  -- row r is inside a Block of the labelled statement t
  unfoldable pub in_block_of : ℕ → ℕ → Bool
  in_block_of t r = elim (innermost w is_block r) [ none ↦ false | some k ↦ ltb t k ]

  -- the target: among labelled statements of that name with the branch inside a Block of theirs, and last in their run, the innermost
  unfoldable pub target : ℕ → Option ℕ
  target g = highest (λ t. around w g t && (labels g t && (last_in_run t && in_block_of t g))) g

  unfoldable pub valid_target : ℕ → Bool
  valid_target g = elim (target g) [ none ↦ false | some t ↦ needs (class w g) (class w (suc t)) ]

  -- ---- bindings: one word a row, 1 + the label's row, else 0

  -- a break or continue with a label
  unfoldable pub labelled_break : ℕ → Bool
  labelled_break r = one_of (break ∷ continue ∷ []) (class w r) && ltb 0 (name w r)

  unfoldable pub binding : ℕ → ℕ
  binding r =
      elim (is_label r) [
        | true ↦ elim (is (declared r) r) [ true ↦ suc r | false ↦ 0 ]
        | false ↦
            elim (is_class w goto r) [
              | true ↦ word (goto_label r)
              | false ↦
                  elim (labelled_break r && valid_target r) [ true ↦ word (declared r) | false ↦ 0 ]
            ]
      ]

  -- ---- the sheet

  -- 3: the goto g, resolved at the label r, jumps over a variable declaration
  unfoldable pub jumps_over : ℕ → ℕ → List Fault
  jumps_over r g = elim (latest_declaration r) [
    | none ↦ []
    | some d ↦ only (pending r g && (labels g r && (in_list_of w r g && ltb g d)))
        (record { code = 3; position = position w g; name = name w g; other = position w d })
  ]

  -- 1 and 2: the label r is not the declared one of its name
  unfoldable pub repeated : ℕ → List Fault
  repeated r = elim (declared r) [ none ↦ [] | some d ↦ elim (eqb d r) [ true ↦ [] | false ↦ fault w 1 r ∷ fault w 2 d ∷ [] ] ]

  -- what is reported when the walk comes to row r
  unfoldable pub report : ℕ → List Fault
  report r =
      elim (is_label r) [
        | true ↦ repeated r ++ each (jumps_over r) r
        | false ↦
            elim (labelled_break r) [
              | true ↦ only (not (valid_target r)) (fault w (elim (is_class w break r) [ true ↦ 4 | false ↦ 5 ]) r)
              | false ↦
                  only (is_class w fallthrough r && ltb 0 (name w r)) (fault w 6 r)
            ]
      ]

  -- 7 and 8: a goto that is pending at the end
  unfoldable pub unresolved : ℕ → List Fault
  unresolved g = only (pending (row_count w) g) (fault w (elim (is_some (declared g)) [ true ↦ 7 | false ↦ 8 ]) g)

  -- a declared label is used if some branch is bound to it or a 7 names it
  unfoldable pub used : ℕ → Bool
  used d = is_some (lowest (λ g. is_branch (class w g) && (eqb (binding g) (suc d) || (pending (row_count w) g && is (declared g) d))) (row_count w))

  -- the declared label of the name with the rank c
  unfoldable pub declared_at : ℕ → Option ℕ
  declared_at c = lowest (λ r. is_label r && eqb (rank p b (name w r)) c) (row_count w)

  -- 9: declared but not used
  unfoldable pub unused : ℕ → List Fault
  unused c = elim (declared_at c) [ none ↦ [] | some d ↦ only (not (used d)) (fault w 9 d) ]

  -- rows in order, then what is pending, then what is unused, by name bytes
  unfoldable pub sheet : List Fault
  sheet = each report (row_count w) ++ (each unresolved (row_count w) ++ each (λ i. unused (suc i)) (count_of_pairs p))

  unfoldable pub bindings : List ℕ
  bindings = each (λ r. binding r ∷ []) (row_count w)
