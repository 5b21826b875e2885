-- goscript's returns.rs, function by function in the file's order. The first argument bounds the depth of calls.
-- Assumes nothing.
use Rattle.std.specs.Prelude.{Bool, true, false, ◌&&◌, ◌||◌, not, List, [], ◌∷◌, ℕ, zero, suc, ◌+◌, eqb}
use Rattle.std.proofs.Math.Option.{Option, none, some}
use Rattle.rules.specs.Rows.{name, size, end}
use Rattle.rules.specs.Names.{same_bytes}
use Rattle.rules.specs.Class.{plain, declaration, empty, labeled, stop, break, continue, goto, fallthrough, block, case_block, comm_block, if, if_else, case}
use Rattle.rules.specs.Class.{default_case, comm, default_comm, switch, type_switch, select, for, for_cond, one_of, class}
use Rattle.goscript.specs.Build.{original, mended, Build}
use Rattle.goscript.specs.Syntax.{any, all, find_last, list, ident}

-- `Some(name) == label`
abbrev pub is : List ℕ → Option (List ℕ) → Bool
is name label = elim label [ none ↦ false | some l ↦ same_bytes name l ]

-- `label.is_some()`
abbrev pub is_some : Option (List ℕ) → Bool
is_some label = elim label [ none ↦ false | some l ↦ true ]

-- B: the label that `has_break` hands on at a Labeled of this name
abbrev pub handed_label : Build → List ℕ → Option (List ℕ) → Option (List ℕ)
handed_label build name label = elim build.B [ original ↦ some name | mended ↦ label ]

-- C: the `implicit` that it hands on into kinds 15, 16, 18 to 20
abbrev pub handed_implicit : Build → Bool → Bool
handed_implicit build implicit = elim build.C [ original ↦ implicit | mended ↦ false ]

abbrev pub non_empty : List ℕ → ℕ → Bool
non_empty w r = not (one_of (empty ∷ []) (class w r))

module _ (build : Build) (w p b : List ℕ) where
  unfoldable mutual
    -- `is_terminating`: s is a terminating statement; if it is labelled, label is the label's name
    pub is_terminating : ℕ → ℕ → Option (List ℕ) → Bool
    is_terminating zero s label = false
    is_terminating (suc f) s label = elim (class w s) [
      | labeled ↦ is_terminating f (suc s) (some (ident w p b s))
      | stop ↦ true
      | goto ↦ true
      | fallthrough ↦ true
      | break ↦ false
      | continue ↦ false
      | block ↦ is_terminating_list f (list w s) none
      | if ↦ false
      | if_else ↦ is_terminating_list f (list w (suc s)) none && is_terminating f (end w (suc s)) none
      | switch ↦ is_terminating_switch f (list w (suc s)) label
      | type_switch ↦ is_terminating_switch f (list w (suc s)) label
      | select ↦ not (any (λ x. not (is_terminating_list f (list w x) none) || has_break_list f (list w x) label true) (list w (suc s)))
      | for ↦ not (has_break_list f (list w (suc s)) label true)
      | plain ↦ false
      | declaration ↦ false
      | empty ↦ false
      | for_cond ↦ false
      -- `unreachable!`
      | case_block ↦ false
      | comm_block ↦ false
      | case ↦ false
      | default_case ↦ false
      | comm ↦ false
      | default_comm ↦ false
    ]

    -- `is_terminating_list`: trailing empty statements are skipped
    pub is_terminating_list : ℕ → List ℕ → Option (List ℕ) → Bool
    is_terminating_list zero l label = false
    is_terminating_list (suc f) l label = elim (find_last (non_empty w) l) [ none ↦ false | some s ↦ is_terminating f s label ]

    -- `is_terminating_switch`: every clause is, none has a break, and one is the default
    pub is_terminating_switch : ℕ → List ℕ → Option (List ℕ) → Bool
    is_terminating_switch zero l label = false
    is_terminating_switch (suc f) l label =
        all (λ s. is_terminating_list f (list w s) none && not (has_break_list f (list w s) label true)) l
        && any (λ s. one_of (default_case ∷ []) (class w s)) l

    -- `has_break`: s is or contains a break referring to the statement with the label or, where implicit, to the closest one around
    pub has_break : ℕ → ℕ → Option (List ℕ) → Bool → Bool
    has_break zero s label implicit = false
    has_break (suc f) s label implicit = elim (class w s) [
      | plain ↦ false
      | declaration ↦ false
      | empty ↦ false
      | stop ↦ false
      | labeled ↦ has_break f (suc s) (handed_label build (ident w p b s) label) implicit
      | break ↦ elim (eqb (name w s) 0) [ true ↦ implicit | false ↦ is (ident w p b s) label ]
      | continue ↦ false
      | goto ↦ false
      | fallthrough ↦ false
      | block ↦ has_break_list f (list w s) label implicit
      | if ↦ has_break_list f (list w (suc s)) label implicit
      | if_else ↦ has_break_list f (list w (suc s)) label implicit || has_break f (end w (suc s)) label implicit
      | case ↦ has_break_list f (list w s) label implicit
      | default_case ↦ has_break_list f (list w s) label implicit
      | switch ↦ is_some label && has_break_list f (list w (suc s)) label (handed_implicit build implicit)
      | type_switch ↦ is_some label && has_break_list f (list w (suc s)) label (handed_implicit build implicit)
      | comm ↦ has_break_list f (list w s) label implicit
      | default_comm ↦ has_break_list f (list w s) label implicit
      | select ↦ is_some label && has_break_list f (list w (suc s)) label (handed_implicit build implicit)
      | for ↦ is_some label && has_break_list f (list w (suc s)) label (handed_implicit build implicit)
      | for_cond ↦ is_some label && has_break_list f (list w (suc s)) label (handed_implicit build implicit)
      -- not asked: a switch's or Select's Block is a list there
      | case_block ↦ false
      | comm_block ↦ false
    ]

    -- `has_break_list`
    pub has_break_list : ℕ → List ℕ → Option (List ℕ) → Bool → Bool
    has_break_list zero l label implicit = false
    has_break_list (suc f) l label implicit = any (λ x. has_break f x label implicit) l

  -- `is_terminating` on the body; a level takes a call for the statement and one for its list, so twice the rows are enough
  unfoldable pub verdict : Bool
  verdict = is_terminating (suc (size w 0 + size w 0)) 0 none
