-- The row that holds items and is kept in hand: where it reaches past r it is the innermost around r,
-- and where it has ended, the innermost around it takes its place, since a row before it that is not around it has ended before it.
-- Assumes nothing.
use mathlib.Core.Path.{◌≡◌, sym, ◌∙◌, ap}
use mathlib.Core.Bool.{true, false}
use mathlib.Core.List.{List}
use mathlib.Core.Option.{none, some}
use Prim.Native.Nat.{ℕ, zero, suc, ◌+◌, ◌-◌, ◌≤◌, ◌<◌}
use native.Mathlib.Omega.{arith}
use native.Mathlib.Decide.{dec_lt, ℕ_discrete}
use lib.ListN.{length, set}
use lib.Seq.{get_or-set_same, get_or-set_other}
use Rattle.rules.specs.Rows.{size, end}
use Rattle.rules.specs.Class.{class}
use Rattle.rules.specs.Scope.{holds_items, innermost}
use Rattle.rules.specs.Labels.{word}
use Rattle.rules.proofs.Test.{case-found, clash}
use Rattle.rules.proofs.Around.{innermost-found, innermost-last, innermost-none}
use Rattle.rules.proofs.Lists.{found-innermost, none-innermost}
use Rattle.lists.specs.Listed.{ListedBelow, Open, EndsAt, InHand, ListAround}

-- the row of its word
same : (r : ℕ) → suc r - 1 ≡ r
same r = omega arith

module _ (w : List ℕ) where
  -- ---- what was found at row r
  pub open-found : (r o : ℕ) → o ≡ word (innermost w holds_items r) → Open w o r
  open-found r o e = case-found (innermost w holds_items r)
      (λ k f.
      let i = innermost-found w holds_items r k f in
      let s : o ≡ suc k = rw f at e in
      let p : o - 1 ≡ k = omega arith in
      record {
        before = omega (arith, i.before);
        holds = λ h. rw p i.passes;
        ended = λ q a l t. elim (dec_lt r (end w q)) [
          | yes y ↦ absurd (innermost-last w holds_items r k q f (omega arith) (record { before = l; reaches = y; passes = t }))
          | no n ↦ omega arith
        ];
      })
      (λ f.
      let s : o ≡ 0 = rw f at e in
      record {
        before = omega arith;
        holds = λ h. absurd (omega arith);
        ended = λ q a l t. elim (dec_lt r (end w q)) [
          | yes y ↦ absurd (innermost-none w holds_items r q f (record { before = l; reaches = y; passes = t }))
          | no n ↦ omega arith
        ];
      })

  -- ---- the next row
  pub open-here : (r : ℕ) → holds_items (class w r) ≡ true → Open w (suc r) (r + 1)
  open-here r t = record { before = omega arith; holds = λ h. rw (same r) t; ended = λ q a l u. absurd (omega arith) }

  open_next : (o r : ℕ) → Open w o r → holds_items (class w r) ≡ false → Open w o (r + 1)
  open_next o r s f = record {
    before = omega (arith, s.before);
    holds = s.holds;
    ended = λ q a l t. elim (ℕ_discrete q r) [
      | yes y ↦ let u : holds_items (class w r) ≡ true = rw y at t in absurd (clash (cc))
      | no n ↦ omega (arith, s.ended q a (omega arith) t)
    ];
  }

  -- a row that holds no items leaves the list in hand
  pub passes_on : (o e r : ℕ) → holds_items (class w r) ≡ false → ListAround w o e r → InHand w o e (r + 1)
  passes_on o e r f (l, q) = (open_next o r (open-found r o l) f, q)

  -- ---- no row in hand
  pub open-empty : (r : ℕ) → Open w 0 r → none ≡ innermost w holds_items r
  open-empty r s = sym (none-innermost w holds_items r (λ q i. omega (arith, i.reaches, s.ended q (omega arith) i.before i.passes)))

  -- ---- row k in hand
  module _ (k r : ℕ) (s : Open w (suc k) r) where
    pub open-reaches : r < end w k → some k ≡ innermost w holds_items r
    open-reaches l =
        sym (found-innermost w holds_items r k
        (record { before = omega (arith, s.before); reaches = l; passes = rw (same k) at s.holds (omega arith) })
        (λ q a i. omega (arith, i.reaches, s.ended q (omega arith) i.before i.passes)))

    pub open-outer : (v : ℕ) → end w k ≤ r → v ≡ word (innermost w holds_items k) → Open w v r × (v < suc k)
    open-outer v l e =
        let b = s.before in
        let t = open-found k v e in
        let c = t.before in (
          record {
            before = omega arith;
            holds = t.holds;
            ended = λ q a m u. elim (dec_lt q k) [
              | yes y ↦ omega (arith, t.ended q a y u)
              | no n ↦ elim (ℕ_discrete q k) [ yes y ↦ rw y l | no z ↦ s.ended q (omega arith) m u ]
            ];
          },
          omega arith,
        )

  -- while its end is not reached, the list in hand is the one to write
  pub open_kept : (o r e : ℕ) → Open w o r → EndsAt w o e → r < e → o ≡ word (innermost w holds_items r)
  open_kept zero r e s q l = ap word (open-empty r s)
  open_kept (suc k) r e s q l = ap word (open-reaches k r s (omega (arith, rw (same k) at q (omega arith))))

  -- ---- its end
  pub ends-here : (r n : ℕ) → n ≡ size w r → EndsAt w (suc r) (r + n)
  ends-here r n q h = rw (same r) (omega arith)

  -- ---- the words
  pub listed_more : (l : List ℕ) (r v : ℕ) → r < length l → v ≡ word (innermost w holds_items r) → ListedBelow w l r → ListedBelow w (set l r v) (r + 1)
  listed_more l r v h e b q m = elim (ℕ_discrete q r) [
    | yes y ↦ rw y (get_or-set_same l r v 0 h ∙ e)
    | no n ↦ get_or-set_other l r q v 0 n ∙ b q (omega arith)
  ]
