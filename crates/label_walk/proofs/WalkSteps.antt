-- The walk row by row: a row that is no label, no branch and no Block leaves the words as they are, a Block gets its current label, and what two pieces of the
-- walk do one after the other is one piece.
-- Assumes nothing.
use mathlib.Core.Path.{◌≡◌, refl, sym, ◌∙◌, ap}
use mathlib.Core.Bool.{true, false}
use mathlib.Core.List.{List}
use Prim.Native.Nat.{ℕ, zero, suc, ◌+◌, ◌-◌, ◌*◌, ◌≤◌, ◌<◌}
use native.Mathlib.Nat.{add-zero, add-suc}
use native.Mathlib.Numerals.{add-one}
use native.Mathlib.Omega.{arith}
use lib.ListN.{length, set, length-append}
use Rattle.rules.specs.Rows.{row_count}
use Rattle.rules.specs.Class.{labeled, is_branch, class}
use Rattle.rules.specs.Scope.{is_block}
use Rattle.rules.specs.Labels.{is_label, report, word}
use Rattle.rules.proofs.Test.{clash}
use Rattle.rules.proofs.ClassTests.{break-branch, branch-goto, branch-fallthrough}
use Rattle.context.specs.declared.Context.{Context}
use Rattle.walk_state.specs.Walk.{faults_at, current_label, Walking, Walked}
use Rattle.walk_state.proofs.WalkFaults.{faults-suc, drop-further}
use Rattle.walk_state.proofs.WalkRows.{Idle, idle-walked, block_walked}
use Rattle.label_walk.specs.Contexts.{Contexts}

-- ---- one row
idle : {w p b : List ℕ} (x : ℕ) → is_branch (class w x) ≡ false → is_label w p b x ≡ false → Idle w p b x
idle {w} x f n = record {
  no_label = n;
  no-goto = λ e. let z : false ≡ true = sym f ∙ branch-goto (class w x) e in clash (cc);
  no-break = λ y. let z : false ≡ true = sym f ∙ break-branch (class w x) y.breaks in clash (cc);
  no-fallthrough = λ y. let z : false ≡ true = sym f ∙ branch-fallthrough (class w x) y.falls-through in clash (cc);
}

module _ {w p b : List ℕ} {x f : ℕ} {s bs hs l : List ℕ} (h : x < row_count w) (walking : Walking w p b x f s bs hs l)
    (no_label : is_label w p b x ≡ false) (no-branch : is_branch (class w x) ≡ false) where
  pub passed : is_block (class w x) ≡ false → Walked w p b (suc x) f s bs s bs hs l
  passed n = idle-walked w p b x f s bs hs l h (idle x no-branch no_label) walking n

  pub linked : {l' : List ℕ} → l' ≡ set l x (word (current_label w p b x)) → Walked w p b (suc x) f s bs s bs hs l'
  linked e = rw e (block_walked w p b x f s bs hs l h (idle x no-branch no_label) walking (word (current_label w p b x)) refl)

pub labeled-passed : {w p b : List ℕ} {x f : ℕ} {s bs hs l : List ℕ} → x < row_count w → Walking w p b x f s bs hs l → class w x ≡ labeled
    → is_label w p b x ≡ false → Walked w p b (suc x) f s bs s bs hs l
labeled-passed h walking c n = passed h walking n (rw c) (rw c)

-- ---- one piece after another
faults-grow : (w p b : List ℕ) (x d : ℕ) → length (faults_at w p b x) ≤ length (faults_at w p b (x + d))
faults-grow w p b x zero = rw (add-zero x) (omega arith)
faults-grow w p b x (suc d) =
    let e : length (faults_at w p b (suc (x + d))) ≡ length (faults_at w p b (x + d)) + length (report w p b (x + d)) =
    ap length (faults-suc w p b (x + d)) ∙ length-append (faults_at w p b (x + d)) (report w p b (x + d)) in
    rw (add-suc x d) (omega (arith, faults-grow w p b x d, e))

faults-more : (w p b : List ℕ) (x y : ℕ) → x ≤ y → length (faults_at w p b x) ≤ length (faults_at w p b y)
faults-more w p b x y h =
    let q : x + (y - x) ≡ y = omega arith in
    omega (arith, faults-grow w p b x (y - x), ap (λ (k : ℕ). length (faults_at w p b k)) q)

walked_then : {w p b : List ℕ} {x y f g : ℕ} {s bs s₁ b₁ h₁ l₁ s₂ b₂ h₂ l₂ : List ℕ}
    → x ≤ y → Walked w p b x f s bs s₁ b₁ h₁ l₁ → Walked w p b y g s₁ b₁ s₂ b₂ h₂ l₂ → Walked w p b y g s bs s₂ b₂ h₂ l₂
walked_then {w} {p} {b} {x} {y} {f} {g} {s} {bs} {s₁} k a c =
    let m : f * 4 ≤ g * 4 = omega (arith, a.state.count, c.state.count, faults-more w p b x y k) in
    record {
      state = c.state;
      sheet_length = c.sheet_length ∙ a.sheet_length;
      sheet_kept = c.sheet_kept ∙ drop-further (f * 4) (g * 4) s₁ s m a.sheet_kept;
      bindings_length = c.bindings_length ∙ a.bindings_length;
      bindings_kept = c.bindings_kept ∙ a.bindings_kept;
    }

-- ---- the loop over the rows: what it leaves of the words at its start when it stands at row x
pub record Turn (w p b : List ℕ) (x f : ℕ) (s₀ b₀ h₀ l₀ : List ℕ) (c₀ : List (Context ℕ)) (s bs hs l : List ℕ) (c : List (Context ℕ)) : Type 0 where
  pub so_far : Walked w p b x f s₀ b₀ s bs hs l
  pub contexts : Contexts w p b x c
  pub heads-length : length hs ≡ length h₀
  pub goto-or-label-length : length l ≡ length l₀
  pub contexts-length : length c ≡ length c₀

pub turn-next : {w p b s₀ b₀ h₀ l₀ s bs hs l s' b' h' l' : List ℕ} {c₀ c c' : List (Context ℕ)} {x f f' : ℕ} → Turn w p b x f s₀ b₀ h₀ l₀ c₀ s bs hs l c
    → Walked w p b (suc x) f' s bs s' b' h' l' → Contexts w p b (suc x) c'
    → length h' ≡ length hs → length l' ≡ length l → length c' ≡ length c
    → Turn w p b (x + 1) f' s₀ b₀ h₀ l₀ c₀ s' b' h' l' c'
turn-next {x = x} a y c i j k = rw (add-one x) (record {
  so_far = walked_then (omega arith) a.so_far y;
  contexts = c;
  heads-length = i ∙ a.heads-length;
  goto-or-label-length = j ∙ a.goto-or-label-length;
  contexts-length = k ∙ a.contexts-length;
})
