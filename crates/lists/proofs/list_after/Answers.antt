-- A row that holds items is in hand after it, and ends where its size says; any other leaves what was in hand.
-- Assumes nothing.
use mathlib.Core.Path.{◌≡◌, sym, ◌∙◌}
use Rattle.rules.specs.Class.{class}
use Rattle.rules.specs.Scope.{holds_items}
use Rattle.rules.proofs.Lists.{own-items, by-words}
use Rattle.lists.proofs.Opened.{open-here, ends-here, passes_on}
use Rattle.lists.proofs.list_after.Goals as goal
use Rattle.lists.proofs.list_after.Goals.{After-holds_items}

-- what the code tests is the definition's test
own : (c : After-holds_items) → c.holds_items.result ≡ holds_items (class c.args.rows.now c.args.r)
own c = by-words holds_items _ _ _ _ (own-items _ c.args.r) c.kind_at.ensures (c.requires.sized.1 c.args.r c.requires.sized.2) c.holds_items.ensures

pub returns-then-not-holds_items : goal.returns-then-not-holds_items
returns-then-not-holds_items c =
    passes_on _ _ _ _ (sym (own (goal.at.returns-then-not-holds_items c).After-holds_items) ∙ c.if-not-holds_items.true) c.requires.list_around

pub returns : goal.returns
returns c = (
  open-here _ _ (sym (own (goal.at.returns c).After-holds_items) ∙ c.if-not-holds_items.false),
  ends-here c.args.rows.now _ _ c.size.ensures,
)
