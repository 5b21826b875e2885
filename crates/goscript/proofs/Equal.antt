-- Demand 2, first half, for every well-formed body: goscript with A, B and C mended answers as `rules` does, and stock in its two domains.
-- Assumes nothing.
use mathlib.Core.Path.{refl}
use mathlib.Core.Logic.{inl, inr}
use mathlib.Core.List.{List}
use Prim.Native.Nat.{ℕ}
use Rattle.rules.specs.Bodies.{pairs, bytes, body2}
use Rattle.rules.proofs.Computed.{computed as rules_computed}
use Rattle.rules.proofs.Facts.{body}
use Rattle.goscript.specs.Build.{stock, mended_build}
use Rattle.goscript.specs.Equal.{SameLabels, SameVerdict, MendedLaw, StockLabelsLaw, StockVerdictLaw}
use Rattle.goscript.proofs.WalkedBody.{same-labels}
use Rattle.goscript.proofs.VerdictMended.{mended-verdict}
use Rattle.goscript.proofs.VerdictStock.{stock-verdict}

pub mended-law : (w p b : List ℕ) → MendedLaw w p b
mended-law w p b f = let facts = body w p b f in (same-labels mended_build facts (inl refl), mended-verdict facts)

pub stock-labels-law : (w p b : List ℕ) → StockLabelsLaw w p b
stock-labels-law w p b f d = same-labels stock (body w p b f) (inr d)

pub stock-verdict-law : (w p b : List ℕ) → StockVerdictLaw w p b
stock-verdict-law w p b f d = stock-verdict (body w p b f) d

-- ---- on `L: for {}; for { break L }`, where stock differs; DomainBodies.antt has bodies of stock's domains
pub mended-body2 : SameLabels mended_build body2 pairs bytes × SameVerdict mended_build body2 pairs bytes
unfolding rules_computed
mended-body2 = mended-law body2 pairs bytes refl
