-- Document 01, "docs/DIFFERENCES.md: three places": which build of goscript is meant. Each of A, B and C is as goscript has it, or mended.
-- Assumes nothing.

pub data Place : Type 0 where
  original mended : Place

-- A: `ctx.lstmt` after a labelled statement; B: the label that `has_break` hands on at Labeled; C: the `implicit` that it hands on into kinds 15, 16, 18 to 20
pub record Build : Type 0 where
  pub A : Place
  pub B : Place
  pub C : Place

abbrev pub stock : Build
stock = record { A = original; B = original; C = original }

abbrev pub mended_build : Build
mended_build = record { A = mended; B = mended; C = mended }
