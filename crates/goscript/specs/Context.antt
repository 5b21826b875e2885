-- `StmtBranchesContext` of goscript's label.rs. A jump is the row of a goto.
-- Assumes nothing.
use Rattle.std.specs.Prelude.{Bool, false, List, [], ℕ}
use Rattle.std.proofs.Math.Option.{Option, none, some}
use Rattle.goscript.specs.Syntax.{contains}

pub record Context : Type 0 where
  pub var_decl_pos : Option ℕ
  pub fwd_jumps : List ℕ
  pub bad_jumps : List ℕ
  pub lstmt : Option ℕ

abbrev pub new : Option ℕ → Context
new lstmt = record { var_decl_pos = none; fwd_jumps = []; bad_jumps = []; lstmt = lstmt }

-- `record_var_decl`: the forward jumps so far are possibly invalid
abbrev pub record_var_decl : ℕ → Context → Context
record_var_decl p ctx = record { var_decl_pos = some p; fwd_jumps = ctx.fwd_jumps; bad_jumps = ctx.fwd_jumps; lstmt = ctx.lstmt }

-- `jumps_over_var_decl`
abbrev pub jumps_over_var_decl : Context → ℕ → Bool
jumps_over_var_decl ctx bs = elim ctx.var_decl_pos [ none ↦ false | some p ↦ contains bs ctx.bad_jumps ]

-- ---- one field set
abbrev pub with_jumps : List ℕ → Context → Context
with_jumps jumps ctx = record { var_decl_pos = ctx.var_decl_pos; fwd_jumps = jumps; bad_jumps = ctx.bad_jumps; lstmt = ctx.lstmt }

abbrev pub with_lstmt : Option ℕ → Context → Context
with_lstmt lstmt ctx = record { var_decl_pos = ctx.var_decl_pos; fwd_jumps = ctx.fwd_jumps; bad_jumps = ctx.bad_jumps; lstmt = lstmt }
