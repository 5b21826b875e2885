-- Document 01, "The lent records": the kinds follow enum `Stmt`, from 0 to 20.
-- Assumes nothing.
use Rattle.std.specs.Prelude.{◌≡◌, ℕ, ◌≤◌, Result, Ok, Err}
use Rattle.rows.specs.declared.kinds.Kind.{Kind}
use Rattle.rows.specs.declared.kinds.Kind.TheVariants.{Bad, Decl, Empty, Labeled, Expr, Send, IncDec, Assign, Go, Defer, Return, Branch, Block, If, Case, Switch, TypeSwitch, Comm, Select, For, Range}
use Rattle.rows.specs.declared.kinds.NoKind.{NoKind}

-- the kind's number
abbrev pub number : Kind → ℕ
number Bad = 0
number Decl = 1
number Empty = 2
number Labeled = 3
number Expr = 4
number Send = 5
number IncDec = 6
number Assign = 7
number Go = 8
number Defer = 9
number Return = 10
number Branch = 11
number Block = 12
number If = 13
number Case = 14
number Switch = 15
number TypeSwitch = 16
number Comm = 17
number Select = 18
number For = 19
number Range = 20

-- a word is the number of a kind, or past the last
abbrev pub Numbers : ℕ → Result Kind NoKind → Type 0
Numbers word (Ok kind) = number kind ≡ word
Numbers word (Err e) = 21 ≤ word
