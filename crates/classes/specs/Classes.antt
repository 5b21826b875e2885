-- The code's enum of the classes, as the rules' classes.
-- Assumes nothing.
use Rattle.rules.specs.Class as rules
use Rattle.classes.specs.declared.Class.{Class}
use Rattle.classes.specs.declared.Class.TheVariants.{Plain, Declaration, Empty, Labeled, Stop, Break, Continue, Goto, Fallthrough}
use Rattle.classes.specs.declared.Class.TheVariants.{Block, CaseBlock, CommBlock, If, IfElse, Case, DefaultCase, Comm, DefaultComm}
use Rattle.classes.specs.declared.Class.TheVariants.{Switch, TypeSwitch, Select, For, ForCond}

-- the class of the rules
abbrev pub class_is : Class → rules.Class
class_is Plain = rules.plain
class_is Declaration = rules.declaration
class_is Empty = rules.empty
class_is Labeled = rules.labeled
class_is Stop = rules.stop
class_is Break = rules.break
class_is Continue = rules.continue
class_is Goto = rules.goto
class_is Fallthrough = rules.fallthrough
class_is Block = rules.block
class_is CaseBlock = rules.case_block
class_is CommBlock = rules.comm_block
class_is If = rules.if
class_is IfElse = rules.if_else
class_is Case = rules.case
class_is DefaultCase = rules.default_case
class_is Comm = rules.comm
class_is DefaultComm = rules.default_comm
class_is Switch = rules.switch
class_is TypeSwitch = rules.type_switch
class_is Select = rules.select
class_is For = rules.for
class_is ForCond = rules.for_cond
