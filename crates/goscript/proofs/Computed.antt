-- `unfolding computed` opens every definition of this crate and of `rules`, so that its value on a body is read off by `refl`.
-- Assumes nothing.
use Rattle.rules.proofs.Computed.{computed as rules_computed}
use Rattle.goscript.specs.Syntax.{any, all, filter, find_last, through, contains, items, list, ident, lookup}
use Rattle.goscript.specs.Returns.{is_terminating, verdict}
use Rattle.goscript.specs.Block.{insert, search, goto_target, enclosing_target}
use Rattle.goscript.specs.Checker.{place, used_by, bound}
use Rattle.goscript.specs.Label.{declare, resolve, resolve_all, record_label_use, labelled_break, goto_branch, block_branches, left_jump, unused_label}
use Rattle.goscript.specs.Label.{labels, sheet, bindings}
use Rattle.goscript.specs.Domains.{names_ended, none_names_ended, carries_label, holds_label, none_labelled}

unfoldable pub computed : Type 0
unfolding rules_computed any all filter find_last through contains items list ident lookup is_terminating verdict insert search goto_target enclosing_target
    place used_by bound declare resolve resolve_all record_label_use labelled_break goto_branch block_branches left_jump unused_label labels sheet bindings names_ended
    none_names_ended carries_label holds_label none_labelled
computed = Unit {0}
