-- `unfolding computed` opens every definition that computes, so that its value on a body is read off by `refl`.
-- Assumes nothing.
use Rattle.rules.specs.Scan.{lowest, highest, how_many}
use Rattle.rules.specs.Rows.{parent, depth}
use Rattle.rules.specs.Class.{detail_allowed, class_of, base, class}
use Rattle.rules.specs.Names.{previous_end, bad_name_words, bad_pair, names_ok, name_bytes, same_bytes, bytes_before, same_name, is_blank, rank}
use Rattle.rules.specs.Refusals.{bad_row_words, name_allowed, bad_row, bad_size, children_fit, is_body, bad_shape, cause1, cause2, cause3, cause4, cause5}
use Rattle.rules.specs.Refusals.{second_default, cause10, cause6, first_cause, refusal}
use Rattle.rules.specs.Scope.{innermost, list_of, in_list_of, only_empty, next_case}
use Rattle.rules.specs.Labels.{each, is_label, labels, declared, earlier, later, goto_label, latest_declaration, pending, last_in_run, in_block_of, target}
use Rattle.rules.specs.Labels.{valid_target, labelled_break, binding, jumps_over, repeated, report, unresolved, used, declared_at, unused, sheet}
use Rattle.rules.specs.Labels.{bindings}
use Rattle.rules.specs.Placing.{in_expression_switch, ends_case, well_placed, badly_placed, placing}
use Rattle.rules.specs.Verdict.{label_on, refers_to, has_own_break, any_default, has_default, terminating, terminating_list, terminating_clauses, verdict}
use Rattle.rules.specs.Tally.{labelled_branches, bound_branches, unbound_rows, unbound_words}
use Rattle.rules.specs.Walking.{is_fork, walk_on, is_faulty, walk_call, fork_choices}
use Rattle.rules.specs.Runner.{climb, after, break_to, continue_to, goto_to, item_at, item_count, clause_count, choices, step}

unfoldable pub computed : Type 0
unfolding lowest highest how_many parent depth detail_allowed class_of base class previous_end bad_name_words bad_pair names_ok name_bytes same_bytes bytes_before
    same_name is_blank rank bad_row_words name_allowed bad_row bad_size children_fit is_body bad_shape cause1 cause2 cause3 cause4 cause5 second_default cause10 cause6
    first_cause refusal innermost list_of in_list_of only_empty next_case each is_label labels declared earlier later goto_label latest_declaration pending last_in_run
    in_block_of target valid_target labelled_break binding jumps_over repeated report unresolved used declared_at unused sheet bindings in_expression_switch ends_case
    well_placed badly_placed placing label_on refers_to has_own_break any_default has_default terminating terminating_list terminating_clauses verdict climb after break_to
    continue_to goto_to item_at item_count clause_count choices step labelled_branches bound_branches unbound_rows unbound_words is_fork walk_on is_faulty walk_call
    fork_choices
computed = Unit {0}
