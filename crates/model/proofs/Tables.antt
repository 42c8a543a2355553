-- The tables of cases hold as a whole, by computing with the definitions: cases 1 to 8 of document 01, cases of our own, a call for each refusal, every limit,
-- the pass over operands and the drawings. One list names every definition of specs/ that a table computes with; a definition that is added there is added here.
use lib.Dec.{T}
use Rattle.model.specs.Bench.{right}
use Rattle.model.specs.Table.{table}
use Rattle.model.specs.Ours.{ours}
use Rattle.model.specs.Refusals.{calls, refused_so}
use Rattle.model.specs.Boundaries.{limits, effect_table, effect_rows, same_rows, totals_right}
use Rattle.model.specs.Answer.{ranges_before, ranges_after, summary, diagnosed, answer, middle_words, operand_words, answer_words}
use Rattle.model.specs.Building.{instruction_effect, instruction, operand, phi_node, wake, terminal_effect, terminal, block, first_nodes, build}
use Rattle.model.specs.Call.{holds, ended, read, applies, fits, answered, admit, outcome, answer_after, workspace_after}
use Rattle.model.specs.Effects.{kind_of, row_of}
use Rattle.model.specs.Graph.{create, enter, with_edge, with_entry, change, store, relate, assign, create_from}
use Rattle.model.specs.Marks.{with_effect, capture_or_read, flow_marks, marks_of, operand_effects, mark_of, with_mark}
use Rattle.model.specs.Operands.{set_unset, start_if, name_lvalue, store_value, phis_marked, phi_starts, phis, name_lvalues, instruction_marks, operand_ranges, instruction_ranges, instruction as instruction-Operands, terminal_places, terminal as terminal-Operands, block as block-Operands, sheet_starts, ends_before, before_pass, after_pass}
use Rattle.model.specs.Reading.{word, count, fixed, at_most, below, new_number, times, numbered, counted, optional, times_from, numbered_from, counted_from}
use Rattle.model.specs.Renders.{render_pushes, render_visit, render_step, render_run, render_walk}
use Rattle.model.specs.Runs.{walks_of, after, renders_of, rendered, reached, largest_end}
use Rattle.model.specs.Sections.{flag, flags, identifier, diagnostic, place, inner_function, unused, extra, effect, effects, operand as operand-Sections, phi, instruction_value, instruction as instruction-Sections, terminal_of, terminal as terminal-Sections, block as block-Sections, sheet}
use Rattle.model.specs.Service.{taken, serves, call}
use Rattle.model.specs.Callers.{outside, call_for}
use Rattle.model.specs.CallerCases.{caller_cases, called_so}
use Rattle.model.specs.Simulated.{tracked, simulation, flow_effects, simulate}
use Rattle.model.specs.Size.{enough}
use Rattle.model.specs.State.{accepts}
use Rattle.model.specs.Summary.{copied, recorded, sheet_ends, built, real_walks, after_real, after_renders, collect_param_effects, capture_mark, marked, create_returns}
use Rattle.model.specs.Totals.{instruction_effects, block_relations, totals, over}
use Rattle.model.specs.Asking.{tell_block, effect as effect-Asking, effects as effects-Asking, operand as operand-Asking, phi as phi-Asking, instruction as instruction-Asking, terminal_of as terminal_of-Asking, terminal as terminal-Asking, block as block-Asking, sheet as sheet-Asking}
use Rattle.model.specs.Counting.{count_kind, counted_sheet}
use Rattle.model.specs.Traits.{effect_of, reactive_of, traits_word}
use Rattle.model.specs.Walks.{pushes, visit, step, run, walk_of, mutate}
use Rattle.model.specs.OperandCases.{answered_so, readings, operand_cases}
use Rattle.model.specs.Digits.{digits_in, digits}
use Rattle.model.specs.Dot.{node_line, edge_line, by_node, node_lines, edge_lines, dot, drawn, draw}
use Rattle.model.specs.DotCases.{graphs, graphs_right, drawings, drawings_right}

pub record AllRight : Type 0 where
  pub table-right : T (right table)
  pub ours-right : T (right ours)
  pub calls_refused : T (refused_so calls)
  pub limits-right : T (refused_so limits)
  pub effect-table-right : T (refused_so effect_table)
  pub readings-right : T (answered_so readings)
  pub operand_cases_right : T (answered_so operand_cases)
  pub drawings-right : T (drawings_right drawings)
  pub callers_right : T (called_so caller_cases)

pub all_right : AllRight
unfolding holds ranges_before ranges_after summary diagnosed answer middle_words operand_words answer_words instruction_effect instruction operand phi_node wake terminal_effect terminal block first_nodes build ended read applies fits answered admit outcome answer_after workspace_after kind_of row_of create enter with_edge with_entry change store relate assign create_from with_effect capture_or_read flow_marks marks_of operand_effects mark_of with_mark set_unset start_if name_lvalue store_value phis_marked phi_starts phis name_lvalues instruction_marks operand_ranges instruction_ranges instruction-Operands terminal_places terminal-Operands block-Operands sheet_starts ends_before before_pass after_pass word count fixed at_most below new_number times numbered counted optional times_from numbered_from counted_from render_pushes render_visit render_step render_run render_walk walks_of after renders_of rendered reached largest_end flag flags identifier diagnostic place inner_function unused extra effect effects operand-Sections phi instruction_value instruction-Sections terminal_of terminal-Sections block-Sections sheet taken serves call tracked simulation flow_effects simulate enough accepts copied recorded sheet_ends built real_walks after_real after_renders collect_param_effects capture_mark marked create_returns instruction_effects block_relations totals over tell_block effect-Asking effects-Asking operand-Asking phi-Asking instruction-Asking terminal_of-Asking terminal-Asking block-Asking sheet-Asking count_kind counted_sheet effect_of reactive_of traits_word pushes visit step run walk_of mutate right table ours refused_so calls limits effect_table totals_right answered_so readings operand_cases digits_in digits node_line edge_line by_node node_lines edge_lines dot graphs graphs_right drawn draw drawings drawings_right outside call_for caller_cases called_so
all_right = record { table-right = tt; ours-right = tt; calls_refused = tt; limits-right = tt; effect-table-right = tt; readings-right = tt; operand_cases_right = tt; drawings-right = tt; callers_right = tt }

pub effect_rows_lem : T (same_rows effect_rows)
unfolding kind_of row_of
effect_rows_lem = tt

pub totals-right : T totals_right
unfolding over totals_right
totals-right = tt

pub graphs-right : T (graphs_right graphs)
unfolding digits_in digits node_line edge_line by_node node_lines edge_lines dot graphs graphs_right
graphs-right = tt
