-- The rows of refusal 8 and its neighbours hold, each by computing with the definitions.
use lib.Dec.{T}
use mathlib.Core.Bool.{Bool, true, false, ◌&&◌}
use mathlib.Core.List.{List, [], ◌∷◌}
use lib.ListN.{take, drop}
use Rattle.model.specs.Refusals.{Call, refused_so}
use Rattle.cases.specs.Totals.{totals as calls}
use Rattle.model.specs.Answer.{ranges_before, ranges_after, summary, diagnosed, answer, middle_words, operand_words, answer_words}
use Rattle.model.specs.Building.{instruction_effect, instruction, operand, phi_node, wake, terminal_effect, terminal, block, first_nodes, build}
use Rattle.model.specs.Call.{ended, read, applies, fits, answered, holds, admit, outcome, answer_after, workspace_after}
use Rattle.model.specs.Effects.{kind_of, row_of}
use Rattle.model.specs.Graph.{create, enter, with_edge, with_entry, change, store, relate, assign, create_from}
use Rattle.model.specs.Marks.{with_effect, capture_or_read, flow_marks, marks_of, operand_effects, mark_of, with_mark}
use Rattle.model.specs.Operands.{set_unset, start_if, name_lvalue, store_value, phis_marked, phi_starts, phis, name_lvalues, instruction_marks, operand_ranges, instruction_ranges, instruction as instruction-Operands, terminal_places, terminal as terminal-Operands, block as block-Operands, sheet_starts, ends_before, before_pass, after_pass}
use Rattle.model.specs.Reading.{word, count, fixed, at_most, below, new_number, times, numbered, counted, optional, times_from, numbered_from, counted_from}
use Rattle.model.specs.Renders.{render_pushes, render_visit, render_step, render_run, render_walk}
use Rattle.model.specs.Runs.{walks_of, after, renders_of, rendered, reached, largest_end}
use Rattle.model.specs.Sections.{flag, flags, identifier, diagnostic, place, inner_function, unused, extra, effect, effects, operand as operand-Sections, phi, instruction_value, instruction as instruction-Sections, terminal_of, terminal as terminal-Sections, block as block-Sections, sheet}
use Rattle.model.specs.Service.{taken, serves, call}
use Rattle.model.specs.Simulated.{tracked, simulation, flow_effects, simulate}
use Rattle.model.specs.Size.{enough}
use Rattle.model.specs.State.{accepts}
use Rattle.model.specs.Summary.{copied, recorded, sheet_ends, built, real_walks, after_real, after_renders, collect_param_effects, capture_mark, marked, create_returns}
use Rattle.model.specs.Totals.{instruction_effects, block_relations, totals, over}
use Rattle.model.specs.Asking.{tell_block, effect as effect-Asking, effects as effects-Asking, operand as operand-Asking, phi as phi-Asking, instruction as instruction-Asking, terminal_of as terminal_of-Asking, terminal as terminal-Asking, block as block-Asking, sheet as sheet-Asking}
use Rattle.model.specs.Counting.{count_kind, counted_sheet}
use Rattle.model.specs.Traits.{effect_of, reactive_of, traits_word}
use Rattle.model.specs.Walks.{pushes, visit, step, run, walk_of, mutate}

-- a list of calls is answered so if its first one is and the others are
both : (a b : Bool) → T (a && true) → T b → T (a && b)
both true b h k = k
both false b h k = h

then_others : (l : List Call) → T (refused_so (take 1 l)) → T (refused_so (drop 1 l)) → T (refused_so l)
unfolding refused_so
then_others [] h k = tt
then_others (c ∷ l) h k = both _ (refused_so l) h k

-- what is computed with: a proof that unfolds this name unfolds all of it
abbrev FirstHolds : List Call → Type 0
unfolding ranges_before ranges_after summary diagnosed answer middle_words operand_words answer_words instruction_effect instruction operand phi_node wake terminal_effect terminal block first_nodes build ended read applies fits answered holds admit outcome answer_after workspace_after kind_of row_of create enter with_edge with_entry change store relate assign create_from with_effect capture_or_read flow_marks marks_of operand_effects mark_of with_mark set_unset start_if name_lvalue store_value phis_marked phi_starts phis name_lvalues instruction_marks operand_ranges instruction_ranges instruction-Operands terminal_places terminal-Operands block-Operands sheet_starts ends_before before_pass after_pass word count fixed at_most below new_number times numbered counted optional times_from numbered_from counted_from render_pushes render_visit render_step render_run render_walk walks_of after renders_of rendered reached largest_end flag flags identifier diagnostic place inner_function unused extra effect effects operand-Sections phi instruction_value instruction-Sections terminal_of terminal-Sections block-Sections sheet taken serves call tracked simulation flow_effects simulate enough accepts copied recorded sheet_ends built real_walks after_real after_renders collect_param_effects capture_mark marked create_returns instruction_effects block_relations totals over tell_block effect-Asking effects-Asking operand-Asking phi-Asking instruction-Asking terminal_of-Asking terminal-Asking block-Asking sheet-Asking count_kind counted_sheet effect_of reactive_of traits_word pushes visit step run walk_of mutate refused_so calls
FirstHolds l = T (refused_so (take 1 l))

abbrev from_2 : List Call
from_2 = drop 1 calls

abbrev from_3 : List Call
from_3 = drop 1 from_2

abbrev from_4 : List Call
from_4 = drop 1 from_3

row_1 : T (refused_so (take 1 calls))
unfolding FirstHolds
row_1 = tt

row_2 : T (refused_so (take 1 from_2))
unfolding FirstHolds
row_2 = tt

row_3 : T (refused_so (take 1 from_3))
unfolding FirstHolds
row_3 = tt

row_4 : T (refused_so (take 1 from_4))
unfolding FirstHolds
row_4 = tt

no_more : T (refused_so (drop 1 from_4))
unfolding refused_so calls
no_more = tt

pub totals_refused : T (refused_so calls)
totals_refused = then_others calls row_1 (then_others from_2 row_2 (then_others from_3 row_3 (then_others from_4 row_4 no_more)))
