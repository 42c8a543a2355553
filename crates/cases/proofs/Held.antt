-- The rows of order 10 hold, by computing with the definitions; and "a 1,025th edge or entry" is refused, a 1,024th is not.
use lib.Dec.{T}
use mathlib.Core.Path.{◌≡◌}
use Rattle.model.specs.Sheet.{Sheet}
use Rattle.model.specs.Reading.{Position, got, refused}
use Rattle.cases.specs.Held.{holdings, held_so}
use Rattle.model.specs.Building.{instruction_effect, instruction, operand, phi_node, wake, terminal_effect, terminal, block, first_nodes, build}
use Rattle.model.specs.Call.{ended, read, applies, fits, answered, holds, admit, outcome, answer_after, workspace_after}
use Rattle.model.specs.Effects.{kind_of, row_of}
use Rattle.model.specs.Graph.{create, enter, with_edge, with_entry, change, store, relate, assign, create_from}
use Rattle.model.specs.Reading.{word, count, fixed, at_most, below, new_number, times, numbered, counted, optional, times_from, numbered_from, counted_from}
use Rattle.model.specs.Sections.{flag, flags, identifier, diagnostic, place, inner_function, unused, extra, effect, effects, operand as operand-Sections, phi, instruction_value, instruction as instruction-Sections, terminal_of, terminal as terminal-Sections, block as block-Sections, sheet}
use Rattle.model.specs.Totals.{instruction_effects, block_relations, totals, over}
use Rattle.model.specs.Asking.{tell_block, effect as effect-Asking, effects as effects-Asking, operand as operand-Asking, phi as phi-Asking, instruction as instruction-Asking, terminal_of as terminal_of-Asking, terminal as terminal-Asking, block as block-Asking, sheet as sheet-Asking}
use Rattle.model.specs.Counting.{count_kind, counted_sheet}
use Rattle.model.specs.Traits.{effect_of, reactive_of, traits_word}

pub holdings-right : T (held_so holdings)
unfolding holdings held_so instruction_effect instruction operand phi_node wake terminal_effect terminal block first_nodes build ended read applies fits answered holds admit outcome answer_after workspace_after kind_of row_of create enter with_edge with_entry change store relate assign create_from word count fixed at_most below new_number times numbered counted optional times_from numbered_from counted_from flag flags identifier diagnostic place inner_function unused extra effect effects operand-Sections phi instruction_value instruction-Sections terminal_of terminal-Sections block-Sections sheet instruction_effects block_relations totals over tell_block effect-Asking effects-Asking operand-Asking phi-Asking instruction-Asking terminal_of-Asking terminal-Asking block-Asking sheet-Asking count_kind counted_sheet effect_of reactive_of traits_word
holdings-right = tt

module _ (s : Sheet) (c : Position) where
  pub last_held : (build s).held ≡ 1024 → holds (got s c) ≡ got s c
  unfolding holds
  last_held e = rw e

  pub first_refused : (build s).held ≡ 1025 → holds (got s c) ≡ refused 8
  unfolding holds
  first_refused e = rw e
