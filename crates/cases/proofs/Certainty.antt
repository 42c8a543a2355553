-- The rows of order 8 hold, by computing with the definitions. Two of the sheets meet its conditions, and without either condition it would fail.
use Prim.Native.Nat.{ℕ}
use lib.Dec.{T}
use native.Mathlib.Omega.{arith}
use mathlib.Core.Path.{◌≡◌, refl, subst}
use mathlib.Core.Bool.{true, false}
use mathlib.Core.List.Memᴰ
use mathlib.Core.List.{List, []}
use mathlib.Core.Option.{none}
use lib.ListN.{get_or}
use Rattle.model.specs.Bench.{right}
use Rattle.model.specs.Answer.{ranges_before, ranges_after, summary, diagnosed, answer, middle_words, operand_words, answer_words}
use Rattle.model.specs.Building.{instruction_effect, instruction, operand, phi_node, wake, terminal_effect, terminal, block, first_nodes, build}
use Rattle.model.specs.Call.{ended, read, applies, fits, answered, admit, outcome, answer_after, workspace_after}
use Rattle.model.specs.Effects.{kind_of, row_of}
use Rattle.model.specs.Graph.{alias, Entry, create, enter, with_edge, with_entry, change, store, relate, assign, create_from}
use Rattle.model.specs.Marks.{with_effect, capture_or_read, flow_marks, marks_of, operand_effects, mark_of, with_mark}
use Rattle.model.specs.Operands.{set_unset, start_if, name_lvalue, store_value, phis_marked, phi_starts, phis, name_lvalues, instruction_marks, operand_ranges, instruction_ranges, instruction as instruction-Operands, terminal_places, terminal as terminal-Operands, block as block-Operands, sheet_starts, ends_before, before_pass, after_pass}
use Rattle.model.specs.Reading.{word, count, fixed, at_most, below, new_number, times, numbered, counted, optional, times_from, numbered_from, counted_from}
use Rattle.model.specs.Renders.{render_pushes, render_visit, render_step, render_run, render_walk}
use Rattle.model.specs.Runs.{walks_of, after, renders_of, rendered, reached, largest_end}
use Rattle.model.specs.Sections.{flag, flags, identifier, diagnostic, place, inner_function, unused, extra, effect, effects, operand as operand-Sections, phi, instruction_value, instruction as instruction-Sections, terminal_of, terminal as terminal-Sections, block as block-Sections, sheet}
use Rattle.model.specs.Service.{taken, serves, call}
use Rattle.model.specs.Simulated.{tracked, simulation, flow_effects, simulate}
use Rattle.model.specs.Size.{enough}
use Rattle.model.specs.State.{no_record, accepts}
use Rattle.model.specs.Summary.{copied, recorded, sheet_ends, built, real_walks, after_real, after_renders, collect_param_effects, capture_mark, marked, create_returns}
use Rattle.model.specs.Totals.{instruction_effects, block_relations, totals, over}
use Rattle.model.specs.Asking.{tell_block, effect as effect-Asking, effects as effects-Asking, operand as operand-Asking, phi as phi-Asking, instruction as instruction-Asking, terminal_of as terminal_of-Asking, terminal as terminal-Asking, block as block-Asking, sheet as sheet-Asking}
use Rattle.model.specs.Counting.{count_kind, counted_sheet}
use Rattle.model.specs.Traits.{effect_of, reactive_of, traits_word}
use Rattle.model.specs.Walks.{backwards, pushes, visit, step, run, walk_of, mutate}
use Rattle.model.specs.Sheet.{no_place, EffectKind, MutateTransitive, MutateTransitiveConditionally, Sheet}
use Rattle.model.specs.Reading.{Result, got, refused}
use Rattle.model.specs.Certainty.{MutatedDefinitely, IsReached, Reported, Certainty}
use Rattle.model.specs.Chain.{over_forward, over_created, over_alias, over_capture, here, then}
use Rattle.model.specs.Mutation.{definite}
use Rattle.model.proofs.Levels.{info_level}
use Rattle.model.proofs.Reports.{reported_recorded}
use Rattle.model.proofs.Certainty.{certain}
use Rattle.cases.specs.Certainty.{through_captures, alias_too_late, certainties, Meets, with_phi, with_local, Misses}

pub certainties-right : T (right certainties)
unfolding ranges_before ranges_after summary diagnosed answer middle_words operand_words answer_words instruction_effect instruction operand phi_node wake terminal_effect terminal block first_nodes build ended read applies fits answered admit outcome answer_after workspace_after kind_of row_of create enter with_edge with_entry change store relate assign create_from with_effect capture_or_read flow_marks marks_of operand_effects mark_of with_mark set_unset start_if name_lvalue store_value phis_marked phi_starts phis name_lvalues instruction_marks operand_ranges instruction_ranges instruction-Operands terminal_places terminal-Operands block-Operands sheet_starts ends_before before_pass after_pass word count fixed at_most below new_number times numbered counted optional times_from numbered_from counted_from render_pushes render_visit render_step render_run render_walk walks_of after renders_of rendered reached largest_end flag flags identifier diagnostic place inner_function unused extra effect effects operand-Sections phi instruction_value instruction-Sections terminal_of terminal-Sections block-Sections sheet taken serves call tracked simulation flow_effects simulate enough accepts copied recorded sheet_ends built real_walks after_real after_renders collect_param_effects capture_mark marked create_returns instruction_effects block_relations totals over tell_block effect-Asking effects-Asking operand-Asking phi-Asking instruction-Asking terminal_of-Asking terminal-Asking block-Asking sheet-Asking count_kind counted_sheet effect_of reactive_of traits_word pushes visit step run walk_of mutate right certainties
certainties-right = tt

-- what was read
abbrev tree_of : Result Sheet → Sheet
tree_of (got t c) = t
tree_of (refused k) = record { flags = record { function_expression = false; validations = false }; identifiers = []; functions = []; params = []; context = []; returns = no_place; blocks = [] }

pub captures_meet : Meets through_captures MutateTransitive 0
unfolding ranges_before ranges_after summary diagnosed answer middle_words operand_words answer_words instruction_effect instruction operand phi_node wake terminal_effect terminal block first_nodes build ended read applies fits answered admit outcome answer_after workspace_after kind_of row_of create enter with_edge with_entry change store relate assign create_from with_effect capture_or_read flow_marks marks_of operand_effects mark_of with_mark set_unset start_if name_lvalue store_value phis_marked phi_starts phis name_lvalues instruction_marks operand_ranges instruction_ranges instruction-Operands terminal_places terminal-Operands block-Operands sheet_starts ends_before before_pass after_pass word count fixed at_most below new_number times numbered counted optional times_from numbered_from counted_from render_pushes render_visit render_step render_run render_walk walks_of after renders_of rendered reached largest_end flag flags identifier diagnostic place inner_function unused extra effect effects operand-Sections phi instruction_value instruction-Sections terminal_of terminal-Sections block-Sections sheet taken serves call tracked simulation flow_effects simulate enough accepts copied recorded sheet_ends built real_walks after_real after_renders collect_param_effects capture_mark marked create_returns instruction_effects block_relations totals over tell_block effect-Asking effects-Asking operand-Asking phi-Asking instruction-Asking terminal_of-Asking terminal-Asking block-Asking sheet-Asking count_kind counted_sheet effect_of reactive_of traits_word pushes visit step run walk_of mutate
captures_meet = record {
  tree = tree_of (read through_captures);
  accepted = (_, refl);
  no_phi = (refl, tt);
  transitive = (refl, (refl, (refl, (refl, (refl, (refl, tt))))));
  param = no_place;
  listed = Memᴰ.head refl;
  named = refl;
  reported = (_, Memᴰ.head refl, refl, refl);
}

pub late_meets : Meets alias_too_late MutateTransitiveConditionally 0
unfolding ranges_before ranges_after summary diagnosed answer middle_words operand_words answer_words instruction_effect instruction operand phi_node wake terminal_effect terminal block first_nodes build ended read applies fits answered admit outcome answer_after workspace_after kind_of row_of create enter with_edge with_entry change store relate assign create_from with_effect capture_or_read flow_marks marks_of operand_effects mark_of with_mark set_unset start_if name_lvalue store_value phis_marked phi_starts phis name_lvalues instruction_marks operand_ranges instruction_ranges instruction-Operands terminal_places terminal-Operands block-Operands sheet_starts ends_before before_pass after_pass word count fixed at_most below new_number times numbered counted optional times_from numbered_from counted_from render_pushes render_visit render_step render_run render_walk walks_of after renders_of rendered reached largest_end flag flags identifier diagnostic place inner_function unused extra effect effects operand-Sections phi instruction_value instruction-Sections terminal_of terminal-Sections block-Sections sheet taken serves call tracked simulation flow_effects simulate enough accepts copied recorded sheet_ends built real_walks after_real after_renders collect_param_effects capture_mark marked create_returns instruction_effects block_relations totals over tell_block effect-Asking effects-Asking operand-Asking phi-Asking instruction-Asking terminal_of-Asking terminal-Asking block-Asking sheet-Asking count_kind counted_sheet effect_of reactive_of traits_word pushes visit step run walk_of mutate
late_meets = record {
  tree = tree_of (read alias_too_late);
  accepted = (_, refl);
  no_phi = (refl, tt);
  transitive = (refl, (refl, (refl, (refl, (refl, (refl, (refl, (refl, (refl, tt)))))))));
  param = no_place;
  listed = Memᴰ.head refl;
  named = refl;
  reported = (_, Memᴰ.head refl, refl, refl);
}

-- what the order says of a sheet that meets its conditions
says_of : {ws : List ℕ} {k : EffectKind} {x : ℕ} (w : Meets ws k x) → Certainty w.tree x
says_of {ws} w = subst (Certainty w.tree) w.named (certain ws w.tree w.accepted w.no_phi w.transitive w.param (Memᴰ.append_right w.tree.context w.listed))

-- a Definite mutation leads to parameter 0 of the one without a maybe-alias step
pub captures_definite : MutatedDefinitely captures_meet.tree 0
captures_definite = (says_of captures_meet).definitely.0 captures_meet.reported

-- none does to that of the other, which is reached
pub late_reached : IsReached late_meets.tree 0 × ¬ MutatedDefinitely late_meets.tree 0
late_reached = (says_of late_meets).conditionally.0 late_meets.reported

-- neither condition can be left out
abbrev entry : ℕ → ℕ → Entry
entry x i = record { origin = x; index = i }

-- no transitive record, no report by kind 3
unrecorded : (s : Sheet) (x : ℕ) → info_level (get_or (after_renders s).records x no_record).transitive ≡ 0 → ¬ Reported MutateTransitive s x
unrecorded s x h r = omega (arith, reported_recorded s true definite x r)

pub phi_misses : Misses with_phi 1
unfolding ranges_before ranges_after summary diagnosed answer middle_words operand_words answer_words instruction_effect instruction operand phi_node wake terminal_effect terminal block first_nodes build ended read applies fits answered admit outcome answer_after workspace_after kind_of row_of create enter with_edge with_entry change store relate assign create_from with_effect capture_or_read flow_marks marks_of operand_effects mark_of with_mark set_unset start_if name_lvalue store_value phis_marked phi_starts phis name_lvalues instruction_marks operand_ranges instruction_ranges instruction-Operands terminal_places terminal-Operands block-Operands sheet_starts ends_before before_pass after_pass word count fixed at_most below new_number times numbered counted optional times_from numbered_from counted_from render_pushes render_visit render_step render_run render_walk walks_of after renders_of rendered reached largest_end flag flags identifier diagnostic place inner_function unused extra effect effects operand-Sections phi instruction_value instruction-Sections terminal_of terminal-Sections block-Sections sheet taken serves call tracked simulation flow_effects simulate enough accepts copied recorded sheet_ends built real_walks after_real after_renders collect_param_effects capture_mark marked create_returns instruction_effects block_relations totals over tell_block effect-Asking effects-Asking operand-Asking phi-Asking instruction-Asking terminal_of-Asking terminal-Asking block-Asking sheet-Asking count_kind counted_sheet effect_of reactive_of traits_word pushes visit step run walk_of mutate
phi_misses = record {
  tree = tree_of (read with_phi);
  accepted = (_, refl);
  definitely = (
    record { index = 4; order = 1; kind = definite; transitive = true; identifier = 0; span = 0; reason = none },
    Memᴰ.head refl,
    refl,
    (
      record { identifier = 1; direction = backwards; transitive = true; kind = definite },
      refl,
      then _ _ (then _ _ (then _ _ (here _ refl) refl (over_forward (record { into = 2; index = 0; kind = alias }) (Memᴰ.head refl)) refl)
          refl (over_alias (entry 3 3) refl (Memᴰ.tail (Memᴰ.head refl)) (omega arith)) refl)
          refl (over_alias (entry 1 2) refl (Memᴰ.tail (Memᴰ.head refl)) (omega arith)) refl,
      (((tt, λ e. let z : ◌≡◌ {A = ℕ} 0 1 = cc in omega arith), tt), tt),
    ),
  );
  unreported = unrecorded (tree_of (read with_phi)) 1 refl;
}

pub local_misses : Misses with_local 1
unfolding ranges_before ranges_after summary diagnosed answer middle_words operand_words answer_words instruction_effect instruction operand phi_node wake terminal_effect terminal block first_nodes build ended read applies fits answered admit outcome answer_after workspace_after kind_of row_of create enter with_edge with_entry change store relate assign create_from with_effect capture_or_read flow_marks marks_of operand_effects mark_of with_mark set_unset start_if name_lvalue store_value phis_marked phi_starts phis name_lvalues instruction_marks operand_ranges instruction_ranges instruction-Operands terminal_places terminal-Operands block-Operands sheet_starts ends_before before_pass after_pass word count fixed at_most below new_number times numbered counted optional times_from numbered_from counted_from render_pushes render_visit render_step render_run render_walk walks_of after renders_of rendered reached largest_end flag flags identifier diagnostic place inner_function unused extra effect effects operand-Sections phi instruction_value instruction-Sections terminal_of terminal-Sections block-Sections sheet taken serves call tracked simulation flow_effects simulate enough accepts copied recorded sheet_ends built real_walks after_real after_renders collect_param_effects capture_mark marked create_returns instruction_effects block_relations totals over tell_block effect-Asking effects-Asking operand-Asking phi-Asking instruction-Asking terminal_of-Asking terminal-Asking block-Asking sheet-Asking count_kind counted_sheet effect_of reactive_of traits_word pushes visit step run walk_of mutate
local_misses = record {
  tree = tree_of (read with_local);
  accepted = (_, refl);
  definitely = (
    record { index = 2; order = 1; kind = definite; transitive = false; identifier = 0; span = 0; reason = none },
    Memᴰ.head refl,
    refl,
    (
      record { identifier = 1; direction = backwards; transitive = true; kind = definite },
      refl,
      then _ _ (then _ _ (here _ refl) refl (over_created (entry 0 0) (Memᴰ.head refl) (omega arith)) refl)
          refl (over_capture (entry 1 1) refl (Memᴰ.head refl) (omega arith)) refl,
      ((tt, tt), tt),
    ),
  );
  unreported = unrecorded (tree_of (read with_local)) 1 refl;
}
