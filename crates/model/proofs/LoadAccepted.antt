-- Every class load within its bounds is read as its sheet and accepted, and its answer is short.
use Prim.Native.Nat.{ℕ, ◌+◌, ◌≤◌, ◌<◌}
use native.Mathlib.Omega.{arith}
use mathlib.Core.Path.{◌≡◌, refl, sym, ap, subst, ◌∙◌}
use mathlib.Core.Bool.{Bool, true, false, ◌||◌, ◌&&◌}
use mathlib.Core.List.{List, [], ◌∷◌, append-nil}
use lib.ListN.{length, replicate, length-append, length-replicate}
use lib.Dec.{leb}
use borrow.Author.Tests.{leb-true}
use Rattle.model.specs.Limits.{least_workspace, most_sheet, most_relations, most_identifiers, least_load_identifiers, least_load_effects, most_load_effects}
use Rattle.model.specs.Lists.{gather, each, tally, one_if, Every}
use Rattle.model.specs.Sheet.{Diagnostic, Place, Effect, Instruction, list_of, Other, Block, Sheet}
use Rattle.model.specs.Effects.{Role, row_of, is_relation, is_mutation, is_render, is_diagnosis, is_apply, any_apply}
use Rattle.model.specs.Totals.{instruction_effects, with_role, block_relations, totals, over}
use Rattle.model.specs.Building.{build}
use Rattle.model.specs.Summary.{copied, recorded}
use Rattle.model.specs.Simulated.{simulate}
use Rattle.model.specs.Answer.{function_errors, diagnosed, answer, answer_words}
use Rattle.model.specs.Call.{accepted, applies, outcome}
use Rattle.model.specs.Encoder.{instruction_words, block_words, sheet_words, IdentifierFits, InstructionFits, BlockFits, SheetFits}
use Rattle.model.specs.Operands.{Pass, first_order, phis_marked, phis, instruction, terminal_places, terminal, block, before_pass, after_pass}
use Rattle.model.specs.Load.{draw_effect, load_instruction, load_instructions, load_block, load_identifier, class_load, loadable}
use Rattle.model.specs.LoadAccepted.{load_instruction_width, load_length, most_load_answer, LoadAccepted}
use Rattle.model.proofs.Either.{and_left, and_right}
use Rattle.model.proofs.Everywhere.{every_mem, every_replicate, every_gather}
use Rattle.model.proofs.Gathers.{gather_none}
use Rattle.model.proofs.Tallies.{tally_each, role_most, keep_none}
use Rattle.model.proofs.Limited.{few_not-over}
use Rattle.model.proofs.Held.{few_held}
use Rattle.model.proofs.CountedSheet.{counted_within}
use Rattle.model.proofs.AllRefusals.{then_accepted}
use Rattle.model.proofs.Callers.{first_11, inside_outcome}
use Rattle.model.proofs.Encoder.{reads_back, accepts-words}
use Rattle.model.proofs.Lengths.{section_each, sheet-words, block_words_lem, answer-words, answer-effects, answer_walks}
use Rattle.model.proofs.SecondProperty.{answer_ranges}
use Rattle.model.proofs.PassLengths.{place_count, instructions_added}
use Rattle.model.proofs.Drawn.{effect-drawn, drawn-fits, drawn-not-copied, drawn-not_apply, NotCopied, instructions_length, each_instruction}

-- ---- the bounds
-- "n identifiers (2 to 512) and m effects (1 to 512)"
pub record Loadable (n m : ℕ) : Type 0 where
  pub some_identifiers : least_load_identifiers ≤ n
  pub identifiers : n ≤ most_identifiers
  pub some_effects : least_load_effects ≤ m
  pub effects : m ≤ most_load_effects

pub load_bounds : (n m : ℕ) → loadable n m ≡ true → Loadable n m
unfolding loadable
load_bounds n m h =
    let ids : Bool = leb least_load_identifiers n && leb n most_identifiers in
    let effects : Bool = leb least_load_effects m && leb m most_load_effects in
    let i : ids ≡ true = and_left ids effects h in
    let e : effects ≡ true = and_right ids effects h in
    record {
      some_identifiers = leb-true least_load_identifiers n (and_left (leb least_load_identifiers n) (leb n most_identifiers) i);
      identifiers = leb-true n most_identifiers (and_right (leb least_load_identifiers n) (leb n most_identifiers) i);
      some_effects = leb-true least_load_effects m (and_left (leb least_load_effects m) (leb m most_load_effects) e);
      effects = leb-true m most_load_effects (and_right (leb least_load_effects m) (leb m most_load_effects) e);
    }

abbrev NotApply : Effect → Type 0
NotApply e = is_apply e.kind ≡ false

module _ (seed n m : ℕ) (h : Loadable n m) where
  some : 0 < n
  some = omega (arith, h.some_identifiers)

  abbrev instructions : List Instruction
  instructions = load_instructions n 1 m seed

  -- ---- the sheet
  instruction-fits : (o state : ℕ) → o ≤ m → InstructionFits n 0 (load_instruction o (draw_effect n state).effect)
  instruction-fits o state k = record {
    order = omega (arith, k, h.effects);
    lvalue = (some, omega arith);
    value_lvalues = (omega arith, tt);
    operands = (omega arith, tt);
    value = tt;
    effects = (omega arith, (drawn-fits n (draw_effect n state).effect (effect-drawn n some state), tt));
  }

  block-fits : BlockFits n 0 (load_block seed n m)
  block-fits = record {
    number = omega arith;
    phi_count = omega arith;
    phis = tt;
    instruction_count = omega (arith, instructions_length n 1 m seed, h.effects);
    instructions = each_instruction n m (InstructionFits n 0) instruction-fits m 1 seed (omega arith);
    terminal = (omega (arith, h.effects), (omega arith, tt));
  }

  pub load_fits : SheetFits (class_load seed n m)
  unfolding class_load
  load_fits =
      let e : length (replicate n load_identifier) ≡ n = length-replicate n load_identifier in
      record {
        identifier_count = omega (arith, e, h.identifiers);
        identifiers = every_replicate IdentifierFits n load_identifier (omega arith, omega arith);
        function_count = omega arith;
        functions = tt;
        param_count = omega arith;
        params = ((omega (arith, e, h.some_identifiers), omega arith), tt);
        context_count = omega arith;
        context = tt;
        returns = (omega (arith, e, h.some_identifiers), omega arith);
        block_count = omega arith;
        blocks = (subst (λ (k : ℕ). BlockFits k 0 (load_block seed n m)) (sym e) block-fits, tt);
        numbers = (refl, tt);
      }

  -- ---- its length
  instruction-words : Every (λ (i : Instruction). length (instruction_words i) ≡ load_instruction_width) instructions
  instruction-words = each_instruction n m (λ (i : Instruction). length (instruction_words i) ≡ load_instruction_width) (λ o state k. refl) m 1 seed (omega arith)

  pub load-length : length (sheet_words (class_load seed n m)) ≡ load_length n m
  unfolding class_load
  load-length =
      omega (
        arith,
        sheet-words (class_load seed n m),
        length-replicate n load_identifier,
        length-append (block_words (load_block seed n m)) [],
        block_words_lem (load_block seed n m),
        section_each instruction_words load_instruction_width instructions instruction-words,
        instructions_length n 1 m seed,
      )

  -- ---- its totals
  one-effect : Every (λ (i : Instruction). length (list_of i) ≤ 1) instructions
  one-effect = each_instruction n m (λ (i : Instruction). length (list_of i) ≤ 1) (λ o state k. omega arith) m 1 seed (omega arith)

  with_role_lem : (f : Role → Bool) → with_role f instructions ≤ m
  with_role_lem f = omega (arith, role_most f 1 instructions one-effect, instructions_length n 1 m seed)

  not-copied : (state : ℕ) → NotCopied (draw_effect n state).effect
  not-copied state = drawn-not-copied n (draw_effect n state).effect (effect-drawn n some state)

  no_renders : with_role is_render instructions ≡ 0
  no_renders =
      let each = each_instruction n m (λ (i : Instruction). tally renders (list_of i) ≡ 0) none m 1 seed (omega arith) in
      omega (arith, tally_each (λ (i : Instruction). tally renders (list_of i)) 0 instructions each)
    where
      renders : Effect → ℕ
      renders e = one_if (is_render (row_of e.kind).role)

      none : (o state : ℕ) → o ≤ m → renders (draw_effect n state).effect + 0 ≡ 0
      none o state k = rw (not-copied state).1

  few_mutations : (totals (class_load seed n m)).mutations ≤ m
  unfolding totals class_load
  few_mutations = omega (arith, with_role_lem is_mutation)

  few_relations : (totals (class_load seed n m)).relations ≤ m
  unfolding totals block_relations class_load
  few_relations = omega (arith, with_role_lem is_relation)

  load-not-over : over (totals (class_load seed n m)) ≡ false
  unfolding totals block_relations class_load
  load-not-over =
      few_not-over (totals (class_load seed n m)) (omega (arith, few_mutations, h.effects)) (omega (arith, no_renders))

  -- no more is held than it has effects
  load_held : (build (class_load seed n m)).held ≤ most_relations
  load_held = omega (arith, few_held (class_load seed n m), few_relations, h.effects)

  load_short : length (sheet_words (class_load seed n m)) ≤ most_sheet
  load_short = omega (arith, load-length, h.identifiers, h.effects)

  -- ---- its answer
  none_copied : Every NotCopied (instruction_effects (class_load seed n m))
  unfolding instruction_effects class_load
  none_copied =
      let each = each_instruction n m (λ (i : Instruction). Every NotCopied (list_of i)) (λ o state k. (not-copied state, tt)) m 1 seed (omega arith) in
      every_gather (λ (b : Block). gather list_of b.instructions) NotCopied (load_block seed n m ∷ [])
      (every_gather list_of NotCopied instructions each, tt)

  nothing_copied : copied (class_load seed n m) ≡ []
  unfolding copied
  nothing_copied =
      let effects : List Effect = instruction_effects (class_load seed n m) in
      keep_none (λ (e : Effect). is_diagnosis (row_of e.kind).role || is_render (row_of e.kind).role) effects (every_mem NotCopied _ effects (λ e i r. rw (r.0, r.1)) none_copied)

  nothing-diagnosed : diagnosed (class_load seed n m) ≡ []
  unfolding diagnosed recorded class_load
  nothing-diagnosed =
      let effects : List Effect = instruction_effects (class_load seed n m) in
      rw (keep_none (λ (e : Effect). is_diagnosis (row_of e.kind).role) effects (every_mem NotCopied _ effects (λ e i r. r.0) none_copied))
      (gather_none (function_errors []) (λ k. refl) (simulate (class_load seed n m)).state.handed)

  -- ---- the pass over operands
  one_place_lem : tally place_count instructions ≡ m
  one_place_lem = omega (arith, tally_each place_count 1 instructions (each_instruction n m (λ (i : Instruction). place_count i ≡ 1) (λ o state k. refl) m 1 seed (omega arith)), instructions_length n 1 m seed)

  abbrev passed : Pass
  passed = after_pass (class_load seed n m)

  load_places : (length passed.instructions ≡ m) × ((passed.phis ≡ []) × ((passed.terminals ≡ []) × (length passed.contexts ≡ 0)))
  unfolding after_pass before_pass class_load block phis phis_marked terminal terminal_places
  load_places =
      let before : Pass = phis (first_order instructions (Other (m + 1) [])) [] (before_pass (class_load seed n m)) in
      let a = instructions_added [] instructions before in
      (omega (arith, a.instructions, one_place_lem), (a.phis, (append-nil (each (instruction []) instructions before).terminals ∙ a.terminals, a.contexts)))

  no_inner : (cs : List (List Place)) → length cs ≡ 0 → length (gather (λ (l : List Place). l) cs) ≡ 0
  no_inner [] e = refl
  no_inner (c ∷ cs) e = absurd (omega (arith, e))

  pub load-answer : length (answer_words (answer (class_load seed n m))) ≤ most_load_answer n m
  unfolding answer class_load
  load-answer =
      let s : Sheet = class_load seed n m in
      omega (
        arith,
        answer-words (answer s),
        answer_ranges s,
        length-replicate n load_identifier,
        ap (λ (l : List Diagnostic). length l) nothing-diagnosed,
        answer-effects s,
        ap (λ (l : List Effect). length l) nothing_copied,
        answer_walks s,
        few_mutations,
        load_places.0,
        ap (λ (l : List Place). length l) load_places.1.0,
        ap (λ (l : List Place). length l) load_places.1.1.0,
        no_inner passed.contexts load_places.1.1.1,
      )

  -- no Apply
  no_apply : applies (class_load seed n m) ≡ false
  unfolding applies instruction_effects class_load
  no_apply =
      let each = each_instruction n m (λ (i : Instruction). Every NotApply (list_of i)) (λ o state k. (drawn-not_apply n (draw_effect n state).effect (effect-drawn n some state), tt)) m 1 seed (omega arith) in
      none (instruction_effects (class_load seed n m))
      (every_gather (λ (b : Block). gather list_of b.instructions) NotApply (load_block seed n m ∷ [])
      (every_gather list_of NotApply instructions each, tt))
    where
      none : (l : List Effect) → Every NotApply l → any_apply l ≡ false
      none [] k = refl
      none (e ∷ l) k = rw (k.0, none l k.1)

  -- ---- the calls
  call_accepted : (workspace room : ℕ) → least_workspace ≤ workspace → length (answer_words (answer (class_load seed n m))) ≤ room
      → outcome (sheet_words (class_load seed n m)) workspace room ≡ accepted (answer_words (answer (class_load seed n m)))
  call_accepted workspace room w r =
      let s : Sheet = class_load seed n m in
      let ws : List ℕ = sheet_words s in
      then_accepted ws workspace room w load_short s (length ws) (counted_within ws 0 s (length ws) (reads_back s load_fits) load-not-over) (omega arith) load_held no_apply r

  within_bounds : LoadAccepted seed n m
  within_bounds = record {
    long = load-length;
    short = load-answer;
    read = accepts-words (class_load seed n m) load_fits load_short load-not-over;
    accepts = call_accepted;
    suffices = λ workspace room w r. call_accepted workspace room w (omega (arith, load-answer, r, h.identifiers, h.effects));
    for_caller = λ cs i workspace room k w r. inside_outcome cs i (sheet_words (class_load seed n m)) workspace room k ∙ call_accepted workspace room w r;
    for_none = λ cs i workspace room k. ap (λ t. t.outcome) (first_11 cs i (sheet_words (class_load seed n m)) workspace room k);
  }

-- the claim of order 2
pub load_accepted : (seed n m : ℕ) → loadable n m ≡ true → LoadAccepted seed n m
load_accepted seed n m h = within_bounds seed n m (load_bounds n m h)
