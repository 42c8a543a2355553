-- A block: its phis, its instructions, what waited for it, its terminal. That it has come is noted only then: its instructions leave that alone.
use Prim.Native.Nat.{ℕ, ◌+◌, ◌≤◌, ◌<◌}
use native.Mathlib.Omega.{arith}
use mathlib.Core.Path.{◌≡◌, refl, sym, subst, ap}
use mathlib.Core.List.{List, [], ◌∷◌}
use lib.ListN.{length}
use Rattle.model.specs.Limits.{most_blocks}
use Rattle.model.specs.Lists.{each, Every, tally}
use Rattle.model.specs.Sheet.{BlockId, Place, Effect, Phi, Instruction, list_of, Terminal, Block}
use Rattle.model.specs.Totals.{block_relations}
use Rattle.model.specs.Reading.{Position}
use Rattle.model.specs.Built.{Built}
use Rattle.model.specs.Building.{phi_node, wake}
use Rattle.model.specs.Building.{instruction as instruction_step, terminal as terminal_step, block as block_step}
use Rattle.hir.specs.Words.{Part, word_at, instruction_from, terminal_from, phis_from, instructions_from, block_from}
use Rattle.hir.proofs.Widths.{Rises, listed_rises, terminal_rises, block_rises}
use Rattle.building.specs.declared.Building.{Building}
use Rattle.building.specs.Built.{Sound, Holding, ends}
use Rattle.instructions.specs.Cost.{Cost, sum, costs, kind_cost, instruction_cost, terminal_cost, Fits}
use Rattle.instructions.specs.Ranges.{InstructionInRange, TerminalInRange}
use Rattle.instructions.specs.Builds.{SpendsOn, Ready, Builds}
use Rattle.instructions.proofs.Spending.{spends_then, spends_as, fits_first, fits_second, cost_eq, tally_none}
use Rattle.instructions.proofs.Building.{ready_as, builds_as}
use Rattle.instructions.proofs.Instruction.{rises as instruction_rises}
use Rattle.dataflow.proofs.Coming.{instructions_come}
use Rattle.dataflow.specs.Cost.{phi_cost, block_cost}
use Rattle.dataflow.specs.Ranges.{PhiInRange, BlockInRange}

pub rises : Rises block_from
rises s c = omega (arith, block_rises s c)

-- ---- what its parts spend, in their order
abbrev pub one_block : Cost
one_block = record { relations = 0; mutations = 0; renders = 0; blocks = 1 }

abbrev after_instructions : Block → Cost
after_instructions k = sum one_block (terminal_cost k.terminal)

abbrev after_phis : Block → Cost
after_phis k = sum (costs instruction_cost k.instructions) (after_instructions k)

-- no block comes in the instructions
no_block : (l : List Instruction) → tally (λ (i : Instruction). tally (λ (e : Effect). 0) (list_of i)) l ≡ 0
no_block [] = refl
no_block (i ∷ l) = omega (arith, tally_none (list_of i), no_block l)

block_cost_lem : (k : Block) → block_cost k ≡ sum (costs phi_cost k.phis) (after_phis k)
unfolding phi_cost kind_cost instruction_cost terminal_cost block_cost block_relations
block_cost_lem k =
    let z = tally_none k.phis in
    cost_eq (omega arith) (omega (arith, z)) (omega (arith, z)) (omega (arith, z, no_block k.instructions))

-- ---- one part after another
module _ (s : List ℕ) (c : Position) {ws : List ℕ} {b : Building} (w : Ready (block_from s c) BlockInRange block_cost s ws b) where
  abbrev phis : Part (List Phi)
  phis = phis_from s (c + 1)

  abbrev instructions : Part (List Instruction)
  instructions = instructions_from s phis.next

  abbrev terminal : Part Terminal
  terminal = terminal_from s instructions.next

  abbrev here : Block
  here = record { number = word_at s c; phis = phis.what; instructions = instructions.what; terminal = terminal.what }

  pub number_inside : c + 1 ≤ length s
  number_inside = omega (arith, w.inside, block_rises s c)

  inside : terminal.next ≤ length s
  unfolding block_from
  inside = w.inside

  range : BlockInRange here
  unfolding block_from
  range = w.range

  fits : Fits (sum (costs phi_cost phis.what) (after_phis here)) b
  unfolding block_from
  fits = subst (λ (k : Cost). Fits k b) (block_cost_lem here) w.fits

  -- the phis can be built
  pub phis_ready : Ready phis (Every PhiInRange) (costs phi_cost) s ws b
  phis_ready = record {
    sound = w.sound;
    holding = w.holding;
    inside = omega (arith, inside, listed_rises instruction_from instruction_rises s phis.next, terminal_rises s instructions.next);
    range = range.phis;
    fits = fits_first (costs phi_cost phis.what) (after_phis here) fits;
  }

  module _ {ws₁ : List ℕ} {b₁ : Building} {d₁ : Position} (phis_built : Builds phis (each phi_node) (costs phi_cost) s ws b ws₁ b₁ d₁) where
    instructions_are : instructions ≡ instructions_from s d₁
    instructions_are = ap (instructions_from s) (sym phis_built.next)

    fits_instructions : Fits (after_phis here) b₁
    fits_instructions = fits_second (costs phi_cost phis.what) (after_phis here) fits phis_built.spends

    -- its instructions can be built
    pub instructions_ready : Ready (instructions_from s d₁) (Every InstructionInRange) (costs instruction_cost) s ws₁ b₁
    instructions_ready = ready_as instructions_are (record {
      sound = phis_built.spends.sound;
      holding = phis_built.spends.holding w.holding;
      inside = omega (arith, inside, terminal_rises s instructions.next);
      range = range.instructions;
      fits = fits_first (costs instruction_cost instructions.what) (after_instructions here) fits_instructions;
    })

    module _ {ws₂ : List ℕ} {b₂ : Building} {d₂ : Position} (built : Builds (instructions_from s d₁) (each instruction_step) (costs instruction_cost) s ws₁ b₁ ws₂ b₂ d₂) where
      instructions_built : Builds instructions (each instruction_step) (costs instruction_cost) s ws₁ b₁ ws₂ b₂ d₂
      instructions_built = builds_as instructions_are built

      terminal_is : terminal ≡ terminal_from s d₂
      terminal_is = ap (terminal_from s) (sym instructions_built.next)

      fits_end : Fits (after_instructions here) b₂
      fits_end = fits_second (costs instruction_cost instructions.what) (after_instructions here) fits_instructions instructions_built.spends

      -- it can end
      pub can_end : (Sound ws₂ b₂ × Holding s ws₂ b₂) × (b₂.come < most_blocks)
      can_end = ((built.spends.sound, built.spends.holding (phis_built.spends.holding w.holding)), omega (arith, fits_end.blocks))

      module _ (number : BlockId) (named : number ≡ word_at s c) {ws₃ : List ℕ} {b₃ : Building} (woken : SpendsOn s (ends number) one_block ws₂ b₂ ws₃ b₃) where
        -- its terminal can be built
        pub terminal_ready : Ready (terminal_from s d₂) TerminalInRange terminal_cost s ws₃ b₃
        terminal_ready = ready_as terminal_is (record {
          sound = woken.sound;
          holding = woken.holding can_end.0.1;
          inside = inside;
          range = range.terminal;
          fits = fits_second one_block (terminal_cost terminal.what) fits_end woken;
        })

        -- and with it the block is built
        pub block_builds : (returns : Place) {ws' : List ℕ} {r : Building} {d : Position} → Builds (terminal_from s d₂) (terminal_step returns) terminal_cost s ws₃ b₃ ws' r d → Builds (block_from s c) (block_step returns) block_cost s ws b ws' r d
        unfolding block_from block_step
        block_builds returns {ws'} {r} {d} h =
            let o = builds_as terminal_is h in
            let x₃ = spends_then one_block (terminal_cost terminal.what) woken o.spends in
            let x₂ = spends_then (costs instruction_cost instructions.what) (after_instructions here) instructions_built.spends x₃ in
            let x₁ = spends_then (costs phi_cost phis.what) (after_phis here) phis_built.spends x₂ in
            let x = subst (λ (i : BlockId). SpendsOn s (λ (t : Built). terminal_step returns terminal.what (ends i (each instruction_step instructions.what (each phi_node phis.what t)))) (sum (costs phi_cost phis.what) (after_phis here)) ws b ws' r) named x₁ in
            let y = spends_as (λ (t : Built). ap (λ (z : Built). terminal_step returns terminal.what (wake (word_at s c) z)) (sym (instructions_come (word_at s c) instructions.what (each phi_node phis.what t)))) x in
            record { spends = subst (λ (k : Cost). SpendsOn s (block_step returns here) k ws b ws' r) (sym (block_cost_lem here)) y; next = o.next }
