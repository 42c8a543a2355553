-- The words of a phi and of a block that were read are in their ranges.
use Prim.Native.Nat.{ℕ, ◌≤◌}
use mathlib.Core.List.{[]}
use Rattle.model.specs.Limits.{most_identifiers, most_functions, most_count}
use Rattle.model.specs.Lists.{Every}
use Rattle.model.specs.Sheet.{BlockId}
use Rattle.model.specs.Ranges.{PlaceBelow}
use Rattle.model.specs.Reading.{count, numbered, counted}
use Rattle.model.specs.Sections.{place, operand, phi, instruction, terminal, block}
use Rattle.model.proofs.ReadLaws.{Reads, pure_reads, bind_reads, numbered_reads, counted_reads, then_reads}
use Rattle.instructions.specs.Ranges.{InstructionInRange, TerminalInRange}
use Rattle.instructions.proofs.Ranges.{place_known, instruction_known, terminal_known}
use Rattle.dataflow.specs.Ranges.{OperandInRange, PhiInRange, BlockInRange}

module _ (n : ℕ) (hn : n ≤ most_identifiers) where
  operand_known : (k : BlockId) → Reads (operand n k) OperandInRange
  unfolding operand
  operand_known k = bind_reads (place n) _ (PlaceBelow most_identifiers) OperandInRange (place_known n hn) (λ p q. pure_reads _ OperandInRange q)

  phi_known : Reads (phi n) PhiInRange
  unfolding phi
  phi_known =
      bind_reads (place n) _ (PlaceBelow most_identifiers) PhiInRange (place_known n hn)
      (λ p h. then_reads (count most_count) _ PhiInRange
      (λ k. bind_reads (numbered k [] (operand n)) _ (Every OperandInRange) PhiInRange (numbered_reads OperandInRange k [] (operand n) operand_known)
      (λ l q. pure_reads _ PhiInRange (h, q))))

  pub block_known : (m : ℕ) → m ≤ most_functions → (k : BlockId) → Reads (block n m k) BlockInRange
  unfolding block
  block_known m hm k =
      bind_reads (counted most_count (phi n)) _ (Every PhiInRange) BlockInRange (counted_reads PhiInRange most_count (phi n) phi_known)
      (λ ps hp. bind_reads (counted most_count (instruction n m)) _ (Every InstructionInRange) BlockInRange (counted_reads InstructionInRange most_count (instruction n m) (instruction_known n m hn hm))
      (λ is hi. bind_reads (terminal n m) _ TerminalInRange BlockInRange (terminal_known n m hn hm)
      (λ t ht. pure_reads _ BlockInRange (record { phis = hp; instructions = hi; terminal = ht }))))
