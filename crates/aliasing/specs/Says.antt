-- Which mutation of the model, and which kind of walk, a mutation of the code stands for; an entry of the queue and its word.
use Rattle.std.specs.Prelude.{ℕ, zero, suc, ◌-◌, ◌/◌, ◌%◌, ◌≡◌, Bool, true, false}
use Rattle.model.specs.Mutation.{Mutation}
use Rattle.model.specs.State.{Mode, real, simulated}
use Rattle.hir.specs.Mutations.{kind_says, kind_bit, reason_says}
use Rattle.aliasing.specs.declared.mutation.Mutation.{Mutation as CodeMutation}
use Rattle.aliasing.specs.declared.pushes.Direction.{Direction}
use Rattle.aliasing.specs.declared.pushes.Direction.TheVariants.{Backwards, Forwards}
use Rattle.aliasing.specs.declared.pushes.QueueEntry.{QueueEntry}
use Rattle.aliasing.specs.Pushes.{entry_w}

-- a truth value's bit in a word
abbrev pub bit : Bool → ℕ
bit true = 1
bit false = 0

-- a direction's
abbrev pub direction_bit : Direction → ℕ
direction_bit Backwards = 0
direction_bit Forwards = 1

-- the word of an entry
abbrev pub word_of : QueueEntry → ℕ
word_of e = entry_w e.place.0 (bit e.transitive) (direction_bit e.direction) (kind_bit e.kind)

-- the entry is what the word says
pub record Unpacked (w : ℕ) (e : QueueEntry) : Type 0 where
  pub place : e.place.0 ≡ w % 512
  pub transitive : bit e.transitive ≡ w / 512 % 2
  pub direction : direction_bit e.direction ≡ w / 1024 % 2
  pub kind : kind_bit e.kind ≡ w / 2048 % 2

-- an unset end is a simulated mutation's, any other the order plus one
abbrev pub mode_of : ℕ → Bool → Mode
mode_of zero errors = simulated
mode_of (suc order) errors = real errors

-- how the mutation's walk goes
unfoldable pub mode_says : CodeMutation → Mode
mode_says m = mode_of m.end.0 m.should_record_errors

-- the mutation
unfoldable pub mutation_says : CodeMutation → Mutation
mutation_says m = record {
  index = m.index;
  order = m.end.0 - 1;
  kind = kind_says m.kind;
  transitive = m.transitive;
  identifier = m.start.0;
  span = m.span;
  reason = reason_says m.reason;
}
