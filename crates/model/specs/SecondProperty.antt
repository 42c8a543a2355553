-- Document 02, order 4: "The chain property is about ends before this pass, and a second property says which ends the pass sets". Both, of the same sheet, and the answer's ranges.
use Rattle.std.specs.Prelude.{◌<◌, ◌≡◌, List, length, get_or}
use Rattle.model.specs.Sheet.{IdentifierId, Sheet}
use Rattle.model.specs.Mutation.{Mutation}
use Rattle.model.specs.Building.{build}
use Rattle.model.specs.Runs.{after}
use Rattle.model.specs.Summary.{built}
use Rattle.model.specs.Answer.{Range, answer}
use Rattle.model.specs.Demand3.{how, Demand3}
use Rattle.model.specs.Operands.{ends_before, before_pass, after_pass}
use Rattle.model.specs.EndsSet.{instructions_of, start_of, end_of, EndsSet}

-- an unset range
abbrev pub no_range : Range
no_range = record { start = 0; end = 0 }

pub record SecondProperty (s : Sheet) : Type 0 where
  -- the ends before the pass are those of the chain property, for the sheet's own mutations once, in sheet order
  pub chain : (ms : List Mutation) → Demand3 s ms
  pub before : ends_before s ≡ (after (how s) (build s).mutations (built s)).ends
  -- which ends the pass sets
  pub set : EndsSet (instructions_of s.blocks) (before_pass s).ranges (after_pass s).ranges
  -- every identifier of the sheet has a range, and the answer's are those after the pass
  pub known : (x : IdentifierId) → x < length s.identifiers → x < length (before_pass s).ranges.ends
  pub ranges : (x : IdentifierId) → x < length s.identifiers
      → get_or (answer s).ranges x no_range ≡ record { start = start_of (after_pass s).ranges x; end = end_of (after_pass s).ranges x }
