-- The phis of a block.
use Rattle.std.specs.Prelude.{ℕ, ◌+◌, ◌≤◌, List}
use Rattle.model.specs.Limits.{most_identifiers}
use Rattle.model.specs.Lists.{gather, Every}
use Rattle.model.specs.Sheet.{IdentifierId, InnerFunction, Place, Phi}
use Rattle.model.specs.Reading.{Position}
use Rattle.model.specs.Ranges.{PhiBelow}
use Rattle.model.specs.Answer.{place_words}
use Rattle.hir.specs.Words.{Part, several, phi_from}
use Rattle.hir.specs.declared.at.List.{List as Listed}
use Rattle.writing.specs.declared.Writer.{Writer}
use Rattle.writing.specs.Wrote.{Writes}

-- a phi's identifier
abbrev pub phi_identifier : Phi → IdentifierId
phi_identifier p = p.place.identifier

-- the phis of a list
abbrev pub phis_in : List ℕ → Listed → Part (List Phi)
phis_in sheet l = several l.count phi_from sheet l.first

-- every identifier of the phis has a word
abbrev pub PhisBelow : List InnerFunction → List Phi → Type 0
PhisBelow fs = Every (PhiBelow most_identifiers)

-- the places ps of the phis that stand from c up to d were written, no more words than were read
pub record PlacesPut (ps : List Place) (c d : Position) (o o' : Writer ℕ) : Type 0 where
  pub wrote : Writes (gather place_words ps) o o'
  pub few : o'.at + c ≤ o.at + d
