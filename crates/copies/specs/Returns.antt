-- Create for returns, by the type of its identifier.
use Rattle.std.specs.Prelude.{ℕ, ◌+◌, ◌*◌}
use Rattle.model.specs.Sheet.{IdentifierType, Place, no_place, Create, Effect}
use Rattle.model.specs.Reading.{Position}
use Rattle.model.specs.Summary.{value_kind}
use Rattle.model.specs.Limits.{identifier_width}

-- where identifier k stands, the first one standing at c
abbrev pub identifier_from : Position → ℕ → Position
identifier_from c k = c + identifier_width * k

-- Create for a place of this type: "(6 × reason + value kind)", reason KnownReturnSignature
abbrev pub create_of : Place → IdentifierType → Effect
create_of p t = record { kind = Create; first = p; second = no_place; extra = 6 * 0 + value_kind t }
