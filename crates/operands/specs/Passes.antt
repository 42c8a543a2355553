-- What the pass over a part of the sheet promises: the ranges and the marks of contexts in the words are those of the definition's pass, and the places of one section were written.
use Rattle.std.specs.Prelude.{ℕ, ◌+◌, ◌≤◌, ◌≡◌, List, [], length}
use Rattle.model.specs.Lists.{gather}
use Rattle.model.specs.Limits.{most_identifiers}
use Rattle.model.specs.Sheet.{InnerFunction, Place, Terminal, Block}
use Rattle.model.specs.Ranges.{BlockBelow}
use Rattle.model.specs.Reading.{Position}
use Rattle.model.specs.Operands.{Pass}
use Rattle.model.specs.Answer.{place_words}
use Rattle.hir.specs.Words.{Standing}
use Rattle.workspace.specs.Layout.{STARTS, PASSED}
use Rattle.workspace.specs.Rows.{Kept}
use Rattle.writing.specs.declared.Writer.{Writer}
use Rattle.writing.specs.Wrote.{Writes, farthest}
use Rattle.operands.specs.declared.Section.{Section}
use Rattle.operands.specs.declared.Section.TheVariants.{Phis, Instructions, Terminals}
use Rattle.operands.specs.Ranges.{ranges_of}
use Rattle.operands.specs.Contexts.{contexts_of}
use Rattle.operands.specs.Known.{Known}

-- the pass as it stands in the words, with no place written yet
unfoldable pub pass_of : List ℕ → List InnerFunction → Pass
pass_of ws fs = record { ranges = ranges_of ws; contexts = contexts_of ws fs; phis = []; instructions = []; terminals = [] }

-- the pass without the places so far
unfoldable pub forget : Pass → Pass
forget p = record { ranges = p.ranges; contexts = p.contexts; phis = []; instructions = []; terminals = [] }

-- the places of a section so far
abbrev pub places_in : Section → Pass → List Place
places_in Phis p = p.phis
places_in Instructions p = p.instructions
places_in Terminals p = p.terminals

-- a part of the sheet with these inner functions can be passed over
pub record Ready {A : Type 0} (f : Standing A) (Below : List InnerFunction → A → Type 0) (sheet lists ws : List ℕ) (c : Position) (fs : List InnerFunction) : Type 0 where
  pub known : Known lists ws fs
  pub below : Below fs (f sheet c).what

-- it stands in the sheet, and there is room to count on
pub record Passable {A : Type 0} (f : Standing A) (Below : List InnerFunction → A → Type 0) (sheet lists ws : List ℕ) (c : Position) (o : Writer ℕ) : Type 0 where
  pub functions : List InnerFunction
  pub ready : Ready f Below sheet lists ws c functions
  pub inside : (f sheet c).next ≤ length sheet
  pub room : o.at + length sheet ≤ farthest + c

-- a step of the definition's pass was taken
pub record Steps (step : Pass → Pass) (section : Section) (fs : List InnerFunction) (ws : List ℕ) (o : Writer ℕ) (ws' : List ℕ) (o' : Writer ℕ) : Type 0 where
  pub pass : pass_of ws' fs ≡ forget (step (pass_of ws fs))
  pub wrote : Writes (gather place_words (places_in section (step (pass_of ws fs)))) o o'

-- the part at c was passed over, up to r
pub record Passed {A : Type 0} (f : Standing A) (Below : List InnerFunction → A → Type 0) (step : List InnerFunction → A → Pass → Pass) (section : Section) (sheet lists : List ℕ) (c : Position) (ws : List ℕ) (o : Writer ℕ) (ws' : List ℕ) (o' : Writer ℕ) (r : Position) : Type 0 where
  pub steps : (fs : List InnerFunction) → Ready f Below sheet lists ws c fs → Steps (step fs (f sheet c).what) section fs ws o ws' o'
  pub kept : Kept STARTS PASSED ws ws'
  pub after : r ≡ (f sheet c).next
  pub few : o'.at + c ≤ o.at + r
  pub long : length o'.buffer.now ≡ length o.buffer.now
  pub same : o'.buffer.ghost_name ≡ o.buffer.ghost_name

-- nothing is asked of a terminal
abbrev pub AnyTerminal : List InnerFunction → Terminal → Type 0
AnyTerminal fs t = Unit {0}

-- a block's identifiers have words, and its inner functions are among these
abbrev pub BlockOf : List InnerFunction → Block → Type 0
BlockOf fs = BlockBelow most_identifiers (length fs)
