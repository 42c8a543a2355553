-- What a function promises that builds a part of an accepted sheet: the definition's step of the part that stands there.
use Rattle.std.specs.Prelude.{ℕ, ◌+◌, ◌≤◌, List, ◌≡◌, length}
use Rattle.model.specs.Sheet.{EvaluationOrder, Effect}
use Rattle.model.specs.Reading.{Position}
use Rattle.model.specs.Built.{Built}
use Rattle.model.specs.Building.{instruction_effect}
use Rattle.hir.specs.Words.{Part}
use Rattle.building.specs.declared.Building.{Building}
use Rattle.building.specs.Built.{Sound, Holding, StepsOn, Steps}
use Rattle.instructions.specs.Cost.{Cost, Fits}

-- an effect of an instruction with this order
abbrev pub effect_step : EvaluationOrder → Effect → Built → Built
effect_step o e = instruction_effect e.kind o e

-- a step of the definition on the sheet s that spends so much
abbrev pub SpendsOn : List ℕ → (Built → Built) → Cost → List ℕ → Building → List ℕ → Building → Type 0
SpendsOn s f k ws b ws' r = StepsOn s f k.relations k.mutations k.renders k.blocks ws b ws' r

-- the same on every sheet
abbrev pub Spends : (Built → Built) → Cost → List ℕ → Building → List ℕ → Building → Type 0
Spends f k ws b ws' r = Steps f k.relations k.mutations k.renders k.blocks ws b ws' r

-- a part, and a count behind it
abbrev pub and_count : {A : Type 0} → Part A → Part A
and_count p = record { what = p.what; next = p.next + 1 }

-- x can be built: its words are in their ranges, and there is room for it
pub record Buildable {A : Type 0} (x : A) (in_range : A → Type 0) (cost : A → Cost) (ws : List ℕ) (b : Building) : Type 0 where
  pub sound : Sound ws b
  pub range : in_range x
  pub fits : Fits (cost x) b

-- so can a part of the sheet s, whose words the sheet has
pub record Ready {A : Type 0} (part : Part A) (in_range : A → Type 0) (cost : A → Cost) (s ws : List ℕ) (b : Building) : Type 0 where
  pub sound : Sound ws b
  pub holding : Holding s ws b
  pub inside : part.next ≤ length s
  pub range : in_range part.what
  pub fits : Fits (cost part.what) b

-- the part is built, and the reading goes on after it
pub record Builds {A : Type 0} (part : Part A) (step : A → Built → Built) (cost : A → Cost) (s ws : List ℕ) (b : Building) (ws' : List ℕ) (b' : Building) (d : Position) : Type 0 where
  pub spends : SpendsOn s (step part.what) (cost part.what) ws b ws' b'
  pub next : d ≡ part.next
