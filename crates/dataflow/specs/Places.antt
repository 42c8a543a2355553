-- Places read a second time: each is tracked and gets a node.
use Rattle.std.specs.Prelude.{ℕ, ◌+◌, ◌≤◌, ◌≡◌, List, ◌++◌, length, take}
use Rattle.std.proofs.Math.Seq.{slice}
use Rattle.model.specs.Limits.{most_identifiers, most_relations, most_params, most_context}
use Rattle.model.specs.Lists.{each, Every}
use Rattle.model.specs.Sheet.{Place}
use Rattle.model.specs.Ranges.{PlaceBelow}
use Rattle.model.specs.Reading.{Position}
use Rattle.model.specs.Building.{first_places}
use Rattle.hir.specs.Says.{place_is}
use Rattle.hir.specs.Words.{Part}
use Rattle.hir.specs.Parts.{ListAt}
use Rattle.workspace.specs.Layout.{SEEN, FUNCTIONS, TRACKED}
use Rattle.workspace.specs.Tracked.{tracked_of}
use Rattle.building.specs.declared.Building.{Building}
use Rattle.building.specs.Built.{built_of, Sound, Holding}
use Rattle.dataflow.specs.Whole.{created_for}
use Rattle.dataflow.specs.Accepted.{sections_of, sheet_of}
use Rattle.dataflow.specs.declared.parameters.Tracked.{Tracked}

-- the places ps were tracked from number `first` on, and each got a node
pub record Places (ps : List Place) (first : ℕ) (ws : List ℕ) (b : Building) (ws' : List ℕ) (r : Building) : Type 0 where
  pub built : (s : List ℕ) → (each created_for ps (built_of s ws b)).held ≤ most_relations → built_of s ws' r ≡ each created_for ps (built_of s ws b)
  pub holding : (s : List ℕ) → Holding s ws b → Holding s ws' r
  pub sound : Sound ws' r
  pub relations : r.relations ≡ b.relations
  pub mutations : r.mutations ≡ b.mutations
  pub renders : r.renders ≡ b.renders
  pub come : r.come ≡ b.come
  pub tracked : tracked_of ws' (first + length ps) ≡ tracked_of ws first ++ ps
  pub low : take SEEN ws' ≡ take SEEN ws
  pub between : slice FUNCTIONS TRACKED ws' ≡ slice FUNCTIONS TRACKED ws
  pub same : length ws' ≡ length ws

-- places that stand in the sheet can be tracked from number `first` on
pub record PlacesReady (part : Part (List Place)) (first : ℕ) (sheet ws : List ℕ) (b : Building) : Type 0 where
  pub sound : Sound ws b
  pub inside : part.next ≤ length sheet
  pub below : Every (PlaceBelow most_identifiers) part.what
  pub room : first + length part.what ≤ most_params + most_context

-- they were, and the reading goes on after them
pub record PlacesRead (part : Part (List Place)) (first : ℕ) (ws : List ℕ) (b : Building) (ws' : List ℕ) (b' : Building) (d : Position) : Type 0 where
  pub places : Places part.what first ws b ws' b'
  pub next : d ≡ part.next

-- parameters, context and returns of the sheet, and its blocks
pub record TrackedRead (sheet ws : List ℕ) (b : Building) (ws' : List ℕ) (b' : Building) (t : Tracked) : Type 0 where
  pub places : Places (first_places (sheet_of sheet)) 0 ws b ws' b'
  pub params : t.params ≡ length (sheet_of sheet).params
  pub context : t.context ≡ length (sheet_of sheet).context
  pub returns : place_is t.returns ≡ (sheet_of sheet).returns
  pub blocks : ListAt sheet (sections_of sheet).blocks t.blocks
