-- The building of a whole sheet: where it starts, and what the loop over the blocks leaves.
use Rattle.std.specs.Prelude.{ℕ, ◌≤◌, ◌<◌, List, [], ◌≡◌, length, take, drop}
use Rattle.model.specs.Limits.{most_sheet, most_relations}
use Rattle.model.specs.Sheet.{Place, Sheet}
use Rattle.model.specs.Graph.{object, create}
use Rattle.model.specs.Totals.{totals}
use Rattle.model.specs.Built.{Built, changed}
use Rattle.model.specs.Building.{first_nodes, build}
use Rattle.workspace.specs.Layout.{SEEN, FUNCTIONS}
use Rattle.building.specs.declared.Building.{Building}
use Rattle.building.specs.Built.{built_of, Sound, Holding}

-- a node for the place
abbrev pub created_for : Place → Built → Built
created_for p = changed (create p.identifier object)

-- the building before the first block: "Parameters, context, returns get nodes first"
unfoldable pub first_built : Sheet → Built
first_built t = record { graph = first_nodes t; held = 0; index = 0; come = []; waiting = []; mutations = []; renders = [] }

-- it stands in the workspace
pub record First (t : Sheet) (ws : List ℕ) (b : Building) : Type 0 where
  pub built : (s : List ℕ) → built_of s ws b ≡ first_built t
  pub holding : (s : List ℕ) → length s ≤ most_sheet → Holding s ws b
  pub sound : Sound ws b
  pub relations : b.relations ≡ 0
  pub mutations : b.mutations ≡ 0
  pub renders : b.renders ≡ 0
  pub come : b.come ≡ 0

-- the whole sheet is built, which stands in the words s
pub record Whole (t : Sheet) (s ws ws' : List ℕ) (r : Building) : Type 0 where
  -- as long as no more is held than there is room for, this is the definition's; else the definition holds too much as well
  pub built : r.held.most ≤ most_relations → built_of s ws' r ≡ build t
  pub over : most_relations < r.held.most → most_relations < (build t).held
  pub sound : Sound ws' r
  pub relations : r.relations ≡ (totals t).relations
  pub mutations : r.mutations ≡ (totals t).mutations
  pub renders : r.renders ≡ (totals t).renders
  pub come : r.come ≡ length t.blocks
  pub low : take SEEN ws' ≡ take SEEN ws
  pub high : drop FUNCTIONS ws' ≡ drop FUNCTIONS ws
  pub same : length ws' ≡ length ws
