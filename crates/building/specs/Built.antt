-- The building so far in the lent workspace, by its counts; and what each step promises: what document 01 says of it.
use Rattle.std.specs.Prelude.{ℕ, zero, suc, ◌+◌, ◌*◌, ◌≤◌, ◌<◌, false, List, [], ◌∷◌, ◌++◌, ◌≡◌, ◌⊎◌, length, get_or, take, drop}
use Rattle.model.specs.Limits.{most_sheet, most_identifiers, most_relations, most_functions, most_mutations, most_renders, most_blocks, most_index}
use Rattle.model.specs.Lists.{each, Every}
use Rattle.model.specs.Sheet.{BlockId, Place, Phi as ModelPhi}
use Rattle.model.specs.Reading.{Position}
use Rattle.model.specs.Ranges.{PhiBelow}
use Rattle.model.specs.Graph.{Value, object, phi, function}
use Rattle.model.specs.Mutation.{Mutation, RenderOf}
use Rattle.model.specs.Built.{Built, comes}
use Rattle.model.specs.Building.{operand, wake, no_nodes}
use Rattle.hir.specs.Words.{phi_from}
use Rattle.model.specs.Size as size
use Rattle.workspace.specs.Layout.{SEEN, VALUE, FBOUND, QUEUE, MUTATIONS, RENDERS, FUNCTIONS}
use Rattle.workspace.specs.Rows.{rows_of, most_lists, fb, bb, Indexed, Kept}
use Rattle.workspace.specs.Graph.{graph_of_rows}
use Rattle.workspace.specs.Pending.{mutations_of, renders_of}
use Rattle.building.specs.declared.Building.{Building}
use Rattle.building.specs.declared.NodeValue.{NodeValue}
use Rattle.building.specs.declared.NodeValue.TheVariants.{Object, Phi, Function}
use Rattle.building.specs.Held.{graph_of, Room}
use Rattle.building.specs.Phis.{phis_of, waiting_of, Known}

-- a node's value as the definitions have it
abbrev pub value_is : NodeValue → Value
value_is Object = object
value_is Phi = phi
value_is (Function f) = function f.0

-- an inner function's number is one of a sheet's
abbrev pub FunctionBelow : NodeValue → Type 0
FunctionBelow Object = Unit {0}
FunctionBelow Phi = Unit {0}
FunctionBelow (Function f) = f.0 < most_functions

-- a place of which only the identifier and the span matter
abbrev pub place_at : ℕ → ℕ → Place
place_at x span = record { identifier = x; effect = 0; reactive = false; span = span }

-- the first n of the blocks that have come, the last one first
unfoldable pub come_of : List ℕ → ℕ → List BlockId
come_of ws zero = []
come_of ws (suc n) = get_or ws (SEEN + n) 0 ∷ come_of ws n

-- the running index: each relation effect, mutation and render has taken one
abbrev pub index_of : Building → ℕ
index_of b = b.relations + b.mutations + b.renders

-- the building so far, of the sheet s
unfoldable pub built_of : List ℕ → List ℕ → Building → Built
built_of s ws b = record {
  graph = graph_of ws b.held;
  held = b.held.most;
  index = index_of b;
  come = come_of ws b.come;
  waiting = waiting_of s (phis_of ws b.phis) (come_of ws b.come);
  mutations = mutations_of ws b.mutations;
  renders = renders_of ws b.renders;
}

-- what building keeps true: there is room for what is held, and no count is above its limit
pub record Sound (ws : List ℕ) (b : Building) : Type 0 where
  pub room : Room ws b.held
  pub phis : b.phis ≤ b.relations
  pub indexes : index_of b ≤ most_index
  pub mutations : b.mutations ≤ most_mutations
  pub renders : b.renders ≤ most_renders
  pub come : b.come ≤ most_blocks

-- what it keeps true of the sheet: its phis can be read again
pub record Holding (s ws : List ℕ) (b : Building) : Type 0 where
  pub short : length s ≤ most_sheet
  pub phis : Every (Known s) (phis_of ws b.phis)

-- the phi at c is in the sheet and in range, and there is room for its operands
pub record PhiFits (s : List ℕ) (c : Position) (b : Building) : Type 0 where
  pub inside : (phi_from s c).next ≤ length s
  pub range : PhiBelow most_identifiers (phi_from s c).what
  pub indexes : index_of b + length (phi_from s c).what.operands ≤ most_index

-- a phi's operands, after its node
abbrev pub phi_operands : ModelPhi → Built → Built
phi_operands p = each (operand p.place) p.operands

-- the end of a block: that it has come matters to nothing between its phis and here
abbrev pub ends : BlockId → Built → Built
ends n b = wake n (comes n b)

-- a step of the definition on the sheet s, in which d relation effects, m mutations, n renders and k blocks come; the words before SEEN and from FUNCTIONS on stay
pub record StepsOn (s : List ℕ) (f : Built → Built) (d m n k : ℕ) (ws : List ℕ) (b : Building) (ws' : List ℕ) (r : Building) : Type 0 where
  -- as long as no more is held than there is room for, this is the definition's; else the definition holds too much as well
  pub built : r.held.most ≤ most_relations → built_of s ws' r ≡ f (built_of s ws b)
  pub over : most_relations < r.held.most → most_relations < (f (built_of s ws b)).held
  pub more : b.held.most ≤ most_relations ⊎ (most_relations < r.held.most)
  pub rises : (c : Built) → c.held ≤ (f c).held
  pub holding : Holding s ws b → Holding s ws' r
  pub sound : Sound ws' r
  pub relations : r.relations ≡ b.relations + d
  pub mutations : r.mutations ≡ b.mutations + m
  pub renders : r.renders ≡ b.renders + n
  pub come : r.come ≡ b.come + k
  pub low : take SEEN ws' ≡ take SEEN ws
  pub high : drop FUNCTIONS ws' ≡ drop FUNCTIONS ws
  pub same : length ws' ≡ length ws

-- the same on every sheet
abbrev pub Steps : (Built → Built) → ℕ → ℕ → ℕ → ℕ → List ℕ → Building → List ℕ → Building → Type 0
Steps f d m n k ws b ws' r = (s : List ℕ) → StepsOn s f d m n k ws b ws' r

-- nothing is built: no identifier has a node
abbrev pub nothing : Built
nothing = record { graph = no_nodes most_identifiers; held = 0; index = 0; come = []; waiting = []; mutations = []; renders = [] }

-- the start of building
pub record Starts (ws ws' : List ℕ) (r : Building) : Type 0 where
  pub built : (s : List ℕ) → built_of s ws' r ≡ nothing
  pub holding : (s : List ℕ) → length s ≤ most_sheet → Holding s ws' r
  pub sound : Sound ws' r
  pub relations : r.relations ≡ 0
  pub mutations : r.mutations ≡ 0
  pub renders : r.renders ≡ 0
  pub come : r.come ≡ 0
  pub low : take VALUE ws' ≡ take VALUE ws
  pub high : drop FBOUND ws' ≡ drop FBOUND ws
  pub same : length ws' ≡ length ws

-- the end of building: the rows hold the graph that was built and as many edges and entries, and the mutations and renders stay
pub record LaysOut (ws : List ℕ) (b : Building) (ws' : List ℕ) : Type 0 where
  pub indexed : Indexed ws'
  pub graph : graph_of_rows (rows_of ws') ≡ graph_of ws b.held
  pub edges : fb (rows_of ws') most_identifiers ≡ size.edges (graph_of ws b.held)
  pub entries : bb (rows_of ws') most_lists ≡ size.entries (graph_of ws b.held)
  pub mutations : mutations_of ws' b.mutations ≡ mutations_of ws b.mutations
  pub renders : renders_of ws' b.renders ≡ renders_of ws b.renders
  pub low : take FBOUND ws' ≡ take FBOUND ws
  pub high : drop QUEUE ws' ≡ drop QUEUE ws
  pub same : length ws' ≡ length ws

-- one mutation more
pub record PushesMutation (m : Mutation) (ws : List ℕ) (n : ℕ) (ws' : List ℕ) : Type 0 where
  pub mutations : mutations_of ws' (n + 1) ≡ mutations_of ws n ++ (m ∷ [])
  pub kept : Kept (MUTATIONS + 3 * n) (MUTATIONS + 3 * n + 3) ws ws'

-- one render more
pub record PushesRender (m : RenderOf) (ws : List ℕ) (n : ℕ) (ws' : List ℕ) : Type 0 where
  pub renders : renders_of ws' (n + 1) ≡ renders_of ws n ++ (m ∷ [])
  pub kept : Kept (RENDERS + n) (RENDERS + n + 1) ws ws'

-- one block more has come
pub record PushesBlock (block : ℕ) (ws : List ℕ) (n : ℕ) (ws' : List ℕ) : Type 0 where
  pub come : come_of ws' (n + 1) ≡ block ∷ come_of ws n
  pub kept : Kept (SEEN + n) (SEEN + n + 1) ws ws'
