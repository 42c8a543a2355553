-- What running the pending mutations one after another leaves, by document 01's list of walks.
use Rattle.std.specs.Prelude.{ℕ, ◌+◌, ◌*◌, ◌≤◌, Bool, List, map, ◌≡◌, length, get_or, drop}
use Rattle.model.specs.Limits.{most_mutations, most_order}
use Rattle.model.specs.Lists.{Every}
use Rattle.model.specs.Mutation.{Mutation as ModelMutation}
use Rattle.model.specs.State.{real}
use Rattle.model.specs.Walks.{Walk}
use Rattle.model.specs.Runs.{walks_of, after}
use Rattle.workspace.specs.Layout.{HANDED, MUTATIONS, RENDERS}
use Rattle.workspace.specs.Rows.{rows_of}
use Rattle.workspace.specs.Graph.{tab}
use Rattle.workspace.specs.Pending.{mutation_of, mutations_of}
use Rattle.aliasing.specs.Says.{mode_says, mutation_says}
use Rattle.aliasing.specs.State.{state_of, Handing}
use Rattle.aliasing.specs.declared.mutation.Mutation.{Mutation}

-- `count` mutations are pending, each of an instruction's order
pub record Pending (ws : List ℕ) (count : ℕ) : Type 0 where
  pub few : count ≤ most_mutations
  pub orders : Every (λ (m : ModelMutation). m.order ≤ most_order) (mutations_of ws count)

-- the code's mutation is that of the three words, and real
pub record Made (w order span : ℕ) (errors : Bool) (m : Mutation) : Type 0 where
  pub is : mutation_says m ≡ mutation_of w order span
  pub how : mode_says m ≡ real errors

-- the entries that each walk took, in the words in which the spans stood
unfoldable pub taken_of : List ℕ → ℕ → List ℕ
taken_of ws count = tab count (λ (i : ℕ). get_or ws (MUTATIONS + 3 * i + 2) 0)

-- the mutations were run in order
pub record Processed (errors : Bool) (ws : List ℕ) (count : ℕ) (ws' : List ℕ) (hand : ℕ) : Type 0 where
  pub state : state_of ws' hand ≡ after (real errors) (mutations_of ws count) (state_of ws HANDED)
  pub counts : taken_of ws' count ≡ map (λ (w : Walk). w.taken) (walks_of (real errors) (mutations_of ws count) (state_of ws HANDED))
  pub graph : rows_of ws' ≡ rows_of ws
  pub behind : drop RENDERS ws' ≡ drop RENDERS ws
  pub same : length ws' ≡ length ws
  pub handing : Handing ws' hand
