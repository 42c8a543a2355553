-- The alias graph in the lent workspace, by their counts; and what each step of building promises.
use Rattle.std.specs.Prelude.{ℕ, ◌+◌, ◌≤◌, ◌<◌, max, Bool, false, not, List, ◌≡◌, length, get_or, take, drop, eqb}
use Rattle.std.proofs.Math.Seq.{slice}
use Rattle.model.specs.Limits.{most_identifiers, most_relations}
use Rattle.model.specs.Graph.{Graph, has_node}
use Rattle.model.specs.Built.{held_in}
use Rattle.workspace.specs.Layout.{LEAST, VALUE, FBOUND, QUEUE, MARKS, EDGES, ENTRIES, PHIS}
use Rattle.workspace.specs.Rows.{rows_of, most_lists, fb, bb, Indexed, Kept}
use Rattle.workspace.specs.Graph.{MISSING, graph_of_rows}
use Rattle.building.specs.declared.Held.{Held}
use Rattle.building.specs.Logs.{Logs, graph_of_logs, without, any_p, Clean}

-- the values
abbrev pub values_of : List ℕ → List ℕ
values_of ws = slice VALUE FBOUND ws

-- has x one?
abbrev pub has_value : List ℕ → ℕ → Bool
has_value ws x = not (eqb (get_or ws (VALUE + x) 0) MISSING)

-- the logs
abbrev pub logs_of : List ℕ → Held → Logs
logs_of ws h = record { values = values_of ws; edges = slice EDGES (EDGES + h.edges) ws; entries = slice ENTRIES (ENTRIES + h.entries) ws }

-- too much would be held: nothing more is stored, and `most` says so
abbrev pub held_over : Held → Held
held_over h = record { edges = h.edges; entries = h.entries; most = most_relations + 1 }

-- the graph so far
unfoldable pub graph_of : List ℕ → Held → Graph
graph_of ws h = graph_of_logs (logs_of ws h)

-- a node that is not marked holds none of the first n edges
abbrev pub Marked : List ℕ → ℕ → Type 0
Marked ws n = (x : ℕ) → x < most_identifiers → get_or ws (MARKS + x) 0 ≡ 0 → without 0 x (slice EDGES (EDGES + n) ws) ≡ slice EDGES (EDGES + n) ws

-- no more is held than there is room for, and as long as `most` is within the limit it is no less; a missing node holds no word
pub record Room (ws : List ℕ) (h : Held) : Type 0 where
  pub size : LEAST ≤ length ws
  pub edges : h.edges ≤ most_relations
  pub entries : h.entries ≤ most_relations
  pub held : h.most ≤ most_relations → (h.edges ≤ h.most) × (h.entries ≤ h.most)
  pub clean : Clean (logs_of ws h)
  pub marked : Marked ws h.edges

-- a step on the graph, unless it would hold too much; the words before the values and after the logs stay
pub record Builds (f : Graph → Graph) (ws : List ℕ) (h : Held) (ws' : List ℕ) (r : Held) : Type 0 where
  pub graph : r.most ≤ most_relations → graph_of ws' r ≡ f (graph_of ws h)
  pub most : r.most ≤ most_relations → r.most ≡ max h.most (held_in (f (graph_of ws h)))
  pub over : most_relations < r.most → most_relations < max h.most (held_in (f (graph_of ws h)))
  -- whatever is held, the same nodes are there
  pub nodes : (x : ℕ) → has_node (graph_of ws' r) x ≡ has_node (f (graph_of ws h)) x
  pub room : Room ws' r
  pub low : take VALUE ws' ≡ take VALUE ws
  pub high : drop PHIS ws' ≡ drop PHIS ws
  pub same : length ws' ≡ length ws

-- of n words none of the first r passes the test
pub record Others (test : ℕ → Bool) (at n : ℕ) (ws : List ℕ) (r : ℕ) : Type 0 where
  pub none : any_p test (slice at (at + r) ws) ≡ false
  pub few : r ≤ n

-- the words that x holds are gone from a log of n words, and r are left
pub record Left (t at n x : ℕ) (ws ws' : List ℕ) (r : ℕ) : Type 0 where
  pub log : slice at (at + r) ws' ≡ without t x (slice at (at + n) ws)
  pub kept : Kept at (at + n) ws ws'
  pub few : r ≤ n

-- the rows are those of the graph, and they hold as many edges and entries as the logs did
pub record Laid (ws : List ℕ) (h : Held) (ws' : List ℕ) : Type 0 where
  pub indexed : Indexed ws'
  pub graph : graph_of_rows (rows_of ws') ≡ graph_of ws h
  pub edges : fb (rows_of ws') most_identifiers ≡ h.edges
  pub entries : bb (rows_of ws') most_lists ≡ h.entries
  pub low : take FBOUND ws' ≡ take FBOUND ws
  pub high : drop QUEUE ws' ≡ drop QUEUE ws
  pub same : length ws' ≡ length ws
