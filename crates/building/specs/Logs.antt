-- The alias graph while it is built, as word lists: the values, a log of forward edges and a log of entries.
-- A log word: from + 512 * into + 2^18 * list (0 created-from, 1 alias, 2 maybe-alias, 3 capture) + 2^20 * index. A log is what is held: no word of it is dead.
use Rattle.std.specs.Prelude.{ℕ, ◌+◌, ◌*◌, ◌/◌, ◌%◌, ◌<◌, Bool, true, false, List, [], ◌∷◌, ◌++◌, ◌≡◌, get_or, set, eqb}
use Rattle.model.specs.Limits.{most_identifiers}
use Rattle.model.specs.Lists.{pick}
use Rattle.model.specs.Graph.{Graph, change, with_edge, with_entry}
use Rattle.workspace.specs.Sort.{sel}
use Rattle.workspace.specs.Graph.{MISSING, relation_of, node_of, tab}

-- a log word
abbrev pub pack_w : ℕ → ℕ → ℕ → ℕ → ℕ
pack_w from into list index = from + 512 * into + 262144 * list + 1048576 * index

-- the three lists
pub record Logs : Type 0 where
  pub values : List ℕ
  pub edges : List ℕ
  pub entries : List ℕ

-- the graph that they hold: a node's edges and entries are the words with its number, in the log's order
unfoldable pub graph_of_logs : Logs → Graph
graph_of_logs s = tab most_identifiers (node_of s.values (λ x. sel 0 x s.edges) (λ k. sel 1 k s.entries))

-- who holds a word: "from" holds an edge (log 0), "into" an entry (log 1)
unfoldable pub owner_w : ℕ → ℕ → ℕ
owner_w t w = pick (eqb t 0) (w % 512) (w / 512 % 512)

-- does x hold a word?
abbrev pub owns_w : ℕ → ℕ → ℕ → Bool
owns_w t x w = eqb (owner_w t w) x

-- the words that x does not hold
unfoldable pub without : ℕ → ℕ → List ℕ → List ℕ
without t x [] = []
without t x (w ∷ l) = pick (owns_w t x w) (without t x l) (w ∷ without t x l)

-- a missing node holds no word
pub record Clean (s : Logs) : Type 0 where
  pub edges : (x : ℕ) → x < most_identifiers → get_or s.values x 0 ≡ MISSING → without 0 x s.edges ≡ s.edges
  pub entries : (x : ℕ) → x < most_identifiers → get_or s.values x 0 ≡ MISSING → without 1 x s.entries ≡ s.entries

-- does a word pass the test?
unfoldable pub any_p : (ℕ → Bool) → List ℕ → Bool
any_p test [] = false
any_p test (v ∷ l) = pick (test v) true (any_p test l)

-- the same from, into and list
abbrev pub same_w : ℕ → ℕ → Bool
same_w w v = eqb (v % 1048576) (w % 1048576)

-- is there such a word?
abbrev pub any_w : ℕ → List ℕ → Bool
any_w w l = any_p (same_w w) l

-- ---- the steps
-- a word comes last, unless one with the same from, into and list is there
unfoldable pub once_w : ℕ → List ℕ → List ℕ
once_w w l = pick (any_w w l) l (l ++ (w ∷ []))

-- the node of x with the value of number v, in place of the one that was there
unfoldable pub create_l : ℕ → ℕ → Logs → Logs
create_l x v s = record { values = set s.values x v; edges = without 0 x s.edges; entries = without 1 x s.entries }

-- an edge
unfoldable pub edge_l : ℕ → Logs → Logs
edge_l w s = record { values = s.values; edges = s.edges ++ (w ∷ []); entries = s.entries }

-- an entry
unfoldable pub entry_l : ℕ → Logs → Logs
entry_l w s = record { values = s.values; edges = s.edges; entries = once_w w s.entries }

-- what the word of an edge stores in the graph
abbrev pub edge_g : ℕ → Graph → Graph
edge_g w = change (w % 512) (with_edge (relation_of (w / 262144 % 4)) (w / 1048576) (w / 512 % 512))

-- what the word of an entry stores in the graph
abbrev pub entry_g : ℕ → Graph → Graph
entry_g w = change (w / 512 % 512) (with_entry (relation_of (w / 262144 % 4)) (w / 1048576) (w % 512))
