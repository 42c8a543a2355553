-- Document 02, order 6: drawings as a table, their texts written from its sentences alone, and calls that are refused.
use Rattle.std.specs.Prelude.{ℕ, Bool, true, false, ◌&&◌, List, [], ◌∷◌, ◌++◌, replicate, eqb}
use Prim.Native.String.{String}
use Rattle.std.proofs.Math.Option.{none, some}
use Rattle.model.specs.Graph.{capture, alias, maybe, object, EdgeKind, Edge, Node, Graph}
use Rattle.model.specs.Call.{Outcome, refusal, accepted}
use Rattle.model.specs.Digits.{bytes}
use Rattle.model.specs.Dot.{dot, draw}
use Rattle.model.specs.Bench.{same}
use Rattle.model.specs.Small.{place, one, two, operand, phi, instruction, other, returning, block_of, block, sheet}
use Rattle.model.specs.Refusals.{applied}

-- ---- graphs
-- a graph and its text
pub record GraphCase : Type 0 where
  pub graph : Graph
  pub text : String

-- an edge
abbrev edge : ℕ → EdgeKind → ℕ → Edge
edge into k i = record { into = into; index = i; kind = k }

-- a node of which only the forward edges matter
abbrev node : List Edge → Node
node es = record { value = object; forward = es; created_from = []; aliases = []; maybe_aliases = []; captures = [] }

-- the graphs
unfoldable pub graphs : List GraphCase
graphs =
    -- no node: the first line and the last
    record { graph = none ∷ none ∷ []; text = "digraph g {\n}\n" }
    -- all nodes, then all edges; each of the three words; "stored order", which is not that of the indexes
    ∷ record {
      graph = some (node (edge 1 capture 7 ∷ edge 1 maybe 3 ∷ [])) ∷ some (node (edge 0 alias 0 ∷ [])) ∷ [];
      text = "digraph g {\n  n0;\n  n1;\n  n0 -> n1 [label=\"capture 7\"];\n  n0 -> n1 [label=\"maybe 3\"];\n  n1 -> n0 [label=\"alias 0\"];\n}\n";
    }
    -- identifiers without a node have no line; numbers of two to four digits, zeros among them
    ∷ record {
      graph = replicate 10 none ++ (some (node (edge 109 alias 4095 ∷ [])) ∷ (replicate 98 none ++ (some (node (edge 10 capture 1000 ∷ [])) ∷ [])));
      text = "digraph g {\n  n10;\n  n109;\n  n10 -> n109 [label=\"alias 4095\"];\n  n109 -> n10 [label=\"capture 1000\"];\n}\n";
    }
    ∷ []

-- the texts are those of the graphs
unfoldable pub graphs_right : List GraphCase → Bool
graphs_right [] = true
graphs_right (c ∷ l) = same (bytes c.text) (dot c.graph) && graphs_right l

-- ---- calls
-- what is said of a call
pub data DotClaim : Type 0 where
  -- the text that it writes
  writes : String → DotClaim
  -- the number that it is refused with
  refused_with : ℕ → DotClaim

-- a call: the sheet, and the lengths of the workspace and of the lent bytes
pub record DotCase : Type 0 where
  pub sheet : List ℕ
  pub workspace : ℕ
  pub room : ℕ
  pub claim : DotClaim

-- a row
abbrev row : List ℕ → ℕ → ℕ → DotClaim → DotCase
row s w r c = record { sheet = s; workspace = w; room = r; claim = c }

-- "Create-from 0 into 1, Alias 0 into 1 twice": every edge is stored, and CreateFrom's is an alias
abbrev three_times : List ℕ
three_times = sheet 3 (0 ∷ []) 2 (block 0 [] (two 10 0 1 ∷ two 6 0 1 ∷ two 6 0 1 ∷ []) ∷ [])

-- "A phi waits for x with index 0; Mutate x has 1, Alias x into y has 2": x 0, y 1, the phi 2, which names its own block
abbrev waits : List ℕ
waits = sheet 4 (0 ∷ 1 ∷ []) 3 (block 0 (phi 2 (operand 0 0 ∷ []) ∷ []) (one 1 0 ∷ two 6 0 1 ∷ []) ∷ [])

-- Capture 0 into 1, MaybeAlias 1 into 0, Mutate 0, Assign 1 into 2 which has no node yet, Return 2: the index counts the mutation, and Return is an alias
abbrev words : List ℕ
words = sheet 4 (0 ∷ 1 ∷ []) 3 (block_of 0 [] (instruction 1 (two 5 0 1 ∷ two 7 1 0 ∷ one 1 0 ∷ two 8 1 2 ∷ []) ∷ []) (returning 2 (place 2) []) ∷ [])

-- "CreateFrom always creates into": 0 has no node, so there is no edge and 0 has no line
abbrev no_from : List ℕ
no_from = sheet 3 [] 2 (block 0 [] (two 10 0 1 ∷ []) ∷ [])

-- Alias 0 into 1, Alias 1 into 0, Create 1: "drops its own relations; others' relations to it stay"
abbrev anew : List ℕ
anew = sheet 3 (0 ∷ 1 ∷ []) 2 (block 0 [] (two 6 0 1 ∷ two 6 1 0 ∷ one 9 1 ∷ []) ∷ [])

-- 512 identifiers; ten mutations of 9, then Alias 10 into 511
abbrev far : List ℕ
far = sheet 512 (9 ∷ 10 ∷ []) 511 (block_of 0 [] (instruction 1 (replicate 10 (one 1 9)) ∷ instruction 2 (two 6 10 511 ∷ []) ∷ []) (other 3) ∷ [])

-- one identifier, no parameter and no block
abbrev single : List ℕ
single = sheet 1 [] 0 []

-- the calls
unfoldable pub drawings : List DotCase
drawings =
    row single 16384 20 (writes "digraph g {\n  n0;\n}\n")
    ∷ row three_times 16384 1000 (writes "digraph g {\n  n0;\n  n1;\n  n2;\n  n0 -> n1 [label=\"alias 0\"];\n  n0 -> n1 [label=\"alias 1\"];\n  n0 -> n1 [label=\"alias 2\"];\n}\n")
    ∷ row waits 16384 1000 (writes "digraph g {\n  n0;\n  n1;\n  n2;\n  n3;\n  n0 -> n1 [label=\"alias 2\"];\n  n0 -> n2 [label=\"alias 0\"];\n}\n")
    ∷ row words 16384 1000 (writes "digraph g {\n  n0;\n  n1;\n  n2;\n  n3;\n  n0 -> n1 [label=\"capture 0\"];\n  n1 -> n0 [label=\"maybe 1\"];\n  n1 -> n2 [label=\"alias 3\"];\n  n2 -> n3 [label=\"alias 4\"];\n}\n")
    ∷ row no_from 16384 1000 (writes "digraph g {\n  n1;\n  n2;\n}\n")
    ∷ row anew 16384 1000 (writes "digraph g {\n  n0;\n  n1;\n  n2;\n  n0 -> n1 [label=\"alias 0\"];\n}\n")
    ∷ row far 16384 1000 (writes "digraph g {\n  n9;\n  n10;\n  n511;\n  n10 -> n511 [label=\"alias 10\"];\n}\n")
    -- "never gives 10": Apply is drawn as any effect that builds nothing, and 9 where there is no room
    ∷ row applied 16384 20 (writes "digraph g {\n  n0;\n}\n")
    ∷ row applied 16384 19 (refused_with 9)
    -- "9 compares the lent bytes with this text's length": one byte short, and none
    ∷ row single 16384 19 (refused_with 9)
    ∷ row single 16384 0 (refused_with 9)
    -- "1 to 8 for the sheet as before", before 9
    ∷ row single 16383 0 (refused_with 1)
    ∷ row [] 16384 0 (refused_with 3)
    ∷ row (sheet 1 [] 1 []) 16384 0 (refused_with 5)
    ∷ row (single ++ (0 ∷ [])) 16384 0 (refused_with 7)
    ∷ []

-- the call gave what is claimed
abbrev pub given_drawing : DotClaim → Outcome → Bool
given_drawing (writes t) (accepted a) = same (bytes t) a
given_drawing (writes t) (refusal k) = false
given_drawing (refused_with n) (accepted a) = false
given_drawing (refused_with n) (refusal k) = eqb n k

-- every row holds
unfoldable pub drawings_right : List DotCase → Bool
drawings_right [] = true
drawings_right (c ∷ l) = given_drawing c.claim (draw c.sheet c.workspace c.room) && drawings_right l
