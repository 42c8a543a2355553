-- The lent workspace: where each part of it begins. The parts stand side by side, in the order in which they are named here.
use Rattle.std.specs.Prelude.{ℕ}
use Rattle.model.specs.Limits.{least_workspace}

-- the words that a workspace has at least
abbrev pub LEAST : ℕ
LEAST = least_workspace

-- the fields of the nodes, 512 words each: the record's word, which is the local kind (0 none, 1 Conditional, 2 Definite) + 4 * the transitive kind
-- + 16 * the reason (0 none, 1 AssignCurrentProperty) + 32 * the largest index of a mutation
abbrev pub RECORD : ℕ
RECORD = 0

-- the local record's span
abbrev pub LSPAN : ℕ
LSPAN = 512

-- the transitive record's span
abbrev pub TSPAN : ℕ
TSPAN = 1024

-- the end of the range
abbrev pub END : ℕ
END = 1536

-- what the walk under way has taken, 512 words; while building, the numbers of the blocks that have come
abbrev pub SEEN : ℕ
SEEN = 2048

-- where the levels of the next walk count from
abbrev pub BASE : ℕ
BASE = 2560

-- the rows of the graph, from here up to QUEUE: the values, 512 words
abbrev pub VALUE : ℕ
VALUE = 2561

-- the bounds of each node's forward edges, 513 words: how many edges there are from this node on
abbrev pub FBOUND : ℕ
FBOUND = 3073

-- the forward edges, 1,024 words
abbrev pub FEDGE : ℕ
FEDGE = 3586

-- the bounds of each node's four lists of entries, 2,049 words: how many entries there are from this list on
abbrev pub BBOUND : ℕ
BBOUND = 4610

-- the entries, 1,024 words
abbrev pub BENTRY : ℕ
BENTRY = 6659

-- the queue of a walk, 4,097 words
abbrev pub QUEUE : ℕ
QUEUE = 7683

-- while building, in the words of the rows: which nodes have had a forward edge, 512 words
abbrev pub MARKS : ℕ
MARKS = 3073

-- while building, in the queue's words: the log of forward edges, 1,024 words
abbrev pub EDGES : ℕ
EDGES = 7683

-- the log of entries, 1,024 words
abbrev pub ENTRIES : ℕ
ENTRIES = 8707

-- the phis that have operands, 4,096 words
abbrev pub PHIS : ℕ
PHIS = 9731

-- while the pass over operands runs, in the words of the queue and behind it: the starts, 512 words
abbrev pub STARTS : ℕ
STARTS = 7683

-- the ends, 512 words
abbrev pub ENDS : ℕ
ENDS = 8195

-- the marks of the inner functions' context places, 64 words each
abbrev pub CONTEXTS : ℕ
CONTEXTS = 8707

-- where they end
abbrev pub PASSED : ℕ
PASSED = 12803

-- the functions whose diagnostics are handed over, 512 words
abbrev pub HANDED : ℕ
HANDED = 11780

-- the mutations, three words each, up to 512
abbrev pub MUTATIONS : ℕ
MUTATIONS = 13827

-- the renders, up to 256
abbrev pub RENDERS : ℕ
RENDERS = 15363

-- the inner functions' places, 64 words
abbrev pub FUNCTIONS : ℕ
FUNCTIONS = 15619

-- the simulated mutations, 129 words
abbrev pub SIMULATED : ℕ
SIMULATED = 15683

-- the tracked places, parameters, context and the return, two words each, up to 129
abbrev pub TRACKED : ℕ
TRACKED = 15812
