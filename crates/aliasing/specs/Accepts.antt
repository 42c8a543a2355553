-- What accepting a node writes, in words.
use Rattle.std.specs.Prelude.{ℕ, ◌+◌, ◌-◌, ◌*◌, ◌/◌, ◌%◌, max, Bool, ◌&&◌, not, List, [], ◌∷◌, get_or, set, ltb, eqb}
use Rattle.model.specs.Lists.{pick}
use Rattle.workspace.specs.Graph.{MISSING, FUNCTION}
use Rattle.workspace.specs.Layout.{RECORD, LSPAN, TSPAN, END, SEEN, VALUE}
use Rattle.hir.specs.Mutations.{reason_bit}
use Rattle.aliasing.specs.declared.mutation.Mutation.{Mutation}

-- is the mark of x no higher than the level?
unfoldable pub fresh_w : List ℕ → ℕ → ℕ → Bool
fresh_w ws x level = not (ltb level (get_or ws (SEEN + x) 0))

-- it is marked then
unfoldable pub enter_w : List ℕ → ℕ → ℕ → List ℕ
enter_w ws x level = pick (fresh_w ws x level) (set ws (SEEN + x) (level + 1)) ws

-- and accepted if it has a node
unfoldable pub enters_w : List ℕ → ℕ → ℕ → Bool
enters_w ws x level = fresh_w ws x level && not (eqb (get_or ws (VALUE + x) 0) MISSING)

-- the word at `at` becomes the larger of itself and v
unfoldable pub raise_w : List ℕ → ℕ → ℕ → List ℕ
raise_w ws at v = pick (ltb (get_or ws at 0) v) (set ws at v) ws

-- the word of a record: its kinds (0 is none, else the level), its reason and the largest index
abbrev pub record_word : ℕ → ℕ → ℕ → ℕ → ℕ
record_word local transitive reason last = local + 4 * transitive + 16 * reason + 32 * last

-- the record's word w once its node is accepted: the higher kind of the transitive or local record, the first reason, the largest index
unfoldable pub kept_word : ℕ → ℕ → ℕ → ℕ → ℕ → ℕ
kept_word w transitive level reason index =
    record_word (pick (eqb transitive 1) (w % 4) (max (w % 4) level)) (pick (eqb transitive 1) (max (w / 4 % 4) level) (w / 4 % 4)) (max (w / 16 % 2) reason) (max (w / 32) index)

-- the span at `at` becomes this one where the level is above the record's kind
unfoldable pub span_w : List ℕ → ℕ → ℕ → ℕ → ℕ → List ℕ
span_w ws at kind level span = pick (ltb kind level) (set ws at span) ws

-- the record of an accepted node x, where its word is w: the word, the span of the transitive or local record
unfoldable pub write_w : ℕ → List ℕ → ℕ → ℕ → ℕ → Mutation → List ℕ
write_w w ws x transitive level m =
    span_w (set ws (RECORD + x) (kept_word w transitive level (reason_bit m.reason) m.index))
    (pick (eqb transitive 1) (TSPAN + x) (LSPAN + x)) (pick (eqb transitive 1) (w / 4 % 4) (w % 4)) level m.span

-- the record of an accepted node x
unfoldable pub record_w : List ℕ → ℕ → ℕ → ℕ → Mutation → List ℕ
record_w ws x transitive level m = write_w (get_or ws (RECORD + x) 0) ws x transitive level m

-- an accepted node x: its record, the largest end
unfoldable pub accept_w : List ℕ → ℕ → ℕ → ℕ → Mutation → List ℕ
accept_w ws x transitive level m = raise_w (record_w ws x transitive level m) (END + x) m.end.0

-- the function of a node whose value is v, if it is a function node
unfoldable pub function_w : ℕ → List ℕ
function_w v = pick (ltb v FUNCTION) [] ((v - FUNCTION) ∷ [])

-- the function that x hands over: its value is v, and it has no record
unfoldable pub hand_w : List ℕ → ℕ → ℕ → Bool → List ℕ
hand_w ws v x errors = pick errors (pick (eqb (get_or ws (RECORD + x) 0 % 16) 0) (function_w v) []) []
