-- What the workspace stands for: the state that mutations run on (document 01, "Walks").
use Rattle.std.specs.Prelude.{ℕ, zero, suc, ◌+◌, ◌-◌, ◌/◌, ◌%◌, ◌≤◌, ◌<◌, not, List, get_or, take}
use Rattle.std.proofs.Math.Option.{Option, none, some}
use Rattle.std.proofs.Math.Seq.{slice}
use Rattle.model.specs.Limits.{most_identifiers}
use Rattle.model.specs.Lists.{tally, one_if}
use Rattle.model.specs.Mutation.{reason_of}
use Rattle.model.specs.State.{Info, Record, has_record, State}
use Rattle.workspace.specs.Layout.{RECORD, LSPAN, TSPAN, END, SEEN, BASE, HANDED, MUTATIONS}
use Rattle.workspace.specs.Rows.{rows_of}
use Rattle.workspace.specs.Graph.{tab, graph_of_rows}
use Rattle.workspace.specs.Pending.{kind_of}

-- the fields of the nodes
unfoldable pub nodes_of : List ℕ → List ℕ
nodes_of ws = take SEEN ws

-- the marks of the walks: at which level each identifier was accepted, or found missing
unfoldable pub seen_of : List ℕ → List ℕ
seen_of ws = slice SEEN (SEEN + most_identifiers) ws

-- the levels of the walk whose marks count from `base` on: a mark that is no higher is an earlier walk's, and none
unfoldable pub levels : ℕ → List ℕ → List ℕ
levels base seen = tab most_identifiers (λ (x : ℕ). get_or seen x 0 - base)

-- no mark is above `most`
pub record NoneAbove (most : ℕ) (ws : List ℕ) : Type 0 where
  pub marks : (x : ℕ) → x < most_identifiers → get_or (seen_of ws) x 0 ≤ most

-- a record by its kind (0 is none, else the level) and the word of its span
abbrev pub info_of : ℕ → ℕ → Option Info
info_of zero span = none
info_of (suc k) span = some (record { kind = kind_of k; span = span })

-- what a record's word and its spans, the transitive and the local, keep
abbrev pub record_in : ℕ → ℕ → ℕ → Record
record_in w ts ls = record {
  reason = reason_of (w / 16 % 2);
  last = w / 32;
  transitive = info_of (w / 4 % 4) ts;
  local = info_of (w % 4) ls;
}

-- what the fields keep of x
unfoldable pub record_at : List ℕ → ℕ → Record
record_at ns x = record_in (get_or ns (RECORD + x) 0) (get_or ns (TSPAN + x) 0) (get_or ns (LSPAN + x) 0)

-- the records of all identifiers
unfoldable pub records_of : List ℕ → List Record
records_of ns = tab most_identifiers (record_at ns)

-- the end of x
abbrev pub end_at : List ℕ → ℕ → ℕ
end_at ns x = get_or ns (END + x) 0

-- the ends of all identifiers
unfoldable pub ends_of : List ℕ → List ℕ
ends_of ns = tab most_identifiers (end_at ns)

-- the state; `hand` is where the next function is to be handed over
unfoldable pub state_of : List ℕ → ℕ → State
state_of ws hand = record {
  graph = graph_of_rows (rows_of ws);
  records = records_of (nodes_of ws);
  ends = ends_of (nodes_of ws);
  handed = slice HANDED hand ws;
}

-- how many identifiers have no record
unfoldable pub bare : List Record → ℕ
bare rs = tally (λ (r : Record). one_if (not (has_record r))) rs

-- what one mutation after another keeps true: no mark is above where the next walk's levels count from;
-- the functions handed over leave room for one of each identifier without a record: none is handed over by an identifier that has one
pub record Handing (ws : List ℕ) (hand : ℕ) : Type 0 where
  pub low : HANDED ≤ hand
  pub marks : NoneAbove (get_or ws BASE 0) ws
  pub room : hand + bare (records_of (nodes_of ws)) ≤ MUTATIONS
