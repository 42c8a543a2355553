-- The state before the first mutation: where the words of the records are 0, there is none, whatever the spans, and nothing was handed over.
use Prim.Native.Nat.{ℕ, ◌+◌, ◌<◌}
use native.Mathlib.Omega.{arith}
use mathlib.Core.List.{List, []}
use mathlib.Core.Path.{◌≡◌, sym, ap, ◌∙◌}
use lib.ListN.{get_or, replicate, length-replicate, get_or-replicate}
use lib.Seq.{slice_empty, get_or-take, ext_get_or}
use Rattle.model.specs.Limits.{most_identifiers}
use Rattle.model.specs.Graph.{Graph}
use Rattle.model.specs.State.{no_record}
use Rattle.workspace.specs.Layout.{RECORD, LSPAN, TSPAN, SEEN, HANDED}
use Rattle.workspace.specs.Rows.{rows_of}
use Rattle.workspace.specs.Graph.{tab, graph_of_rows}
use Rattle.workspace.proofs.Tables.{tab-length, tab_at}
use Rattle.aliasing.specs.State.{nodes_of, record_in, record_at, records_of, ends_of, state_of}

-- the words of the records are 0
abbrev pub Bare : List ℕ → Type 0
Bare ws = (x : ℕ) → x < most_identifiers → get_or ws (RECORD + x) 0 ≡ 0

bare_nodes : (ws : List ℕ) → Bare ws → Bare (nodes_of ws)
unfolding nodes_of
bare_nodes ws z x h = get_or-take SEEN ws (RECORD + x) 0 (omega arith) ∙ z x h

no_record_lem : (ns : List ℕ) → Bare ns → (x : ℕ) → x < most_identifiers → record_at ns x ≡ no_record
unfolding record_at
no_record_lem ns z x h = ap (λ (w : ℕ). record_in w (get_or ns (TSPAN + x) 0) (get_or ns (LSPAN + x) 0)) (z x h)

no_records : (ns : List ℕ) → Bare ns → records_of ns ≡ replicate most_identifiers no_record
unfolding records_of
no_records ns z =
    ext_get_or no_record (tab most_identifiers (record_at ns)) (replicate most_identifiers no_record) (tab-length most_identifiers (record_at ns) ∙ sym (length-replicate most_identifiers no_record))
    (λ i h. let k : i < most_identifiers = omega (arith, tab-length most_identifiers (record_at ns)) in
    tab_at most_identifiers (record_at ns) i no_record k ∙ no_record_lem ns z i k ∙ sym (get_or-replicate most_identifiers i no_record no_record k))

pub state_new : (ws : List ℕ) (g : Graph) (ends : List ℕ) → graph_of_rows (rows_of ws) ≡ g → Bare ws → ends_of (nodes_of ws) ≡ ends
    → state_of ws HANDED ≡ record { graph = g; records = replicate most_identifiers no_record; ends = ends; handed = [] }
unfolding state_of
state_new ws g ends p z q = λ j. record { graph = p j; records = no_records (nodes_of ws) (bare_nodes ws z) j; ends = q j; handed = slice_empty HANDED ws j }
