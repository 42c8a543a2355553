-- What a state keeps of an identifier, word by word.
use Prim.Native.Nat.{ℕ, ◌+◌, ◌%◌, ◌<◌}
use native.Mathlib.Omega.{arith}
use mathlib.Core.Path.{◌≡◌, refl, sym, ap, ◌∙◌}
use mathlib.Core.Bool.{not}
use mathlib.Core.List.{List}
use lib.ListN.{get_or}
use lib.Seq.{get_or-take}
use lib.Dec.{eqb}
use Rattle.model.specs.Limits.{most_identifiers}
use Rattle.model.specs.State.{Record, no_record, has_record, State}
use Rattle.workspace.specs.Layout.{RECORD, LSPAN, TSPAN, SEEN}
use Rattle.workspace.proofs.Tables.{tab_at}
use Rattle.aliasing.specs.State.{nodes_of, record_in, record_at, records_of, state_of}
use Rattle.aliasing.proofs.Packed.{has_word}
use Rattle.summary.specs.Records.{Holds}

-- there is a state that the words hold
pub held : (ws : List ℕ) (hand : ℕ) → Holds ws (state_of ws hand)
unfolding state_of
held ws hand = refl

pub holds_state : (ws : List ℕ) (hand : ℕ) {t : State} → state_of ws hand ≡ t → Holds ws t
unfolding state_of
holds_state ws hand e = ap (λ (s : State). s.records) (sym e)

-- the record of x
pub record_held : (ws : List ℕ) (t : State) → Holds ws t → (x : ℕ) → x < most_identifiers → get_or t.records x no_record ≡ record_at (nodes_of ws) x
unfolding records_of
record_held ws t h x k = ap (λ (l : List Record). get_or l x no_record) h ∙ tab_at most_identifiers (record_at (nodes_of ws)) x no_record k

-- a word of the nodes' fields
pub node-word : (ws : List ℕ) (i : ℕ) → i < SEEN → get_or (nodes_of ws) i 0 ≡ get_or ws i 0
unfolding nodes_of
node-word ws i h = get_or-take SEEN ws i 0 h

module _ (ws : List ℕ) (x : ℕ) (h : x < most_identifiers) where
  -- the record of x by the words
  record_words_lem : record_at (nodes_of ws) x ≡ record_in (get_or ws (RECORD + x) 0) (get_or ws (TSPAN + x) 0) (get_or ws (LSPAN + x) 0)
  unfolding record_at
  record_words_lem = rw (node-word ws (RECORD + x) (omega (arith, h)), node-word ws (TSPAN + x) (omega (arith, h)), node-word ws (LSPAN + x) (omega (arith, h)))

  -- whether it is one
  pub has_words : has_record (record_at (nodes_of ws) x) ≡ not (eqb (get_or ws (RECORD + x) 0 % 16) 0)
  has_words = ap has_record record_words_lem ∙ has_word (get_or ws (RECORD + x) 0) (get_or ws (TSPAN + x) 0) (get_or ws (LSPAN + x) 0)

-- the record of x in the state, by the words
pub state_words : (ws : List ℕ) (t : State) → Holds ws t → (x : ℕ) → x < most_identifiers → get_or t.records x no_record ≡ record_in (get_or ws (RECORD + x) 0) (get_or ws (TSPAN + x) 0) (get_or ws (LSPAN + x) 0)
state_words ws t h x k = record_held ws t h x k ∙ record_words_lem ws x k
