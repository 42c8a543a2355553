-- Demand 3 is about this code: where the words hold the sheet as built, the ends that `process_mutations` leaves are demand 3's.
use Prim.Native.Nat.{ℕ}
use mathlib.Core.List.{List}
use mathlib.Core.Path.{◌≡◌, refl, sym, ap, ◌∙◌}
use lib.ListN.{get_or}
use Rattle.model.specs.Sheet.{Sheet}
use Rattle.model.specs.State.{State}
use Rattle.model.specs.Runs.{after}
use Rattle.model.specs.Summary.{errors, built}
use Rattle.model.specs.Demand3.{how}
use Rattle.model.proofs.Demand3.{demand3}
use Rattle.workspace.specs.Layout.{HANDED}
use Rattle.workspace.specs.Pending.{mutations_of}
use Rattle.aliasing.specs.State.{nodes_of, ends_of, state_of}
use Rattle.aliasing.specs.Pending.{Processed}
use Rattle.aliasing.specs.Demand3.{EndsOf}

-- the ends of the state are the words of the ends
pub state_ends : (ws : List ℕ) (hand : ℕ) → (state_of ws hand).ends ≡ ends_of (nodes_of ws)
unfolding state_of
state_ends ws hand = refl

pub process_demand3 : (s : Sheet) (ws : List ℕ) (count : ℕ) (ws' : List ℕ) (hand : ℕ) → state_of ws HANDED ≡ built s → Processed (errors s) ws count ws' hand → EndsOf s (mutations_of ws count) ws'
process_demand3 s ws count ws' hand is p =
    let ends : ends_of (nodes_of ws') ≡ (after (how s) (mutations_of ws count) (built s)).ends =
    sym (state_ends ws' hand) ∙ ap (λ (t : State). t.ends) (p.state ∙ ap (after (how s) (mutations_of ws count)) is) in
    record {
      claim = demand3 s (mutations_of ws count);
      ends = ends;
      each = λ x h. ap (λ (l : List ℕ). get_or l x 0) ends ∙ (demand3 s (mutations_of ws count)).ends x h;
    }
