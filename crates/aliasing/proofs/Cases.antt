-- The three things that a step of document 01's walk does, by what is known of the entry; and how many it counts.
use Prim.Native.Nat.{suc, ◌≤◌, ◌<◌}
use mathlib.Core.Bool.{Bool, true, false}
use mathlib.Core.List.{List, ◌∷◌}
use mathlib.Core.Option.{Option, none, some}
use mathlib.Core.Path.{◌≡◌, refl, sym, ap, subst, ◌∙◌}
use lib.ListN.{get_or}
use borrow.Author.Tests.{lt-ltb, le-ltb}
use Rattle.model.specs.Graph.{Node, node_at}
use Rattle.model.specs.Mutation.{level, Mutation}
use Rattle.model.specs.State.{Mode}
use Rattle.model.specs.Walks.{Item, Walk, fresh, skipped, missed, accept, visit, step}

module _ (how : Mode) (m : Mutation) (w : Walk) (e : Item) (q : List Item) (is : w.queue ≡ e ∷ q) where
  pub step_skips : level e.kind ≤ get_or w.seen e.identifier 0 → step how m w.queue w ≡ skipped q w
  unfolding step visit
  step_skips h =
      subst (λ (l : List Item). step how m l w ≡ skipped q w) (sym is)
      (ap (λ (b : Bool). visit how m b (node_at w.state.graph e.identifier) e q w) (le-ltb (get_or w.seen e.identifier 0) (level e.kind) h))

  pub step_misses : get_or w.seen e.identifier 0 < level e.kind → node_at w.state.graph e.identifier ≡ none → step how m w.queue w ≡ missed e q w
  unfolding step visit
  step_misses h o =
      subst (λ (l : List Item). step how m l w ≡ missed e q w) (sym is)
      (ap (λ (b : Bool). visit how m b (node_at w.state.graph e.identifier) e q w) (lt-ltb (get_or w.seen e.identifier 0) (level e.kind) h)
      ∙ ap (λ (n : Option Node). visit how m true n e q w) o)

  pub step-accepts : (n : Node) → get_or w.seen e.identifier 0 < level e.kind → node_at w.state.graph e.identifier ≡ some n → step how m w.queue w ≡ accept how m n e q w
  unfolding step visit
  step-accepts n h o =
      subst (λ (l : List Item). step how m l w ≡ accept how m n e q w) (sym is)
      (ap (λ (b : Bool). visit how m b (node_at w.state.graph e.identifier) e q w) (lt-ltb (get_or w.seen e.identifier 0) (level e.kind) h)
      ∙ ap (λ (o : Option Node). visit how m true o e q w) o)

visit-taken : (how : Mode) (m : Mutation) (b : Bool) (o : Option Node) (e : Item) (q : List Item) (w : Walk) → (visit how m b o e q w).taken ≡ suc w.taken
unfolding visit
visit-taken how m false o e q w = refl
visit-taken how m true none e q w = refl
visit-taken how m true (some n) e q w = refl

-- a step counts its entry
pub step-taken : (how : Mode) (m : Mutation) (w : Walk) (e : Item) (q : List Item) → w.queue ≡ e ∷ q → (step how m w.queue w).taken ≡ suc w.taken
unfolding step
step-taken how m w e q is =
    subst (λ (l : List Item). (step how m l w).taken ≡ suc w.taken) (sym is)
    (visit-taken how m (fresh w.seen e) (node_at w.state.graph e.identifier) e q w)
