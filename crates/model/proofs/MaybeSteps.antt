-- A chain ends with Definite exactly if its mutation is Definite and it has no maybe-alias step. So a walk accepts an identifier at Definite exactly if such a chain leads there.
use Prim.Native.Nat.{ℕ, ◌≤◌}
use native.Mathlib.Omega.{arith}
use mathlib.Core.Path.{◌≡◌, refl, ap, ◌∙◌}
use mathlib.Core.Bool.{true}
use mathlib.Core.List.{Memᴰ}
use Rattle.model.specs.Graph.{EdgeKind, capture, alias, maybe, Node, Graph}
use Rattle.model.specs.Mutation.{Kind, conditional, definite, level, Mutation}
use Rattle.model.specs.Size.{enough}
use Rattle.model.specs.State.{Mode, State}
use Rattle.model.specs.Walks.{Item, kind_over, mutate}
use Rattle.model.specs.Chain.{Step, over_forward, over_created, over_alias, over_maybe, over_capture, Chain, here, then, NoPhi}
use Rattle.model.specs.Certainty.{NotMaybe, NoneMaybe, LeadsWithoutMaybe}
use Rattle.model.proofs.Sound.{accepted_chain}
use Rattle.model.proofs.Potential.{walk_ends}
use Rattle.model.proofs.Follow.{transitive_covered}

-- along an edge that no MaybeAlias stored the kind stays
edge_keeps : (a : EdgeKind) (k : Kind) → ¬ (a ≡ maybe) → kind_over a k ≡ k
edge_keeps capture k h = refl
edge_keeps alias k h = refl
edge_keeps maybe k h = absurd (h refl)

step_keeps : {i : ℕ} {n : Node} {e f : Item} (s : Step i n e f) → NotMaybe s → f.kind ≡ e.kind
step_keeps {e} (over_forward a h) d = edge_keeps a.kind e.kind d
step_keeps (over_created a h b) d = refl
step_keeps (over_alias a l h b) d = refl
step_keeps (over_maybe a l h b) d = absurd d
step_keeps (over_capture a t h b) d = refl

-- Definite comes out only where Definite goes in, and not along an edge that a MaybeAlias stored
edge_definite : (a : EdgeKind) (k : Kind) → kind_over a k ≡ definite → ¬ (a ≡ maybe) × (k ≡ definite)
edge_definite capture k h = (λ e. let z : ◌≡◌ {A = ℕ} 0 1 = cc in omega arith, h)
edge_definite alias k h = (λ e. let z : ◌≡◌ {A = ℕ} 0 1 = cc in omega arith, h)
edge_definite maybe k h = absurd (let z : ◌≡◌ {A = ℕ} 0 1 = cc in omega arith)

step_definite : {i : ℕ} {n : Node} {e f : Item} (s : Step i n e f) → f.kind ≡ definite → NotMaybe s × (e.kind ≡ definite)
step_definite {e} (over_forward a h) k = edge_definite a.kind e.kind k
step_definite (over_created a h b) k = (tt, k)
step_definite (over_alias a l h b) k = (tt, k)
step_definite (over_maybe a l h b) k = absurd (let z : ◌≡◌ {A = ℕ} 0 1 = cc in omega arith)
step_definite (over_capture a t h b) k = (tt, k)

chain_keeps : {g : Graph} {m : Mutation} {e : Item} (c : Chain g m e) → NoneMaybe c → e.kind ≡ m.kind
chain_keeps (here n o) d = refl
chain_keeps (then n n' c o s o') d = step_keeps s d.1 ∙ chain_keeps c d.0

chain_definite : {g : Graph} {m : Mutation} {e : Item} (c : Chain g m e) → e.kind ≡ definite → NoneMaybe c × (m.kind ≡ definite)
chain_definite (here n o) k = (tt, k)
chain_definite (then n n' c o s o') k =
    let a = step_definite s k in
    let b = chain_definite c a.1 in
    ((b.0, a.0), b.1)

level_definite : (k : Kind) → 2 ≤ level k → k ≡ definite
level_definite conditional h = absurd (omega arith)
level_definite definite h = refl

module _ (how : Mode) (m : Mutation) (s : State) (x : ℕ) where
  -- the walk accepts x at Definite
  abbrev pub AcceptsDefinitely : Type 0
  AcceptsDefinitely = (e : Item) × Memᴰ e (mutate how m s).accepted × (e.identifier ≡ x) × (2 ≤ level e.kind)

  -- on any graph
  pub accepted_definite : AcceptsDefinitely → (m.kind ≡ definite) × LeadsWithoutMaybe s.graph m x
  unfolding mutate
  accepted_definite w =
      let c : Chain s.graph m w.0 = accepted_chain how s m (enough s.graph) w.0 w.1 in
      let d = chain_definite c (level_definite w.0.kind w.3) in
      (d.1, (w.0, w.2, c, d.0))

  -- of a transitive mutation, on a graph without phis
  pub definite_accepted : NoPhi s.graph → m.transitive ≡ true → m.kind ≡ definite → LeadsWithoutMaybe s.graph m x → AcceptsDefinitely
  unfolding mutate
  definite_accepted v t k w =
      let c = transitive_covered how (enough s.graph) s m (walk_ends how (enough s.graph) s m (omega arith)) t v w.2 in
      let l : level w.0.kind ≡ 2 = ap level (chain_keeps w.2 w.3 ∙ k) in
      (c.0, c.1, c.2 ∙ w.1, omega (arith, c.3))
