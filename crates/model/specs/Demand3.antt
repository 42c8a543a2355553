-- The mission's demand 3, as document 01 ("Walks") reads it: one claim about a list of mutations run one after another on the graph as built.
use Rattle.std.specs.Prelude.{ℕ, ◌≤◌, ◌<◌, ◌≡◌, Bool, true, List, [], ◌∷◌, map, length, get_or, take}
use Rattle.std.proofs.Math.Option.{none}
use Rattle.model.specs.Sheet.{Block, Sheet}
use Rattle.model.specs.Graph.{node_at}
use Rattle.model.specs.Mutation.{Mutation}
use Rattle.model.specs.Building.{build}
use Rattle.model.specs.State.{State, Mode, real}
use Rattle.model.specs.Walks.{Walk}
use Rattle.model.specs.Chain.{LeadsTo, LeadsDirectly}
use Rattle.model.specs.Runs.{walks_of, after, reached, times_accepted, largest_end, EachWalk, SameMutations}
use Rattle.model.specs.Summary.{errors, built}
use Rattle.model.specs.Answer.{Range, ranges_before}

-- the function has no phi
abbrev pub NoPhis : List Block → Type 0
NoPhis [] = Unit {0}
NoPhis (b ∷ l) = (b.phis ≡ []) × NoPhis l

-- how a sheet's real mutations run
abbrev pub how : Sheet → Mode
how s = real (errors s)

-- the claim, over any start: errors are recorded or not, n identifiers have ends, and `plain` is known to mean that no node is a phi
pub record Demand3From (errors : Bool) (start : State) (n : ℕ) (plain : Type 0) (ms : List Mutation) : Type 0 where
  -- each identifier's end is the largest of its end at the start and, for each listed mutation that reached it, that mutation's order plus one
  pub ends : (x : ℕ) → x < n → get_or (after (real errors) ms start).ends x 0 ≡ largest_end ms (walks_of (real errors) ms start) x (get_or start.ends x 0)
  -- each listed mutation reaches only identifiers that an allowed chain from it leads to
  pub only : EachWalk (λ (m : Mutation) (t : State) (w : Walk). (x : ℕ) → reached w x ≡ true → LeadsTo start.graph m x) (real errors) ms start
  -- all that a chain of forward and created-from steps alone leads to
  pub direct : EachWalk (λ (m : Mutation) (t : State) (w : Walk). (x : ℕ) → LeadsDirectly start.graph m x → reached w x ≡ true) (real errors) ms start
  -- and, if it is transitive and the function has no phi, all that an allowed chain leads to
  pub all : plain → EachWalk (λ (m : Mutation) (t : State) (w : Walk). m.transitive ≡ true → (x : ℕ) → LeadsTo start.graph m x → reached w x ≡ true) (real errors) ms start
  -- no walk accepts an identifier more than twice
  pub twice : EachWalk (λ (m : Mutation) (t : State) (w : Walk). (x : ℕ) → times_accepted x w.accepted ≤ 2) (real errors) ms start
  -- the same mutations, in whatever order and however often, give the same ends
  pub same : (ns : List Mutation) → SameMutations ms ns → (after (real errors) ms start).ends ≡ (after (real errors) ns start).ends
  -- a mutation whose identifier has no node takes one entry, reaches nothing and leaves all as it was
  pub missing : EachWalk (λ (m : Mutation) (t : State) (w : Walk). node_at start.graph m.identifier ≡ none → (w.taken ≡ 1) × (w.accepted ≡ []) × (w.state ≡ t)) (real errors) ms start

-- the claim about a sheet: its mutations run on `built s`, "the graph as built, with the sheet's ends and no record"
abbrev pub Demand3 : Sheet → List Mutation → Type 0
Demand3 s ms = Demand3From (errors s) (built s) (length s.identifiers) (NoPhis s.blocks) ms

-- "For all mutations once, in sheet order, the ends are those after the call's real walks": those before the pass over operands (document 02, order 4)
abbrev pub AnswerEnds : Sheet → Type 0
AnswerEnds s = map (λ (r : Range). r.end) (ranges_before s) ≡ take (length s.identifiers) (after (how s) (build s).mutations (built s)).ends
