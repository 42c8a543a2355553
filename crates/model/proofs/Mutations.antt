-- Every mutation that building leaves for the walks is that of an effect of an instruction. So it is transitive if the sheet has no effect of kind 1 or 2 in instructions.
use Prim.Native.Nat.{ℕ}
use mathlib.Core.Path.{◌≡◌, refl, sym, ap, subst, ◌∙◌}
use mathlib.Core.Bool.{Bool, true, false, true≢false}
use mathlib.Core.List.{List, [], ◌∷◌, ◌++◌, Memᴰ}
use Rattle.model.specs.Lists.{pick, keep, each, among, Every}
use Rattle.model.specs.Sheet.{Place, EffectKind, Freeze, Mutate, MutateConditionally, MutateTransitive, MutateTransitiveConditionally, Capture, Alias, MaybeAlias, Assign, Create, CreateFrom, ImmutableCapture, Apply, CreateFunction, MutateFrozen, MutateGlobal, Impure, Render, Effect, Phi, Instruction, list_of, Terminal, Other, Return, MaybeThrow, Block, Sheet}
use Rattle.model.specs.Effects.{row_of, is_alias}
use Rattle.model.specs.Totals.{instruction_effects}
use Rattle.model.specs.Graph.{phi, create, into_aliases, relate}
use Rattle.model.specs.Mutation.{Kind, conditional, definite, Mutation}
use Rattle.model.specs.Built.{Built, Waiting, changed, comes, between}
use Rattle.model.specs.Building.{instruction_effect, instruction, operand, phi_node, waiting_for, still_waiting, wake, terminal_effect, terminal, block, build}
use Rattle.model.specs.EndsSet.{instructions_of}
use Rattle.model.specs.Certainty.{is_local, AllTransitive, mutation_kind, MutationOf}
use Rattle.model.proofs.Everywhere.{every_append, every_mem, every_member}
use Rattle.model.proofs.Follow.{OnlyTransitive}
use Rattle.model.proofs.Gathers.{gather_gather, mem_gather}
use Rattle.model.proofs.BuiltKeeps.{each_keeps}

-- outside instructions no mutation is added
abbrev Same : Built → Built → Type 0
Same b c = c.mutations ≡ b.mutations

each_same : {A : Type 0} (f : A → Built → Built) → ((a : A) (b : Built) → Same b (f a b)) → (l : List A) (b : Built) → Same b (each f l b)
each_same f h l b = each_keeps f (Same b) l b (λ a m c q. h a c ∙ q) refl

pick_same : (t : Bool) (a b c : Built) → Same a b → Same a c → Same a (pick t b c)
pick_same true a b c p q = p
pick_same false a b c p q = q

phi-same : (p : Phi) (b : Built) → Same b (phi_node p b)
unfolding phi_node operand
phi-same p b = each_same (operand p.place) (λ o c. pick_same (among o.predecessor c.come) c _ _ refl refl) p.operands (changed (create p.place.identifier phi) b)

wake-same : (n : ℕ) (b : Built) → Same b (wake n b)
unfolding wake
wake-same n b = each_same (λ (w : Waiting). changed (relate into_aliases w.index w.origin w.into)) (λ w c. refl) (keep (waiting_for n) b.waiting) (still_waiting n b)

terminal-same : (r : Place) (t : Terminal) (b : Built) → Same b (terminal r t b)
unfolding terminal terminal_effect
terminal-same r (Other o ps) b = refl
terminal-same r (Return o p l) b = each_same terminal_effect (λ e c. pick_same (is_alias e.kind) c _ _ refl refl) l (between (relate into_aliases) p r b)
terminal-same r (MaybeThrow o l) b = each_same terminal_effect (λ e c. pick_same (is_alias e.kind) c _ _ refl refl) l b

module _ (s : Sheet) where
  abbrev Holds : Built → Type 0
  Holds b = Every (MutationOf s) b.mutations

  module _ (i : Instruction) (within : Memᴰ i (instructions_of s.blocks)) (e : Effect) (listed : Memᴰ e (list_of i)) where
    mutates : (b : Built) (m : Mutation) → e.kind ≡ mutation_kind m.transitive m.kind → m.order ≡ i.order → m.identifier ≡ e.first.identifier → m.span ≡ e.first.span
        → Holds b → Every (MutationOf s) (b.mutations ++ (m ∷ []))
    mutates b m k o x p h =
        every_append (MutationOf s) b.mutations (m ∷ []) h (record { instruction = i; within = within; effect = e; listed = listed; kind = k; order = o; identifier = x; span = p }, tt)

    effect-holds : (t : EffectKind) → e.kind ≡ t → (b : Built) → Holds b → Holds (instruction_effect t i.order e b)
    unfolding instruction_effect
    effect-holds Freeze k b h = h
    effect-holds Mutate k b h = mutates b _ k refl refl refl h
    effect-holds MutateConditionally k b h = mutates b _ k refl refl refl h
    effect-holds MutateTransitive k b h = mutates b _ k refl refl refl h
    effect-holds MutateTransitiveConditionally k b h = mutates b _ k refl refl refl h
    effect-holds Capture k b h = h
    effect-holds Alias k b h = h
    effect-holds MaybeAlias k b h = h
    effect-holds Assign k b h = h
    effect-holds Create k b h = h
    effect-holds CreateFrom k b h = h
    effect-holds ImmutableCapture k b h = h
    effect-holds Apply k b h = h
    effect-holds CreateFunction k b h = h
    effect-holds MutateFrozen k b h = h
    effect-holds MutateGlobal k b h = h
    effect-holds Impure k b h = h
    effect-holds Render k b h = h

  instruction-holds : (i : Instruction) → Memᴰ i (instructions_of s.blocks) → (b : Built) → Holds b → Holds (instruction i b)
  unfolding instruction
  instruction-holds i w b h = each_keeps (λ (e : Effect). instruction_effect e.kind i.order e) Holds (list_of i) b (λ e l c q. effect-holds i w e l e.kind refl c q) h

  block-holds : (k : Block) → Memᴰ k s.blocks → (b : Built) → Holds b → Holds (block s.returns k b)
  unfolding block instructions_of
  block-holds k w b h =
      let b₁ : Built = each phi_node k.phis b in
      let b₂ : Built = each instruction k.instructions (comes k.number b₁) in
      let after : Holds b₂ = each_keeps instruction Holds k.instructions (comes k.number b₁)
      (λ i l c q. instruction-holds i (mem_gather (λ (k : Block). k.instructions) w l) c q) (rw (each_same phi_node phi-same k.phis b) h) in
      rw (terminal-same s.returns k.terminal (wake k.number b₂), wake-same k.number b₂) after

  -- each of the sheet's mutations
  pub mutations_of_lem : Every (MutationOf s) (build s).mutations
  unfolding build
  mutations_of_lem = each_keeps (block s.returns) Holds s.blocks _ (λ k w b h. block-holds k w b h) tt

  mutation_transitive : AllTransitive s → (m : Mutation) → MutationOf s m → m.transitive ≡ true
  unfolding instruction_effects instructions_of row_of
  mutation_transitive h m o = go m.transitive m.kind o.kind
    where
      free : is_local o.effect.kind ≡ false
      free = every_member (λ (e : Effect). is_local e.kind ≡ false)
          (subst (λ (l : List Effect). Memᴰ o.effect l) (gather_gather list_of (λ (b : Block). b.instructions) s.blocks) (mem_gather list_of o.within o.listed)) h

      go : (t : Bool) (k : Kind) → o.effect.kind ≡ mutation_kind t k → t ≡ true
      go true k e = refl
      go false definite e = absurd (true≢false (sym (ap is_local e) ∙ free))
      go false conditional e = absurd (true≢false (sym (ap is_local e) ∙ free))

  -- "every mutation transitive"
  pub all_transitive : AllTransitive s → OnlyTransitive (build s).mutations
  all_transitive h = every_mem (MutationOf s) (λ (m : Mutation). m.transitive ≡ true) (build s).mutations (λ m k o. mutation_transitive h m o) mutations_of_lem
