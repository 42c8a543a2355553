-- What the steps of building keep holds of what is built.
use Prim.Native.Nat.{ℕ}
use mathlib.Core.Path.{refl}
use mathlib.Core.Bool.{Bool, true, false}
use mathlib.Core.Option.{Option, none}
use mathlib.Core.List.{List, [], ◌∷◌, Memᴰ}
use Rattle.model.specs.Lists.{pick, each, among}
use Rattle.model.specs.Sheet.{IdentifierId, BlockId, EvaluationOrder, Place, EffectKind, Freeze, Mutate, MutateConditionally, MutateTransitive, MutateTransitiveConditionally, Capture, Alias, MaybeAlias, Assign, Create, CreateFrom, ImmutableCapture, Apply, CreateFunction, MutateFrozen, MutateGlobal, Impure, Render, Effect, Operand, Phi, Instruction, list_of, Terminal, Other, Return, MaybeThrow, Block, Sheet}
use Rattle.model.specs.Effects.{is_alias}
use Rattle.model.specs.Graph.{Value, object, phi, function, create, Relation, into_aliases, into_maybe_aliases, into_captures, relate, assign, create_from}
use Rattle.model.specs.Mutation.{Kind, conditional, definite, Reason, reason_of}
use Rattle.model.specs.Built.{Built, changed, between, waits, mutates, renders, comes}
use Rattle.model.specs.Building.{instruction_effect, instruction, operand, phi_node, wake, terminal_effect, terminal, block, first_nodes, build}

module _ {A B : Type 0} where
  pub each_keeps : (f : A → B → B) (P : B → Type 0) (l : List A) (b : B) → ((a : A) → Memᴰ a l → (c : B) → P c → P (f a c)) → P b → P (each f l b)
  each_keeps f P [] b h p = p
  each_keeps f P (a ∷ l) b h p = each_keeps f P l (f a b) (λ c k. h c (Memᴰ.tail k)) (h a (Memᴰ.head refl) b p)

-- before the first block
abbrev pub first_built : Sheet → Built
first_built s = record { graph = first_nodes s; held = 0; index = 0; come = []; waiting = []; mutations = []; renders = [] }

-- a statement about what is built so far is kept if each step keeps it: a creation of a value that `ok` allows, a relation effect, an operand that waits or wakes, a mutation, a render, a block
pub record Keeps (ok : Value → Type 0) (P : Built → Type 0) : Type 0 where
  pub plain : (k : ℕ) → ok object × ok (function k)
  pub created : (x : IdentifierId) (v : Value) (b : Built) → ok v → P b → P (changed (create x v) b)
  pub relates : (r : Relation) (from into : Place) (b : Built) → P b → P (between (relate r) from into b)
  pub assigns : (from into : Place) (b : Built) → P b → P (between assign from into b)
  pub creates_from : (from into : Place) (b : Built) → P b → P (between create_from from into b)
  pub waits : (p : BlockId) (from into : IdentifierId) (b : Built) → P b → P (waits p from into b)
  pub mutates : (t : Bool) (k : Kind) (r : Option Reason) (o : EvaluationOrder) (p : Place) (b : Built) → P b → P (mutates t k r o p b)
  pub renders : (p : Place) (b : Built) → P b → P (renders p b)
  pub comes : (n : BlockId) (b : Built) → P b → P (comes n b)
  pub wakes : (n : BlockId) (b : Built) → P b → P (wake n b)

module _ (ok : Value → Type 0) (P : Built → Type 0) (k : Keeps ok P) where
  pick_keeps : (t : Bool) (b c : Built) → P b → P c → P (pick t b c)
  pick_keeps true b c p q = p
  pick_keeps false b c p q = q

  effect_keeps : (t : EffectKind) (o : ℕ) (e : Effect) (b : Built) → P b → P (instruction_effect t o e b)
  unfolding instruction_effect
  effect_keeps Freeze o e b p = p
  effect_keeps Mutate o e b p = k.mutates false definite (reason_of e.extra) o e.first b p
  effect_keeps MutateConditionally o e b p = k.mutates false conditional none o e.first b p
  effect_keeps MutateTransitive o e b p = k.mutates true definite none o e.first b p
  effect_keeps MutateTransitiveConditionally o e b p = k.mutates true conditional none o e.first b p
  effect_keeps Capture o e b p = k.relates into_captures e.first e.second b p
  effect_keeps Alias o e b p = k.relates into_aliases e.first e.second b p
  effect_keeps MaybeAlias o e b p = k.relates into_maybe_aliases e.first e.second b p
  effect_keeps Assign o e b p = k.assigns e.first e.second b p
  effect_keeps Create o e b p = k.created e.first.identifier object b (k.plain 0).0 p
  effect_keeps CreateFrom o e b p = k.creates_from e.first e.second b p
  effect_keeps ImmutableCapture o e b p = p
  effect_keeps Apply o e b p = p
  effect_keeps CreateFunction o e b p = k.created e.first.identifier (function e.extra) b (k.plain e.extra).1 p
  effect_keeps MutateFrozen o e b p = p
  effect_keeps MutateGlobal o e b p = p
  effect_keeps Impure o e b p = p
  effect_keeps Render o e b p = k.renders e.first b p

  instruction_keeps : (i : Instruction) (b : Built) → P b → P (instruction i b)
  unfolding instruction
  instruction_keeps i b p = each_keeps (λ (e : Effect). instruction_effect e.kind i.order e) P (list_of i) b (λ e m c q. effect_keeps e.kind i.order e c q) p

  operand_keeps : (into : Place) (o : Operand) (b : Built) → P b → P (operand into o b)
  unfolding operand
  operand_keeps into o b p =
      pick_keeps (among o.predecessor b.come) _ _ (k.relates into_aliases o.place into b p) (k.waits o.predecessor o.place.identifier into.identifier b p)

  phi_keeps : ok phi → (f : Phi) (b : Built) → P b → P (phi_node f b)
  unfolding phi_node
  phi_keeps v f b p = each_keeps (operand f.place) P f.operands _ (λ o m c q. operand_keeps f.place o c q) (k.created f.place.identifier phi b v p)

  terminal_effect_keeps : (e : Effect) (b : Built) → P b → P (terminal_effect e b)
  unfolding terminal_effect
  terminal_effect_keeps e b p = pick_keeps (is_alias e.kind) _ _ (k.relates into_aliases e.first e.second b p) p

  terminal_keeps : (r : Place) (t : Terminal) (b : Built) → P b → P (terminal r t b)
  unfolding terminal
  terminal_keeps r (Other o ps) b p = p
  terminal_keeps r (Return o v l) b p = each_keeps terminal_effect P l _ (λ e m c q. terminal_effect_keeps e c q) (k.relates into_aliases v r b p)
  terminal_keeps r (MaybeThrow o l) b p = each_keeps terminal_effect P l b (λ e m c q. terminal_effect_keeps e c q) p

  block_keeps : (r : Place) (t : Block) → ((f : Phi) → Memᴰ f t.phis → ok phi) → (b : Built) → P b → P (block r t b)
  unfolding block
  block_keeps r t v b p =
      terminal_keeps r t.terminal _
      (k.wakes t.number _
      (each_keeps instruction P t.instructions _ (λ i m c q. instruction_keeps i c q)
      (k.comes t.number _ (each_keeps phi_node P t.phis b (λ f m c q. phi_keeps (v f m) f c q) p))))

  -- what holds before the first block holds at the end
  pub built_keeps : (s : Sheet) → ((t : Block) → Memᴰ t s.blocks → (f : Phi) → Memᴰ f t.phis → ok phi) → P (first_built s) → P (build s)
  unfolding build
  built_keeps s v p = each_keeps (block s.returns) P s.blocks _ (λ t m c q. block_keeps s.returns t (v t m) c q) p
