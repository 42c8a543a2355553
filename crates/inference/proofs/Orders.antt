-- Every mutation of an accepted sheet has an instruction's order, at most 999,999.
use Prim.Native.Nat.{ℕ, ◌≤◌}
use mathlib.Core.Bool.{Bool, true, false}
use mathlib.Core.List.{List, [], ◌∷◌, ◌++◌}
use lib.ListN.{length}
use Rattle.model.specs.Limits.{most_order}
use Rattle.model.specs.Lists.{pick, each, among, keep, Every}
use Rattle.model.specs.Sheet.{BlockId, EvaluationOrder, Place, EffectKind, Freeze, Mutate, MutateConditionally, MutateTransitive, MutateTransitiveConditionally, Capture, Alias, MaybeAlias, Assign, Create, CreateFrom, ImmutableCapture, Apply, CreateFunction, MutateFrozen, MutateGlobal, Impure, Render, Effect, Operand, Phi, Instruction, list_of, Terminal, Other, Return, MaybeThrow, Block, Sheet}
use Rattle.model.specs.Effects.{is_alias}
use Rattle.model.specs.Ranges.{InstructionBelow, BlockBelow, SheetBelow}
use Rattle.model.specs.Mutation.{Mutation}
use Rattle.model.specs.Graph.{into_aliases, relate}
use Rattle.model.specs.Built.{Waiting, Built, changed, between}
use Rattle.model.specs.Building.{instruction_effect, operand, phi_node, wake, waiting_for, still_waiting, terminal_effect, build}
use Rattle.model.specs.Building.{instruction as instruction_step, terminal as terminal_step, block as block_step}
use Rattle.model.proofs.Everywhere.{every_append}
use Rattle.model.proofs.BuiltKeeps.{each_keeps}

abbrev Small : Mutation → Type 0
Small m = m.order ≤ most_order

abbrev Good : Built → Type 0
Good b = Every Small b.mutations

one_more_lem : (l : List Mutation) (m : Mutation) → Every Small l → Small m → Every Small (l ++ (m ∷ []))
one_more_lem l m h k = every_append Small l (m ∷ []) h (k, tt)

effect_good : (k : EffectKind) (o : EvaluationOrder) (e : Effect) (b : Built) → o ≤ most_order → Good b → Good (instruction_effect k o e b)
unfolding instruction_effect
effect_good Freeze o e b h g = g
effect_good Mutate o e b h g = one_more_lem b.mutations _ g h
effect_good MutateConditionally o e b h g = one_more_lem b.mutations _ g h
effect_good MutateTransitive o e b h g = one_more_lem b.mutations _ g h
effect_good MutateTransitiveConditionally o e b h g = one_more_lem b.mutations _ g h
effect_good Capture o e b h g = g
effect_good Alias o e b h g = g
effect_good MaybeAlias o e b h g = g
effect_good Assign o e b h g = g
effect_good Create o e b h g = g
effect_good CreateFrom o e b h g = g
effect_good ImmutableCapture o e b h g = g
effect_good Apply o e b h g = g
effect_good CreateFunction o e b h g = g
effect_good MutateFrozen o e b h g = g
effect_good MutateGlobal o e b h g = g
effect_good Impure o e b h g = g
effect_good Render o e b h g = g

instruction_good : (i : Instruction) (b : Built) → i.order ≤ most_order → Good b → Good (instruction_step i b)
unfolding instruction_step
instruction_good i b h g =
    each_keeps (λ (e : Effect). instruction_effect e.kind i.order e) Good (list_of i) b (λ e m c q. effect_good e.kind i.order e c h q) g

instructions_good : (n m : ℕ) (l : List Instruction) (b : Built) → Every (InstructionBelow n m) l → Good b → Good (each instruction_step l b)
instructions_good n m [] b h g = g
instructions_good n m (i ∷ l) b h g = instructions_good n m l (instruction_step i b) h.1 (instruction_good i b h.0.order g)

pick_good : (t : Bool) (b c : Built) → Good b → Good c → Good (pick t b c)
pick_good true b c g h = g
pick_good false b c g h = h

operand_good : (into : Place) (o : Operand) (b : Built) → Good b → Good (operand into o b)
unfolding operand
operand_good into o b g = pick_good (among o.predecessor b.come) _ _ g g

phi_good : (p : Phi) (b : Built) → Good b → Good (phi_node p b)
unfolding phi_node
phi_good p b g = each_keeps (operand p.place) Good p.operands _ (λ o m c q. operand_good p.place o c q) g

wake_good : (n : BlockId) (b : Built) → Good b → Good (wake n b)
unfolding wake
wake_good n b g =
    each_keeps (λ (w : Waiting). changed (relate into_aliases w.index w.origin w.into)) Good (keep (waiting_for n) b.waiting) (still_waiting n b) (λ w m c q. q) g

effect_last : (e : Effect) (b : Built) → Good b → Good (terminal_effect e b)
unfolding terminal_effect
effect_last e b g = pick_good (is_alias e.kind) _ _ g g

effects_last : (l : List Effect) (b : Built) → Good b → Good (each terminal_effect l b)
effects_last l b g = each_keeps terminal_effect Good l b (λ e m c q. effect_last e c q) g

terminal_good : (r : Place) (t : Terminal) (b : Built) → Good b → Good (terminal_step r t b)
unfolding terminal_step
terminal_good r (Other o ps) b g = g
terminal_good r (Return o p l) b g = effects_last l (between (relate into_aliases) p r b) g
terminal_good r (MaybeThrow o l) b g = effects_last l b g

block_good : (n m : ℕ) (r : Place) (k : Block) (b : Built) → BlockBelow n m k → Good b → Good (block_step r k b)
unfolding block_step
block_good n m r k b h g =
    terminal_good r k.terminal _
    (wake_good k.number _
    (instructions_good n m k.instructions _ h.1
    (each_keeps phi_node Good k.phis b (λ p i c q. phi_good p c q) g)))

blocks_good : (n m : ℕ) (r : Place) (l : List Block) (b : Built) → Every (BlockBelow n m) l → Good b → Good (each (block_step r) l b)
blocks_good n m r [] b h g = g
blocks_good n m r (k ∷ l) b h g = blocks_good n m r l (block_step r k b) h.1 (block_good n m r k b h.0 g)

pub orders : (s : Sheet) → SheetBelow s → Every Small (build s).mutations
unfolding build
orders s h = blocks_good (length s.identifiers) (length s.functions) s.returns s.blocks _ h.blocks tt
