-- What building adds to a number that counts its relations and effects.
use Prim.Native.Nat.{ℕ, ◌+◌}
use native.Mathlib.Omega.{arith}
use mathlib.Core.Path.{◌≡◌, refl, ◌∙◌}
use mathlib.Core.Bool.{Bool, true, false}
use mathlib.Core.List.{List, [], ◌∷◌}
use Rattle.model.specs.Lists.{pick, keep, each, among, tally}
use Rattle.model.specs.Sheet.{Place, EffectKind, Effect, Operand, Phi, Instruction, list_of, Terminal, Other, Return, MaybeThrow, Block, Sheet}
use Rattle.model.specs.Effects.{is_alias}
use Rattle.model.specs.Graph.{Graph, phi, create, into_aliases, relate}
use Rattle.model.specs.Built.{Built, Waiting, related, changed, waits, comes, between}
use Rattle.model.specs.Building.{instruction_effect, instruction, operand, phi_node, waiting_for, still_waiting, wake, terminal_effect, terminal, block, first_nodes, build}

-- a number that building adds to: `unit` for a relation outside instructions, `costs` for an effect of an instruction, nothing else
pub record Counter (M : Built → ℕ) (unit : ℕ) (costs : EffectKind → ℕ) : Type 0 where
  pub related : (r : ℕ → Graph → Graph) (b : Built) → M (related r b) ≡ unit + M b
  pub waits : (p from into : ℕ) (b : Built) → M (waits p from into b) ≡ unit + M b
  pub effect : (t : EffectKind) (o : ℕ) (e : Effect) (b : Built) → M (instruction_effect t o e b) ≡ costs t + M b
  pub changed : (h : Graph → Graph) (b : Built) → M (changed h b) ≡ M b
  pub comes : (n : ℕ) (b : Built) → M (comes n b) ≡ M b
  pub still : (n : ℕ) (b : Built) → M (still_waiting n b) ≡ M b

module _ (M : Built → ℕ) (unit : ℕ) (costs : EffectKind → ℕ) (c : Counter M unit costs) where
  module _ {A : Type 0} (f : A → Built → Built) where
    each_counts : (cost : A → ℕ) → ((a : A) (b : Built) → M (f a b) ≡ cost a + M b) → (l : List A) (b : Built) → M (each f l b) ≡ tally cost l + M b
    each_counts cost h [] b = omega arith
    each_counts cost h (a ∷ l) b = omega (arith, each_counts cost h l (f a b), h a b)

    each_nothing : ((a : A) (b : Built) → M (f a b) ≡ M b) → (l : List A) (b : Built) → M (each f l b) ≡ M b
    each_nothing h [] b = refl
    each_nothing h (a ∷ l) b = each_nothing h l (f a b) ∙ h a b

  operand-counts : (into : Place) (o : Operand) (b : Built) → M (operand into o b) ≡ unit + M b
  unfolding operand
  operand-counts into o b = go (among o.predecessor b.come)
    where
      go : (t : Bool) → M (pick t (between (relate into_aliases) o.place into b) (waits o.predecessor o.place.identifier into.identifier b)) ≡ unit + M b
      go true = c.related (λ (i : ℕ). relate into_aliases i o.place.identifier into.identifier) b
      go false = c.waits o.predecessor o.place.identifier into.identifier b

  abbrev operands_cost : Phi → ℕ
  operands_cost p = tally (λ (o : Operand). unit) p.operands

  phi-counts : (p : Phi) (b : Built) → M (phi_node p b) ≡ operands_cost p + M b
  unfolding phi_node
  phi-counts p b =
      let b₁ : Built = changed (create p.place.identifier phi) b in
      omega (arith, each_counts (operand p.place) (λ (o : Operand). unit) (operand-counts p.place) p.operands b₁, c.changed (create p.place.identifier phi) b)

  wake-counts : (n : ℕ) (b : Built) → M (wake n b) ≡ M b
  unfolding wake
  wake-counts n b =
      each_nothing (λ (w : Waiting). changed (relate into_aliases w.index w.origin w.into)) (λ w d. c.changed (relate into_aliases w.index w.origin w.into) d) (keep (waiting_for n) b.waiting) (still_waiting n b)
      ∙ c.still n b

  abbrev terminal_effect_cost : Effect → ℕ
  terminal_effect_cost e = pick (is_alias e.kind) unit 0

  terminal_effect-counts : (e : Effect) (b : Built) → M (terminal_effect e b) ≡ terminal_effect_cost e + M b
  unfolding terminal_effect
  terminal_effect-counts e b = go (is_alias e.kind)
    where
      go : (t : Bool) → M (pick t (between (relate into_aliases) e.first e.second b) b) ≡ pick t unit 0 + M b
      go true = c.related (λ (i : ℕ). relate into_aliases i e.first.identifier e.second.identifier) b
      go false = omega arith

  unfoldable pub terminal_cost : Terminal → ℕ
  terminal_cost (Other o ps) = 0
  terminal_cost (Return o p l) = unit + tally terminal_effect_cost l
  terminal_cost (MaybeThrow o l) = tally terminal_effect_cost l

  terminal-counts : (r : Place) (t : Terminal) (b : Built) → M (terminal r t b) ≡ terminal_cost t + M b
  unfolding terminal terminal_cost
  terminal-counts r (Other o ps) b = omega arith
  terminal-counts r (Return o p l) b =
      omega (arith, each_counts terminal_effect terminal_effect_cost terminal_effect-counts l (between (relate into_aliases) p r b), c.related (λ (i : ℕ). relate into_aliases i p.identifier r.identifier) b)
  terminal-counts r (MaybeThrow o l) b = each_counts terminal_effect terminal_effect_cost terminal_effect-counts l b

  abbrev instruction_cost : Instruction → ℕ
  instruction_cost i = tally (λ (e : Effect). costs e.kind) (list_of i)

  instruction-counts : (i : Instruction) (b : Built) → M (instruction i b) ≡ instruction_cost i + M b
  unfolding instruction
  instruction-counts i b =
      each_counts (λ (e : Effect). instruction_effect e.kind i.order e) (λ (e : Effect). costs e.kind) (λ e d. c.effect e.kind i.order e d) (list_of i) b

  unfoldable pub block_cost : Block → ℕ
  block_cost k = tally operands_cost k.phis + (tally instruction_cost k.instructions + terminal_cost k.terminal)

  block-counts : (r : Place) (k : Block) (b : Built) → M (block r k b) ≡ block_cost k + M b
  unfolding block block_cost
  block-counts r k b =
      let b₁ : Built = each phi_node k.phis b in
      let b₂ : Built = each instruction k.instructions (comes k.number b₁) in
      let h₁ : M b₁ ≡ tally operands_cost k.phis + M b = each_counts phi_node operands_cost phi-counts k.phis b in
      let h₂ : M b₂ ≡ tally instruction_cost k.instructions + M (comes k.number b₁) = each_counts instruction instruction_cost instruction-counts k.instructions (comes k.number b₁) in
      omega (arith, h₁, h₂, c.comes k.number b₁, wake-counts k.number b₂, terminal-counts r k.terminal (wake k.number b₂))

  pub build-counts : (s : Sheet) → M (record { graph = first_nodes s; held = 0; index = 0; come = []; waiting = []; mutations = []; renders = [] }) ≡ 0 → M (build s) ≡ tally block_cost s.blocks
  unfolding build
  build-counts s z =
      omega (arith, z, each_counts (block s.returns) block_cost (block-counts s.returns) s.blocks (record { graph = first_nodes s; held = 0; index = 0; come = []; waiting = []; mutations = []; renders = [] }))
