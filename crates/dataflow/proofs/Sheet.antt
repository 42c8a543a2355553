-- The blocks of an accepted sheet: they can be built, and what is built of them is the definition's building of the sheet.
use Prim.Native.Nat.{ℕ, zero, suc, ◌≤◌}
use native.Mathlib.Omega.{arith}
use mathlib.Core.Path.{◌≡◌, refl, sym, subst, ap, ◌∙◌}
use mathlib.Core.List.{List, [], ◌∷◌}
use lib.ListN.{length}
use Rattle.model.specs.Limits.{most_identifiers}
use Rattle.model.specs.Lists.{each, Every}
use Rattle.model.specs.Sheet.{Place, Block, Sheet}
use Rattle.model.specs.Totals.{totals}
use Rattle.model.specs.Graph.{object, create}
use Rattle.model.specs.Built.{Built, held_in}
use Rattle.model.specs.Building.{first_places, no_nodes, first_nodes, build}
use Rattle.model.specs.Building.{block as block_step}
use Rattle.model.specs.Reading.{Position}
use Rattle.model.proofs.HeldMore.{create_less}
use Rattle.model.proofs.Limited.{not-over}
use Rattle.model.proofs.Counted.{tally_one}
use Rattle.hir.specs.Says.{place_is}
use Rattle.hir.specs.Words.{several, block_from}
use Rattle.building.specs.declared.Building.{Building}
use Rattle.building.specs.Built.{nothing}
use Rattle.building.proofs.Operands.{built_eq}
use Rattle.instructions.specs.Cost.{costs, Fits}
use Rattle.instructions.specs.Builds.{SpendsOn, Ready, Builds}
use Rattle.dataflow.specs.Cost.{block_cost}
use Rattle.dataflow.specs.Ranges.{BlockInRange}
use Rattle.dataflow.specs.Accepted.{sheet_of, Accepted}
use Rattle.dataflow.specs.declared.function.HirFunction.{HirFunction}
use Rattle.dataflow.specs.Function.{Describes}
use Rattle.dataflow.specs.Whole.{created_for, first_built, First, Whole}

-- what refusal 8 counts is what the blocks spend
relations_spent : (t : Sheet) → (totals t).relations ≡ (costs block_cost t.blocks).relations
unfolding totals block_cost
relations_spent t = refl

mutations_spent : (t : Sheet) → (totals t).mutations ≡ (costs block_cost t.blocks).mutations
unfolding totals block_cost
mutations_spent t = refl

renders_spent : (t : Sheet) → (totals t).renders ≡ (costs block_cost t.blocks).renders
unfolding totals block_cost
renders_spent t = refl

blocks_spent : (l : List Block) → (costs block_cost l).blocks ≡ length l
unfolding block_cost
blocks_spent l = tally_one l

module _ {t : Sheet} {sheet : List ℕ} {f : HirFunction} (d : Describes t sheet f) {ws : List ℕ} {b : Building} (first : First t ws b) where
  -- the building of all blocks is that of the sheet
  pub blocks_whole : {ws' : List ℕ} {r : Building} {d : Position} → Builds (several f.blocks.count block_from sheet f.blocks.first) (each (block_step (place_is f.returns))) (costs block_cost) sheet ws b ws' r d → Whole t sheet ws ws' r
  unfolding first_built build
  blocks_whole {ws'} {r} h =
      let x : SpendsOn sheet (each (block_step t.returns) t.blocks) (costs block_cost t.blocks) ws b ws' r =
      subst (λ (p : Place). SpendsOn sheet (each (block_step p) t.blocks) (costs block_cost t.blocks) ws b ws' r) d.returns
      (subst (λ (l : List Block). SpendsOn sheet (each (block_step (place_is f.returns)) l) (costs block_cost l) ws b ws' r) d.blocks h.spends) in
      record {
        built = λ a. x.built a ∙ ap (each (block_step t.returns) t.blocks) (first.built sheet);
        over = λ a. omega (arith, x.over a, ap (λ (c : Built). (each (block_step t.returns) t.blocks c).held) (first.built sheet));
        sound = x.sound;
        relations = omega (arith, x.relations, first.relations, relations_spent t);
        mutations = omega (arith, x.mutations, first.mutations, mutations_spent t);
        renders = omega (arith, x.renders, first.renders, renders_spent t);
        come = omega (arith, x.come, first.come, blocks_spent t.blocks);
        low = x.low;
        high = x.high;
        same = x.same;
      }

-- the blocks of an accepted sheet can be built
pub blocks_ready : {sheet : List ℕ} → Accepted sheet → {f : HirFunction} → Describes (sheet_of sheet) sheet f → {ws : List ℕ} {b : Building} → First (sheet_of sheet) ws b
    → Ready (several f.blocks.count block_from sheet f.blocks.first) (Every BlockInRange) (costs block_cost) sheet ws b
blocks_ready {sheet} a d {b = b} first =
    let t : Sheet = sheet_of sheet in
    let limits = not-over (totals t) a.within in
    record {
      sound = first.sound;
      holding = first.holding sheet a.short;
      inside = d.blocks_inside;
      range = subst (Every BlockInRange) (sym d.blocks) a.blocks;
      fits = subst (λ (l : List Block). Fits (costs block_cost l) b) (sym d.blocks) (record {
        indexes = omega (arith, a.indexes, first.relations, relations_spent t, first.mutations, mutations_spent t, first.renders, renders_spent t);
        mutations = omega (arith, limits.0, first.mutations, mutations_spent t);
        renders = omega (arith, limits.1, first.renders, renders_spent t);
        blocks = omega (arith, a.few_blocks, first.come, blocks_spent t.blocks);
      });
    }

-- where no identifier has a node nothing is held
none_held : (n : ℕ) → held_in (no_nodes n) ≤ 0
none_held zero = omega arith
none_held (suc n) = omega (arith, none_held n)

-- the first nodes, created one after another, are the building before the first block
created : (l : List Place) (b : Built) → held_in b.graph ≤ b.held → each created_for l b ≡ record {
  graph = each (λ (p : Place). create p.identifier object) l b.graph;
  held = b.held;
  index = b.index;
  come = b.come;
  waiting = b.waiting;
  mutations = b.mutations;
  renders = b.renders;
}
created [] b h = refl
created (p ∷ l) b h =
    let q : (created_for p b).held ≡ b.held = omega (arith, h, create_less p.identifier object b.graph) in
    created l (created_for p b) (omega arith) ∙ built_eq refl q refl refl refl refl refl

pub first_nodes_lem : (t : Sheet) → each created_for (first_places t) nothing ≡ first_built t
unfolding first_built first_nodes
first_nodes_lem t = created (first_places t) nothing (none_held most_identifiers)

pub first_held : (t : Sheet) → (first_built t).held ≡ 0
unfolding first_built
first_held t = refl
