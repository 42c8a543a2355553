-- An accepted sheet is read a second time, built and laid out.
use Prim.Native.Nat.{ℕ, ◌≤◌, ◌<◌}
use native.Mathlib.Omega.{arith}
use mathlib.Core.Path.{◌≡◌, refl, sym, ap, subst, ◌∙◌}
use mathlib.Core.Bool.{Bool, false}
use mathlib.Core.List.{List, []}
use lib.ListN.{length}
use borrow.Author.Tests.{lt-ltb, le-ltb}
use Rattle.model.specs.Limits.{most_identifiers, most_functions, most_params, most_context, most_blocks, most_relations}
use Rattle.model.specs.Lists.{each, Every}
use Rattle.model.specs.Sheet.{Sheet}
use Rattle.model.specs.Ranges.{PlaceBelow}
use Rattle.model.specs.Built.{Built}
use Rattle.model.specs.Building.{build}
use Rattle.model.specs.Building.{block as block_step}
use Rattle.model.specs.Summary.{copied}
use Rattle.model.specs.Reading.{Position, got, refused}
use Rattle.model.specs.Call.{read, holds, IsSheet}
use Rattle.model.proofs.WhenRead.{in_range_lem}
use Rattle.hir.specs.Says.{place_is}
use Rattle.hir.specs.Words.{several, block_from}
use Rattle.workspace.specs.Layout.{LEAST}
use Rattle.building.specs.declared.Building.{Building}
use Rattle.building.specs.Built.{built_of, LaysOut}
use Rattle.instructions.specs.Cost.{costs}
use Rattle.instructions.specs.Builds.{Ready, Builds}
use Rattle.dataflow.specs.Cost.{block_cost}
use Rattle.dataflow.specs.Ranges.{BlockInRange}
use Rattle.dataflow.specs.Accepted.{sheet_of}
use Rattle.dataflow.specs.Whole.{Whole}
use Rattle.dataflow.specs.declared.function.HirFunction.{HirFunction}
use Rattle.dataflow.specs.declared.function.Read.{Read}
use Rattle.dataflow.specs.Function.{Describes}
use Rattle.dataflow.specs.ReadFunction.{FunctionRead}
use Rattle.dataflow.proofs.Accepted.{sheet_is, accepted}
use Rattle.dataflow.proofs.Sheet.{blocks_ready, blocks_whole}
use Rattle.std.specs.Prelude.{Ok, Err}
use Rattle.hir.specs.declared.refusal.Refusal.TheVariants.{Totals}
use Rattle.inference.specs.Whole.{NoneUnless, AppliesIs, Keeps, Prepares}
use Rattle.inference.proofs.Preparing.{prepared}
use Rattle.inference.proofs.Calling.{prepares_as}

-- f with these two flags, whatever proves its limits
abbrev flagged : (f : HirFunction) → Bool → Bool → f.identifiers.count ≤ most_identifiers → f.m ≤ most_functions → f.params ≤ most_params → f.context ≤ most_context → f.blocks.count ≤ most_blocks → f.returns.identifier.0 < f.identifiers.count
    → HirFunction
flagged f copies applies n m params context count returns = record {
  errors = f.errors;
  function_expression = f.function_expression;
  copies = copies;
  applies = applies;
  identifiers = f.identifiers;
  m = f.m;
  params = f.params;
  context = f.context;
  returns = f.returns;
  blocks = f.blocks;
  identifiers_few = n;
  functions_few = m;
  params_few = params;
  context_few = context;
  blocks_few = count;
  returns_below = returns;
}

module _ {sheet : List ℕ} (p : (s : Sheet) × IsSheet sheet s) {ws ws₁ : List ℕ} {x : Read} (g : FunctionRead sheet ws ws₁ x) where
  abbrev f : HirFunction
  f = x.function

  pub blocks_can : PlaceBelow most_identifiers (place_is f.returns) × Ready (several f.blocks.count block_from sheet f.blocks.first) (Every BlockInRange) (costs block_cost) sheet ws₁ x.building
  blocks_can = (omega (arith, g.limited.returns, g.limited.n), blocks_ready (accepted sheet p.1) g.describes g.first)

  module _ {ws₂ : List ℕ} {r : Building} {d : Position} (w : Builds (several f.blocks.count block_from sheet f.blocks.first) (each (block_step (place_is f.returns))) (costs block_cost) sheet ws₁ x.building ws₂ r d) where
    whole : Whole (sheet_of sheet) sheet ws₁ ws₂ r
    whole = blocks_whole g.describes g.first w

    -- what building held is what the code counted, as long as there was room for it
    holds_got : (c : Position) → r.held.most ≤ most_relations → got (sheet_of sheet) c ≡ holds (got (sheet_of sheet) c)
    unfolding holds built_of
    holds_got c h = sym (rw (le-ltb most_relations (build (sheet_of sheet)).held (omega (arith, h, ap (λ (t : Built). t.held) (whole.built h)))))

    holds_not : (c : Position) → most_relations < r.held.most → refused 8 ≡ holds (got (sheet_of sheet) c)
    unfolding holds
    holds_not c h = sym (rw (lt-ltb most_relations (build (sheet_of sheet)).held (whole.over h)))

    itself : IsSheet sheet (sheet_of sheet)
    itself = subst (IsSheet sheet) (sym (sheet_is sheet p.1)) p.1

    -- too much would be held
    pub over_refused : most_relations < r.held.most → Prepares (holds (read sheet)) sheet ws ws₂ (Err Totals)
    over_refused h =
        let eight : Prepares (refused 8) sheet ws ws₂ (Err Totals) = record { is = (refl, whole.same ∙ g.same) } in
        prepares_as eight (holds_not itself.0 h ∙ sym (ap holds itself.1))

    module _ {copies applies : Bool} {n : f.identifiers.count ≤ most_identifiers} {m : f.m ≤ most_functions} {params : f.params ≤ most_params} {context : f.context ≤ most_context} {count : f.blocks.count ≤ most_blocks}
        {returns : f.returns.identifier.0 < f.identifiers.count} where
      describes_flagged : {s : Sheet} → Describes s sheet f → (copies ≡ false → copied s ≡ []) → Describes s sheet (flagged f copies applies n m params context count returns)
      describes_flagged d h = search (d, h)

      pub prepares : NoneUnless copies sheet → AppliesIs applies sheet → {ws₃ ws₄ : List ℕ} → LEAST ≤ length ws → r.held.most ≤ most_relations → LaysOut ws₂ r ws₃ → Keeps f.identifiers.count ws₃ ws₄
          → Prepares (holds (read sheet)) sheet ws ws₄ (Ok (record { function = flagged f copies applies n m params context count returns; building = r }))
      prepares none told {ws₃} {ws₄} size within l k =
          let is : IsSheet sheet (sheet_of sheet) = itself in
          let g₁ : HirFunction = flagged f copies applies n m params context count returns in
          let built = prepared (sheet_of sheet) sheet g₁ r ws ws₁ ws₂ ws₃ ws₄ (describes_flagged g.describes (λ e. none e (sheet_of sheet) is)) (told (sheet_of sheet) is) (in_range_lem sheet (sheet_of sheet) is) g.stands size g.ends whole within l k in
          let all : Prepares (got (sheet_of sheet) is.0) sheet ws ws₄ (Ok (record { function = g₁; building = r })) = record { is = (built, k.same ∙ l.same ∙ whole.same ∙ g.same) } in
          prepares_as all (holds_got is.0 within ∙ sym (ap holds is.1))
