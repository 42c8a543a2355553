-- A function is limited; what the second reading asks of a sheet that it describes.
use Prim.Native.Nat.{ℕ, ◌+◌, ◌≤◌}
use native.Mathlib.Omega.{arith}
use mathlib.Core.Path.{◌≡◌, ap, ◌∙◌}
use mathlib.Core.List.{List}
use lib.ListN.{length}
use Rattle.model.specs.Sheet.{Place, Sheet}
use Rattle.model.specs.Summary.{create_returns}
use Rattle.hir.specs.Says.{place_is}
use Rattle.hir.specs.Words.{identifier_at}
use Rattle.model.specs.Limits.{identifier_width}
use Rattle.copies.specs.Returns.{identifier_from, create_of}
use Rattle.copies.proofs.Creates.{identifier_inside, returns_created}
use Rattle.dataflow.specs.declared.function.HirFunction.{HirFunction}
use Rattle.dataflow.specs.Function.{Limited, Describes}

-- each function is limited
pub limited : (f : HirFunction) → Limited f
limited f = record { n = f.identifiers_few; m = f.functions_few; params = f.params_few; context = f.context_few; count = f.blocks_few; returns = f.returns_below }

module _ {s : Sheet} {sheet : List ℕ} {f : HirFunction} (d : Describes s sheet f) where
  -- the identifier of returns stands in the sheet
  pub returns_inside : identifier_from f.identifiers.first f.returns.identifier.0 + identifier_width ≤ length sheet
  returns_inside = identifier_inside f.identifiers.count sheet f.identifiers.first f.returns.identifier.0 f.returns_below d.identifiers_inside

  -- for which Create is written
  pub returns_create : create_of (place_is f.returns) (identifier_at sheet (identifier_from f.identifiers.first f.returns.identifier.0)).type ≡ create_returns s
  returns_create =
      ap (λ (p : Place). create_of p (identifier_at sheet (identifier_from f.identifiers.first p.identifier)).type) d.returns
      ∙ returns_created s sheet f.identifiers.first f.identifiers.count d.identifiers (omega (arith, f.returns_below, ap (λ (p : Place). p.identifier) d.returns))
