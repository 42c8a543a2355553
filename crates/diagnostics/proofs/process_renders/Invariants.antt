use Rattle.copies.specs.Functions.{functions_of}
use Rattle.diagnostics.proofs.Rendering.{Rendering}
use Rattle.diagnostics.proofs.process_renders.Given as goal

abbrev pub invariant-loop-i : goal.invariant-loop-i
invariant-loop-i l = Rendering (functions_of l.lists l.initial.ws l.count) l.initial.ws l.renders l.initial.out l.ws l.out l.i
