-- Operands that are stored take nothing away: no less is held than before, and the same nodes are there.
use Prim.Native.Nat.{ℕ, ◌≤◌}
use native.Mathlib.Omega.{arith}
use mathlib.Core.Bool.{Bool}
use mathlib.Core.List.{List, [], ◌∷◌}
use mathlib.Core.Path.{◌≡◌, refl, ◌∙◌}
use Rattle.model.specs.Lists.{keep, each}
use Rattle.model.specs.Graph.{Graph, has_node, into_aliases, relate}
use Rattle.model.specs.Built.{Waiting, held_in}
use Rattle.model.proofs.HeldMore.{more_held, relate_more}
use Rattle.building.specs.Phis.{stored}
use Rattle.building.proofs.Steps.{relate_has}

-- what an operand stores
abbrev pub stores : Waiting → Graph → Graph
stores w = relate into_aliases w.index w.origin w.into

pub each_more : (l : List Waiting) (g : Graph) → held_in g ≤ held_in (each stores l g)
each_more [] g = omega arith
each_more (w ∷ l) g = omega (arith, more_held g (stores w g) (relate_more into_aliases w.index w.origin w.into g), each_more l (stores w g))

each_has : (l : List Waiting) (g : Graph) (x : ℕ) → has_node (each stores l g) x ≡ has_node g x
each_has [] g x = refl
each_has (w ∷ l) g x = each_has l (stores w g) x ∙ relate_has into_aliases w.index w.origin w.into g x

pub stored_more : (test : Waiting → Bool) (l : List Waiting) (g : Graph) → held_in g ≤ held_in (stored test l g)
unfolding stored
stored_more test l g = each_more (keep test l) g

pub stored_has : (test : Waiting → Bool) (l : List Waiting) (g : Graph) (x : ℕ) → has_node (stored test l g) x ≡ has_node g x
unfolding stored
stored_has test l g x = each_has (keep test l) g x
