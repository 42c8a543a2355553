use mathlib.Core.Path.{◌≡◌, sym, ap, subst, ◌∙◌}
use Prim.Native.Nat.{ℕ}
use lib.Dec.{eqb}
use borrow.Author.Tests.{ne_eqb}
use mathlib.Core.List.{List}
use Rattle.workspace.specs.Rows.{rows_of}
use Rattle.aliasing.specs.Says.{direction_bit}
use Rattle.aliasing.specs.Pushes.{pushed_w}
use Rattle.writing.specs.Wrote.{Wrote}
use Rattle.aliasing.proofs.Bits.{number_bit, number_kind}
use Rattle.aliasing.proofs.PushLaws.{pushed_towards}
use Rattle.aliasing.proofs.pushes.push_all.Goals.{then-direction-eq1, else-direction-eq1}
use Rattle.aliasing.proofs.pushes.push_all.Goals as goal

pub returns : goal.returns
returns c =
    let a = c.args in
    let d = c.if-direction-eq1.entry in
    let towards : eqb a.direction 1 ≡ eqb (direction_bit d) 1 =
    elim c.if-direction-eq1.branch [
      | then-direction-eq1 w ↦ ap (λ (n : ℕ). eqb n 1) w.if-direction-eq1.true ∙ sym (ap (λ e. eqb (direction_bit e) 1) w.entry-is)
      | else-direction-eq1 w ↦ ne_eqb a.direction 1 w.if-direction-eq1.false ∙ sym (ap (λ e. eqb (direction_bit e) 1) w.entry-is)
    ] in
    let bits = c.requires.x_lt_most_identifiers.1 in
    subst (λ (vs : List ℕ). Wrote vs a.ws.now a.top c.push_entry.new.ws c.push_entry.result)
    (sym (pushed_towards (rows_of a.ws.now) a.x a.direction (direction_bit d) a.index a.transitive a.kind towards
    ∙ sym (λ j. pushed_w (rows_of a.ws.now) a.x (direction_bit d) a.index (number_bit a.transitive bits.0 j) (number_kind c.kind_of.result a.kind bits.1 c.kind_of.ensures j))))
    c.push_entry.ensures
