-- A step of the pass adds places at the end of a section, and looks at none that are there.
use mathlib.Core.Bool.{Bool}
use mathlib.Core.Path.{◌≡◌, refl, sym, ap, ◌∙◌}
use mathlib.Core.List.{List, [], ◌∷◌, ◌++◌, append-nil, append_assoc}
use Rattle.model.specs.Lists.{each}
use Rattle.model.specs.Sheet.{EvaluationOrder, InnerFunction, Place, Phi, Instruction, Terminal, Block}
use Rattle.model.specs.Operands.{Pass, phis, instruction, terminal, block, first_order}
use Rattle.operands.specs.declared.Section.{Section}
use Rattle.operands.specs.declared.Section.TheVariants.{Phis, Instructions, Terminals}
use Rattle.operands.specs.Passes.{forget, places_in}

pub record Adds (section : Section) (step : Pass → Pass) : Type 0 where
  pub state : (p : Pass) → forget (step p) ≡ forget (step (forget p))
  pub places : (p : Pass) → places_in section (step p) ≡ places_in section p ++ places_in section (step (forget p))

-- nothing is left of the places
pub none_in : (section : Section) (p : Pass) → places_in section (forget p) ≡ []
unfolding forget
none_in Phis p = refl
none_in Instructions p = refl
none_in Terminals p = refl

pub phis_adds : (section : Section) (o : EvaluationOrder) (l : List Phi) → Adds section (phis o l)
unfolding phis forget
phis_adds Phis o l = record { state = λ p. refl; places = λ p. refl }
phis_adds Instructions o l = record { state = λ p. refl; places = λ p. sym (append-nil p.instructions) }
phis_adds Terminals o l = record { state = λ p. refl; places = λ p. sym (append-nil p.terminals) }

pub instruction_adds : (section : Section) (fs : List InnerFunction) (i : Instruction) → Adds section (instruction fs i)
unfolding instruction forget
instruction_adds Phis fs i = record { state = λ p. refl; places = λ p. sym (append-nil p.phis) }
instruction_adds Instructions fs i = record { state = λ p. refl; places = λ p. refl }
instruction_adds Terminals fs i = record { state = λ p. refl; places = λ p. sym (append-nil p.terminals) }

pub terminal_adds : (section : Section) (fe : Bool) (t : Terminal) → Adds section (terminal fe t)
unfolding terminal forget
terminal_adds Phis fe t = record { state = λ p. refl; places = λ p. sym (append-nil p.phis) }
terminal_adds Instructions fe t = record { state = λ p. refl; places = λ p. sym (append-nil p.instructions) }
terminal_adds Terminals fe t = record { state = λ p. refl; places = λ p. refl }

-- one step after another
pub then_adds : (section : Section) (f g : Pass → Pass) → Adds section f → Adds section g → Adds section (λ (p : Pass). g (f p))
then_adds section f g a b = record {
  state = λ p. b.state (f p) ∙ ap (λ (q : Pass). forget (g q)) (a.state p) ∙ sym (b.state (f (forget p)));
  places = λ p.
      let here : List Place = places_in section p in
      let one : List Place = places_in section (f (forget p)) in
      let two : List Place = places_in section (g (forget (f (forget p)))) in
      b.places (f p)
      ∙ ap (λ (l : List Place). l ++ places_in section (g (forget (f p)))) (a.places p)
      ∙ ap (λ (q : Pass). (here ++ one) ++ places_in section (g q)) (a.state p)
      ∙ append_assoc here one two
      ∙ ap (λ (l : List Place). here ++ l) (sym (b.places (f (forget p))));
}

-- no step
id_adds : (section : Section) → Adds section (λ (p : Pass). p)
unfolding forget
id_adds section = record {
  state = λ p. refl;
  places = λ p. sym (ap (λ (l : List Place). places_in section p ++ l) (none_in section p) ∙ append-nil (places_in section p));
}

-- a step for each member of a list
pub each_adds : {A : Type 0} (section : Section) (f : A → Pass → Pass) → ((a : A) → Adds section (f a)) → (l : List A) → Adds section (each f l)
each_adds section f h [] = id_adds section
each_adds section f h (a ∷ l) = then_adds section (f a) (each f l) (h a) (each_adds section f h l)

pub block_adds : (section : Section) (fe : Bool) (fs : List InnerFunction) (b : Block) → Adds section (block fe fs b)
unfolding block
block_adds section fe fs b =
    let o : EvaluationOrder = first_order b.instructions b.terminal in
    then_adds section (λ (p : Pass). each (instruction fs) b.instructions (phis o b.phis p)) (terminal fe b.terminal)
    (then_adds section (phis o b.phis) (each (instruction fs) b.instructions) (phis_adds section o b.phis) (each_adds section (instruction fs) (instruction_adds section fs) b.instructions))
    (terminal_adds section fe b.terminal)
