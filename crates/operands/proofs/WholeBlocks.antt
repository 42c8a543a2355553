-- A block: its first order, and its three parts one after another.
use Prim.Native.Nat.{ℕ, zero, suc, ◌+◌, ◌≤◌, ◌<◌}
use native.Mathlib.Omega.{arith}
use mathlib.Core.Path.{◌≡◌, refl, sym, ap, subst, ◌∙◌}
use mathlib.Core.Bool.{Bool}
use mathlib.Core.List.{List}
use Rattle.model.specs.Lists.{each, Every}
use Rattle.model.specs.Sheet.{EvaluationOrder, InnerFunction, Instruction, order_of}
use Rattle.model.specs.Reading.{Position}
use Rattle.model.specs.Operands.{first_order, phis, instruction, terminal, block}
use Rattle.hir.specs.Words.{Part, word_at, phis_from, instruction_from, instructions_from, terminal_of, terminal_from, block_from}
use Rattle.hir.specs.Parts.{ListAt}
use Rattle.hir.specs.declared.at.List.{List as Listed}
use Rattle.hir.proofs.Widths.{listed_rises, terminal_rises}
use Rattle.hir.proofs.Several.{several_next, several_none, list_is}
use Rattle.workspace.specs.Layout.{STARTS, PASSED}
use Rattle.workspace.specs.Rows.{Kept}
use Rattle.workspace.proofs.Parts.{kept_then}
use Rattle.writing.specs.declared.Writer.{Writer}
use Rattle.copies.proofs.Blocks.{instruction_follows, instructions_inside, phis_inside, block-ends}
use Rattle.operands.specs.declared.Section.{Section}
use Rattle.operands.specs.Phis.{PhisBelow}
use Rattle.operands.specs.Instruction.{BelowOf}
use Rattle.operands.specs.Passes.{AnyTerminal, BlockOf, Ready, Passable, Steps, Passed}
use Rattle.operands.proofs.Adding.{each_adds, instruction_adds, terminal_adds}
use Rattle.operands.proofs.Stepping.{known_kept, steps_then}

-- ---- the first order
terminal_of_order : (k o : ℕ) (sheet : List ℕ) (c : Position) → order_of (terminal_of k o sheet c).what ≡ o
unfolding terminal_of
terminal_of_order zero o sheet c = refl
terminal_of_order (suc zero) o sheet c = refl
terminal_of_order (suc (suc k)) o sheet c = refl

terminal_order : (sheet : List ℕ) (c : Position) → order_of (terminal_from sheet c).what ≡ word_at sheet (c + 1)
unfolding terminal_from
terminal_order sheet c = terminal_of_order (word_at sheet c) (word_at sheet (c + 1)) sheet (c + 2)

instruction_order : (sheet : List ℕ) (c : Position) → (instruction_from sheet c).what.order ≡ word_at sheet c
unfolding instruction_from
instruction_order sheet c = refl

-- by instructions and where they end
abbrev pub order_behind : List ℕ → Part (List Instruction) → EvaluationOrder
order_behind sheet q = first_order q.what (terminal_from sheet q.next).what

module _ (sheet : List ℕ) (c : Position) where
  -- their count, then the terminal's words
  pub terminal_behind : c + 4 ≤ (terminal_from sheet (instructions_from sheet c).next).next
  terminal_behind = omega (arith, listed_rises instruction_from instruction_follows sheet c, terminal_rises sheet (instructions_from sheet c).next)

  module _ {l : Listed} (h : ListAt sheet c l) where
    -- none: the terminal's
    pub order_terminal : l.count ≡ 0 → {o : ℕ} → o ≡ word_at sheet (l.first + 1) → o ≡ order_behind sheet (instructions_from sheet c)
    order_terminal z e =
        e
        ∙ sym (terminal_order sheet l.first)
        ∙ sym (ap (order_behind sheet) (list_is instruction_from sheet c h ∙ several_none instruction_from sheet l.count l.first (omega (arith, z))))

    -- the first one's
    pub order_instruction : 0 < l.count → {o : ℕ} → o ≡ word_at sheet l.first → o ≡ order_behind sheet (instructions_from sheet c)
    order_instruction z e =
        e
        ∙ sym (instruction_order sheet l.first)
        ∙ sym (ap (order_behind sheet) (list_is instruction_from sheet c h ∙ several_next instruction_from sheet l.count l.first z))

-- ---- the parts of the block at c
-- every instruction of a list is below
abbrev pub InstructionsBelow : List InnerFunction → List Instruction → Type 0
InstructionsBelow fs = Every (BelowOf fs)

module _ (sheet : List ℕ) {lists : List ℕ} (c : Position) where
  module _ {ws : List ℕ} {fs : List InnerFunction} (h : Ready block_from BlockOf sheet lists ws c fs) where
    pub phis_ready : Ready phis_from PhisBelow sheet lists ws (c + 1) fs
    unfolding block_from
    phis_ready = record { known = h.known; below = h.below.0 }

    module _ {ws₁ : List ℕ} (k : Kept STARTS PASSED ws ws₁) {i : Position} (p : i ≡ (phis_from sheet (c + 1)).next) where
      pub instructions_ready : Ready instructions_from InstructionsBelow sheet lists ws₁ i fs
      unfolding block_from
      instructions_ready = record { known = known_kept k h.known; below = subst (λ (d : Position). InstructionsBelow fs (instructions_from sheet d).what) (sym p) h.below.1 }

    pub terminal_ready : {ws₁ : List ℕ} → Kept STARTS PASSED ws ws₁ → (j : Position) → Ready terminal_from AnyTerminal sheet lists ws₁ j fs
    terminal_ready k j = record { known = known_kept k h.known; below = tt }

  module _ {ws : List ℕ} {out : Writer ℕ} (h : Passable block_from BlockOf sheet lists ws c out) where
    pub phis_passable : Passable phis_from PhisBelow sheet lists ws (c + 1) out
    phis_passable = record {
      functions = h.functions;
      ready = phis_ready h.ready;
      inside = omega (arith, phis_inside sheet c refl, h.inside);
      room = omega (arith, h.room);
    }

  -- the phis were passed over, then the instructions, then the terminal
  module _ (section : Section) (o : ℕ) {ws ws₁ : List ℕ} {out out₁ : Writer ℕ} {i : Position} (ps : Passed phis_from PhisBelow (λ (fs : List InnerFunction). phis o) section sheet lists (c + 1) ws out ws₁ out₁ i) where
    pub instructions_passable : Passable block_from BlockOf sheet lists ws c out → Passable instructions_from InstructionsBelow sheet lists ws₁ i out₁
    instructions_passable h = record {
      functions = h.functions;
      ready = instructions_ready h.ready ps.kept ps.after;
      inside = omega (arith, instructions_inside sheet c ps.after, h.inside);
      room = omega (arith, h.room, ps.few);
    }

    module _ {ws₂ : List ℕ} {out₂ : Writer ℕ} {j : Position}
        (is : Passed instructions_from InstructionsBelow (λ (fs : List InnerFunction). each (instruction fs)) section sheet lists i ws₁ out₁ ws₂ out₂ j) where
      both_kept : Kept STARTS PASSED ws ws₂
      both_kept = kept_then STARTS PASSED ps.kept is.kept (omega arith) (omega arith) (omega arith) (omega arith)

      pub terminal_passable : Passable block_from BlockOf sheet lists ws c out → Passable terminal_from AnyTerminal sheet lists ws₂ j out₂
      terminal_passable h = record {
        functions = h.functions;
        ready = terminal_ready h.ready both_kept j;
        inside = omega (arith, block-ends sheet c ps.after is.after, h.inside);
        room = omega (arith, h.room, ps.few, is.few);
      }

      pub block_passed : (e : Bool) {d : Position} → d ≡ (phis_from sheet (c + 1)).next → o ≡ order_behind sheet (instructions_from sheet d) → {out₃ : Writer ℕ} {r : Position}
          → Passed terminal_from AnyTerminal (λ (fs : List InnerFunction). terminal e) section sheet lists j ws₂ out₂ ws₂ out₃ r → Passed block_from BlockOf (block e) section sheet lists c ws out ws₂ out₃ r
      unfolding block block_from
      block_passed e {d} f g {out₃} ts =
          let first : Position = (phis_from sheet (c + 1)).next in
          let last : Position = (instructions_from sheet first).next in
          let ends : j ≡ last = is.after ∙ ap (λ (x : Position). (instructions_from sheet x).next) ps.after in
          let order : o ≡ order_behind sheet (instructions_from sheet first) = g ∙ ap (λ (x : Position). order_behind sheet (instructions_from sheet x)) f in
          record {
            steps = λ fs h.
                let one = subst (λ (x : ℕ). Steps (phis x (phis_from sheet (c + 1)).what) section fs ws out ws₁ out₁) order (ps.steps fs (phis_ready h)) in
                let two =
                subst (λ (x : Position). Steps (each (instruction fs) (instructions_from sheet x).what) section fs ws₁ out₁ ws₂ out₂) ps.after
                (is.steps fs (instructions_ready h ps.kept ps.after)) in
                let three =
                subst (λ (x : Position). Steps (terminal e (terminal_from sheet x).what) section fs ws₂ out₂ ws₂ out₃) ends (ts.steps fs (terminal_ready h both_kept j)) in
                steps_then (terminal_adds section e (terminal_from sheet last).what)
                (steps_then (each_adds section (instruction fs) (instruction_adds section fs) (instructions_from sheet first).what) one two) three;
            kept = both_kept;
            after = ts.after ∙ block-ends sheet c ps.after is.after;
            few = omega (arith, ps.few, is.few, ts.few, ts.after);
            long = ts.long ∙ is.long ∙ ps.long;
            same = ts.same ∙ is.same ∙ ps.same;
          }
