-- An accepted sheet's tree has every identifier below N and every inner function below their count.
use Prim.Native.Nat.{ℕ, zero, suc, ◌≤◌, ◌<◌}
use native.Mathlib.Omega.{arith}
use mathlib.Core.Path.{◌≡◌, sym, ◌∙◌}
use mathlib.Core.Bool.{Bool, true, true≢false}
use mathlib.Core.List.{List, []}
use mathlib.Core.Option.{Option}
use lib.ListN.{length}
use lib.Dec.{leb}
use Rattle.model.specs.Limits.{most_identifiers, most_functions, most_params, most_context, returns_count, most_blocks, most_count, most_order, most_lvalues, most_operands, no_operands, most_value, most_terminal, most_traits, most_kind, most_inner_diagnostics, most_inner_context}
use Rattle.model.specs.Lists.{pick, Every}
use Rattle.model.specs.Sheet.{Identifier, InnerFunction, BlockId, Place, unused_place, EffectKind, EffectList, Operand, present, Plain, Function, StoreContext, Terminal, Other, Return, MaybeThrow, order_of}
use Rattle.model.specs.Effects.{kind_of, row_of, is_create_function}
use Rattle.model.specs.Reading.{word, count, fixed, at_most, below, numbered, counted, optional}
use Rattle.model.specs.Sections.{flags, identifier, diagnostic, inner_function, place, unused, extra, effect, effects, operand, phi, value_by, instruction_value, instruction, terminal_of, terminal, block, sheet}
use Rattle.model.specs.Ranges.{PlaceBelow, PlacesBelow, FunctionBelow, EffectBelow, PhiBelow, ValueBelow, InstructionBelow, TerminalBelow, BlockBelow, SheetBelow}
use Rattle.model.proofs.ReadLaws.{Reads, pure_reads, pick_reads, both_reads, bind_reads, then_reads, optional_reads, at_most_reads, below_reads, numbered_reads, counted_reads, counted_length}

pub place_reads : (n : ℕ) → Reads (place n) (PlaceBelow n)
unfolding place
place_reads n =
    bind_reads (below n) _ (λ (i : ℕ). i < n) (PlaceBelow n) (below_reads n)
    (λ i h. then_reads (at_most most_traits) _ (PlaceBelow n) (λ t. then_reads word _ (PlaceBelow n) (λ s. pure_reads _ (PlaceBelow n) h)))

unused_reads : (n : ℕ) → 0 < n → Reads (unused 0) (PlaceBelow n)
unfolding unused
unused_reads n h =
    bind_reads (at_most 0) _ (λ (i : ℕ). i ≤ 0) (PlaceBelow n) (at_most_reads 0)
    (λ i none. then_reads (at_most 0) _ (PlaceBelow n) (λ t. then_reads (at_most 0) _ (PlaceBelow n) (λ s. pure_reads (unused_place i) (PlaceBelow n) (omega (arith, none, h)))))

extra_reads : (m : ℕ) (k : EffectKind) → Reads (extra m k) (λ (x : ℕ). is_create_function k ≡ true → x < m)
unfolding extra
extra_reads m k =
    pick_reads (is_create_function k) (below m) (at_most (row_of k).extra) (λ (x : ℕ). is_create_function k ≡ true → x < m)
    (λ h ws c a d e t. below_reads m ws c a d e) (λ h ws c a d e t. absurd (true≢false (sym t ∙ h)))

first_reads : (n : ℕ) → 0 < n → (b : Bool) → Reads (pick b (place n) (unused 0)) (PlaceBelow n)
first_reads n h b = pick_reads b (place n) (unused 0) (PlaceBelow n) (λ e. place_reads n) (λ e. unused_reads n h)

second_reads : (n instance : ℕ) (b : Bool) → Reads (pick b (place n) (unused instance)) (λ (q : Place). b ≡ true → PlaceBelow n q)
second_reads n instance b =
    pick_reads b (place n) (unused instance) (λ (q : Place). b ≡ true → PlaceBelow n q)
    (λ h ws c a d e t. place_reads n ws c a d e) (λ h ws c a d e t. absurd (true≢false (sym t ∙ h)))

pub effect_reads : (n m : ℕ) → 0 < n → Reads (effect n m) (EffectBelow n m)
unfolding effect
effect_reads n m h =
    then_reads (at_most most_kind) _ (EffectBelow n m)
    (λ w. bind_reads (pick (leb 1 (row_of (kind_of w)).places) (place n) (unused 0)) _ (PlaceBelow n) (EffectBelow n m) (first_reads n h (leb 1 (row_of (kind_of w)).places))
    (λ p hp. bind_reads (pick (leb 2 (row_of (kind_of w)).places) (place n) (unused (row_of (kind_of w)).instance)) _ (λ (q : Place). leb 2 (row_of (kind_of w)).places ≡ true → PlaceBelow n q) (EffectBelow n m)
    (second_reads n (row_of (kind_of w)).instance (leb 2 (row_of (kind_of w)).places))
    (λ q hq. bind_reads (extra m (kind_of w)) _ (λ (x : ℕ). is_create_function (kind_of w) ≡ true → x < m) (EffectBelow n m) (extra_reads m (kind_of w))
    (λ x hx. pure_reads _ (EffectBelow n m) (hp, hq, hx)))))

effects_reads : (n m : ℕ) → 0 < n → Reads (effects n m) (Every (EffectBelow n m))
unfolding effects
effects_reads n m h = counted_reads (EffectBelow n m) most_count (effect n m) (effect_reads n m h)

listed_reads : (n m : ℕ) → 0 < n → Reads (optional (effects n m)) (λ (l : Option EffectList). Every (EffectBelow n m) (present l))
listed_reads n m h =
    optional_reads (effects n m) (Every (EffectBelow n m)) (λ (l : Option EffectList). Every (EffectBelow n m) (present l)) (effects_reads n m h) tt (λ l q. q)

operand_reads : (n : ℕ) (b : BlockId) → Reads (operand n b) (λ (o : Operand). PlaceBelow n o.place)
unfolding operand
operand_reads n b =
    bind_reads (place n) _ (PlaceBelow n) (λ (o : Operand). PlaceBelow n o.place) (place_reads n)
    (λ p h. pure_reads _ (λ (o : Operand). PlaceBelow n o.place) h)

phi_reads : (n : ℕ) → Reads (phi n) (PhiBelow n)
unfolding phi
phi_reads n =
    bind_reads (place n) _ (PlaceBelow n) (PhiBelow n) (place_reads n)
    (λ p h. then_reads (count most_count) _ (PhiBelow n)
    (λ k. bind_reads (numbered k [] (operand n)) _ (Every (λ (o : Operand). PlaceBelow n o.place)) (PhiBelow n) (numbered_reads _ k [] (operand n) (operand_reads n))
    (λ l q. pure_reads _ (PhiBelow n) (h, q))))

list_reads : (n most : ℕ) → Reads (counted most (place n)) (PlacesBelow n)
list_reads n most = counted_reads (PlaceBelow n) most (place n) (place_reads n)

value_by_lem : (n m w : ℕ) → Reads (value_by n m w) (ValueBelow n m)
value_by_lem n m zero = pure_reads Plain (ValueBelow n m) tt
value_by_lem n m (suc zero) = bind_reads (below m) _ (λ (k : ℕ). k < m) (ValueBelow n m) (below_reads m) (λ k h. pure_reads (Function k) (ValueBelow n m) h)
value_by_lem n m (suc (suc w)) = bind_reads (below n) _ (λ (x : ℕ). x < n) (ValueBelow n m) (below_reads n) (λ x h. pure_reads (StoreContext x) (ValueBelow n m) h)

value_reads : (n m : ℕ) → Reads (instruction_value n m) (ValueBelow n m)
unfolding instruction_value
value_reads n m = then_reads (at_most most_value) _ (ValueBelow n m) (value_by_lem n m)

instruction_reads : (n m : ℕ) → 0 < n → Reads (instruction n m) (InstructionBelow n m)
unfolding instruction
instruction_reads n m h =
    bind_reads (at_most most_order) _ (λ (o : ℕ). o ≤ most_order) (InstructionBelow n m) (at_most_reads most_order)
    (λ o ho. bind_reads (place n) _ (PlaceBelow n) (InstructionBelow n m) (place_reads n)
    (λ p hp. bind_reads (counted most_lvalues (place n)) _ (PlacesBelow n) (InstructionBelow n m) (list_reads n most_lvalues)
    (λ ls hl. bind_reads (counted most_operands (place n)) _ (PlacesBelow n) (InstructionBelow n m) (list_reads n most_operands)
    (λ ps hs. bind_reads (instruction_value n m) _ (ValueBelow n m) (InstructionBelow n m) (value_reads n m)
    (λ v hv. bind_reads (optional (effects n m)) _ (λ (l : Option EffectList). Every (EffectBelow n m) (present l)) (InstructionBelow n m) (listed_reads n m h)
    (λ l q. pure_reads _ (InstructionBelow n m) (record { order = ho; lvalue = hp; value_lvalues = hl; operands = hs; value = hv; effects = q })))))))

-- a terminal with what it names, and its order
abbrev TerminalKnown : ℕ → ℕ → Terminal → Type 0
TerminalKnown n m t = TerminalBelow n m t × (order_of t ≤ most_order)

terminal_of_reads : (n m : ℕ) → 0 < n → (k o : ℕ) → o ≤ most_order → Reads (terminal_of n m k o) (TerminalKnown n m)
unfolding terminal_of
terminal_of_reads n m h zero o ho =
    bind_reads (counted most_operands (place n)) _ (PlacesBelow n) (TerminalKnown n m) (list_reads n most_operands) (λ ps q. pure_reads (Other o ps) (TerminalKnown n m) (q, ho))
terminal_of_reads n m h (suc zero) o ho =
    bind_reads (place n) _ (PlaceBelow n) (TerminalKnown n m) (place_reads n)
    (λ p hp. bind_reads (effects n m) _ (Every (EffectBelow n m)) (TerminalKnown n m) (effects_reads n m h)
    (λ l q. then_reads (fixed no_operands) _ (TerminalKnown n m) (λ k. pure_reads (Return o p l) (TerminalKnown n m) ((hp, q), ho))))
terminal_of_reads n m h (suc (suc k)) o ho =
    bind_reads (effects n m) _ (Every (EffectBelow n m)) (TerminalKnown n m) (effects_reads n m h)
    (λ l q. then_reads (fixed no_operands) _ (TerminalKnown n m) (λ j. pure_reads (MaybeThrow o l) (TerminalKnown n m) (q, ho)))

terminal_reads : (n m : ℕ) → 0 < n → Reads (terminal n m) (TerminalKnown n m)
unfolding terminal
terminal_reads n m h =
    then_reads (at_most most_terminal) _ (TerminalKnown n m)
    (λ k. bind_reads (at_most most_order) _ (λ (o : ℕ). o ≤ most_order) (TerminalKnown n m) (at_most_reads most_order) (λ o ho. terminal_of_reads n m h k o ho))

-- a section of places, its count within the limit
places_reads : (most n : ℕ) → Reads (counted most (place n)) (λ (l : List Place). Every (PlaceBelow n) l × (length l ≤ most))
places_reads most n =
    both_reads (counted most (place n)) (Every (PlaceBelow n)) (λ (l : List Place). length l ≤ most) (list_reads n most) (counted_length most (place n))

function_reads : (n : ℕ) → Reads (inner_function n) (FunctionBelow n)
unfolding inner_function
function_reads n =
    then_reads (counted most_inner_diagnostics diagnostic) _ (FunctionBelow n)
    (λ l. bind_reads (counted most_inner_context (place n)) _ (λ (cs : List Place). PlacesBelow n cs × (length cs ≤ most_inner_context)) (FunctionBelow n) (places_reads most_inner_context n)
    (λ cs h. pure_reads _ (FunctionBelow n) h))

block_reads : (n m : ℕ) → 0 < n → (b : BlockId) → Reads (block n m b) (BlockBelow n m)
unfolding block
block_reads n m h b =
    bind_reads (counted most_count (phi n)) _ (Every (PhiBelow n)) (BlockBelow n m) (counted_reads (PhiBelow n) most_count (phi n) (phi_reads n))
    (λ ps hp. bind_reads (counted most_count (instruction n m)) _ (Every (InstructionBelow n m)) (BlockBelow n m) (counted_reads (InstructionBelow n m) most_count (instruction n m) (instruction_reads n m h))
    (λ is hi. bind_reads (terminal n m) _ (TerminalKnown n m) (BlockBelow n m) (terminal_reads n m h)
    (λ t ht. pure_reads _ (BlockBelow n m) (hp, hi, ht))))

-- the inner functions, their count within the limit
functions_reads : (n : ℕ) → Reads (counted most_functions (inner_function n)) (λ (l : List InnerFunction). Every (FunctionBelow n) l × (length l ≤ most_functions))
functions_reads n =
    both_reads (counted most_functions (inner_function n)) (Every (FunctionBelow n)) (λ (l : List InnerFunction). length l ≤ most_functions)
    (counted_reads (FunctionBelow n) most_functions (inner_function n) (function_reads n)) (counted_length most_functions (inner_function n))

pub sheet_reads : Reads sheet SheetBelow
unfolding sheet
sheet_reads =
    then_reads flags _ SheetBelow
    (λ fs. bind_reads (counted most_identifiers identifier) _ (λ (l : List Identifier). length l ≤ most_identifiers) SheetBelow (counted_length most_identifiers identifier)
    (λ ids hn. bind_reads (counted most_functions (inner_function (length ids))) _ (λ (l : List InnerFunction). Every (FunctionBelow (length ids)) l × (length l ≤ most_functions)) SheetBelow (functions_reads (length ids))
    (λ inner hm. bind_reads (counted most_params (place (length ids))) _ (λ (l : List Place). Every (PlaceBelow (length ids)) l × (length l ≤ most_params)) SheetBelow (places_reads most_params (length ids))
    (λ ps hp. bind_reads (counted most_context (place (length ids))) _ (λ (l : List Place). Every (PlaceBelow (length ids)) l × (length l ≤ most_context)) SheetBelow (places_reads most_context (length ids))
    (λ cs hc. then_reads (fixed returns_count) _ SheetBelow
    (λ k. bind_reads (place (length ids)) _ (PlaceBelow (length ids)) SheetBelow (place_reads (length ids))
    (λ r hr. then_reads (count most_blocks) _ SheetBelow
    (λ b. bind_reads (numbered b [] (block (length ids) (length inner))) _ (Every (BlockBelow (length ids) (length inner))) SheetBelow
    (numbered_reads (BlockBelow (length ids) (length inner)) b [] (block (length ids) (length inner)) (block_reads (length ids) (length inner) (omega (arith, hr))))
    (λ bs hb. pure_reads _ SheetBelow (record {
      identifiers = hn;
      function_count = hm.1;
      functions = hm.0;
      param_count = hp.1;
      context_count = hc.1;
      params = hp.0;
      context = hc.0;
      returns = hr;
      blocks = hb;
    }))))))))))
