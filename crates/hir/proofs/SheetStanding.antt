-- Each part of a sheet that was read stands in its words, up to the whole sheet.
use Prim.Native.Nat.{ℕ, zero, suc, ◌+◌, ◌≤◌}
use native.Mathlib.Nat.{add_assoc}
use native.Mathlib.Omega.{arith}
use mathlib.Core.Path.{◌≡◌, refl, sym, ap, ◌∙◌}
use mathlib.Core.Bool.{Bool, true, false, not}
use mathlib.Core.List.{List, []}
use mathlib.Core.Option.{Option, none, some}
use lib.ListN.{length}
use lib.Dec.{leb, eqb}
use borrow.Author.Tests.{ne_eqb}
use Rattle.model.proofs.ReadLaws.{at_most_reads, count_reads}
use Rattle.model.specs.Limits.{flag_count, most_flag, most_identifiers, most_functions, most_params, most_context, returns_count, most_blocks, most_range, most_type, most_inner_diagnostics, most_inner_context, most_count, most_diagnostic, most_kind, most_order, most_lvalues, most_operands, no_operands, most_value, most_terminal, most_traits, place_width, effect_width, operand_width, identifier_width, diagnostic_width, flags_width, absent_count}
use Rattle.model.specs.Lists.{pick}
use Rattle.model.specs.Sheet.{BlockId, Place, EffectKind, Operand, Phi, EffectList, Plain, Function, StoreContext, Instruction, Terminal, Other, Return, MaybeThrow, Block}
use Rattle.model.specs.Traits.{effect_of, reactive_of}
use Rattle.model.specs.Effects.{kind_of, row_of, is_create_function}
use Rattle.model.specs.Reading.{Position, Result, got, Read, and_then, ◌>>=◌, pure, word, count, fixed, at_most, below, is_absent, times, numbered, counted, optional}
use Rattle.model.specs.Sections.{flag, flags, type_of, identifier, diagnostic, inner_function, place, unused, extra, effect, effects, operand, phi, value_by, instruction_value, instruction, terminal, block, sheet}
use Rattle.model.specs.Sections.{terminal_of as read_terminal}
use Rattle.model.proofs.Got.{bind_got}
use Rattle.hir.specs.Words.{Part, Standing, word_at, wide, place_of, place_at, effect_at, operand_at, identifier_at, diagnostic_at, several, listed, effects_from, counts, list_from, places_from, diagnostics_from, function_from, phi_from, value_of, value_from, instruction_from, terminal_of, terminal_from, phis_from, instructions_from, block_from, flags_at, identifiers_from, functions_from, sections_from, sheet_from}
use Rattle.hir.proofs.Absent.{list_present, list_absent}
use Rattle.hir.proofs.Standing.{Stands, part, StandsFor, value_is_lem, pure_stands, then_stands, held_stands, either_stands, as_stands, one_word, word_stands, at_most_stands, below_stands, count_stands, fixed_stands, counted_stands, numbered_stands}

-- ---- a place: three words
abbrev one_place : Standing Place
one_place = wide place_width place_at

place_stands : (n : ℕ) → StandsFor (place n) one_place
unfolding place
place_stands n =
    as_stands (λ ws c. simp add_assoc)
    (then_stands (below n) one_word _ _ (below_stands n)
    (λ i. then_stands (at_most most_traits) one_word _ _ (at_most_stands most_traits)
    (λ t. held_stands word one_word (place_of i t) word_stands)))

-- a word 0 that goes on
zero_kept : {A : Type 0} (k : ℕ → Read A) (ws : List ℕ) (c : Position) {a : A} {d : Position} → (at_most 0 >>= λ (w : ℕ). k 0) ws c ≡ got a d → (at_most 0 >>= k) ws c ≡ got a d
zero_kept k ws c {a} {d} e =
    let p = bind_got (at_most 0) (λ (w : ℕ). k 0) ws c a d e in
    let none : p.value ≡ 0 = omega (arith, at_most_reads 0 ws c p.value p.next p.first) in
    ap (λ (r : Result ℕ). and_then r (λ (w : ℕ). k w ws)) p.first ∙ ap (λ (w : ℕ). k w ws p.next) none ∙ p.second

-- a place that is not used
unused_stands : (instance : ℕ) → StandsFor (unused instance) one_place
unfolding unused effect_of reactive_of
unused_stands instance =
    as_stands (λ ws c. simp add_assoc)
    (then_stands (at_most instance) one_word _ _ (at_most_stands instance)
    (λ i ws c a d e. then_stands (at_most 0) one_word _ _ (at_most_stands 0)
    (λ t ws c a d e. held_stands (at_most 0) one_word (place_of i t) (at_most_stands 0) ws c a d (zero_kept (λ (s : ℕ). pure (place_of i t s)) ws c e))
    ws c a d (zero_kept (λ (t : ℕ). at_most 0 >>= λ (s : ℕ). pure (place_of i t 0)) ws c e)))

-- ---- an effect: eight words
extra_stands : (m : ℕ) (k : EffectKind) → StandsFor (extra m k) one_word
unfolding extra
extra_stands m k = either_stands (is_create_function k) (below m) (at_most (row_of k).extra) one_word (below_stands m) (at_most_stands (row_of k).extra)

place_if_stands : (used : Bool) (n instance : ℕ) → StandsFor (pick used (place n) (unused instance)) one_place
place_if_stands used n instance = either_stands used (place n) (unused instance) one_place (place_stands n) (unused_stands instance)

effect_stands : (n m : ℕ) → StandsFor (effect n m) (wide effect_width effect_at)
unfolding effect
effect_stands n m =
    as_stands (λ ws c. simp add_assoc)
    (then_stands (at_most most_kind) one_word _ _ (at_most_stands most_kind)
    (λ w. then_stands (pick (leb 1 (row_of (kind_of w)).places) (place n) (unused 0)) one_place _ _ (place_if_stands (leb 1 (row_of (kind_of w)).places) n 0)
    (λ p. then_stands (pick (leb 2 (row_of (kind_of w)).places) (place n) (unused (row_of (kind_of w)).instance)) one_place _ _ (place_if_stands (leb 2 (row_of (kind_of w)).places) n (row_of (kind_of w)).instance)
    (λ q. held_stands (extra m (kind_of w)) one_word (λ (x : ℕ). record { kind = kind_of w; first = p; second = q; extra = x }) (extra_stands m (kind_of w))))))

-- ---- the sections before the blocks
identifier_stands : StandsFor identifier (wide identifier_width identifier_at)
unfolding identifier
identifier_stands =
    as_stands (λ ws c. simp add_assoc)
    (then_stands (at_most most_range) one_word _ _ (at_most_stands most_range)
    (λ s. then_stands (at_most most_range) one_word _ _ (at_most_stands most_range)
    (λ f. held_stands (at_most most_type) one_word (λ (t : ℕ). record { start = s; end = f; type = type_of t }) (at_most_stands most_type))))

diagnostic_stands : StandsFor diagnostic (wide diagnostic_width diagnostic_at)
unfolding diagnostic
diagnostic_stands =
    as_stands (λ ws c. simp add_assoc)
    (then_stands (at_most most_diagnostic) one_word _ _ (at_most_stands most_diagnostic)
    (λ i. held_stands (at_most most_diagnostic) one_word (λ (k : ℕ). record { identity = i; instance = k }) (at_most_stands most_diagnostic)))

places_stand : (most n : ℕ) → StandsFor (counted most (place n)) places_from
places_stand most n = counted_stands most (place n) one_place (place_stands n)

function_stands : (n : ℕ) → StandsFor (inner_function n) function_from
unfolding inner_function function_from
function_stands n =
    then_stands (counted most_inner_diagnostics diagnostic) diagnostics_from _ _ (counted_stands most_inner_diagnostics diagnostic (wide diagnostic_width diagnostic_at) diagnostic_stands)
    (λ l. held_stands (counted most_inner_context (place n)) places_from (λ (cs : List Place). record { diagnostics = l; context = cs }) (places_stand most_inner_context n))

-- ---- the blocks
effects_stands : (n m : ℕ) → StandsFor (effects n m) effects_from
unfolding effects
effects_stands n m = counted_stands most_count (effect n m) (wide effect_width effect_at) (effect_stands n m)

-- a count that was read is none of an absent list
count-counts : (ws : List ℕ) (c k : ℕ) → k ≤ most_count → word_at ws c ≡ k → counts (word_at ws c) ≡ true
count-counts ws c k h e = ap not (ne_eqb (word_at ws c) absent_count (λ q. omega (arith, h, e, q)))

-- a list, or that it is absent
list_stands : (n m : ℕ) → StandsFor (optional (effects n m)) list_from
unfolding optional effects counted
list_stands n m ws c a d e = go (is_absent (word ws c)) refl e
  where
    go : (b : Bool) → is_absent (word ws c) ≡ b → pick b (word >>= λ (w : ℕ). pure none) (effects n m >>= λ (l : EffectList). pure (some l)) ws c ≡ got a d → Stands list_from ws c a d
    go true h f =
        let p = bind_got word (λ (w : ℕ). pure none) ws c a d f in
        let absent : counts (word_at ws c) ≡ false = ap (λ (w : ℕ). counts w) (value_is_lem (word_stands ws c p.value p.next p.first)) ∙ ap not (sym (ap is_absent p.first) ∙ h) in
        let s = held_stands word one_word (λ (w : ℕ). none) word_stands ws c a d f in
        record { is = list_absent ws c absent ∙ s.is; after = s.after; inside = s.inside }
    go false h f =
        let p = bind_got (effects n m) (λ (l : EffectList). pure (some l)) ws c a d f in
        let k = bind_got (count most_count) (λ (k : ℕ). times k (effect n m)) ws c p.value p.next p.first in
        let w = count_stands most_count ws c k.value k.next k.first in
        let s = held_stands (effects n m) effects_from some (effects_stands n m) ws c a d f in
        record {
          is = list_present ws c (count-counts ws c k.value (count_reads most_count ws c k.value k.next k.first) (value_is_lem w)) ∙ s.is;
          after = s.after;
          inside = s.inside;
        }

operand_stands : (n : ℕ) (b : BlockId) → StandsFor (operand n b) (λ (ws : List ℕ) (c : Position). part (record { predecessor = b; place = place_at ws c }) (c + place_width))
unfolding operand
operand_stands n b = held_stands (place n) one_place (λ (p : Place). record { predecessor = b; place = p }) (place_stands n)

phi_stands : (n : ℕ) → StandsFor (phi n) phi_from
unfolding phi phi_from listed
phi_stands n =
    then_stands (place n) one_place _ _ (place_stands n)
    (λ p. then_stands (count most_count) one_word _ _ (count_stands most_count)
    (λ k. held_stands (numbered k [] (operand n)) (several k (wide operand_width operand_at)) (λ (l : List Operand). record { place = p; operands = l })
    (numbered_stands k [] (operand n) _ (wide operand_width operand_at) (operand_stands n) (λ ws c. simp add_assoc))))

value_by_lem : (n m w : ℕ) → StandsFor (value_by n m w) (value_of w)
unfolding value_of
value_by_lem n m zero = pure_stands Plain
value_by_lem n m (suc zero) = held_stands (below m) one_word Function (below_stands m)
value_by_lem n m (suc (suc w)) = held_stands (below n) one_word StoreContext (below_stands n)

value_stands : (n m : ℕ) → StandsFor (instruction_value n m) value_from
unfolding instruction_value
value_stands n m = then_stands (at_most most_value) one_word _ _ (at_most_stands most_value) (value_by_lem n m)

instruction_stands : (n m : ℕ) → StandsFor (instruction n m) instruction_from
unfolding instruction instruction_from
instruction_stands n m =
    then_stands (at_most most_order) one_word _ _ (at_most_stands most_order)
    (λ o. then_stands (place n) one_place _ _ (place_stands n)
    (λ p. then_stands (counted most_lvalues (place n)) places_from _ _ (places_stand most_lvalues n)
    (λ ls. then_stands (counted most_operands (place n)) places_from _ _ (places_stand most_operands n)
    (λ ps. then_stands (instruction_value n m) value_from _ _ (value_stands n m)
    (λ v. held_stands (optional (effects n m)) list_from (λ (l : Option EffectList). record { order = o; lvalue = p; value_lvalues = ls; operands = ps; value = v; effects = l }) (list_stands n m))))))

-- effects, and a count behind them
last_stands : {A : Type 0} (n m : ℕ) (f : EffectList → A) → StandsFor (effects n m >>= λ (l : EffectList). fixed no_operands >>= λ (k : ℕ). pure (f l)) (λ (ws : List ℕ) (c : Position). part (f (effects_from ws c).what) ((effects_from ws c).next + 1))
last_stands n m f =
    then_stands (effects n m) effects_from _ (λ (l : EffectList) (ws : List ℕ) (c : Position). part (f l) (c + 1)) (effects_stands n m)
    (λ l. held_stands (fixed no_operands) one_word (λ (k : ℕ). f l) (fixed_stands no_operands))

terminal_of_stands : (n m k o : ℕ) → StandsFor (read_terminal n m k o) (terminal_of k o)
unfolding read_terminal terminal_of
terminal_of_stands n m zero o = held_stands (counted most_operands (place n)) places_from (Other o) (places_stand most_operands n)
terminal_of_stands n m (suc zero) o = then_stands (place n) one_place _ _ (place_stands n) (λ p. last_stands n m (Return o p))
terminal_of_stands n m (suc (suc k)) o = last_stands n m (MaybeThrow o)

terminal_stands : (n m : ℕ) → StandsFor (terminal n m) terminal_from
unfolding terminal terminal_from
terminal_stands n m =
    as_stands (λ ws c. simp add_assoc)
    (then_stands (at_most most_terminal) one_word _ _ (at_most_stands most_terminal)
    (λ k. then_stands (at_most most_order) one_word _ _ (at_most_stands most_order) (terminal_of_stands n m k)))

-- a block after its number
abbrev block_by : BlockId → Standing Block
block_by b ws c =
    let phis : Part (List Phi) = phis_from ws c in
    let instructions : Part (List Instruction) = instructions_from ws phis.next in
    let terminal : Part Terminal = terminal_from ws instructions.next in
    part (record { number = b; phis = phis.what; instructions = instructions.what; terminal = terminal.what }) terminal.next

block_stands : (n m : ℕ) (b : BlockId) → StandsFor (block n m b) (block_by b)
unfolding block
block_stands n m b =
    then_stands (counted most_count (phi n)) phis_from _ _ (counted_stands most_count (phi n) phi_from (phi_stands n))
    (λ ps. then_stands (counted most_count (instruction n m)) instructions_from _ _ (counted_stands most_count (instruction n m) instruction_from (instruction_stands n m))
    (λ is. held_stands (terminal n m) terminal_from (λ (t : Terminal). record { number = b; phis = ps; instructions = is; terminal = t }) (terminal_stands n m)))

blocks_stands : (n m k : ℕ) (used : List BlockId) → StandsFor (numbered k used (block n m)) (several k block_from)
unfolding block_from
blocks_stands n m k used = numbered_stands k used (block n m) block_by block_from (block_stands n m) (λ ws c. refl)

-- ---- the sheet
flag_stands : StandsFor flag (wide 1 (λ (ws : List ℕ) (c : Position). eqb (word_at ws c) 1))
unfolding flag
flag_stands = held_stands (at_most most_flag) one_word (λ (w : ℕ). eqb w 1) (at_most_stands most_flag)

flags_stands : StandsFor flags (wide flags_width flags_at)
unfolding flags
flags_stands =
    as_stands (λ ws c. simp add_assoc)
    (then_stands (fixed flag_count) one_word _ _ (fixed_stands flag_count)
    (λ k. then_stands flag _ _ _ flag_stands
    (λ e. held_stands flag _ (λ (v : Bool). record { function_expression = e; validations = v }) flag_stands)))

-- the whole
pub sheet_stands : StandsFor sheet sheet_from
unfolding sheet sheet_from sections_from listed
sheet_stands =
    then_stands flags (wide flags_width flags_at) _ _ flags_stands
    (λ fs. then_stands (counted most_identifiers identifier) identifiers_from _ _ (counted_stands most_identifiers identifier (wide identifier_width identifier_at) identifier_stands)
    (λ ids. then_stands (counted most_functions (inner_function (length ids))) functions_from _ _ (counted_stands most_functions (inner_function (length ids)) function_from (function_stands (length ids)))
    (λ inner. then_stands (counted most_params (place (length ids))) places_from _ _ (places_stand most_params (length ids))
    (λ ps. then_stands (counted most_context (place (length ids))) places_from _ _ (places_stand most_context (length ids))
    (λ cs. then_stands (fixed returns_count) one_word _ _ (fixed_stands returns_count)
    (λ k. then_stands (place (length ids)) one_place _ _ (place_stands (length ids))
    (λ r. then_stands (count most_blocks) one_word _ _ (count_stands most_blocks)
    (λ b. then_stands (numbered b [] (block (length ids) (length inner))) (several b block_from) _ _ (blocks_stands (length ids) (length inner) b [])
    (λ bs. pure_stands (record { flags = fs; identifiers = ids; functions = inner; params = ps; context = cs; returns = r; blocks = bs }))))))))))
