-- The sections before the blocks of an accepted sheet: together the calls leave what the sheet says.
use Prim.Native.Nat.{ℕ, ◌+◌, ◌≤◌, ◌<◌}
use native.Mathlib.Omega.{arith}
use mathlib.Core.Path.{◌≡◌, refl, sym, ap, subst, ◌∙◌}
use mathlib.Core.Bool.{true, false, true≢false}
use mathlib.Core.List.{List, [], ◌∷◌, ◌++◌, map}
use lib.ListN.{length, get_or, take, length-append, length-map, get_or-map}
use lib.Seq.{sets, length-sets}
use Rattle.model.specs.Limits.{identifier_width, most_identifiers, most_functions, most_params, most_context, most_blocks}
use Rattle.model.specs.Lists.{each}
use Rattle.model.specs.Sheet.{InnerFunction, no_function, Place}
use Rattle.model.specs.Reading.{Position}
use Rattle.model.specs.Built.{Built}
use Rattle.model.specs.Building.{first_places}
use Rattle.model.proofs.Everywhere.{every_at}
use Rattle.hir.specs.Words.{wide, identifier_at, several, placed, function_from, block_from}
use Rattle.hir.proofs.Widths.{function_follows, sections_follow}
use Rattle.hir.proofs.Several.{several_at, several_within, several-length, placed_next}
use Rattle.workspace.specs.Layout.{LEAST, END, SEEN, VALUE, FBOUND, FUNCTIONS, TRACKED}
use Rattle.workspace.specs.Graph.{tab}
use Rattle.workspace.specs.Tracked.{tracked_of}
use Rattle.workspace.proofs.Parts.{take_less, take_sets, drop-word, slice_at, slice_sets}
use Rattle.copies.specs.Functions.{Functions}
use Rattle.building.specs.declared.Building.{Building}
use Rattle.building.specs.Built.{Starts}
use Rattle.dataflow.specs.declared.header.Top.{Top}
use Rattle.dataflow.specs.declared.parameters.Tracked.{Tracked}
use Rattle.dataflow.specs.declared.function.HirFunction.{HirFunction}
use Rattle.dataflow.specs.Accepted.{sheet_of, FewDiagnostics, Accepted}
use Rattle.dataflow.specs.Function.{Describes, Stands}
use Rattle.dataflow.specs.Whole.{created_for, First}
use Rattle.dataflow.specs.Read.{end_of, stands_at, TopRead}
use Rattle.dataflow.specs.Places.{TrackedRead}
use Rattle.dataflow.specs.ReadFunction.{FunctionRead}
use Rattle.dataflow.proofs.Accepted.{identifiers_are, functions_are, blocks_are, list_what, list_next, list_count}
use Rattle.dataflow.proofs.Described.{limited}
use Rattle.dataflow.proofs.Sheet.{first_nodes_lem, first_held}

none_tracked : (ws : List ℕ) → tracked_of ws 0 ≡ []
unfolding tracked_of tab
none_tracked ws = refl

-- a word of those that were stored
stored_at : (vs l : List ℕ) (i k : ℕ) → i + length vs ≤ length l → k < length vs → get_or (sets l i vs) (i + k) 0 ≡ get_or vs k 0
stored_at vs l i k h z = sym (slice_at i (i + length vs) k (sets l i vs) (omega (arith, z))) ∙ ap (λ (x : List ℕ). get_or x k 0) (slice_sets vs l i (i + length vs) refl h)

-- the function as the calls give it
abbrev pub function_of : (t : Top) (u : Tracked) → t.identifiers.count ≤ most_identifiers → t.functions.count ≤ most_functions → u.params ≤ most_params → u.context ≤ most_context → u.blocks.count ≤ most_blocks
    → u.returns.identifier.0 < t.identifiers.count → HirFunction
function_of t u n m params context count returns = record {
  errors = t.errors;
  function_expression = t.function_expression;
  copies = true;
  applies = false;
  identifiers = t.identifiers;
  m = t.functions.count;
  params = u.params;
  context = u.context;
  returns = u.returns;
  blocks = u.blocks;
  identifiers_few = n;
  functions_few = m;
  params_few = params;
  context_few = context;
  blocks_few = count;
  returns_below = returns;
}

module _ {sheet : List ℕ} (a : Accepted sheet) {ws ws₁ : List ℕ} {t : Top} (size : LEAST ≤ length ws) (T : TopRead sheet ws ws₁ t) {ws₂ : List ℕ} {b : Building} (start : Starts ws₁ ws₂ b) {ws₃ : List ℕ} {r : Building} {u : Tracked}
    (U : TrackedRead sheet ws₂ b ws₃ r u) where
  pub identifiers-count : t.identifiers.count ≡ length (sheet_of sheet).identifiers
  identifiers-count = list_count (wide identifier_width identifier_at) (identifiers_are sheet) T.identifiers

  pub functions-count : t.functions.count ≡ length (sheet_of sheet).functions
  functions-count = list_count function_from (functions_are sheet) T.functions

  -- that function, with its limits
  abbrev pub function : HirFunction
  function = function_of t u
      (omega (arith, identifiers-count, a.below.identifiers))
      (omega (arith, functions-count, a.below.function_count))
      (omega (arith, U.params, a.below.param_count))
      (omega (arith, U.context, a.below.context_count))
      (omega (arith, list_count block_from (blocks_are sheet) U.blocks, a.few_blocks))
      (omega (arith, ap (λ (p : Place). p.identifier) U.returns, a.below.returns, identifiers-count))

  first : First (sheet_of sheet) ws₃ r
  first = record {
    built = λ z.
        let nodes = ap (each created_for (first_places (sheet_of sheet))) (start.built z) ∙ first_nodes_lem (sheet_of sheet) in
        U.places.built z (omega (arith, ap (λ (t : Built). t.held) nodes, first_held (sheet_of sheet))) ∙ nodes;
    holding = λ z h. U.places.holding z (start.holding z h);
    sound = U.places.sound;
    relations = U.places.relations ∙ start.relations;
    mutations = U.places.mutations ∙ start.mutations;
    renders = U.places.renders ∙ start.renders;
    come = U.places.come ∙ start.come;
  }

  abbrev positions : List ℕ
  positions = map stands_at (several t.functions.count (placed function_from) sheet t.functions.first).what

  abbrev ends : List ℕ
  ends = map end_of (sheet_of sheet).identifiers

  positions_length : length positions ≡ length (sheet_of sheet).functions
  positions_length =
      length-map (several t.functions.count (placed function_from) sheet t.functions.first).what stands_at ∙ several-length (placed function_from) sheet t.functions.count t.functions.first ∙ functions-count

  top_same : length ws₁ ≡ length ws
  top_same = ap (λ (x : List ℕ). length x) T.words ∙ length-sets (sets ws END ends) FUNCTIONS positions ∙ length-sets ws END ends

  -- the word of inner function k says behind how many others it stands
  function-word : (k : ℕ) → k < length (sheet_of sheet).functions → get_or ws₃ (FUNCTIONS + k) 0 ≡ (several k function_from sheet t.functions.first).next
  function-word k h =
      let i : FUNCTIONS + k < TRACKED = omega (arith, h, a.below.function_count) in
      let at = (several t.functions.count (placed function_from) sheet t.functions.first).what in
      sym (slice_at FUNCTIONS TRACKED k ws₃ i) ∙ ap (λ (l : List ℕ). get_or l k 0) U.places.between ∙ slice_at FUNCTIONS TRACKED k ws₂ i
      ∙ drop-word FBOUND (FUNCTIONS + k) ws₁ ws₂ (omega arith) start.high
      ∙ ap (λ (x : List ℕ). get_or x (FUNCTIONS + k) 0) T.words
      ∙ stored_at positions (sets ws END ends) FUNCTIONS k (omega (arith, positions_length, a.below.function_count, size, length-sets ws END ends)) (omega (arith, positions_length, h))
      ∙ get_or-map stands_at at k 0
      ∙ several_at (placed function_from) sheet t.functions.count k t.functions.first 0 (omega (arith, h, functions-count))
      ∙ placed_next function_from sheet k t.functions.first

  functions_stand : Functions sheet ws₃ (sheet_of sheet).functions
  functions_stand = record {
    is = λ k h.
        ap (λ (c : Position). (function_from sheet c).what) (function-word k h)
        ∙ sym (several_at function_from sheet t.functions.count k t.functions.first no_function (omega (arith, h, functions-count)))
        ∙ ap (λ (l : List InnerFunction). get_or l k no_function) (list_what function_from (functions_are sheet) T.functions);
    inside = λ k h.
        subst (λ (c : Position). (function_from sheet c).next ≤ length sheet) (sym (function-word k h))
        (omega (arith, several_within function_from sheet function_follows t.functions.count k t.functions.first (omega (arith, h, functions-count)), list_next function_from (functions_are sheet) T.functions, a.inside, sections_follow sheet 0));
    few = λ k. omega (arith, every_at FewDiagnostics (sheet_of sheet).functions k no_function a.functions (omega arith));
  }

  stands : Stands (sheet_of sheet) sheet ws₃
  stands =
      let n : length (sheet_of sheet).params + length (sheet_of sheet).context + 1 ≡ 0 + length (first_places (sheet_of sheet)) =
      omega (arith, length-append (sheet_of sheet).params ((sheet_of sheet).context ++ ((sheet_of sheet).returns ∷ [])), length-append (sheet_of sheet).context ((sheet_of sheet).returns ∷ [])) in
      record {
        size = U.places.sound.room.size;
        functions = functions_stand;
        tracked = ap (tracked_of ws₃) n ∙ U.places.tracked ∙ ap (λ (l : List Place). l ++ first_places (sheet_of sheet)) (none_tracked ws₂);
      }

  -- whatever proves its limits
  module _ {n : t.identifiers.count ≤ most_identifiers} {m : t.functions.count ≤ most_functions} {params : u.params ≤ most_params} {context : u.context ≤ most_context} {count : u.blocks.count ≤ most_blocks}
      {returns : u.returns.identifier.0 < t.identifiers.count} where
    describes : Describes (sheet_of sheet) sheet (function_of t u n m params context count returns)
    describes = record {
      errors = T.errors;
      function_expression = T.function_expression;
      copies = λ e. absurd (true≢false e);
      n = identifiers-count;
      m = functions-count;
      params = U.params;
      context = U.context;
      returns = U.returns;
      identifiers = list_what (wide identifier_width identifier_at) (identifiers_are sheet) T.identifiers;
      identifiers_inside = omega (arith, list_next (wide identifier_width identifier_at) (identifiers_are sheet) T.identifiers, a.inside, sections_follow sheet 0);
      blocks = list_what block_from (blocks_are sheet) U.blocks;
      blocks_inside = omega (arith, list_next block_from (blocks_are sheet) U.blocks, a.inside);
      short = a.short;
    }

    pub function-read : FunctionRead sheet ws ws₃ (record { function = function_of t u n m params context count returns; building = r })
    function-read = record {
      describes = describes;
      limited = limited (function_of t u n m params context count returns);
      first = first;
      stands = stands;
      ends = U.places.low ∙ take_less SEEN VALUE ws₂ ws₁ (omega arith) start.low ∙ ap (take SEEN) T.words ∙ take_sets SEEN positions (sets ws END ends) FUNCTIONS (omega arith);
      same = U.places.same ∙ start.same ∙ top_same;
    }
