-- A sheet that was read was accepted, and its sections stand in its words.
use Prim.Native.Nat.{ℕ, zero, suc, ◌+◌, ◌≤◌}
use native.Mathlib.Omega.{arith}
use mathlib.Core.Path.{◌≡◌, refl, sym, ap, subst, ◌∙◌}
use mathlib.Core.Bool.{Bool, true, false, false≢true}
use mathlib.Core.List.{List, [], ◌∷◌}
use lib.ListN.{length}
use lib.Dec.{ltb}
use borrow.Author.Tests.{ltb-false}
use Rattle.model.specs.Limits.{most_sheet, most_identifiers, most_functions, most_params, most_context, returns_count, most_blocks, most_inner_diagnostics, most_inner_context, most_index}
use Rattle.model.specs.Lists.{pick, Every}
use Rattle.model.specs.Sheet.{BlockId, Identifier, InnerFunction, Diagnostic, Block, Sheet}
use Rattle.model.specs.Totals.{totals, over}
use Rattle.model.specs.Counting.{counted_sheet}
use Rattle.model.specs.Ranges.{SheetBelow}
use Rattle.model.specs.Reading.{Position, got, refused, Read, count, fixed, new_number, numbered, counted}
use Rattle.model.specs.Sections.{flags, identifier, diagnostic, inner_function, place, block, sheet}
use Rattle.model.specs.Call.{ended, read, IsSheet}
use Rattle.model.proofs.ReadLaws.{Reads, is_got, pure_reads, both_reads, bind_reads, then_reads, numbered_reads, counted_reads, count_reads, counted_length}
use Rattle.model.proofs.WhenRead.{read_got, in_range_lem}
use Rattle.model.proofs.WordsRead.{words_index}
use Rattle.hir.specs.declared.at.List.{List as Listed}
use Rattle.hir.specs.Words.{Part, Standing, several, listed, identifiers_from, functions_from, places_from, blocks_from, place_at, flags_at, sections_from, sheet_from}
use Rattle.hir.specs.Parts.{ListAt}
use Rattle.hir.proofs.Standing.{part, Stands, value_is_lem, next_is}
use Rattle.hir.proofs.SheetStanding.{sheet_stands}
use Rattle.hir.proofs.Several.{several-length, list_is}
use Rattle.dataflow.specs.Ranges.{BlockInRange}
use Rattle.dataflow.specs.Accepted.{sections_of, sheet_of, FewDiagnostics, Accepted}
use Rattle.dataflow.proofs.Ranges.{block_known}

-- ---- what is known of a sheet that was read, beside that its numbers are below their limits
record Known (s : Sheet) : Type 0 where
  functions : Every FewDiagnostics s.functions
  blocks : Every BlockInRange s.blocks
  few : length s.blocks ≤ most_blocks

function_known : (n : ℕ) → Reads (inner_function n) FewDiagnostics
unfolding inner_function
function_known n =
    bind_reads (counted most_inner_diagnostics diagnostic) _ (λ (l : List Diagnostic). length l ≤ most_inner_diagnostics) FewDiagnostics (counted_length most_inner_diagnostics diagnostic)
    (λ l h. then_reads (counted most_inner_context (place n)) _ FewDiagnostics (λ cs. pure_reads _ FewDiagnostics h))

-- as many parts as the count says
numbered_length : {A : Type 0} (k : ℕ) (used : List BlockId) (f : BlockId → Read A) → Reads (numbered k used f) (λ (l : List A). length l ≡ k)
unfolding numbered
numbered_length {A} zero used f = pure_reads [] (λ (l : List A). length l ≡ 0) refl
numbered_length {A} (suc k) used f =
    then_reads (new_number used) _ (λ (l : List A). length l ≡ suc k)
    (λ b. then_reads (f b) _ (λ (l : List A). length l ≡ suc k)
    (λ a. bind_reads (numbered k (b ∷ used) f) _ (λ (l : List A). length l ≡ k) (λ (l : List A). length l ≡ suc k) (numbered_length k (b ∷ used) f)
    (λ l e. pure_reads (a ∷ l) (λ (l : List A). length l ≡ suc k) (ap suc e))))

sheet_known : Reads sheet Known
unfolding sheet
sheet_known =
    then_reads flags _ Known
    (λ fs. bind_reads (counted most_identifiers identifier) _ (λ (l : List Identifier). length l ≤ most_identifiers) Known (counted_length most_identifiers identifier)
    (λ ids hn. bind_reads (counted most_functions (inner_function (length ids))) _ (λ (l : List InnerFunction). Every FewDiagnostics l × (length l ≤ most_functions)) Known
    (both_reads (counted most_functions (inner_function (length ids))) (Every FewDiagnostics) (λ (l : List InnerFunction). length l ≤ most_functions)
    (counted_reads FewDiagnostics most_functions (inner_function (length ids)) (function_known (length ids))) (counted_length most_functions (inner_function (length ids))))
    (λ inner hm. then_reads (counted most_params (place (length ids))) _ Known
    (λ ps. then_reads (counted most_context (place (length ids))) _ Known
    (λ cs. then_reads (fixed returns_count) _ Known
    (λ k. then_reads (place (length ids)) _ Known
    (λ r. bind_reads (count most_blocks) _ (λ (b : ℕ). b ≤ most_blocks) Known (count_reads most_blocks)
    (λ b hb. bind_reads (numbered b [] (block (length ids) (length inner))) _ (λ (l : List Block). Every BlockInRange l × (length l ≡ b)) Known
    (both_reads (numbered b [] (block (length ids) (length inner))) (Every BlockInRange) (λ (l : List Block). length l ≡ b)
    (numbered_reads BlockInRange b [] (block (length ids) (length inner)) (block_known (length ids) hn (length inner) hm.1)) (numbered_length b [] (block (length ids) (length inner))))
    (λ bs h. pure_reads _ Known (record { functions = hm.0; blocks = h.0; few = omega (arith, h.1, hb) }))))))))))

-- it has no more words than a sheet may have
short_sheet : (ws : List ℕ) (s : Sheet) → IsSheet ws s → length ws ≤ most_sheet
unfolding read
short_sheet ws s h = go (ltb most_sheet (length ws)) refl h.1
  where
    go : (b : Bool) → ltb most_sheet (length ws) ≡ b → pick b (refused 2) (ended (counted_sheet ws 0) (length ws)) ≡ got s h.0 → length ws ≤ most_sheet
    go true e f = absurd (false≢true (ap is_got f))
    go false e f = ltb-false most_sheet (length ws) e

module _ (ws : List ℕ) {s : Sheet} (is : IsSheet ws s) where
  pub is_read : sheet ws 0 ≡ got s is.0
  is_read = (read_got ws s is.0 is.1).0

  stands : Stands sheet_from ws 0 s is.0
  stands = sheet_stands ws 0 s is.0 is_read

  pub sheet_is : sheet_of ws ≡ s
  sheet_is = value_is_lem stands

  ends : (sections_of ws).end ≤ length ws
  unfolding sheet_from
  ends = omega (arith, next_is stands, stands.inside (omega arith))

  pub accepted : Accepted ws
  accepted =
      let k = sheet_known ws 0 s is.0 is_read in
      subst (λ (t : Sheet). SheetBelow t → Every FewDiagnostics t.functions → Every BlockInRange t.blocks → length t.blocks ≤ most_blocks → over (totals t) ≡ false → (totals t).relations + ((totals t).mutations + (totals t).renders) ≤ most_index → Accepted ws) sheet_is
      (λ below functions blocks few within indexes. record { short = short_sheet ws s is; inside = ends; below = below; functions = functions; blocks = blocks; few_blocks = few; within = within; indexes = indexes })
      (in_range_lem ws s is) k.functions k.blocks k.few (read_got ws s is.0 is.1).1 (omega (arith, words_index ws s is.0 is_read, short_sheet ws s is))

-- ---- the sections, each by its count
module _ (ws : List ℕ) where
  pub flags_are_lem : flags_at ws 0 ≡ (sheet_of ws).flags
  unfolding sheet_from
  flags_are_lem = refl

  pub identifiers_are : identifiers_from ws (sections_of ws).identifiers ≡ part (sheet_of ws).identifiers (sections_of ws).functions
  unfolding sheet_from sections_from
  identifiers_are = refl

  pub functions_are : functions_from ws (sections_of ws).functions ≡ part (sheet_of ws).functions (sections_of ws).params
  unfolding sheet_from sections_from
  functions_are = refl

  pub params_are : places_from ws (sections_of ws).params ≡ part (sheet_of ws).params (sections_of ws).context
  unfolding sheet_from sections_from
  params_are = refl

  pub context_are : places_from ws (sections_of ws).context ≡ part (sheet_of ws).context (sections_of ws).returns
  unfolding sheet_from sections_from
  context_are = refl

  pub returns_is : place_at ws ((sections_of ws).returns + 1) ≡ (sheet_of ws).returns
  unfolding sheet_from
  returns_is = refl

  pub blocks_are : blocks_from ws (sections_of ws).blocks ≡ part (sheet_of ws).blocks (sections_of ws).end
  unfolding sheet_from sections_from
  blocks_are = refl

-- a section that was listed
module _ {A : Type 0} (f : Standing A) {ws : List ℕ} {c : Position} {v : List A} {e : Position} (is : listed f ws c ≡ part v e) {l : Listed} (h : ListAt ws c l) where
  pub list_part : several l.count f ws l.first ≡ part v e
  list_part = sym (list_is f ws c h) ∙ is

  pub list_what : (several l.count f ws l.first).what ≡ v
  list_what = ap (λ (p : Part (List A)). p.what) list_part

  pub list_next : (several l.count f ws l.first).next ≡ e
  list_next = ap (λ (p : Part (List A)). p.next) list_part

  pub list_count : l.count ≡ length v
  list_count = sym (several-length f ws l.count l.first) ∙ ap (λ (x : List A). length x) list_what
