-- Document 01, "The sheet": every limit met exactly and passed by one, with the document's own numeral, and the table of places and largest extra words by effect kind.
-- A sheet that ends with a word within its limit is refused with 3, since the next word is due; with one more it is 4 at a count, and 5 at any other word.
-- Left out: the limits on workspace, sheet and serial, which stand in Refusals and Table.
use Rattle.std.specs.Prelude.{ℕ, suc, ◌-◌, Bool, true, ◌&&◌, not, List, [], ◌∷◌, ◌++◌, replicate, leb, eqb}
use Rattle.model.specs.Lists.{pick, gather}
use Rattle.model.specs.Effects.{kind_of, Row, row_of}
use Rattle.model.specs.Totals.{Totals, over}
use Rattle.model.specs.Small.{place, flags, identifiers, functions}
use Rattle.model.specs.Refusals.{Call, row}

-- a sheet that ends with the word w, and the number that it is refused with
abbrev pub ends : List ℕ → ℕ → ℕ → Call
ends before w k = row (before ++ (w ∷ [])) 16384 16384 k

-- "A count is above its limit": 4
abbrev pub count_limit : List ℕ → ℕ → List Call
count_limit before most = ends before most 3 ∷ ends before (suc most) 4 ∷ []

-- "or differs from a fixed count": 4
abbrev pub fixed_count : List ℕ → ℕ → List Call
fixed_count before k = ends before (k - 1) 4 ∷ count_limit before k

-- "A word is outside its range": 5
abbrev pub word_limit : List ℕ → ℕ → List Call
word_limit before most = ends before most 3 ∷ ends before (suc most) 5 ∷ []

-- "identifier (below N)", where N is 3; "traits, the effect's position in `Effect` counted from 0 plus 8 if reactive"; the span is any word
abbrev pub place_limits : List ℕ → List Call
place_limits before = word_limit before 2 ++ (word_limit (before ++ (0 ∷ [])) 15 ++ (ends (before ++ (0 ∷ 0 ∷ [])) 4294967295 3 ∷ []))

-- "unused places are 0", but for an instance as the first word
abbrev pub unused_place : ℕ → List ℕ → List Call
unused_place instance before = word_limit before instance ++ (word_limit (before ++ (0 ∷ [])) 0 ++ word_limit (before ++ (0 ∷ 0 ∷ [])) 0)

-- a sheet's flags, its three identifiers, and the words after them
abbrev pub after_identifiers : List ℕ → List ℕ
after_identifiers ws = flags 0 0 ++ (identifiers 3 ++ ws)

-- the same with m inner functions, no parameter and no context, and the words after the number of the first of two blocks
abbrev pub in_block : ℕ → List ℕ → List ℕ
in_block m ws = after_identifiers (functions (replicate m []) ++ (0 ∷ 0 ∷ 1 ∷ (place 0 ++ (2 ∷ 0 ∷ ws))))

-- the words after the lvalue place of the first instruction
abbrev pub in_instruction : ℕ → List ℕ → List ℕ
in_instruction m ws = in_block m (0 ∷ 1 ∷ 0 ∷ (place 0 ++ ws))

-- the words after its value: no list, value 0
abbrev pub at_effects : ℕ → List ℕ → List ℕ
at_effects m ws = in_instruction m (0 ∷ 0 ∷ 0 ∷ ws)

-- the limits, in the document's order
unfoldable pub limits : List Call
limits =
    gather (λ (l : List Call). l)
    -- "Flags, count 2: function expression, validations; each 0 or 1"
    (fixed_count [] 2
    ∷ word_limit (2 ∷ []) 1
    ∷ word_limit (2 ∷ 0 ∷ []) 1
    -- "Identifiers, N at most 512: range start, range end (each at most 1,000,000), type (0 other, 1 primitive, 2 JSX)"
    ∷ count_limit (flags 0 0) 512
    ∷ word_limit (flags 0 0 ++ (1 ∷ [])) 1000000
    ∷ word_limit (flags 0 0 ++ (1 ∷ 0 ∷ [])) 1000000
    ∷ word_limit (flags 0 0 ++ (1 ∷ 0 ∷ 0 ∷ [])) 2
    -- "Inner functions, at most 64: a count (at most 64)", then that many pairs of identity and instance, "each at most 65,535"
    ∷ count_limit (after_identifiers []) 64
    ∷ count_limit (after_identifiers (1 ∷ [])) 64
    ∷ word_limit (after_identifiers (1 ∷ 1 ∷ [])) 65535
    ∷ word_limit (after_identifiers (1 ∷ 1 ∷ 0 ∷ [])) 65535
    -- document 02, order 4: "after its diagnostics, a count of context places (at most 64) and those places"
    ∷ count_limit (after_identifiers (1 ∷ 0 ∷ [])) 64
    ∷ place_limits (after_identifiers (1 ∷ 0 ∷ 1 ∷ []))
    -- "Parameters, then context, at most 64 each: places"
    ∷ count_limit (after_identifiers (0 ∷ [])) 64
    ∷ place_limits (after_identifiers (0 ∷ 1 ∷ []))
    ∷ count_limit (after_identifiers (0 ∷ 0 ∷ [])) 64
    ∷ place_limits (after_identifiers (0 ∷ 0 ∷ 1 ∷ []))
    -- "Returns, count 1: a place"
    ∷ fixed_count (after_identifiers (0 ∷ 0 ∷ 0 ∷ [])) 1
    ∷ place_limits (after_identifiers (0 ∷ 0 ∷ 0 ∷ 1 ∷ []))
    -- "Blocks, at most 256: number (at most 65,535)"
    ∷ count_limit (after_identifiers (0 ∷ 0 ∷ 0 ∷ 1 ∷ place 0)) 256
    ∷ word_limit (after_identifiers (0 ∷ 0 ∷ 0 ∷ 1 ∷ (place 0 ++ (1 ∷ [])))) 65535
    -- "Counts without a limit of their own are at most 1,024": "phi count, each phi a place, an operand count, and for each operand a predecessor's number (same limit) and a place"
    ∷ count_limit (in_block 0 []) 1024
    ∷ place_limits (in_block 0 (1 ∷ []))
    ∷ count_limit (in_block 0 (1 ∷ place 0)) 1024
    ∷ word_limit (in_block 0 (1 ∷ (place 0 ++ (1 ∷ [])))) 65535
    ∷ place_limits (in_block 0 (1 ∷ (place 0 ++ (1 ∷ 0 ∷ []))))
    -- "instruction count, each an order, an effect count and the effects"; "An order is at most 999,999"; "Freeze 0 to Render 17"
    ∷ count_limit (in_block 0 (0 ∷ [])) 1024
    ∷ word_limit (in_block 0 (0 ∷ 1 ∷ [])) 999999
    ∷ count_limit (at_effects 0 []) 1024
    -- order 5: "An instruction's effect count of 4,294,967,295 now means that the list is absent"; a terminal is due then
    ∷ (ends (at_effects 0 []) 4294967294 4 ∷ ends (at_effects 0 []) 4294967295 3 ∷ ends (at_effects 0 [] ++ (4294967295 ∷ [])) 3 5 ∷ [])
    ∷ word_limit (at_effects 0 (1 ∷ [])) 17
    -- order 4: "after its order, its lvalue place; its value lvalues, then its operands, each after a count of at most 64"
    ∷ place_limits (in_block 0 (0 ∷ 1 ∷ 0 ∷ []))
    ∷ count_limit (in_instruction 0 []) 64
    ∷ place_limits (in_instruction 0 (1 ∷ []))
    ∷ count_limit (in_instruction 0 (0 ∷ [])) 64
    ∷ place_limits (in_instruction 0 (0 ∷ 1 ∷ []))
    -- "and a value word: 0 plain, 1 then an inner function number, 2 then the identifier that StoreContext stores": below their count and below N
    ∷ word_limit (in_instruction 0 (0 ∷ 0 ∷ [])) 2
    ∷ (ends (in_instruction 0 (0 ∷ 0 ∷ 1 ∷ [])) 0 5 ∷ [])
    ∷ word_limit (in_instruction 1 (0 ∷ 0 ∷ 1 ∷ [])) 0
    ∷ word_limit (in_instruction 64 (0 ∷ 0 ∷ 1 ∷ [])) 63
    ∷ word_limit (in_instruction 0 (0 ∷ 0 ∷ 2 ∷ [])) 2
    -- "terminal kind (0 other, 1 Return, 2 MaybeThrow) and order; for 1 a place; for 1 and 2 an effect count and effects"
    ∷ word_limit (in_block 0 (0 ∷ 0 ∷ [])) 2
    ∷ word_limit (in_block 0 (0 ∷ 0 ∷ 2 ∷ [])) 999999
    ∷ place_limits (in_block 0 (0 ∷ 0 ∷ 1 ∷ 0 ∷ []))
    ∷ count_limit (in_block 0 (0 ∷ 0 ∷ 1 ∷ 0 ∷ place 0)) 1024
    ∷ count_limit (in_block 0 (0 ∷ 0 ∷ 2 ∷ 0 ∷ [])) 1024
    ∷ (ends (in_block 0 (0 ∷ 0 ∷ 1 ∷ 0 ∷ place 0)) 4294967295 4 ∷ ends (in_block 0 (0 ∷ 0 ∷ 2 ∷ 0 ∷ [])) 4294967295 4 ∷ [])
    -- order 4: "at its end, its operands after a count of at most 64; for Return and MaybeThrow that count is 0"
    ∷ count_limit (in_block 0 (0 ∷ 0 ∷ 0 ∷ 0 ∷ [])) 64
    ∷ place_limits (in_block 0 (0 ∷ 0 ∷ 0 ∷ 0 ∷ 1 ∷ []))
    ∷ count_limit (in_block 0 (0 ∷ 0 ∷ 1 ∷ 0 ∷ (place 0 ++ (0 ∷ [])))) 0
    ∷ count_limit (in_block 0 (0 ∷ 0 ∷ 2 ∷ 0 ∷ 0 ∷ [])) 0
    ∷ [])

-- a row of the document's table of effect kinds: the kind, its places, its largest instance (0 where it has none), its largest extra word
pub record EffectRow : Type 0 where
  pub kind : ℕ
  pub places : ℕ
  pub instance : ℕ
  pub extra : ℕ

-- a row by its four numbers
abbrev effect_row : ℕ → ℕ → ℕ → ℕ → EffectRow
effect_row k p i x = record { kind = k; places = p; instance = i; extra = x }

-- "This table gives places and largest extra word by effect kind"
abbrev pub effect_rows : List EffectRow
effect_rows =
    effect_row 0 1 0 11
    ∷ effect_row 1 1 0 1
    ∷ effect_row 2 1 0 0
    ∷ effect_row 3 1 0 0
    ∷ effect_row 4 1 0 0
    ∷ effect_row 5 2 0 0
    ∷ effect_row 6 2 0 0
    ∷ effect_row 7 2 0 0
    ∷ effect_row 8 2 0 0
    ∷ effect_row 9 1 0 71
    ∷ effect_row 10 2 0 0
    ∷ effect_row 11 2 0 0
    ∷ effect_row 12 0 0 0
    ∷ effect_row 13 1 0 63
    ∷ effect_row 14 1 65535 65535
    ∷ effect_row 15 1 65535 65535
    ∷ effect_row 16 1 65535 65535
    ∷ effect_row 17 1 0 0
    ∷ []

-- the limits of an effect's words after its kind, in a sheet with m inner functions
abbrev pub effect_limits : ℕ → EffectRow → List Call
effect_limits m r =
    pick (leb 1 r.places) place_limits (unused_place 0) (before [])
    ++ (pick (leb 2 r.places) place_limits (unused_place r.instance) (before (place 0))
    ++ word_limit (before (place 0 ++ place 0)) r.extra)
  where
    before : List ℕ → List ℕ
    before ws = at_effects m (1 ∷ r.kind ∷ ws)

-- CreateFunction's largest is that of 64 inner functions; the other kinds need none
abbrev functions_for : ℕ → ℕ
functions_for kind = pick (eqb kind 13) 64 0

-- the table as calls; and "inner function, below their count" where that is 1
unfoldable pub effect_table : List Call
effect_table = gather (λ (r : EffectRow). effect_limits (functions_for r.kind) r) effect_rows ++ effect_limits 1 (effect_row 13 1 0 0)

-- the definition's rows have the document's numbers
abbrev pub same_rows : List EffectRow → Bool
same_rows [] = true
same_rows (r ∷ l) = same_row (row_of (kind_of r.kind)) && same_rows l
  where
    same_row : Row → Bool
    same_row d = eqb d.number r.kind && (eqb d.places r.places && (eqb d.instance r.instance && eqb d.extra r.extra))

-- three totals
abbrev pub three : ℕ → ℕ → ℕ → Totals
three r m k = record { relations = r; mutations = m; renders = k }

-- "over .. 512 mutations or 256 renders": both met, then each passed by one; document 02, order 10: relation effects have no limit
unfoldable pub totals_right : Bool
totals_right = not (over (three 1025 512 256)) && (over (three 0 513 0) && over (three 0 0 257))
