-- Small sheets as words, for the tables of cases: places with no traits and no span, effects with extra 0, one instruction of order 1 in each block.
-- Document 02, order 4: "Generated loads and the bench cases use lvalue place 0, empty lists and value 0".
use Rattle.std.specs.Prelude.{ℕ, ◌*◌, List, [], ◌∷◌, ◌++◌, map, length, replicate}
use Rattle.model.specs.Lists.{gather}
use Rattle.model.specs.Bench.{Claim, Case}

-- parts one after another
abbrev pub joined : List (List ℕ) → List ℕ
joined = gather (λ (p : List ℕ). p)

-- parts after their count
abbrev pub several : List (List ℕ) → List ℕ
several ps = length ps ∷ joined ps

-- a place with no traits and no span
abbrev pub place : ℕ → List ℕ
place x = x ∷ 0 ∷ 0 ∷ []

-- a place by its three words
abbrev pub placed : ℕ → ℕ → ℕ → List ℕ
placed x traits span = x ∷ traits ∷ span ∷ []

-- a place with the Capture mark
abbrev pub mark : ℕ → List ℕ
mark x = x ∷ 3 ∷ 0 ∷ []

-- an effect by its kind, its two places and its extra word
abbrev pub effect : ℕ → List ℕ → List ℕ → ℕ → List ℕ
effect k p q x = k ∷ (p ++ (q ++ (x ∷ [])))

-- an effect of one place
abbrev pub one : ℕ → ℕ → List ℕ
one k x = effect k (place x) (place 0) 0

-- an effect of two places
abbrev pub two : ℕ → ℕ → ℕ → List ℕ
two k x y = effect k (place x) (place y) 0

-- an effect of kind 14 to 16 on x, by its diagnostic's identity and instance
abbrev pub diagnosis : ℕ → ℕ → ℕ → ℕ → List ℕ
diagnosis k x identity instance = effect k (place x) (place instance) identity

-- an operand of a phi: its predecessor and its place
abbrev pub operand : ℕ → ℕ → List ℕ
operand b x = b ∷ place x

-- a phi by its place and its operands
abbrev pub phi_of : List ℕ → List (List ℕ) → List ℕ
phi_of p os = p ++ several os

-- a phi with no traits and no span
abbrev pub phi : ℕ → List (List ℕ) → List ℕ
phi x os = phi_of (place x) os

-- values: plain, the inner function k, StoreContext of x
abbrev pub plain : List ℕ
plain = 0 ∷ []

abbrev pub function : ℕ → List ℕ
function k = 1 ∷ k ∷ []

abbrev pub storing : ℕ → List ℕ
storing x = 2 ∷ x ∷ []

-- an instruction by its order, lvalue place, value lvalues, operands, value and effects
abbrev pub instruction_of : ℕ → List ℕ → List (List ℕ) → List (List ℕ) → List ℕ → List (List ℕ) → List ℕ
instruction_of o p ls ps v es = o ∷ (p ++ (several ls ++ (several ps ++ (v ++ several es))))

-- the same without a list of effects
abbrev pub unlisted_of : ℕ → List ℕ → List (List ℕ) → List (List ℕ) → List ℕ → List ℕ
unlisted_of o p ls ps v = o ∷ (p ++ (several ls ++ (several ps ++ (v ++ (4294967295 ∷ [])))))

-- an instruction of order o with these effects, lvalue place 0, empty lists and value 0
abbrev pub instruction : ℕ → List (List ℕ) → List ℕ
instruction o es = instruction_of o (place 0) [] [] plain es

-- a terminal of order o with these operands
abbrev pub other_of : ℕ → List (List ℕ) → List ℕ
other_of o ps = 0 ∷ o ∷ several ps

-- a terminal of order o
abbrev pub other : ℕ → List ℕ
other o = other_of o []

-- Return of the place p, with these effects
abbrev pub returning : ℕ → List ℕ → List (List ℕ) → List ℕ
returning o p es = 1 ∷ o ∷ (p ++ (several es ++ (0 ∷ [])))

-- MaybeThrow with these effects
abbrev pub throwing : ℕ → List (List ℕ) → List ℕ
throwing o es = 2 ∷ o ∷ (several es ++ (0 ∷ []))

-- block b with phis, instructions and a terminal
abbrev pub block_of : ℕ → List (List ℕ) → List (List ℕ) → List ℕ → List ℕ
block_of b phis is t = b ∷ (several phis ++ (several is ++ t))

-- block b with phis and one instruction of order 1 with these effects
abbrev pub block : ℕ → List (List ℕ) → List (List ℕ) → List ℕ
block b phis es = block_of b phis (instruction 1 es ∷ []) (other 0)

-- function expression e and validations v
abbrev pub flags : ℕ → ℕ → List ℕ
flags e v = 2 ∷ e ∷ v ∷ []

-- n identifiers of zeros
abbrev pub identifiers : ℕ → List ℕ
identifiers n = n ∷ replicate (3 * n) 0

-- an identifier by its start, its end and its type
abbrev pub identifier : ℕ → ℕ → ℕ → List ℕ
identifier start end type = start ∷ end ∷ type ∷ []

-- a diagnostic by its identity and its instance
abbrev pub pair : ℕ → ℕ → List ℕ
pair identity instance = identity ∷ instance ∷ []

-- an inner function by its diagnostics and its context places
abbrev pub function_of : List (List ℕ) → List (List ℕ) → List ℕ
function_of ds cs = several ds ++ several cs

-- inner functions, each by its diagnostics, with no context
abbrev pub functions : List (List (List ℕ)) → List ℕ
functions ds = several (map (λ (l : List (List ℕ)). function_of l []) ds)

-- the sections as words: flags, identifiers, inner functions; then parameters, context, returns, and the blocks
abbrev pub whole_by : List ℕ → List ℕ → List ℕ → List (List ℕ) → List (List ℕ) → List ℕ → List (List ℕ) → List ℕ
whole_by fs ids fns ps cs r bs = joined (fs ∷ ids ∷ fns ∷ several ps ∷ several cs ∷ several (r ∷ []) ∷ several bs ∷ [])

-- the same with inner functions by their diagnostics
abbrev pub whole_of : List ℕ → List ℕ → List (List (List ℕ)) → List (List ℕ) → List (List ℕ) → List ℕ → List (List ℕ) → List ℕ
whole_of fs ids ds ps cs r bs = whole_by fs ids (functions ds) ps cs r bs

-- the same with n identifiers of zeros, and places with no traits and no span
abbrev pub whole : List ℕ → ℕ → List (List (List ℕ)) → List ℕ → List ℕ → ℕ → List (List ℕ) → List ℕ
whole fs n ds ps cs r bs = whole_of fs (identifiers n) ds (map place ps) (map place cs) (place r) bs

-- the same with flags 0 and 1, no inner function and no context
abbrev pub sheet : ℕ → List ℕ → ℕ → List (List ℕ) → List ℕ
sheet n ps r bs = whole (flags 0 1) n [] ps [] r bs

-- a range by its start and its end
abbrev pub range : ℕ → ℕ → List ℕ
range start end = start ∷ end ∷ []

-- the first six sections of an answer: ranges, params, context, diagnostics, effects, walks
abbrev pub answered : List (List ℕ) → List (List ℕ) → List (List ℕ) → List (List ℕ) → List (List ℕ) → List ℕ → List ℕ
answered rs ps cs ds es ws = joined (several rs ∷ several ps ∷ several cs ∷ several ds ∷ several es ∷ (length ws ∷ ws) ∷ [])

-- the whole answer: after the first six sections phis, instructions, terminals, inner
abbrev pub ten_of : List ℕ → List (List ℕ) → List (List ℕ) → List (List ℕ) → List (List ℕ) → List ℕ
ten_of six ps is ts ns = six ++ joined (several ps ∷ several is ∷ several ts ∷ several ns ∷ [])

-- a row of a table
abbrev pub case : List ℕ → Claim → Case
case ws c = record { sheet = ws; claim = c }
