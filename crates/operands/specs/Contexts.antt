-- The context places of the inner functions, with their marks in the words.
use Rattle.std.specs.Prelude.{ℕ, suc, ◌+◌, ◌*◌, List, [], ◌∷◌, get_or}
use Rattle.model.specs.Limits.{most_inner_context}
use Rattle.model.specs.Sheet.{InnerFunction, Place}
use Rattle.workspace.specs.Layout.{CONTEXTS}
use Rattle.operands.specs.Given.{word_gives}

-- places whose marks stand from word `at` on
unfoldable pub places_from : List ℕ → ℕ → List Place → List Place
places_from ws at [] = []
places_from ws at (p ∷ l) = word_gives (get_or ws at 0) p ∷ places_from ws (suc at) l

-- where the marks of inner function k begin
abbrev pub context_at : ℕ → ℕ
context_at k = CONTEXTS + most_inner_context * k

-- the contexts of the inner functions from number k on
unfoldable pub contexts_from : List ℕ → ℕ → List InnerFunction → List (List Place)
contexts_from ws k [] = []
contexts_from ws k (f ∷ fs) = places_from ws (context_at k) f.context ∷ contexts_from ws (suc k) fs

-- all of them
abbrev pub contexts_of : List ℕ → List InnerFunction → List (List Place)
contexts_of ws fs = contexts_from ws 0 fs
