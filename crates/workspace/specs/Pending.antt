-- The mutations and the renders that building leaves for the walks, in words.
use Rattle.std.specs.Prelude.{ℕ, zero, suc, ◌+◌, ◌*◌, ◌/◌, ◌%◌, List, get_or, eqb}
use Rattle.model.specs.Mutation.{Kind, conditional, definite, reason_of, Mutation, RenderOf}
use Rattle.workspace.specs.Layout.{MUTATIONS, RENDERS}
use Rattle.workspace.specs.Graph.{tab}

-- the kind by its level less 1
abbrev pub kind_of : ℕ → Kind
kind_of zero = conditional
kind_of (suc k) = definite

-- a mutation by its three words; the first is identifier + 512 * transitive + 1024 * (level - 1) + 2048 * reason + 4096 * index
unfoldable pub mutation_of : ℕ → ℕ → ℕ → Mutation
mutation_of w order span = record {
  index = w / 4096;
  order = order;
  kind = kind_of (w / 1024 % 2);
  transitive = eqb (w / 512 % 2) 1;
  identifier = w % 512;
  span = span;
  reason = reason_of (w / 2048 % 2);
}

-- a render by its word: identifier + 512 * index
unfoldable pub render_of : ℕ → RenderOf
render_of w = record { index = w / 512; identifier = w % 512 }

-- the mutation of number k
unfoldable pub mutation_at : List ℕ → ℕ → Mutation
mutation_at ws k = mutation_of (get_or ws (MUTATIONS + 3 * k) 0) (get_or ws (MUTATIONS + 3 * k + 1) 0) (get_or ws (MUTATIONS + 3 * k + 2) 0)

-- the render of number k
unfoldable pub render_at : List ℕ → ℕ → RenderOf
render_at ws k = render_of (get_or ws (RENDERS + k) 0)

-- the first `count` mutations
unfoldable pub mutations_of : List ℕ → ℕ → List Mutation
mutations_of ws count = tab count (mutation_at ws)

-- the first `count` renders
unfoldable pub renders_of : List ℕ → ℕ → List RenderOf
renders_of ws count = tab count (render_at ws)
