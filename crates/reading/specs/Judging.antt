-- Reading that keeps no tree: what was read is told to running totals as it comes, and only they go on.
-- Refusal 8 asks at each effect whether a total is over its limit, so a total stops one above it; of diagnoses and of Apply it is told only whether there is one.
use Rattle.std.specs.Prelude.{ℕ, ◌+◌, Bool, true, false, ◌||◌, List, [], ltb}
use Rattle.std.proofs.Math.Option.{Option}
use Rattle.model.specs.Limits.{most_blocks, no_operands, most_mutations, most_renders}
use Rattle.model.specs.Lists.{pick, each}
use Rattle.model.specs.Sheet.{EffectKind, EffectList, present, Block}
use Rattle.model.specs.Effects.{Role, relation, mutation, render, diagnosis, nothing, row_of, is_apply}
use Rattle.model.specs.Reading.{Result, got, refused, Read, ◌>>=◌, pure, refuse, count, fixed, optional, numbered_from}
use Rattle.model.specs.Sections.{inner_function}
use Rattle.model.specs.Asking.{Asks, tell_effect, tell_block, effects, block}

module _ {A B : Type 0} where
  -- the same position or refusal, with another value
  abbrev pub map_result : (A → B) → Result A → Result B
  map_result f (got a c) = got (f a) c
  map_result f (refused k) = refused k

  -- a part is read, and told to what was known before
  unfoldable pub telling : Read A → (A → B → B) → B → Read B
  telling f tell b ws c = map_result (λ (a : A). tell a b) (f ws c)

  -- a part that is read with what was known before
  abbrev pub judge : (B → Read A) → (A → B → B) → B → Read B
  judge f tell b = telling (f b) tell b

-- one more, but no more than `stop`
abbrev pub bump : ℕ → ℕ → ℕ
bump stop x = pick (ltb x stop) (x + 1) x

-- one above each limit of refusal 8: of mutations
abbrev pub mutation_stop : ℕ
mutation_stop = most_mutations + 1

-- of renders
abbrev pub render_stop : ℕ
render_stop = most_renders + 1

-- both totals, 1 if an instruction has an effect of kind 14 to 16, and 1 if one has an Apply
pub record Told : Type 0 where
  pub mutations : ℕ
  pub renders : ℕ
  pub diagnoses : ℕ
  pub applies : ℕ

-- one more mutation
unfoldable pub with_mutation : Told → Told
with_mutation t = record { mutations = bump mutation_stop t.mutations; renders = t.renders; diagnoses = t.diagnoses; applies = t.applies }

-- one more render
unfoldable pub with_render : Told → Told
with_render t = record { mutations = t.mutations; renders = bump render_stop t.renders; diagnoses = t.diagnoses; applies = t.applies }

-- there is a diagnosis
unfoldable pub with_diagnosis : Told → Told
with_diagnosis t = record { mutations = t.mutations; renders = t.renders; diagnoses = 1; applies = t.applies }

-- there is an Apply
unfoldable pub with_apply : Told → Told
with_apply t = record { mutations = t.mutations; renders = t.renders; diagnoses = t.diagnoses; applies = 1 }

-- an effect of an instruction, by what it is for and whether it is Apply
abbrev pub tell_role : Bool → Role → Told → Told
tell_role apply relation t = t
tell_role apply mutation t = with_mutation t
tell_role apply render t = with_render t
tell_role apply diagnosis t = with_diagnosis t
tell_role apply nothing t = pick apply (with_apply t) t

-- an effect: of a terminal's nothing is told
unfoldable pub tell_kind : Bool → EffectKind → Told → Told
tell_kind terminal k t = pick terminal t (tell_role (is_apply k) (row_of k).role t)

-- before the first block
abbrev pub no_totals : Told
no_totals = record { mutations = 0; renders = 0; diagnoses = 0; applies = 0 }

-- "over .. 512 mutations or 256 renders"
unfoldable pub over_told : Told → Bool
over_told t = ltb most_mutations t.mutations || ltb most_renders t.renders

-- the totals so far while none is over its limit, or that one was passed
pub data Tally : Type 0 where
  within : Told → Tally
  passed : Tally

-- what totals are
unfoldable pub standing : Told → Tally
standing t = pick (over_told t) passed (within t)

-- before the first block
abbrev pub nothing_yet : Tally
nothing_yet = within no_totals

-- one more effect
unfoldable pub count_kind : Bool → EffectKind → Tally → Tally
count_kind terminal k (within t) = standing (tell_kind terminal k t)
count_kind terminal k passed = passed

-- a phi operand and a Return value count nothing
abbrev pub uncounted : Tally → Tally
uncounted t = t

-- 8, if a total was passed
abbrev pub ask_tally : Tally → Read (Unit {0})
ask_tally (within t) = pure tt
ask_tally passed = refuse 8

-- what is counted while reading, and asked at each effect
abbrev pub counting : Asks
counting = record { Tally = Tally; none = nothing_yet; effect = count_kind; relation = uncounted; ask = ask_tally; inner = inner_function }

-- the effects of an instruction: an absent list has none
abbrev pub instruction_effects : ℕ → ℕ → Tally → Read Tally
instruction_effects n m t = judge (λ (u : Tally). optional (effects counting false n m u)) (λ (l : Option EffectList). each (tell_effect counting false) (present l)) t

-- the effects of a Return or a MaybeThrow, after which the count of operands "is 0"
unfoldable pub terminal_effects : ℕ → ℕ → Tally → Read Tally
terminal_effects n m t = do
  u ← judge (effects counting true n m) (each (tell_effect counting true)) t
  k ← fixed no_operands
  pure u

-- "Blocks, at most 256"
unfoldable pub blocks_of : ℕ → ℕ → Tally → Read (List Block)
blocks_of n m t = do
  k ← count most_blocks
  numbered_from k [] (block counting n m) (tell_block counting) t
