-- A question only refuses: a part read with questions is what Sections reads, or refused with the number of a question. Where nothing is asked both are one.
use Prim.Native.Nat.{ℕ, zero, suc}
use mathlib.Core.Path.{◌≡◌, refl}
use mathlib.Core.Bool.{Bool, true, false}
use mathlib.Core.List.{List, [], ◌∷◌}
use mathlib.Core.Option.{Option, none, some}
use lib.ListN.{length}
use Rattle.model.specs.Limits.{most_identifiers, most_functions, most_params, most_context, returns_count, most_blocks, most_count, most_order, most_lvalues, most_operands, no_operands, most_terminal, most_kind}
use Rattle.model.specs.Lists.{pick, each}
use Rattle.model.specs.Sheet.{BlockId}
use Rattle.model.specs.Effects.{kind_of}
use Rattle.model.specs.Reading.{Position, Result, got, refused, Read, ◌>>=◌, pure, word, count, fixed, at_most, below, new_number, is_absent, times, numbered, counted, optional, times_from, numbered_from, counted_from}
use Rattle.model.specs.Sections.{no_question, flags, identifier, place_asking, place, effect, effects, operand, phi, instruction_value, instruction, terminal_of, terminal, block, sheet_of}
use Rattle.model.specs.Asking as asking
use Rattle.model.specs.Asking.{Asks, tell_effect, tell_operand, tell_phi, tell_instruction, tell_block}

-- the same answer, or refused with a number of P
pub data Holds {A : Type 0} (P : ℕ → Type 0) (x y : Result A) : Type 0 where
  same : x ≡ y → Holds P x y
  stopped : (k : ℕ) → x ≡ refused k → P k → Holds P x y

-- so from every position
abbrev pub Follows : {A : Type 0} → (ℕ → Type 0) → Read A → Read A → Type 0
Follows P f g = (ws : List ℕ) (c : Position) → Holds P (f ws c) (g ws c)

module _ (P : ℕ → Type 0) where
  pub itself : {A : Type 0} (f : Read A) → Follows P f f
  itself f ws c = same refl

  pub bind_follows : {A B : Type 0} (m m' : Read A) (f f' : A → Read B) → Follows P m m' → ((a : A) → Follows P (f a) (f' a)) → Follows P (m >>= f) (m' >>= f')
  bind_follows {A} {B} m m' f f' h k ws c = go (h ws c)
    where
      on : (r : Result A) → m' ws c ≡ r → m ws c ≡ r → Holds P ((m >>= f) ws c) ((m' >>= f') ws c)
      on (got a d) x y = rw (x, y) (k a ws d)
      on (refused n) x y = rw (x, y) (same refl)

      go : Holds P (m ws c) (m' ws c) → Holds P ((m >>= f) ws c) ((m' >>= f') ws c)
      go (same e) = on (m' ws c) refl e
      go (stopped n e p) = rw e (stopped n refl p)

  -- what was asked, and then what is read anyway
  ask_follows : {A : Type 0} (ask : Read (Unit {0})) (f : Read A) → Follows P ask no_question → Follows P (ask >>= λ (u : Unit {0}). f) f
  ask_follows ask f h = bind_follows ask no_question (λ (u : Unit {0}). f) (λ (u : Unit {0}). f) h (λ u. itself f)

  optional_follows : {A : Type 0} (f g : Read A) → Follows P f g → Follows P (optional f) (optional g)
  unfolding optional
  optional_follows {A} f g h ws c = go (is_absent (word ws c))
    where
      absent : Read (Option A)
      absent = word >>= λ (w : ℕ). pure none

      go : (b : Bool) → Holds P (pick b absent (f >>= λ (a : A). pure (some a)) ws c) (pick b absent (g >>= λ (a : A). pure (some a)) ws c)
      go true = same refl
      go false = bind_follows f g _ _ h (λ a. itself (pure (some a))) ws c

  module _ {A T : Type 0} (tell : A → T → T) where
    pub times_follows : (k : ℕ) (f : T → Read A) (g : Read A) → ((t : T) → Follows P (f t) g) → (t : T) → Follows P (times_from k f tell t) (times k g)
    unfolding times_from times
    times_follows zero f g h t = itself (pure [])
    times_follows (suc k) f g h t =
        bind_follows (f t) g _ _ (h t) (λ a. bind_follows (times_from k f tell (tell a t)) (times k g) _ _ (times_follows k f g h (tell a t)) (λ l. itself (pure (a ∷ l))))

    numbered_follows : (k : ℕ) (used : List BlockId) (f : BlockId → T → Read A) (g : BlockId → Read A) → ((b : BlockId) (t : T) → Follows P (f b t) (g b)) → (t : T) →
        Follows P (numbered_from k used f tell t) (numbered k used g)
    unfolding numbered_from numbered
    numbered_follows zero used f g h t = itself (pure [])
    numbered_follows (suc k) used f g h t =
        bind_follows (new_number used) (new_number used) _ _ (itself (new_number used))
        (λ b. bind_follows (f b t) (g b) _ _ (h b t)
        (λ a. bind_follows (numbered_from k (b ∷ used) f tell (tell a t)) (numbered k (b ∷ used) g) _ _ (numbered_follows k (b ∷ used) f g h (tell a t)) (λ l. itself (pure (a ∷ l)))))

    counted_follows : (most : ℕ) (f : T → Read A) (g : Read A) → ((t : T) → Follows P (f t) g) → (t : T) → Follows P (counted_from most f tell t) (counted most g)
    unfolding counted_from counted
    counted_follows most f g h t = bind_follows (count most) (count most) _ _ (itself (count most)) (λ k. times_follows k f g h t)

  module _ (a : Asks) (asked : (t : a.Tally) → Follows P (a.ask t) no_question) where
    place_follows : (n : ℕ) (t : a.Tally) → Follows P (place_asking (a.ask t) n) (place n)
    unfolding place
    place_follows n t = bind_follows (below n) (below n) _ _ (itself (below n)) (λ i. ask_follows (a.ask t) _ (asked t))

    effect_follows : (terminal : Bool) (n m : ℕ) (t : a.Tally) → Follows P (asking.effect a terminal n m t) (effect n m)
    unfolding asking.effect effect
    effect_follows terminal n m t =
        bind_follows (at_most most_kind) (at_most most_kind) _ _ (itself (at_most most_kind)) (λ w. ask_follows (a.ask (a.effect terminal (kind_of w) t)) _ (asked (a.effect terminal (kind_of w) t)))

    effects_follows : (terminal : Bool) (n m : ℕ) (t : a.Tally) → Follows P (asking.effects a terminal n m t) (effects n m)
    unfolding asking.effects effects
    effects_follows terminal n m t = counted_follows (tell_effect a terminal) most_count (asking.effect a terminal n m) (effect n m) (effect_follows terminal n m) t

    operand_follows : (n : ℕ) (b : BlockId) (t : a.Tally) → Follows P (asking.operand a n b t) (operand n b)
    unfolding asking.operand operand
    operand_follows n b t = ask_follows (a.ask (a.relation t)) _ (asked (a.relation t))

    phi_follows : (n : ℕ) (t : a.Tally) → Follows P (asking.phi a n t) (phi n)
    unfolding asking.phi phi
    phi_follows n t =
        bind_follows (place n) (place n) _ _ (itself (place n))
        (λ p. bind_follows (count most_count) (count most_count) _ _ (itself (count most_count))
        (λ k. bind_follows (numbered_from k [] (asking.operand a n) (tell_operand a) t) (numbered k [] (operand n)) _ _
        (numbered_follows (tell_operand a) k [] (asking.operand a n) (operand n) (operand_follows n) t) (λ l. itself (pure _))))

    instruction_follows : (n m : ℕ) (t : a.Tally) → Follows P (asking.instruction a n m t) (instruction n m)
    unfolding asking.instruction instruction
    instruction_follows n m t =
        bind_follows (at_most most_order) (at_most most_order) _ _ (itself (at_most most_order))
        (λ o. bind_follows (place n) (place n) _ _ (itself (place n))
        (λ p. bind_follows (counted most_lvalues (place n)) (counted most_lvalues (place n)) _ _ (itself (counted most_lvalues (place n)))
        (λ ls. bind_follows (counted most_operands (place n)) (counted most_operands (place n)) _ _ (itself (counted most_operands (place n)))
        (λ ps. bind_follows (instruction_value n m) (instruction_value n m) _ _ (itself (instruction_value n m))
        (λ v. bind_follows (optional (asking.effects a false n m t)) (optional (effects n m)) _ _ (optional_follows (asking.effects a false n m t) (effects n m) (effects_follows false n m t)) (λ l. itself (pure _)))))))

    terminal_of_follows : (n m : ℕ) (t : a.Tally) (k o : ℕ) → Follows P (asking.terminal_of a n m t k o) (terminal_of n m k o)
    unfolding asking.terminal_of terminal_of
    terminal_of_follows n m t zero o = bind_follows (counted most_operands (place n)) (counted most_operands (place n)) _ _ (itself (counted most_operands (place n))) (λ ps. itself (pure _))
    terminal_of_follows n m t (suc zero) o =
        bind_follows (place_asking (a.ask (a.relation t)) n) (place n) _ _ (place_follows n (a.relation t))
        (λ p. bind_follows (asking.effects a true n m (a.relation t)) (effects n m) _ _ (effects_follows true n m (a.relation t))
        (λ l. bind_follows (fixed no_operands) (fixed no_operands) _ _ (itself (fixed no_operands)) (λ k. itself (pure _))))
    terminal_of_follows n m t (suc (suc k)) o =
        bind_follows (asking.effects a true n m t) (effects n m) _ _ (effects_follows true n m t)
        (λ l. bind_follows (fixed no_operands) (fixed no_operands) _ _ (itself (fixed no_operands)) (λ j. itself (pure _)))

    terminal_follows : (n m : ℕ) (t : a.Tally) → Follows P (asking.terminal a n m t) (terminal n m)
    unfolding asking.terminal terminal
    terminal_follows n m t =
        bind_follows (at_most most_terminal) (at_most most_terminal) _ _ (itself (at_most most_terminal))
        (λ k. bind_follows (at_most most_order) (at_most most_order) _ _ (itself (at_most most_order)) (λ o. terminal_of_follows n m t k o))

    block_follows : (n m : ℕ) (b : BlockId) (t : a.Tally) → Follows P (asking.block a n m b t) (block n m b)
    unfolding asking.block block
    block_follows n m b t =
        bind_follows (counted_from most_count (asking.phi a n) (tell_phi a) t) (counted most_count (phi n)) _ _ (counted_follows (tell_phi a) most_count (asking.phi a n) (phi n) (phi_follows n) t)
        (λ ps. let u : a.Tally = each (tell_phi a) ps t in
        bind_follows (counted_from most_count (asking.instruction a n m) (tell_instruction a) u) (counted most_count (instruction n m)) _ _
        (counted_follows (tell_instruction a) most_count (asking.instruction a n m) (instruction n m) (instruction_follows n m) u)
        (λ is. bind_follows (asking.terminal a n m (each (tell_instruction a) is u)) (terminal n m) _ _ (terminal_follows n m (each (tell_instruction a) is u)) (λ z. itself (pure _))))

    pub blocks_follow : (n m k : ℕ) → Follows P (numbered_from k [] (asking.block a n m) (tell_block a) a.none) (numbered k [] (block n m))
    blocks_follow n m k = numbered_follows (tell_block a) k [] (asking.block a n m) (block n m) (block_follows n m) a.none

    -- a sheet
    pub sheet_follows : Follows P (asking.sheet a) (sheet_of a.inner (λ n m k. numbered k [] (block n m)))
    unfolding asking.sheet
    sheet_follows =
        bind_follows flags flags _ _ (itself flags)
        (λ fs. bind_follows (counted most_identifiers identifier) (counted most_identifiers identifier) _ _ (itself (counted most_identifiers identifier))
        (λ ids. bind_follows (counted most_functions (a.inner (length ids))) (counted most_functions (a.inner (length ids))) _ _ (itself (counted most_functions (a.inner (length ids))))
        (λ fns. bind_follows (counted most_params (place (length ids))) (counted most_params (place (length ids))) _ _ (itself (counted most_params (place (length ids))))
        (λ ps. bind_follows (counted most_context (place (length ids))) (counted most_context (place (length ids))) _ _ (itself (counted most_context (place (length ids))))
        (λ cs. bind_follows (fixed returns_count) (fixed returns_count) _ _ (itself (fixed returns_count))
        (λ k. bind_follows (place (length ids)) (place (length ids)) _ _ (itself (place (length ids)))
        (λ r. bind_follows (count most_blocks) (count most_blocks) _ _ (itself (count most_blocks))
        (λ b. bind_follows (numbered_from b [] (asking.block a (length ids) (length fns)) (tell_block a) a.none) (numbered b [] (block (length ids) (length fns))) _ _
        (blocks_follow (length ids) (length fns) b) (λ bs. itself (pure _))))))))))

-- nothing is asked: both are one
pub never : {A : Type 0} (f g : Read A) → Follows (λ (k : ℕ). ⊥) f g → (ws : List ℕ) (c : Position) → f ws c ≡ g ws c
never f g h ws c = go (h ws c)
  where
    go : Holds (λ (k : ℕ). ⊥) (f ws c) (g ws c) → f ws c ≡ g ws c
    go (same e) = e
    go (stopped k e p) = absurd p
