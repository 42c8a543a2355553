-- With which numbers a part is refused: laws for the combinators of Reading, and for every part of a sheet.
use Prim.Native.Nat.{ℕ, zero, suc, ◌+◌}
use mathlib.Core.Path.{◌≡◌, refl, subst, ap}
use mathlib.Core.Bool.{Bool, true, false, true≢false}
use mathlib.Core.List.{List, [], ◌∷◌}
use mathlib.Core.Option.{none, some}
use lib.ListN.{length, get_or}
use lib.Dec.{ltb, leb, eqb}
use Rattle.model.specs.Limits.{flag_count, most_flag, most_identifiers, most_range, most_type, most_functions, most_inner_diagnostics, most_inner_context, most_diagnostic, most_params, most_context, returns_count, most_blocks, most_block_number, most_count, most_order, most_lvalues, most_operands, no_operands, most_value, most_terminal, most_traits, most_kind}
use Rattle.model.specs.Lists.{pick, among}
use Rattle.model.specs.Sheet.{BlockId, EffectKind}
use Rattle.model.specs.Effects.{kind_of, row_of, is_create_function}
use Rattle.model.specs.Reading.{Position, Result, got, refused, Read, and_then, ◌>>=◌, pure, refuse, word, count, fixed, at_most, below, new_number, is_absent, times, numbered, counted, optional}
use Rattle.model.specs.Sections.{flag, flags, identifier, diagnostic, inner_function, place, unused, extra, effect, effects, operand, phi, value_by, instruction_value, instruction, terminal_of, terminal, block, sheet}
use Rattle.model.proofs.ReadLaws.{is_got}

-- the number of a refusal, and of none
abbrev refused_with : {A : Type 0} → ℕ → Result A → ℕ
refused_with n (got a c) = n
refused_with n (refused k) = k

-- whatever the part is refused with has the property
abbrev pub Refuses : {A : Type 0} → (ℕ → Type 0) → Read A → Type 0
Refuses P f = (ws : List ℕ) (c : Position) (k : ℕ) → f ws c ≡ refused k → P k

module _ (P : ℕ → Type 0) where
  pub pure_refuses : {A : Type 0} (a : A) → Refuses P (pure a)
  pure_refuses a ws c k e = absurd (true≢false (ap is_got e))

  pub refuse_refuses : {A : Type 0} (n : ℕ) → P n → Refuses {A = A} P (refuse n)
  refuse_refuses n p ws c k e = subst P (ap (refused_with n) e) p

  pub pick_refuses : {A : Type 0} (b : Bool) (f g : Read A) → Refuses P f → Refuses P g → Refuses P (pick b f g)
  pick_refuses true f g h k = h
  pick_refuses false f g h k = k

  pub bind_refuses : {A B : Type 0} (m : Read A) (f : A → Read B) → Refuses P m → ((a : A) → Refuses P (f a)) → Refuses P (m >>= f)
  bind_refuses {A} {B} m f h g ws c k e = go (m ws c) refl e
    where
      go : (r : Result A) → m ws c ≡ r → and_then r (λ (a : A) (j : Position). f a ws j) ≡ refused k → P k
      go (got a j) x y = g a ws j k y
      go (refused n) x y = subst P (ap (refused_with n) y) (h ws c n x)

  -- the numbers that a single word is refused with
  module _ (p3 : P 3) (p4 : P 4) (p5 : P 5) (p6 : P 6) where
    word_refuses : Refuses P word
    unfolding word
    word_refuses ws c k e = go (ltb c (length ws)) e
      where
        go : (b : Bool) → pick b (got (get_or ws c 0) (c + 1)) (refused 3) ≡ refused k → P k
        go true y = absurd (true≢false (ap is_got y))
        go false y = subst P (ap (refused_with 3) y) p3

    optional_refuses : {A : Type 0} (f : Read A) → Refuses P f → Refuses P (optional f)
    unfolding optional
    optional_refuses {A} f h ws c =
        pick_refuses (is_absent (word ws c)) (word >>= λ (w : ℕ). pure none) (f >>= λ (a : A). pure (some a)) (bind_refuses word _ word_refuses (λ w. pure_refuses none)) (bind_refuses f _ h (λ a. pure_refuses (some a))) ws c

    -- a word that is tested
    tested : (n : ℕ) → P n → (b : ℕ → Bool) → Refuses P (word >>= λ (w : ℕ). pick (b w) (pure w) (refuse n))
    tested n p b = bind_refuses word _ word_refuses (λ w. pick_refuses (b w) (pure w) (refuse n) (pure_refuses w) (refuse_refuses n p))

    count_refuses : (most : ℕ) → Refuses P (count most)
    unfolding count
    count_refuses most = tested 4 p4 (λ (w : ℕ). leb w most)

    fixed_refuses : (n : ℕ) → Refuses P (fixed n)
    unfolding fixed
    fixed_refuses n = tested 4 p4 (λ (w : ℕ). eqb w n)

    at_most_refuses : (most : ℕ) → Refuses P (at_most most)
    unfolding at_most
    at_most_refuses most = tested 5 p5 (λ (w : ℕ). leb w most)

    below_refuses : (limit : ℕ) → Refuses P (below limit)
    unfolding below
    below_refuses limit = tested 5 p5 (λ (w : ℕ). ltb w limit)

    new_number_refuses : (used : List BlockId) → Refuses P (new_number used)
    unfolding new_number
    new_number_refuses used =
        bind_refuses (at_most most_block_number) _ (at_most_refuses most_block_number)
        (λ b. pick_refuses (among b used) (refuse 6) (pure b) (refuse_refuses 6 p6) (pure_refuses b))

    times_refuses : {A : Type 0} (k : ℕ) (f : Read A) → Refuses P f → Refuses P (times k f)
    unfolding times
    times_refuses zero f h = pure_refuses []
    times_refuses (suc k) f h = bind_refuses f _ h (λ a. bind_refuses (times k f) _ (times_refuses k f h) (λ l. pure_refuses (a ∷ l)))

    numbered_refuses : {A : Type 0} (k : ℕ) (used : List BlockId) (f : BlockId → Read A) → ((b : BlockId) → Refuses P (f b)) → Refuses P (numbered k used f)
    unfolding numbered
    numbered_refuses zero used f h = pure_refuses []
    numbered_refuses (suc k) used f h =
        bind_refuses (new_number used) _ (new_number_refuses used)
        (λ b. bind_refuses (f b) _ (h b) (λ a. bind_refuses (numbered k (b ∷ used) f) _ (numbered_refuses k (b ∷ used) f h) (λ l. pure_refuses (a ∷ l))))

    counted_refuses : {A : Type 0} (most : ℕ) (f : Read A) → Refuses P f → Refuses P (counted most f)
    unfolding counted
    counted_refuses most f h = bind_refuses (count most) _ (count_refuses most) (λ k. times_refuses k f h)

    flag_refuses : Refuses P flag
    unfolding flag
    flag_refuses = bind_refuses (at_most most_flag) _ (at_most_refuses most_flag) (λ w. pure_refuses _)

    flags_refuses : Refuses P flags
    unfolding flags
    flags_refuses =
        bind_refuses (fixed flag_count) _ (fixed_refuses flag_count)
        (λ k. bind_refuses flag _ flag_refuses (λ e. bind_refuses flag _ flag_refuses (λ v. pure_refuses _)))

    identifier_refuses : Refuses P identifier
    unfolding identifier
    identifier_refuses =
        bind_refuses (at_most most_range) _ (at_most_refuses most_range)
        (λ s. bind_refuses (at_most most_range) _ (at_most_refuses most_range) (λ e. bind_refuses (at_most most_type) _ (at_most_refuses most_type) (λ t. pure_refuses _)))

    diagnostic_refuses : Refuses P diagnostic
    unfolding diagnostic
    diagnostic_refuses = bind_refuses (at_most most_diagnostic) _ (at_most_refuses most_diagnostic) (λ i. bind_refuses (at_most most_diagnostic) _ (at_most_refuses most_diagnostic) (λ k. pure_refuses _))

    place_refuses : (n : ℕ) → Refuses P (place n)
    unfolding place
    place_refuses n =
        bind_refuses (below n) _ (below_refuses n)
        (λ i. bind_refuses (at_most most_traits) _ (at_most_refuses most_traits) (λ t. bind_refuses word _ word_refuses (λ s. pure_refuses _)))

    places_refuses : (most n : ℕ) → Refuses P (counted most (place n))
    places_refuses most n = counted_refuses most (place n) (place_refuses n)

    inner_function_refuses : (n : ℕ) → Refuses P (inner_function n)
    unfolding inner_function
    inner_function_refuses n =
        bind_refuses (counted most_inner_diagnostics diagnostic) _ (counted_refuses most_inner_diagnostics diagnostic diagnostic_refuses)
        (λ l. bind_refuses (counted most_inner_context (place n)) _ (places_refuses most_inner_context n) (λ cs. pure_refuses _))

    unused_refuses : (instance : ℕ) → Refuses P (unused instance)
    unfolding unused
    unused_refuses instance =
        bind_refuses (at_most instance) _ (at_most_refuses instance) (λ i. bind_refuses (at_most 0) _ (at_most_refuses 0) (λ t. bind_refuses (at_most 0) _ (at_most_refuses 0) (λ s. pure_refuses _)))

    used_or_refuses : (n instance : ℕ) (b : Bool) → Refuses P (pick b (place n) (unused instance))
    used_or_refuses n instance b = pick_refuses b (place n) (unused instance) (place_refuses n) (unused_refuses instance)

    extra_refuses : (m : ℕ) (k : EffectKind) → Refuses P (extra m k)
    unfolding extra
    extra_refuses m k = pick_refuses (is_create_function k) (below m) (at_most (row_of k).extra) (below_refuses m) (at_most_refuses (row_of k).extra)

    effects_refuses : (n m : ℕ) → Refuses P (effects n m)
    unfolding effects effect
    effects_refuses n m =
        counted_refuses most_count (effect n m)
        (bind_refuses (at_most most_kind) _ (at_most_refuses most_kind)
        (λ w. bind_refuses (pick (leb 1 (row_of (kind_of w)).places) (place n) (unused 0)) _ (used_or_refuses n 0 (leb 1 (row_of (kind_of w)).places))
        (λ p. bind_refuses (pick (leb 2 (row_of (kind_of w)).places) (place n) (unused (row_of (kind_of w)).instance)) _ (used_or_refuses n (row_of (kind_of w)).instance (leb 2 (row_of (kind_of w)).places))
        (λ q. bind_refuses (extra m (kind_of w)) _ (extra_refuses m (kind_of w)) (λ x. pure_refuses _)))))

    phi_refuses : (n : ℕ) → Refuses P (phi n)
    unfolding phi operand
    phi_refuses n =
        bind_refuses (place n) _ (place_refuses n)
        (λ p. bind_refuses (count most_count) _ (count_refuses most_count)
        (λ k. bind_refuses (numbered k [] (operand n)) _ (numbered_refuses k [] (operand n) (λ b. bind_refuses (place n) _ (place_refuses n) (λ q. pure_refuses _))) (λ l. pure_refuses _)))

    value_by_lem : (n m w : ℕ) → Refuses P (value_by n m w)
    value_by_lem n m zero = pure_refuses _
    value_by_lem n m (suc zero) = bind_refuses (below m) _ (below_refuses m) (λ k. pure_refuses _)
    value_by_lem n m (suc (suc w)) = bind_refuses (below n) _ (below_refuses n) (λ x. pure_refuses _)

    value_refuses : (n m : ℕ) → Refuses P (instruction_value n m)
    unfolding instruction_value
    value_refuses n m = bind_refuses (at_most most_value) _ (at_most_refuses most_value) (value_by_lem n m)

    instruction_refuses : (n m : ℕ) → Refuses P (instruction n m)
    unfolding instruction
    instruction_refuses n m =
        bind_refuses (at_most most_order) _ (at_most_refuses most_order)
        (λ o. bind_refuses (place n) _ (place_refuses n)
        (λ p. bind_refuses (counted most_lvalues (place n)) _ (places_refuses most_lvalues n)
        (λ ls. bind_refuses (counted most_operands (place n)) _ (places_refuses most_operands n)
        (λ ps. bind_refuses (instruction_value n m) _ (value_refuses n m) (λ v. bind_refuses (optional (effects n m)) _ (optional_refuses (effects n m) (effects_refuses n m)) (λ l. pure_refuses _))))))

    terminal_of_refuses : (n m k o : ℕ) → Refuses P (terminal_of n m k o)
    unfolding terminal_of
    terminal_of_refuses n m zero o = bind_refuses (counted most_operands (place n)) _ (places_refuses most_operands n) (λ ps. pure_refuses _)
    terminal_of_refuses n m (suc zero) o =
        bind_refuses (place n) _ (place_refuses n)
        (λ p. bind_refuses (effects n m) _ (effects_refuses n m) (λ l. bind_refuses (fixed no_operands) _ (fixed_refuses no_operands) (λ k. pure_refuses _)))
    terminal_of_refuses n m (suc (suc k)) o = bind_refuses (effects n m) _ (effects_refuses n m) (λ l. bind_refuses (fixed no_operands) _ (fixed_refuses no_operands) (λ j. pure_refuses _))

    terminal_refuses : (n m : ℕ) → Refuses P (terminal n m)
    unfolding terminal
    terminal_refuses n m =
        bind_refuses (at_most most_terminal) _ (at_most_refuses most_terminal) (λ k. bind_refuses (at_most most_order) _ (at_most_refuses most_order) (λ o. terminal_of_refuses n m k o))

    block_refuses : (n m : ℕ) (b : BlockId) → Refuses P (block n m b)
    unfolding block
    block_refuses n m b =
        bind_refuses (counted most_count (phi n)) _ (counted_refuses most_count (phi n) (phi_refuses n))
        (λ ps. bind_refuses (counted most_count (instruction n m)) _ (counted_refuses most_count (instruction n m) (instruction_refuses n m))
        (λ is. bind_refuses (terminal n m) _ (terminal_refuses n m) (λ t. pure_refuses _)))

    -- the reading of a sheet is refused with nothing but what its words are
    pub sheet_refuses : Refuses P sheet
    unfolding sheet
    sheet_refuses =
        bind_refuses flags _ flags_refuses
        (λ fs. bind_refuses (counted most_identifiers identifier) _ (counted_refuses most_identifiers identifier identifier_refuses)
        (λ ids. bind_refuses (counted most_functions (inner_function (length ids))) _ (counted_refuses most_functions (inner_function (length ids)) (inner_function_refuses (length ids)))
        (λ inner. bind_refuses (counted most_params (place (length ids))) _ (places_refuses most_params (length ids))
        (λ ps. bind_refuses (counted most_context (place (length ids))) _ (places_refuses most_context (length ids))
        (λ cs. bind_refuses (fixed returns_count) _ (fixed_refuses returns_count)
        (λ k. bind_refuses (place (length ids)) _ (place_refuses (length ids))
        (λ r. bind_refuses (count most_blocks) _ (count_refuses most_blocks)
        (λ b. bind_refuses (numbered b [] (block (length ids) (length inner))) _ (numbered_refuses b [] (block (length ids) (length inner)) (block_refuses (length ids) (length inner)))
        (λ bs. pure_refuses _)))))))))
