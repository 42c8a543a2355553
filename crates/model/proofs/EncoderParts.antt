-- The parts of a sheet up to its effects are read back from their words.
use Prim.Native.Nat.{ℕ, ◌≤◌}
use native.Mathlib.Omega.{arith}
use mathlib.Core.Path.{◌≡◌, refl, sym, ap, subst, ◌∙◌}
use mathlib.Core.Bool.{Bool, true, false}
use mathlib.Core.List.{List, [], ◌∷◌, ◌++◌, append-nil}
use mathlib.Core.Option.{Option, none, some}
use lib.ListN.{length}
use lib.Dec.{leb}
use Rattle.model.specs.Limits.{flag_count, most_flag, most_range, most_type, most_inner_diagnostics, most_inner_context, most_diagnostic, most_count, most_traits, most_kind}
use Rattle.model.specs.Lists.{pick, gather, one_if}
use Rattle.model.specs.Sheet.{Flags, Identifier, IdentifierType, other, primitive, jsx, Diagnostic, InnerFunction, Place, unused_place, EffectKind, Freeze, Mutate, MutateConditionally, MutateTransitive, MutateTransitiveConditionally, Capture, Alias, MaybeAlias, Assign, Create, CreateFrom, ImmutableCapture, Apply, CreateFunction, MutateFrozen, MutateGlobal, Impure, Render, Effect, EffectList, present}
use Rattle.model.specs.Traits.{reactive_of, traits_word}
use Rattle.model.specs.Effects.{kind_of, row_of, is_create_function}
use Rattle.model.specs.Reading.{Read, ◌>>=◌, pure, word, fixed, at_most, below, counted, optional}
use Rattle.model.specs.Sections.{flag, flags, type_of, identifier, diagnostic, inner_function, place, unused, extra, effect_after, effect, effects}
use Rattle.model.specs.Answer.{place_words, diagnostic_words, effect_words, section}
use Rattle.model.specs.Encoder.{flags_words, type_word, identifier_words, function_words, effects_words, listed_words, IdentifierFits, DiagnosticFits, PlaceFits, PlacesFit, FunctionFits, UsedFits, ExtraFits, EffectFits, EffectsFit}
use Rattle.model.proofs.Everywhere.{every_mem}
use Rattle.model.proofs.Traits.{traits_few, effect_of_traits, reactive_of_traits}
use Rattle.model.proofs.BackLaws.{Back, pure_back, bind_back, word_back, at_most_back, below_back, fixed_back, absent_back, present_back, counted_back}

-- ---- flags and identifiers
flag_back : (b : Bool) → Back flag (one_if b ∷ []) b
unfolding flag
flag_back true = bind_back (at_most most_flag) _ (1 ∷ []) [] 1 true (at_most_back most_flag 1 (omega arith)) (pure_back true)
flag_back false = bind_back (at_most most_flag) _ (0 ∷ []) [] 0 false (at_most_back most_flag 0 (omega arith)) (pure_back false)

pub flags_back : (f : Flags) → Back flags (flags_words f) f
unfolding flags
flags_back f =
    bind_back (fixed flag_count) _ (flag_count ∷ []) (one_if f.function_expression ∷ one_if f.validations ∷ []) flag_count f (fixed_back flag_count)
    (bind_back flag _ (one_if f.function_expression ∷ []) (one_if f.validations ∷ []) f.function_expression f (flag_back f.function_expression)
    (bind_back flag _ (one_if f.validations ∷ []) [] f.validations f (flag_back f.validations) (pure_back f)))

type_few : (t : IdentifierType) → type_word t ≤ most_type
type_few other = omega arith
type_few primitive = omega arith
type_few jsx = omega arith

type_back : (t : IdentifierType) → type_of (type_word t) ≡ t
type_back other = refl
type_back primitive = refl
type_back jsx = refl

-- what is given at the end, by another that it is
pure_is : {A : Type 0} {a b : A} → b ≡ a → Back (pure b) [] a
pure_is {A} {a} {b} e = subst (λ (x : A). Back (pure b) [] x) e (pure_back b)

pub identifier_back : (i : Identifier) → IdentifierFits i → Back identifier (identifier_words i) i
unfolding identifier
identifier_back i h =
    bind_back (at_most most_range) _ (i.start ∷ []) (i.end ∷ type_word i.type ∷ []) i.start i (at_most_back most_range i.start h.0)
    (bind_back (at_most most_range) _ (i.end ∷ []) (type_word i.type ∷ []) i.end i (at_most_back most_range i.end h.1)
    (bind_back (at_most most_type) _ (type_word i.type ∷ []) [] (type_word i.type) i (at_most_back most_type (type_word i.type) (type_few i.type))
    (pure_is (ap (λ (t : IdentifierType). identifier_by t) (type_back i.type)))))
  where
    identifier_by : IdentifierType → Identifier
    identifier_by t = record { start = i.start; end = i.end; type = t }

diagnostic_back : (d : Diagnostic) → DiagnosticFits d → Back diagnostic (diagnostic_words d) d
unfolding diagnostic
diagnostic_back d h =
    bind_back (at_most most_diagnostic) _ (d.identity ∷ []) (d.instance ∷ []) d.identity d (at_most_back most_diagnostic d.identity h.0)
    (bind_back (at_most most_diagnostic) _ (d.instance ∷ []) [] d.instance d (at_most_back most_diagnostic d.instance h.1) (pure_back d))

-- ---- places
abbrev place_by : ℕ → ℕ → Bool → ℕ → Place
place_by i e r s = record { identifier = i; effect = e; reactive = r; span = s }

pub place_back : (n : ℕ) (p : Place) → PlaceFits n p → Back (place n) (place_words p) p
unfolding place
place_back n p h =
    let t : ℕ = traits_word p.effect p.reactive in
    bind_back (below n) _ (p.identifier ∷ []) (t ∷ p.span ∷ []) p.identifier p (below_back n p.identifier h.0)
    (bind_back (at_most most_traits) _ (t ∷ []) (p.span ∷ []) t p (at_most_back most_traits t (traits_few p.effect p.reactive h.1))
    (bind_back word _ (p.span ∷ []) [] p.span p (word_back p.span)
    (pure_is (ap (λ (e : ℕ). place_by p.identifier e (reactive_of t) p.span) (effect_of_traits p.effect p.reactive h.1) ∙ ap (λ (r : Bool). place_by p.identifier p.effect r p.span) (reactive_of_traits p.effect p.reactive h.1)))))

unused_back : (instance i : ℕ) → i ≤ instance → Back (unused instance) (place_words (unused_place i)) (unused_place i)
unfolding unused traits_word
unused_back instance i h =
    let p : Place = unused_place i in
    bind_back (at_most instance) _ (i ∷ []) (0 ∷ 0 ∷ []) i p (at_most_back instance i h)
    (bind_back (at_most 0) _ (0 ∷ []) (0 ∷ []) 0 p (at_most_back 0 0 (omega arith)) (bind_back (at_most 0) _ (0 ∷ []) [] 0 p (at_most_back 0 0 (omega arith)) (pure_back p)))

used_back : (b : Bool) (n instance : ℕ) (p : Place) → UsedFits b n instance p → Back (pick b (place n) (unused instance)) (place_words p) p
used_back true n instance p h = place_back n p h
used_back false n instance p h = subst (λ (q : Place). Back (unused instance) (place_words q) q) (sym h.1) (unused_back instance p.identifier h.0)

pub places_back : (n most : ℕ) (l : List Place) → PlacesFit n most l → Back (counted most (place n)) (section place_words l) l
places_back n most l h = counted_back most (place n) place_words l h.0 (every_mem (PlaceFits n) _ l (λ p m f. place_back n p f) h.1)

-- a part, and then nothing more
pub last_back : {A B : Type 0} (r : Read A) (f : A → B) (ws : List ℕ) (a : A) → Back r ws a → Back (r >>= λ (x : A). pure (f x)) ws (f a)
last_back {A} {B} r f ws a h =
    subst (λ (vs : List ℕ). Back (r >>= λ (x : A). pure (f x)) vs (f a)) (append-nil ws) (bind_back r (λ (x : A). pure (f x)) ws [] a (f a) h (pure_back (f a)))

pub function_back : (n : ℕ) (f : InnerFunction) → FunctionFits n f → Back (inner_function n) (function_words f) f
unfolding inner_function
function_back n f h =
    let l : List Diagnostic = f.diagnostics in
    bind_back (counted most_inner_diagnostics diagnostic) _ (section diagnostic_words l) (section place_words f.context) l f
    (counted_back most_inner_diagnostics diagnostic diagnostic_words l h.0.0 (every_mem DiagnosticFits _ l (λ d m k. diagnostic_back d k) h.0.1))
    (last_back (counted most_inner_context (place n)) (λ (cs : List Place). record { diagnostics = l; context = cs }) (section place_words f.context) f.context (places_back n most_inner_context f.context h.1))

-- ---- effects
pub kind_back : (k : EffectKind) → kind_of (row_of k).number ≡ k
unfolding kind_of row_of
kind_back Freeze = refl
kind_back Mutate = refl
kind_back MutateConditionally = refl
kind_back MutateTransitive = refl
kind_back MutateTransitiveConditionally = refl
kind_back Capture = refl
kind_back Alias = refl
kind_back MaybeAlias = refl
kind_back Assign = refl
kind_back Create = refl
kind_back CreateFrom = refl
kind_back ImmutableCapture = refl
kind_back Apply = refl
kind_back CreateFunction = refl
kind_back MutateFrozen = refl
kind_back MutateGlobal = refl
kind_back Impure = refl
kind_back Render = refl

kind_few : (k : EffectKind) → (row_of k).number ≤ most_kind
unfolding row_of
kind_few Freeze = omega arith
kind_few Mutate = omega arith
kind_few MutateConditionally = omega arith
kind_few MutateTransitive = omega arith
kind_few MutateTransitiveConditionally = omega arith
kind_few Capture = omega arith
kind_few Alias = omega arith
kind_few MaybeAlias = omega arith
kind_few Assign = omega arith
kind_few Create = omega arith
kind_few CreateFrom = omega arith
kind_few ImmutableCapture = omega arith
kind_few Apply = omega arith
kind_few CreateFunction = omega arith
kind_few MutateFrozen = omega arith
kind_few MutateGlobal = omega arith
kind_few Impure = omega arith
kind_few Render = omega arith

extra_back : (m : ℕ) (k : EffectKind) (x : ℕ) → ExtraFits (is_create_function k) m (row_of k).extra x → Back (extra m k) (x ∷ []) x
unfolding extra
extra_back m k x h = go (is_create_function k) h
  where
    go : (b : Bool) → ExtraFits b m (row_of k).extra x → Back (pick b (below m) (at_most (row_of k).extra)) (x ∷ []) x
    go true i = below_back m x i
    go false i = at_most_back (row_of k).extra x i

effect_back : (n m : ℕ) (e : Effect) → EffectFits n m e → Back (effect n m) (effect_words e) e
unfolding effect
effect_back n m e h =
    let k : EffectKind = e.kind in
    let rest : List ℕ = place_words e.first ++ (place_words e.second ++ (e.extra ∷ [])) in
    bind_back (at_most most_kind) (λ (w : ℕ). effect_after n m (kind_of w)) ((row_of k).number ∷ []) rest (row_of k).number e (at_most_back most_kind (row_of k).number (kind_few k))
    (subst (λ (j : EffectKind). Back (effect_after n m j) rest e) (sym (kind_back k))
    (bind_back (pick (leb 1 (row_of k).places) (place n) (unused 0)) _ (place_words e.first) (place_words e.second ++ (e.extra ∷ [])) e.first e (used_back (leb 1 (row_of k).places) n 0 e.first h.0)
    (bind_back (pick (leb 2 (row_of k).places) (place n) (unused (row_of k).instance)) _ (place_words e.second) (e.extra ∷ []) e.second e (used_back (leb 2 (row_of k).places) n (row_of k).instance e.second h.1)
    (bind_back (extra m k) _ (e.extra ∷ []) [] e.extra e (extra_back m k e.extra h.2) (pure_back e)))))

pub effects_back : (n m : ℕ) (l : EffectList) → EffectsFit n m l → Back (effects n m) (effects_words l) l
unfolding effects
effects_back n m l h = counted_back most_count (effect n m) effect_words l h.0 (every_mem (EffectFits n m) _ l (λ e k f. effect_back n m e f) h.1)

pub listed_back : (n m : ℕ) (l : Option EffectList) → EffectsFit n m (present l) → Back (optional (effects n m)) (listed_words l) l
listed_back n m none h = absent_back (effects n m)
listed_back n m (some l) h = present_back (effects n m) (length l) (gather effect_words l) l (omega (arith, h.0)) (effects_back n m l h)
