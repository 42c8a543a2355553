-- The functions handed over: which they are, and that there is room for them.
use Prim.Native.Nat.{ℕ, zero, suc, ◌+◌, ◌-◌, ◌%◌, ◌≤◌, ◌<◌}
use native.Mathlib.Omega.{arith}
use mathlib.Core.Bool.{Bool, true, false, ◌||◌, ◌&&◌, not}
use mathlib.Core.List.{List, [], ◌∷◌}
use mathlib.Core.Option.{Option, none, some}
use mathlib.Core.Path.{◌≡◌, refl, sym, ap, ◌∙◌}
use lib.ListN.{length, get_or, set, take}
use lib.Seq.{get_or-take}
use lib.Dec.{eqb}
use borrow.Author.Tests.{le-ltb}
use Rattle.model.specs.Limits.{most_identifiers}
use Rattle.model.specs.Lists.{pick, list_if, is_some, one_if}
use Rattle.model.specs.Graph.{Value, object, phi, function}
use Rattle.model.specs.Mutation.{Mutation}
use Rattle.model.specs.State.{Info, Record, no_record, has_record, records_errors, highest, touch, function_of}
use Rattle.workspace.specs.Layout.{RECORD, LSPAN, TSPAN, SEEN, BASE, QUEUE, HANDED}
use Rattle.workspace.specs.Rows.{Kept}
use Rattle.workspace.specs.Graph.{value_of}
use Rattle.workspace.proofs.Tables.{tab_at, tab-length}
use Rattle.aliasing.specs.declared.mutation.Mutation.{Mutation as CodeMutation}
use Rattle.aliasing.specs.Says.{mode_of, mode_says}
use Rattle.aliasing.specs.State.{nodes_of, NoneAbove, record_at, records_of, bare, Handing}
use Rattle.aliasing.specs.Accepts.{function_w, hand_w}
use Rattle.aliasing.proofs.Packed.{has_word}
use Rattle.aliasing.proofs.Parts.{nodes_below, seen_below, base_below}
use Rattle.aliasing.proofs.Levels.{above_as}

-- ---- which
pub function_is : (v : ℕ) → function_w v ≡ function_of (value_of v)
unfolding function_w
function_is zero = refl
function_is (suc zero) = refl
function_is (suc (suc zero)) = refl
function_is (suc (suc (suc v))) = let e : suc (suc (suc v)) - 3 ≡ v = omega arith in rw (le-ltb (suc (suc (suc v))) 3 (omega arith), e)

hand_is : (errors bare : Bool) (f : List ℕ) → pick errors (pick bare f []) [] ≡ list_if (errors && not (not bare)) f
hand_is false bare f = refl
hand_is true true f = refl
hand_is true false f = refl

errors_are : (e : ℕ) (errors : Bool) → (e ≡ 0 → errors ≡ false) → errors ≡ records_errors (mode_of e errors)
errors_are zero errors q = q refl
errors_are (suc e) errors q = refl

-- the function of x, as document 01 has it
pub handed_is : (ns : List ℕ) (v x : ℕ) (m : CodeMutation) → x < most_identifiers
    → hand_w ns v x m.should_record_errors ≡ list_if (records_errors (mode_says m) && not (has_record (get_or (records_of ns) x no_record))) (function_of (value_of v))
unfolding hand_w records_of record_at mode_says
handed_is ns v x m hx =
    hand_is m.should_record_errors (eqb (get_or ns (RECORD + x) 0 % 16) 0) (function_w v)
    ∙ ap (λ (b : Bool). list_if (m.should_record_errors && not b) (function_w v)) (sym (has_word (get_or ns (RECORD + x) 0) (get_or ns (TSPAN + x) 0) (get_or ns (LSPAN + x) 0)))
    ∙ ap (list_if (m.should_record_errors && not (has_record (record_at ns x)))) (function_is v)
    ∙ ap (λ (b : Bool). list_if (b && not (has_record (record_at ns x))) (function_of (value_of v))) (errors_are m.end.0 m.should_record_errors m.quiet)
    ∙ ap (λ (r : Record). list_if (records_errors (mode_of m.end.0 m.should_record_errors) && not (has_record r)) (function_of (value_of v))) (sym (tab_at most_identifiers (record_at ns) x no_record hx))

-- it looks at the node fields alone
pub hand_same : (ws : List ℕ) (v x : ℕ) (errors : Bool) → x < most_identifiers → hand_w ws v x errors ≡ hand_w (take SEEN ws) v x errors
unfolding hand_w
hand_same ws v x errors h = ap (λ (w : ℕ). pick errors (pick (eqb (w % 16) 0) (function_w v) []) []) (sym (get_or-take SEEN ws (RECORD + x) 0 (omega arith)))

-- ---- the room
pub bare_top : (rs : List Record) → bare rs ≤ length rs
unfolding bare
bare_top [] = omega arith
bare_top (r ∷ rs) = go (not (has_record r)) (bare_top rs)
  where
    go : (b : Bool) → bare rs ≤ length rs → one_if b + bare rs ≤ suc (length rs)
    go true h = omega arith
    go false h = omega arith

bare_set : (rs : List Record) (x : ℕ) (r : Record) → x < length rs → has_record r ≡ true → bare (set rs x r) + one_if (not (has_record (get_or rs x no_record))) ≤ bare rs
unfolding bare
bare_set [] x r h e = absurd (omega arith)
bare_set (q ∷ rs) zero r h e = rw e (omega arith)
bare_set (q ∷ rs) (suc x) r h e = omega (arith, bare_set rs x r (omega arith) e)

or_true : (b : Bool) → (b || true) ≡ true
or_true true = refl
or_true false = refl

highest_some : (o : Option Info) (i : Info) → is_some (highest o i) ≡ true
highest_some none i = refl
highest_some (some a) i = refl

touched_has : (t : Bool) (m : Mutation) (i : Info) (r : Record) → has_record (touch t m i r) ≡ true
touched_has true m i r = rw (highest_some r.transitive i)
touched_has false m i r = rw (highest_some r.local i) (or_true (is_some r.transitive))

function_few : (e b : Bool) (v : Value) → length (list_if (e && b) (function_of v)) ≤ one_if b
function_few true true object = omega arith
function_few true true phi = omega arith
function_few true true (function k) = omega arith
function_few true false v = omega arith
function_few false b v = omega arith

-- whoever hands a function over has a record afterwards
pub room_kept : (rs : List Record) (x : ℕ) (e : Bool) (v : Value) (t : Bool) (m : Mutation) (i : Info) → x < length rs
    → length (list_if (e && not (has_record (get_or rs x no_record))) (function_of v)) + bare (set rs x (touch t m i (get_or rs x no_record))) ≤ bare rs
room_kept rs x e v t m i h =
    omega (arith, bare_set rs x (touch t m i (get_or rs x no_record)) h (touched_has t m i (get_or rs x no_record)), function_few e (not (has_record (get_or rs x no_record))) v)

pub records_length : (ns : List ℕ) → length (records_of ns) ≡ most_identifiers
unfolding records_of
records_length ns = tab-length most_identifiers (record_at ns)

-- ---- what one mutation after another keeps true, kept
pub handing_as : (ws ws' : List ℕ) (hand : ℕ) → nodes_of ws' ≡ nodes_of ws → NoneAbove (get_or ws' BASE 0) ws' → Handing ws hand → Handing ws' hand
handing_as ws ws' hand nodes marks h = record { low = h.low; marks = marks; room = omega (arith, h.room, ap (λ (ns : List ℕ). bare (records_of ns)) nodes) }

-- by a write behind the graph
pub handing_behind : {b e : ℕ} {ws ws' : List ℕ} (hand : ℕ) → Kept b e ws ws' → QUEUE ≤ b → Handing ws hand → Handing ws' hand
handing_behind {b} {e} {ws} {ws'} hand k q h =
    handing_as ws ws' hand (nodes_below k (omega (arith, q))) (above_as (seen_below k (omega (arith, q))) (omega (arith, base_below k (omega (arith, q)))) h.marks) h

-- where the functions handed over are forgotten
pub handing_anew : {ws : List ℕ} {hand : ℕ} → Handing ws hand → Handing ws HANDED
handing_anew h = record { low = omega arith; marks = h.marks; room = omega (arith, h.low, h.room) }
