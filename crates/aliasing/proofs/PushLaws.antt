-- One push after another, and the four pushes of an accepted node: the room that is left for each, and what they push together.
use Prim.Native.Nat.{ℕ, ◌+◌, ◌-◌, ◌*◌, ◌≤◌, ◌<◌}
use native.Mathlib.Omega.{arith}
use mathlib.Core.Bool.{Bool, true, false}
use mathlib.Core.List.{List, [], ◌++◌, append_assoc}
use mathlib.Core.Path.{◌≡◌, sym, ap, subst, ◌∙◌}
use lib.Dec.{eqb}
use lib.ListN.{length, get_or, take, drop, length-append}
use lib.Seq.{slice, sets-eq, length-sets, length-take-le, take_at, drop-append-le}
use Rattle.model.specs.Limits.{most_identifiers}
use Rattle.model.specs.Lists.{pick}
use Rattle.workspace.specs.Layout.{LEAST, VALUE, QUEUE}
use Rattle.workspace.specs.Graph.{PHI, ALIASES, MAYBE}
use Rattle.workspace.specs.Rows.{rows_of, value, row_f, row_b, Good, Kept}
use Rattle.aliasing.specs.Pushes.{Room, words_f, words_b, deg, forward_w, entries_w, blocked_w, aliases_w, captures_w, pushed_w}
use Rattle.writing.specs.Wrote.{Wrote}
use Rattle.writing.proofs.Writing.{wrote_then}
use Rattle.workspace.proofs.Parts.{slice_take, take_sets, drop_sets}
use Rattle.workspace.proofs.Rows.{rows_length, value_at_lem}
use Rattle.aliasing.specs.Says.{bit}
use Rattle.aliasing.proofs.Sizes.{deg_is, forward_le, row_f-length, list_le, aliases_le}

pub pushed_length : {ws : List ℕ} {top : ℕ} {vs ws' : List ℕ} {r : ℕ} → Wrote vs ws top ws' r → length ws' ≡ length ws
pushed_length {ws} {top} {vs} p = ap length p.words ∙ length-sets ws top vs

pub pushed_below : {ws : List ℕ} {top : ℕ} {vs ws' : List ℕ} {r : ℕ} → Wrote vs ws top ws' r → QUEUE ≤ top → take QUEUE ws' ≡ take QUEUE ws
pushed_below {ws} {top} {vs} p h = ap (take QUEUE) p.words ∙ take_sets QUEUE vs ws top h

pub pushed_graph : {ws : List ℕ} {top : ℕ} {vs ws' : List ℕ} {r : ℕ} → Wrote vs ws top ws' r → QUEUE ≤ top → rows_of ws' ≡ rows_of ws
unfolding rows_of
pushed_graph {ws} {top} {vs} {ws'} p h = slice_take QUEUE VALUE QUEUE ws' ws (omega arith) (pushed_below p h)

-- the part of the words that the push makes longer
pub pushed_part : (base : ℕ) {ws : List ℕ} {top : ℕ} {vs ws' : List ℕ} {r : ℕ} → Wrote vs ws top ws' r → base ≤ top → r ≤ length ws → slice base r ws' ≡ slice base top ws ++ vs
pushed_part base {ws} {top} {vs} {ws'} {r} p h k =
    let room : top + length vs ≤ length ws = omega (arith, p.next) in
    let n : length (take top ws) ≡ top = length-take-le top ws (omega arith) in
    let w : take r ws' ≡ take top ws ++ vs =
    ap (λ (u : ℕ). take u ws') p.next ∙ ap (take (top + length vs)) (p.words ∙ sets-eq vs ws top room)
    ∙ take_at (take top ws ++ vs) (drop (top + length vs) ws) (top + length vs) (omega (arith, length-append (take top ws) vs)) in
    ap (drop base) w ∙ drop-append-le base (take top ws) vs (omega arith)

-- the other words stay
pub pushed_kept : (b e : ℕ) {ws : List ℕ} {top : ℕ} {vs ws' : List ℕ} {r : ℕ} → Wrote vs ws top ws' r → b ≤ top → r ≤ e → Kept b e ws ws'
pushed_kept b e {ws} {top} {vs} {ws'} {r} p h k = record {
  low = ap (take b) p.words ∙ take_sets b vs ws top h;
  high = ap (drop e) p.words ∙ drop_sets e vs ws top (omega (arith, p.next));
  same = pushed_length p;
}

pub room_then : (f : List ℕ → ℕ) (a : ℕ) {ws : List ℕ} {top : ℕ} {vs ws' : List ℕ} {r : ℕ} → Room ws top (a + f (rows_of ws)) → Wrote vs ws top ws' r → length vs ≤ a → Room ws' r (f (rows_of ws'))
room_then f a {ws} {top} {vs} {ws'} {r} room p h =
    let e : rows_of ws' ≡ rows_of ws = pushed_graph p room.low in
    record {
      size = omega (arith, room.size, pushed_length p);
      low = omega (arith, room.low, p.next);
      good = subst Good (sym e) room.good;
      room = omega (arith, room.room, p.next, ap f e);
    }

pub pushed_on : (f : List ℕ → List ℕ) {ws : List ℕ} {top : ℕ} {a ws₁ : List ℕ} {t₁ : ℕ} {ws₂ : List ℕ} {t₂ : ℕ} → QUEUE ≤ top → Wrote a ws top ws₁ t₁ → Wrote (f (rows_of ws₁)) ws₁ t₁ ws₂ t₂ → Wrote (a ++ f (rows_of ws)) ws top ws₂ t₂
pushed_on f {ws} {top} {a} {ws₁} {t₁} {ws₂} {t₂} h p q = wrote_then p (subst (λ (g : List ℕ). Wrote (f g) ws₁ t₁ ws₂ t₂) (pushed_graph p h) q)

module _ (ws : List ℕ) (size : LEAST ≤ length ws) (x direction index transitive kind : ℕ) (h : x < most_identifiers) {b : Bool} (is : b ≡ blocked_w (get_or ws (VALUE + x) 0) direction) where
  blocked_is : blocked_w (value (rows_of ws) x) direction ≡ b
  blocked_is = ap (λ (v : ℕ). blocked_w v direction) (value_at_lem ws size x h) ∙ sym is

  pub aliases_open : b ≡ false → entries_w index transitive kind (row_b (rows_of ws) (4 * x + 1)) ++ entries_w index transitive 0 (row_b (rows_of ws) (4 * x + 2)) ≡ aliases_w (rows_of ws) x direction index transitive kind
  unfolding aliases_w
  aliases_open e = rw (blocked_is ∙ e)

  pub aliases_shut : b ≡ true → [] ≡ aliases_w (rows_of ws) x direction index transitive kind
  unfolding aliases_w
  aliases_shut e = rw (blocked_is ∙ e)

pub captures_open : (g : List ℕ) (x index : ℕ) (transitive : Bool) (kind : ℕ) → transitive ≡ true → entries_w index (bit transitive) kind (row_b g (4 * x + 3)) ≡ captures_w g x index (bit transitive) kind
unfolding captures_w
captures_open g x index transitive kind h = rw h

pub captures_shut : (g : List ℕ) (x index : ℕ) (transitive : Bool) (kind : ℕ) → transitive ≡ false → [] ≡ captures_w g x index (bit transitive) kind
unfolding captures_w
captures_shut g x index transitive kind h = rw h

pub room_less : (a b : ℕ) {ws : List ℕ} {top : ℕ} → a ≤ b → Room ws top b → Room ws top a
room_less a b h room = record { size = room.size; low = room.low; good = room.good; room = omega (arith, room.room) }

-- ---- the four pushes
module _ (ws : List ℕ) (top x index transitive kind : ℕ) (room : Room ws top (deg (rows_of ws) x)) (h : x < most_identifiers) where
  size : length (rows_of ws) ≡ QUEUE - VALUE
  size = rows_length ws room.size

  is : deg (rows_of ws) x ≡ (words_f (rows_of ws) x + words_b (rows_of ws) (4 * x)) + ((words_b (rows_of ws) (4 * x + 1) + words_b (rows_of ws) (4 * x + 2)) + words_b (rows_of ws) (4 * x + 3))
  is = deg_is (rows_of ws) x room.good h

  pub F_le : length (forward_w index transitive kind (row_f (rows_of ws) x)) ≤ words_f (rows_of ws) x
  F_le = omega (arith, forward_le index transitive kind (row_f (rows_of ws) x), row_f-length (rows_of ws) size room.good x h)

  module _ (ws₁ : List ℕ) (t₁ : ℕ) (p₁ : Wrote (forward_w index transitive kind (row_f (rows_of ws) x)) ws top ws₁ t₁) where
    pub room_created : Room ws₁ t₁ (words_b (rows_of ws₁) (4 * x))
    room_created = room_then (λ g. words_b g (4 * x)) (words_f (rows_of ws) x) (room_less _ _ (omega (arith, is)) room) p₁ F_le

    module _ (ws₂ : List ℕ) (t₂ : ℕ) (p₂ : Wrote (entries_w index 1 kind (row_b (rows_of ws₁) (4 * x))) ws₁ t₁ ws₂ t₂) where
      two : Wrote (forward_w index transitive kind (row_f (rows_of ws) x) ++ entries_w index 1 kind (row_b (rows_of ws) (4 * x))) ws top ws₂ t₂
      two = pushed_on (λ g. entries_w index 1 kind (row_b g (4 * x))) room.low p₁ p₂

      two_le : length (forward_w index transitive kind (row_f (rows_of ws) x) ++ entries_w index 1 kind (row_b (rows_of ws) (4 * x))) ≤ words_f (rows_of ws) x + words_b (rows_of ws) (4 * x)
      two_le = omega (arith, F_le, list_le (rows_of ws) size room.good index 1 kind (4 * x) (omega arith), length-append (forward_w index transitive kind (row_f (rows_of ws) x)) (entries_w index 1 kind (row_b (rows_of ws) (4 * x))))

      pub room_aliases : Room ws₂ t₂ (words_b (rows_of ws₂) (4 * x + 1) + words_b (rows_of ws₂) (4 * x + 2))
      room_aliases =
          room_then (λ g. words_b g (4 * x + 1) + words_b g (4 * x + 2)) (words_f (rows_of ws) x + words_b (rows_of ws) (4 * x)) (room_less _ _ (omega (arith, is)) room) two two_le

      module _ (direction : ℕ) (ws₃ : List ℕ) (t₃ : ℕ) (p₃ : Wrote (aliases_w (rows_of ws₂) x direction index transitive kind) ws₂ t₂ ws₃ t₃) where
        three : Wrote ((forward_w index transitive kind (row_f (rows_of ws) x) ++ entries_w index 1 kind (row_b (rows_of ws) (4 * x))) ++ aliases_w (rows_of ws) x direction index transitive kind) ws top ws₃ t₃
        three = pushed_on (λ g. aliases_w g x direction index transitive kind) room.low two p₃

        pub room_captures : Room ws₃ t₃ (words_b (rows_of ws₃) (4 * x + 3))
        room_captures =
            room_then (λ g. words_b g (4 * x + 3)) ((words_f (rows_of ws) x + words_b (rows_of ws) (4 * x)) + (words_b (rows_of ws) (4 * x + 1) + words_b (rows_of ws) (4 * x + 2)))
            (room_less _ _ (omega (arith, is)) room) three
            (omega (arith, two_le, aliases_le (rows_of ws) size room.good x direction index transitive kind h, length-append (forward_w index transitive kind (row_f (rows_of ws) x) ++ entries_w index 1 kind (row_b (rows_of ws) (4 * x))) (aliases_w (rows_of ws) x direction index transitive kind)))

        pub all_pushed : (ws₄ : List ℕ) (t₄ : ℕ) → Wrote (captures_w (rows_of ws₃) x index transitive kind) ws₃ t₃ ws₄ t₄ → Wrote (pushed_w (rows_of ws) x direction index transitive kind) ws top ws₄ t₄
        unfolding pushed_w
        all_pushed ws₄ t₄ p₄ =
            subst (λ (vs : List ℕ). Wrote vs ws top ws₄ t₄)
            (append_assoc (forward_w index transitive kind (row_f (rows_of ws) x) ++ entries_w index 1 kind (row_b (rows_of ws) (4 * x))) (aliases_w (rows_of ws) x direction index transitive kind) (captures_w (rows_of ws) x index transitive kind)
            ∙ append_assoc (forward_w index transitive kind (row_f (rows_of ws) x)) (entries_w index 1 kind (row_b (rows_of ws) (4 * x))) (aliases_w (rows_of ws) x direction index transitive kind ++ captures_w (rows_of ws) x index transitive kind))
            (pushed_on (λ g. captures_w g x index transitive kind) room.low three p₄)

-- a direction counts by whether it is 1
pub pushed_towards : (g : List ℕ) (x d d' index transitive kind : ℕ) → eqb d 1 ≡ eqb d' 1 → pushed_w g x d index transitive kind ≡ pushed_w g x d' index transitive kind
unfolding pushed_w aliases_w
pushed_towards g x d d' index transitive kind e =
    ap (λ (b : Bool). forward_w index transitive kind (row_f g x)
    ++ (entries_w index 1 kind (row_b g (4 * x))
    ++ (pick (pick b (eqb (value g x) PHI) false) [] (entries_w index transitive kind (row_b g (4 * x + ALIASES)) ++ entries_w index transitive 0 (row_b g (4 * x + MAYBE)))
    ++ captures_w g x index transitive kind))) e
