-- What a walk does to a list of its state (the ends, the records): each accepted entry changes what stands at its identifier, and nothing else does.
use Prim.Native.Nat.{ℕ, zero, suc, ◌<◌}
use mathlib.Core.Path.{◌≡◌, refl, sym, ap, ◌∙◌}
use mathlib.Core.Bool.{Bool, true, false}
use mathlib.Core.List.{List, [], ◌∷◌}
use mathlib.Core.Option.{Option, none, some}
use lib.ListN.{length, get_or, set, length-set}
use lib.Seq.{get_or-set_same, get_or-set_other}
use lib.Dec.{eqb}
use borrow.Author.Tests.{eqb-true, eqb-false}
use Rattle.model.specs.Lists.{pick}
use Rattle.model.specs.Graph.{Node, node_at}
use Rattle.model.specs.Mutation.{Mutation}
use Rattle.model.specs.State.{State, Mode, accepts}
use Rattle.model.specs.Walks.{Item, Walk, fresh, visit, step, run, start, walk_of, mutate}

module _ {A : Type 0} (d : A) (f : Item → A → A) where
  -- one accepted entry
  abbrev touch_one : Item → List A → List A
  touch_one e l = set l e.identifier (f e (get_or l e.identifier d))

  -- the list after these accepted entries, last first
  abbrev touched : List Item → List A → List A
  touched [] l = l
  touched (e ∷ es) l = touch_one e (touched es l)

  -- what they make of the one that stands at x
  abbrev pub touched_at : ℕ → List Item → A → A
  touched_at x [] a = a
  touched_at x (e ∷ es) a = pick (eqb x e.identifier) (f e (touched_at x es a)) (touched_at x es a)

  touched_length : (es : List Item) (l : List A) → length (touched es l) ≡ length l
  touched_length [] l = refl
  touched_length (e ∷ es) l = length-set (touched es l) e.identifier (f e (get_or (touched es l) e.identifier d)) ∙ touched_length es l

  touched_at_lem : (x : ℕ) (es : List Item) (l : List A) → x < length l → get_or (touched es l) x d ≡ touched_at x es (get_or l x d)
  touched_at_lem x [] l h = refl
  touched_at_lem x (e ∷ es) l h = go (eqb x e.identifier) refl (touched_at_lem x es l h)
    where
      before : List A
      before = touched es l

      same : (y : ℕ) → y ≡ x → get_or (set before y (f e (get_or before y d))) x d ≡ f e (get_or before x d)
      same y p = rw p (get_or-set_same before x (f e (get_or before x d)) d (rw (touched_length es l) h))

      go : (b : Bool) → eqb x e.identifier ≡ b → get_or before x d ≡ touched_at x es (get_or l x d)
          → get_or (touch_one e before) x d ≡ pick b (f e (touched_at x es (get_or l x d))) (touched_at x es (get_or l x d))
      go false eb k = get_or-set_other before e.identifier x (f e (get_or before e.identifier d)) d (eqb-false _ _ eb) ∙ k
      go true eb k = same e.identifier (sym (eqb-true x e.identifier eb)) ∙ ap (f e) k

  module _ (how : Mode) (m : Mutation) (part : State → List A)
      (accepted : (e : Item) (n : Node) (s : State) → part (accepts how m e.identifier n.value e.transitive e.kind s) ≡ touch_one e (part s)) where
    module _ (l : List A) where
      abbrev Touches : Walk → Type 0
      Touches w = part w.state ≡ touched w.accepted l

      visit_touches : (c : Bool) (o : Option Node) (e : Item) (q : List Item) (w : Walk) → Touches w → Touches (visit how m c o e q w)
      unfolding visit
      visit_touches false o e q w h = h
      visit_touches true none e q w h = h
      visit_touches true (some n) e q w h = accepted e n w.state ∙ ap (touch_one e) h

      step_touches : (q : List Item) (w : Walk) → Touches w → Touches (step how m q w)
      unfolding step
      step_touches [] w h = h
      step_touches (e ∷ q) w h = visit_touches (fresh w.seen e) (node_at w.state.graph e.identifier) e q w h

      run_touches : (fuel : ℕ) (w : Walk) → Touches w → Touches (run how m fuel w)
      unfolding run
      run_touches zero w h = h
      run_touches (suc fuel) w h = run_touches fuel (step how m w.queue w) (step_touches w.queue w h)

    part_touches : (s : State) → part (mutate how m s).state ≡ touched (mutate how m s).accepted (part s)
    unfolding mutate walk_of
    part_touches s = run_touches (part s) _ (start m s) refl

    pub part_length : (s : State) → length (part (mutate how m s).state) ≡ length (part s)
    part_length s = ap (λ (l : List A). length l) (part_touches s) ∙ touched_length (mutate how m s).accepted (part s)

    -- what stands at x depends on the entries at x alone
    pub part_at : (s : State) (x : ℕ) → x < length (part s) → get_or (part (mutate how m s).state) x d ≡ touched_at x (mutate how m s).accepted (get_or (part s) x d)
    part_at s x h = ap (λ (l : List A). get_or l x d) (part_touches s) ∙ touched_at_lem x (mutate how m s).accepted (part s) h
