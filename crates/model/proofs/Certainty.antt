-- Order 8 holds of every accepted sheet with no phi whose mutations are all transitive, for each parameter and each context place; and so of every accepted call.
use Prim.Native.Nat.{ℕ, zero, suc, ◌≤◌, ◌<◌}
use native.Mathlib.Omega.{arith}
use mathlib.Core.Path.{◌≡◌, refl, sym, ap, subst, ◌∙◌}
use mathlib.Core.Logic.{◌⊎◌, inl, inr, ⊎_elim}
use mathlib.Core.Bool.{Bool, true, false}
use mathlib.Core.List.{List, ◌++◌, Memᴰ}
use lib.ListN.{length, get_or, replicate, length-replicate}
use Rattle.model.specs.Limits.{most_identifiers}
use Rattle.model.specs.Sheet.{Place, MutateTransitive, MutateTransitiveConditionally, Sheet}
use Rattle.model.specs.Mutation.{Kind, conditional, definite, level, Mutation}
use Rattle.model.specs.Building.{build}
use Rattle.model.specs.State.{Record, no_record}
use Rattle.model.specs.Walks.{Item, Walk, mutate}
use Rattle.model.specs.Runs.{holds, reached}
use Rattle.model.specs.Summary.{built, real_walks, after_real, after_renders}
use Rattle.model.specs.Call.{outcome, accepted, IsSheet}
use Rattle.model.specs.Ranges.{PlaceBelow}
use Rattle.model.specs.Demand3.{NoPhis, how}
use Rattle.model.specs.Certainty.{LeadsWithoutMaybe, MutatedDefinitely, Mutated, IsReached, Reported, AllTransitive, mutation_kind, MutationOf, Certainty, Certain, CallCertain}
use Rattle.model.proofs.Everywhere.{every_append, every_member}
use Rattle.model.proofs.Raised.{level_pos}
use Rattle.model.proofs.Follow.{OnlyTransitive}
use Rattle.model.proofs.Sets.{walk_of, of_walk}
use Rattle.model.proofs.Levels.{largest, member_largest, largest_member, largest_most, info_level, level_of, level_own, level_most, own_level, Raised, level_by, after-raised}
use Rattle.model.proofs.MaybeSteps.{accepted_definite, definite_accepted}
use Rattle.model.proofs.Mutations.{mutations_of_lem, all_transitive}
use Rattle.model.proofs.Reports.{recorded_times, reported_recorded, recorded_reported}
use Rattle.model.proofs.Nodes.{no_phi_lem}
use Rattle.model.proofs.Quiet.{quiet}
use Rattle.model.proofs.WhenRead.{in_range_lem}
use Rattle.model.proofs.Demand3.{holds_member, member_holds, reached_chain, transitive_reached}
use Rattle.model.proofs.CallEnds.{accepted_sheet}

module _ (s : Sheet) (x : ℕ) where
  -- what the walk of m accepts
  abbrev accepted_by : Mutation → List Item
  accepted_by m = (mutate (how s) m (built s)).accepted

  -- the highest level at which a mutation's walk accepts x, 0 if none does
  highest_level : ℕ
  highest_level = largest (level_by (how s) (built s) x) (build s).mutations

  highest_most : highest_level ≤ 2
  unfolding highest_level
  highest_most = largest_most (level_by (how s) (built s) x) 2 (λ m. largest_most (level_of x) 2 (level_most x) (accepted_by m)) (build s).mutations

  entry_highest : (m : Mutation) (e : Item) → Memᴰ m (build s).mutations → Memᴰ e (accepted_by m) → e.identifier ≡ x → level e.kind ≤ highest_level
  unfolding highest_level
  entry_highest m e k l h = omega (arith, level_own x e h, member_largest (level_of x) l, member_largest (level_by (how s) (built s) x) k)

  highest_entry : 0 < highest_level → (m : Mutation) × Memᴰ m (build s).mutations × (e : Item) × Memᴰ e (accepted_by m) × (e.identifier ≡ x) × (level e.kind ≡ highest_level)
  unfolding highest_level
  highest_entry h =
      let a = largest_member (level_by (how s) (built s) x) (build s).mutations h in
      let b = largest_member (level_of x) (accepted_by a.0) (omega (arith, a.2)) in
      let c = own_level x b.0 (omega (arith, a.2, b.2)) in
      (a.0, a.1, b.0, b.1, c.0, omega (arith, a.2, b.2, c.1))

  -- Definite is the highest exactly if a Definite mutation leads to x without a maybe-alias step
  highest_definite : highest_level ≡ 2 → MutatedDefinitely s x
  unfolding built
  highest_definite h =
      let w = highest_entry (omega arith) in
      let d = accepted_definite (how s) w.0 (built s) x (w.2, w.3, w.4, omega (arith, w.5)) in
      (w.0, w.1, d.0, d.1)

  definite_highest : NoPhis s.blocks → OnlyTransitive (build s).mutations → MutatedDefinitely s x → highest_level ≡ 2
  unfolding built
  definite_highest v t w =
      let a = definite_accepted (how s) w.0 (built s) x (no_phi_lem s v) (every_member (λ (m : Mutation). m.transitive ≡ true) w.1 t) w.2 w.3 in
      omega (arith, a.3, entry_highest w.0 a.0 w.1 a.1 a.2, highest_most)

  -- and there is a level exactly if x is reached
  highest-reached : 0 < highest_level → IsReached s x
  unfolding real_walks reached
  highest-reached h =
      let w = highest_entry h in
      let v = of_walk (how s) (built s) w.0 (build s).mutations (built s) refl w.1 in
      (v.0, v.1, ap (λ (l : List Item). holds x l) v.2 ∙ member_holds x w.3 w.4)

  reached-highest : IsReached s x → 0 < highest_level
  unfolding real_walks reached
  reached-highest w =
      let m = walk_of (how s) (built s) (build s).mutations (built s) refl w.0 w.1 in
      let e = holds_member x (accepted_by m.0) (ap (λ (l : List Item). holds x l) (sym m.2) ∙ w.2) in
      omega (arith, level_pos e.0.kind, entry_highest m.0 e.0 m.1 e.2 e.1)

  -- or an allowed chain leads to it
  reached_mutated : IsReached s x → Mutated s x
  unfolding real_walks reached built
  reached_mutated w =
      let m = walk_of (how s) (built s) (build s).mutations (built s) refl w.0 w.1 in
      (m.0, m.1, reached_chain (how s) m.0 (built s) x (ap (λ (l : List Item). holds x l) (sym m.2) ∙ w.2))

  mutated_reached : NoPhis s.blocks → OnlyTransitive (build s).mutations → Mutated s x → IsReached s x
  unfolding real_walks reached built
  mutated_reached v t w =
      let r = of_walk (how s) (built s) w.0 (build s).mutations (built s) refl w.1 in
      (r.0, r.1, ap (λ (l : List Item). holds x l) r.2 ∙ transitive_reached (how s) w.0 (built s) (no_phi_lem s v) (every_member (λ (m : Mutation). m.transitive ≡ true) w.1 t) x w.2)

  no_records : (n y : ℕ) → get_or (replicate n no_record) y no_record ≡ no_record
  no_records zero y = refl
  no_records (suc n) zero = refl
  no_records (suc n) (suc y) = no_records n y

  -- x's record at the call's end
  record_raised : x < most_identifiers → OnlyTransitive (build s).mutations → Raised highest_level no_record (get_or (after_renders s).records x no_record)
  unfolding highest_level after_real built
  record_raised h t =
      let l : length (built s).records ≡ most_identifiers = length-replicate most_identifiers no_record in
      rw (quiet s).render_records
      (subst (λ (r : Record). Raised highest_level r (get_or (after_real s).records x no_record)) (no_records most_identifiers x)
      (after-raised (how s) (built s) x (build s).mutations (built s) refl (omega (arith, h, l)) t))

module _ (s : Sheet) (p : Place) (listed : Memᴰ p (s.context ++ s.params)) (small : p.identifier < most_identifiers) (v : NoPhis s.blocks) (free : AllTransitive s) where
  abbrev x : ℕ
  x = p.identifier

  transitive : OnlyTransitive (build s).mutations
  transitive = all_transitive s free

  raised : Raised (highest_level s x) no_record (get_or (after_renders s).records x no_record)
  raised = record_raised s x small transitive

  -- reported by kind 3 or 4 says what the highest level is
  reported_highest : (k : Kind) → Reported (mutation_kind true k) s x → highest_level s x ≡ level k
  reported_highest k w = omega (arith, reported_recorded s true k x w, raised.transitive)

  highest_reported : (k : Kind) → highest_level s x ≡ level k → Reported (mutation_kind true k) s x
  highest_reported k h = recorded_reported s true k x p listed refl (omega (arith, h, raised.transitive))

  unreported : (k : Kind) → ¬ Reported (mutation_kind false k) s x
  unreported k w = omega (arith, reported_recorded s false k x w, ap info_level raised.local, level_pos k)

  either : (n : ℕ) → 0 < n → n ≤ 2 → (n ≡ 2) ⊎ (n ≡ 1)
  either zero h k = absurd (omega arith)
  either (suc zero) h k = inr refl
  either (suc (suc zero)) h k = inl refl
  either (suc (suc (suc n))) h k = absurd (omega arith)

  reached_either : IsReached s x → (highest_level s x ≡ 2) ⊎ (highest_level s x ≡ 1)
  reached_either w = either (highest_level s x) (reached-highest s x w) (highest_most s x)

  reached_reported : IsReached s x → Reported MutateTransitive s x ⊎ Reported MutateTransitiveConditionally s x
  reached_reported w = ⊎_elim (λ (h : highest_level s x ≡ 2). inl (highest_reported definite h)) (λ (h : highest_level s x ≡ 1). inr (highest_reported conditional h)) (reached_either w)

  name : MutatedDefinitely s x → (m : Mutation) × Memᴰ m (build s).mutations × (o : MutationOf s m) × (o.effect.kind ≡ MutateTransitive) × LeadsWithoutMaybe (build s).graph m x
  name w =
      let o = every_member (MutationOf s) w.1 (mutations_of_lem s) in
      let t = every_member (λ (m : Mutation). m.transitive ≡ true) w.1 transitive in
      (w.0, w.1, o, o.kind ∙ ap (λ (b : Bool). mutation_kind b w.0.kind) t ∙ ap (mutation_kind true) w.2, w.3)

  certainty : Certainty s x
  certainty = record {
    definitely = (λ r. highest_definite s x (reported_highest definite r), λ w. highest_reported definite (definite_highest s x v transitive w));
    conditionally = (
      λ r. let h = reported_highest conditional r in (highest-reached s x (omega arith), λ w. let k = definite_highest s x v transitive w in omega arith),
      λ w. ⊎_elim (λ (h : highest_level s x ≡ 2). absurd (w.1 (highest_definite s x h))) (λ (h : highest_level s x ≡ 1). highest_reported conditional h) (reached_either w.0),
    );
    chains = (reached_mutated s x, mutated_reached s x v transitive);
    either = reached_reported;
    not_both = λ r. let h = reported_highest definite r.0 in let k = reported_highest conditional r.1 in omega arith;
    local = unreported;
    places = λ k r. recorded_times s true k x (reported_recorded s true k x r);
    named = λ r. name (highest_definite s x (reported_highest definite r));
    neither = λ a b w m. go a b w m (reached w x) refl;
  }
    where
      go : ¬ Reported MutateTransitive s x → ¬ Reported MutateTransitiveConditionally s x → (w : Walk) → Memᴰ w (real_walks s) → (c : Bool) → reached w x ≡ c → c ≡ false
      go a b w m false e = refl
      go a b w m true e = absurd (⊎_elim a b (reached_reported (w, m, e)))

-- order 8, for every accepted sheet
pub certain : (ws : List ℕ) (s : Sheet) → IsSheet ws s → Certain s
certain ws s h v free p m =
    let b = in_range_lem ws s h in
    let n : ℕ = length s.identifiers in
    let k : p.identifier < n = every_member (PlaceBelow n) m (every_append (PlaceBelow n) s.context s.params b.context b.params) in
    certainty s p m (omega (arith, b.identifiers)) v free

-- and for every accepted call
pub call_certain : (ws : List ℕ) (workspace room : ℕ) (a : List ℕ) → outcome ws workspace room ≡ accepted a → CallCertain ws a
call_certain ws workspace room a e =
    let w = accepted_sheet ws workspace room a e in
    record { sheet = w.0; read = w.1; answered = w.2; claim = certain ws w.0 w.1 }
