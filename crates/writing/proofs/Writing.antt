-- Words or bytes written one after another; a word patched later; what stands in the buffer once all is written.
use Prim.Native.Nat.{ℕ, suc, ◌+◌, ◌≤◌, ◌<◌}
use native.Mathlib.Omega.{arith}
use mathlib.Core.Path.{◌≡◌, refl, sym, ap, ◌∙◌}
use mathlib.Core.List.{List, [], ◌∷◌, ◌++◌}
use lib.ListN.{length, set, take, drop, length-append}
use lib.Seq.{sets, sets-eq, set-set, set_comm, length-sets, length-take-le, take_at}
use Rattle.workspace.proofs.Parts.{sets_append}
use Rattle.writing.specs.declared.Writer.{Writer}
use Rattle.writing.specs.Wrote.{Wrote, Writes, Patches, moved}

-- nothing written
pub wrote_none : (a : List ℕ) (at : ℕ) → Wrote [] a at a at
wrote_none a at = record { words = refl; next = omega arith }

-- the buffer keeps its length
pub wrote_same : {vs a b : List ℕ} {at at' : ℕ} → Wrote vs a at b at' → length b ≡ length a
wrote_same {vs} {a} {at = at} h = ap (λ (l : List ℕ). length l) h.words ∙ length-sets a at vs

-- one after another
pub wrote_then : {us vs a b c : List ℕ} {at at' at'' : ℕ} → Wrote us a at b at' → Wrote vs b at' c at'' → Wrote (us ++ vs) a at c at''
wrote_then {us} {vs} {a} {b} {c} {at} {at'} {at''} h k = record {
  words = k.words ∙ ap (λ (l : List ℕ). sets l at' vs) h.words ∙ ap (λ (i : ℕ). sets (sets a at us) i vs) h.next ∙ sets_append us vs a at;
  next = omega (arith, h.next, k.next, length-append us vs);
}

-- the same words by another name
pub wrote_as : {us vs a b : List ℕ} {at at' : ℕ} → Wrote us a at b at' → us ≡ vs → Wrote vs a at b at'
wrote_as h e = record { words = rw (sym e) h.words; next = rw (sym e) h.next }

set_before : (a : List ℕ) (i at y : ℕ) (vs : List ℕ) → i < at → set (sets a at vs) i y ≡ sets (set a i y) at vs
set_before a i at y [] h = refl
set_before a i at y (v ∷ vs) h =
    let n : ¬ (at ≡ i) = λ e. omega (arith, h, e) in
    set_before (set a at v) i (suc at) y vs (omega arith) ∙ ap (λ (l : List ℕ). sets l (suc at) vs) (set_comm a at i v y n)

-- the first of the words patched
pub patched : (a : List ℕ) (at x y : ℕ) (vs : List ℕ) → set (sets a at (x ∷ vs)) at y ≡ sets a at (y ∷ vs)
patched a at x y vs = set_before (set a at x) at (suc at) y vs (omega arith) ∙ ap (λ (l : List ℕ). sets l (suc at) vs) (set-set a at x y)

sets_before : (a : List ℕ) (at to : ℕ) (us vs : List ℕ) → at + length us ≤ to → sets (sets a to vs) at us ≡ sets (sets a at us) to vs
sets_before a at to [] vs h = refl
sets_before a at to (u ∷ us) vs h =
    ap (λ (l : List ℕ). sets l (suc at) us) (set_before a at to u vs (omega (arith, h))) ∙ sets_before (set a at u) (suc at) to us vs (omega (arith, h))

-- words written last, before words that stand already
pub wrote_before : {us vs a b c : List ℕ} {at at' r r' : ℕ} → Wrote vs a at' b r → at' ≡ at + length us → Wrote us b at c r' → Wrote (us ++ vs) a at c r
wrote_before {us} {vs} {a} {b} {c} {at} {at'} {r} h e k = record {
  words =
      k.words ∙ ap (λ (l : List ℕ). sets l at us) h.words ∙ ap (λ (i : ℕ). sets (sets a i vs) at us) e ∙ sets_before a at (at + length us) us vs (omega arith)
      ∙ sets_append us vs a at;
  next = omega (arith, h.next, e, length-append us vs);
}

-- words that fit stand behind what was there before them
pub written : (a : List ℕ) (at : ℕ) (vs : List ℕ) → at + length vs ≤ length a → take (at + length vs) (sets a at vs) ≡ take at a ++ vs
written a at vs h =
    let n : length (take at a ++ vs) ≡ at + length vs = omega (arith, length-append (take at a) vs, length-take-le at a (omega (arith, h))) in
    ap (take (at + length vs)) (sets-eq vs a at h) ∙ take_at (take at a ++ vs) (drop (at + length vs) a) (at + length vs) n

-- ---- the same by a writer
pub writes_none : (o : Writer ℕ) → Writes [] o o
writes_none o = record { wrote = wrote_none o.buffer.now o.at; same = refl }

pub writes_then : {us vs : List ℕ} {a b c : Writer ℕ} → Writes us a b → Writes vs b c → Writes (us ++ vs) a c
writes_then h k = record { wrote = wrote_then h.wrote k.wrote; same = k.same ∙ h.same }

pub writes_as : {us vs : List ℕ} {a b : Writer ℕ} → Writes us a b → us ≡ vs → Writes vs a b
writes_as h e = record { wrote = wrote_as h.wrote e; same = h.same }

-- the buffer keeps its length
pub writes_long : {vs : List ℕ} {a b : Writer ℕ} → Writes vs a b → length b.buffer.now ≡ length a.buffer.now
writes_long h = wrote_same h.wrote

-- the first of the words patched, once all are written
pub writes_patched : {x y : ℕ} {vs : List ℕ} {a b c : Writer ℕ} → Writes (x ∷ vs) a b → Patches a.at y b c → Writes (y ∷ vs) a c
writes_patched {x} {y} {vs} {a} h p = record {
  wrote = record {
    words = p.items ∙ ap (λ (l : List ℕ). set l a.at y) h.wrote.words ∙ patched a.buffer.now a.at x y vs;
    next = p.stays ∙ h.wrote.next;
  };
  same = p.same ∙ h.same;
}

-- words written last, before words that stand already
pub writes_before : {us vs : List ℕ} {at : ℕ} {a b c : Writer ℕ} → Writes vs (moved a at) b → at ≡ a.at + length us → Writes us (moved b a.at) c → Writes (us ++ vs) a (moved c b.at)
writes_before h e k = record { wrote = wrote_before h.wrote e k.wrote; same = k.same ∙ h.same }
