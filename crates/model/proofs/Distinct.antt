-- An accepted sheet uses no block number twice, and no phi of it names one predecessor twice.
use Prim.Native.Nat.{ℕ, zero, suc}
use mathlib.Core.Path.{◌≡◌, refl, sym}
use mathlib.Core.Bool.{false}
use mathlib.Core.List.{List, [], ◌∷◌, map}
use lib.ListN.{length}
use lib.Dec.{eqb}
use borrow.Author.Tests.{eqb-false, ne_eqb}
use Rattle.model.specs.Limits.{most_identifiers, most_functions, most_params, most_context, returns_count, most_blocks, most_block_number, most_count}
use Rattle.model.specs.Lists.{among, Every}
use Rattle.model.specs.Sheet.{BlockId, Operand, Block}
use Rattle.model.specs.Reading.{Read, ◌>>=◌, pure, refuse, count, fixed, at_most, new_number, numbered, counted}
use Rattle.model.specs.Sections.{flags, identifier, inner_function, place, operand, phi, instruction, terminal, block, sheet}
use Rattle.model.specs.Distinct.{Distinct, PhiDistinct, SheetDistinct}
use Rattle.model.proofs.Either.{or_left, or_right}
use Rattle.model.proofs.ReadLaws.{Reads, pure_reads, refuse_reads, pick_reads, bind_reads, then_reads, numbered_reads, counted_reads}

new_reads : (used : List BlockId) → Reads (new_number used) (λ (b : BlockId). among b used ≡ false)
unfolding new_number
new_reads used =
    then_reads (at_most most_block_number) _ (λ (b : BlockId). among b used ≡ false)
    (λ b. pick_reads (among b used) (refuse 6) (pure b) (λ (b : BlockId). among b used ≡ false)
    (λ h. refuse_reads 6 (λ (b : BlockId). among b used ≡ false)) (λ h. pure_reads b (λ (b : BlockId). among b used ≡ false) h))

module _ {A : Type 0} (num : A → BlockId) where
  -- none of them has a used number
  abbrev Fresh : List BlockId → List A → Type 0
  Fresh used = Every (λ (a : A). among (num a) used ≡ false)

  fresh_tail : (b : BlockId) (used : List BlockId) (l : List A) → Fresh (b ∷ used) l → Fresh used l
  fresh_tail b used [] h = tt
  fresh_tail b used (a ∷ l) h = (or_right (eqb (num a) b) (among (num a) used) h.0, fresh_tail b used l h.1)

  fresh_head : (b : BlockId) (used : List BlockId) (l : List A) → Fresh (b ∷ used) l → among b (map num l) ≡ false
  fresh_head b used [] h = refl
  fresh_head b used (a ∷ l) h =
      let n : eqb (num a) b ≡ false = or_left (eqb (num a) b) (among (num a) used) h.0 in
      let e : eqb b (num a) ≡ false = ne_eqb b (num a) (λ (p : b ≡ num a). eqb-false (num a) b n (sym p)) in
      rw (e, fresh_head b used l h.1)

  abbrev Told : List BlockId → List A → Type 0
  Told used l = Distinct (map num l) × Fresh used l

  numbered_distinct : (k : ℕ) (used : List BlockId) (f : BlockId → Read A) → ((b : BlockId) → Reads (f b) (λ (a : A). num a ≡ b)) → Reads (numbered k used f) (Told used)
  unfolding numbered
  numbered_distinct zero used f h = pure_reads [] (Told used) (tt, tt)
  numbered_distinct (suc k) used f h =
      bind_reads (new_number used) (λ (b : BlockId). f b >>= λ (a : A). numbered k (b ∷ used) f >>= λ (l : List A). pure (a ∷ l)) (λ (b : BlockId). among b used ≡ false) (Told used) (new_reads used)
      (λ b u. bind_reads (f b) (λ (a : A). numbered k (b ∷ used) f >>= λ (l : List A). pure (a ∷ l)) (λ (a : A). num a ≡ b) (Told used) (h b)
      (λ a p. bind_reads (numbered k (b ∷ used) f) (λ (l : List A). pure (a ∷ l)) (Told (b ∷ used)) (Told used) (numbered_distinct k (b ∷ used) f h)
      (λ l q. pure_reads (a ∷ l) (Told used) ((rw p (fresh_head b used l q.1), q.0), (rw p u, fresh_tail b used l q.1)))))

operand_number : (n : ℕ) (b : BlockId) → Reads (operand n b) (λ (o : Operand). o.predecessor ≡ b)
unfolding operand
operand_number n b = then_reads (place n) _ (λ (o : Operand). o.predecessor ≡ b) (λ p. pure_reads _ (λ (o : Operand). o.predecessor ≡ b) refl)

phi_distinct : (n : ℕ) → Reads (phi n) PhiDistinct
unfolding phi
phi_distinct n =
    then_reads (place n) _ PhiDistinct
    (λ p. then_reads (count most_count) _ PhiDistinct
    (λ k. bind_reads (numbered k [] (operand n)) _ (Told (λ (o : Operand). o.predecessor) []) PhiDistinct (numbered_distinct (λ (o : Operand). o.predecessor) k [] (operand n) (operand_number n))
    (λ l q. pure_reads _ PhiDistinct q.0)))

block_number_lem : (n m : ℕ) (b : BlockId) → Reads (block n m b) (λ (k : Block). k.number ≡ b)
unfolding block
block_number_lem n m b =
    then_reads (counted most_count (phi n)) _ (λ (k : Block). k.number ≡ b)
    (λ ps. then_reads (counted most_count (instruction n m)) _ (λ (k : Block). k.number ≡ b)
    (λ is. then_reads (terminal n m) _ (λ (k : Block). k.number ≡ b) (λ t. pure_reads _ (λ (k : Block). k.number ≡ b) refl)))

abbrev BlockDistinct : Block → Type 0
BlockDistinct k = Every PhiDistinct k.phis

block_distinct : (n m : ℕ) (b : BlockId) → Reads (block n m b) BlockDistinct
unfolding block
block_distinct n m b =
    bind_reads (counted most_count (phi n)) _ (Every PhiDistinct) BlockDistinct (counted_reads PhiDistinct most_count (phi n) (phi_distinct n))
    (λ ps h. then_reads (counted most_count (instruction n m)) _ BlockDistinct (λ is. then_reads (terminal n m) _ BlockDistinct (λ t. pure_reads _ BlockDistinct h)))

abbrev Both : List Block → Type 0
Both l = Distinct (map (λ (b : Block). b.number) l) × Every BlockDistinct l

blocks_distinct : (k n m : ℕ) → Reads (numbered k [] (block n m)) Both
blocks_distinct k n m ws c a d e =
    ((numbered_distinct (λ (b : Block). b.number) k [] (block n m) (block_number_lem n m) ws c a d e).0, numbered_reads BlockDistinct k [] (block n m) (block_distinct n m) ws c a d e)

pub sheet_distinct : Reads sheet SheetDistinct
unfolding sheet
sheet_distinct =
    then_reads flags _ SheetDistinct
    (λ fs. then_reads (counted most_identifiers identifier) _ SheetDistinct
    (λ ids. then_reads (counted most_functions (inner_function (length ids))) _ SheetDistinct
    (λ inner. then_reads (counted most_params (place (length ids))) _ SheetDistinct
    (λ ps. then_reads (counted most_context (place (length ids))) _ SheetDistinct
    (λ cs. then_reads (fixed returns_count) _ SheetDistinct
    (λ k. then_reads (place (length ids)) _ SheetDistinct
    (λ r. then_reads (count most_blocks) _ SheetDistinct
    (λ b. bind_reads (numbered b [] (block (length ids) (length inner))) _ Both SheetDistinct (blocks_distinct b (length ids) (length inner))
    (λ bs h. pure_reads _ SheetDistinct (record { numbers = h.0; predecessors = h.1 }))))))))))
