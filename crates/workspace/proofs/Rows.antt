-- The rows, as the code reads them.
use Prim.Native.Nat.{ℕ, ◌+◌, ◌-◌, ◌≤◌, ◌<◌}
use native.Mathlib.Omega.{arith}
use native.Mathlib.Nat.{add_assoc}
use mathlib.Core.List.{List}
use mathlib.Core.Path.{◌≡◌, sym, ap, ◌∙◌}
use lib.ListN.{length, get_or}
use lib.Seq.{slice, length-slice}
use Rattle.model.specs.Limits.{most_identifiers, most_relations}
use Rattle.workspace.specs.Layout.{LEAST, VALUE, FBOUND, FEDGE, BBOUND, BENTRY, QUEUE}
use Rattle.workspace.specs.Rows.{rows_of, fbounds, fedges, bbounds, bentries, most_lists, value, fb, bb, row_f, row_b, Good}
use Rattle.workspace.specs.Sort.{key_w}
use Rattle.workspace.proofs.Parts.{slice_at, slice_slice}

module _ (ws : List ℕ) (size : LEAST ≤ length ws) where
  pub value_at_lem : (x : ℕ) → x < most_identifiers → value (rows_of ws) x ≡ get_or ws (VALUE + x) 0
  unfolding value rows_of
  value_at_lem x h = slice_at VALUE QUEUE x ws (omega arith)

  pub f_word : (k : ℕ) → k ≤ most_identifiers → get_or (rows_of ws) (fbounds + k) 0 ≡ get_or ws (FBOUND + k) 0
  unfolding rows_of
  f_word k h = slice_at VALUE QUEUE (fbounds + k) ws (omega arith) ∙ ap (λ (n : ℕ). get_or ws n 0) (omega arith)

  pub b_word : (k : ℕ) → k ≤ most_lists → get_or (rows_of ws) (bbounds + k) 0 ≡ get_or ws (BBOUND + k) 0
  unfolding rows_of
  b_word k h = slice_at VALUE QUEUE (bbounds + k) ws (omega arith) ∙ ap (λ (n : ℕ). get_or ws n 0) (omega arith)

  pub fb_at : (k : ℕ) → k ≤ most_identifiers → fb (rows_of ws) k ≡ get_or ws FBOUND 0 - get_or ws (FBOUND + k) 0
  unfolding fb
  fb_at k h = omega (arith, f_word 0 (omega arith), f_word k h)

  pub bb_at : (k : ℕ) → k ≤ most_lists → bb (rows_of ws) k ≡ get_or ws BBOUND 0 - get_or ws (BBOUND + k) 0
  unfolding bb
  bb_at k h = omega (arith, b_word 0 (omega arith), b_word k h)

  pub row_f_at : (x lo hi : ℕ) → lo ≡ fb (rows_of ws) x → hi ≡ fb (rows_of ws) (x + 1) → hi ≤ most_relations → slice (FEDGE + lo) (FEDGE + hi) ws ≡ row_f (rows_of ws) x
  unfolding row_f rows_of
  row_f_at x lo hi p q h =
      let a : FEDGE + lo ≡ VALUE + (fedges + lo) = omega arith in
      let b : FEDGE + hi ≡ VALUE + (fedges + hi) = omega arith in
      ap (λ (n : ℕ). slice n (FEDGE + hi) ws) a ∙ ap (λ (n : ℕ). slice (VALUE + (fedges + lo)) n ws) b
      ∙ sym (slice_slice VALUE QUEUE (fedges + lo) (fedges + hi) ws (omega arith) (omega arith))
      ∙ ap (λ (n : ℕ). slice (fedges + n) (fedges + hi) (rows_of ws)) p ∙ ap (λ (n : ℕ). slice (fedges + fb (rows_of ws) x) (fedges + n) (rows_of ws)) q

  pub row_b_at : (k lo hi : ℕ) → lo ≡ bb (rows_of ws) k → hi ≡ bb (rows_of ws) (k + 1) → hi ≤ most_relations → slice (BENTRY + lo) (BENTRY + hi) ws ≡ row_b (rows_of ws) k
  unfolding row_b rows_of
  row_b_at k lo hi p q h =
      let a : BENTRY + lo ≡ VALUE + (bentries + lo) = omega arith in
      let b : BENTRY + hi ≡ VALUE + (bentries + hi) = omega arith in
      ap (λ (n : ℕ). slice n (BENTRY + hi) ws) a ∙ ap (λ (n : ℕ). slice (VALUE + (bentries + lo)) n ws) b
      ∙ sym (slice_slice VALUE QUEUE (bentries + lo) (bentries + hi) ws (omega arith) (omega arith))
      ∙ ap (λ (n : ℕ). slice (bentries + n) (bentries + hi) (rows_of ws)) p ∙ ap (λ (n : ℕ). slice (bentries + bb (rows_of ws) k) (bentries + n) (rows_of ws)) q

-- ---- the two bounds of a run of words, b and b', as the code reads them from the words i and j; the word o counts all
pub record Bounds (ws : List ℕ) (o i j b b' : ℕ) : Type 0 where
  pub in_lo : get_or ws i 0 ≤ get_or ws o 0
  pub in_hi : get_or ws j 0 ≤ get_or ws o 0
  pub is_lo : get_or ws o 0 - get_or ws i 0 ≡ b
  pub is_hi : get_or ws o 0 - get_or ws j 0 ≡ b'
  pub up : b ≤ b'
  pub few : b' ≤ most_relations

module _ (ws : List ℕ) (size : LEAST ≤ length ws) (good : Good (rows_of ws)) (k : ℕ) where
  pub list_bounds : k < most_lists → Bounds ws BBOUND (BBOUND + k) (BBOUND + k + 1) (bb (rows_of ws) k) (bb (rows_of ws) (k + 1))
  list_bounds h =
      let all = b_word ws size 0 (omega arith) in
      let n : get_or ws (BBOUND + k + 1) 0 ≡ get_or ws (BBOUND + (k + 1)) 0 = ap (λ (i : ℕ). get_or ws i 0) (add_assoc BBOUND k 1) in
      record {
        in_lo = omega (arith, all, b_word ws size k (omega arith), good.b_in k (omega arith));
        in_hi = omega (arith, all, n, b_word ws size (k + 1) (omega arith), good.b_in (k + 1) (omega arith));
        is_lo = sym (bb_at ws size k (omega arith));
        is_hi = omega (arith, n, bb_at ws size (k + 1) (omega arith));
        up = good.b_up k h;
        few = good.b_top (k + 1) (omega arith);
      }

  pub edge_bounds : k < most_identifiers → Bounds ws FBOUND (FBOUND + k) (FBOUND + k + 1) (fb (rows_of ws) k) (fb (rows_of ws) (k + 1))
  edge_bounds h =
      let all = f_word ws size 0 (omega arith) in
      let n : get_or ws (FBOUND + k + 1) 0 ≡ get_or ws (FBOUND + (k + 1)) 0 = ap (λ (i : ℕ). get_or ws i 0) (add_assoc FBOUND k 1) in
      record {
        in_lo = omega (arith, all, f_word ws size k (omega arith), good.f_in k (omega arith));
        in_hi = omega (arith, all, n, f_word ws size (k + 1) (omega arith), good.f_in (k + 1) (omega arith));
        is_lo = sym (fb_at ws size k (omega arith));
        is_hi = omega (arith, n, fb_at ws size (k + 1) (omega arith));
        up = good.f_up k h;
        few = good.f_top (k + 1) (omega arith);
      }

pub rows_length : (ws : List ℕ) → LEAST ≤ length ws → length (rows_of ws) ≡ QUEUE - VALUE
unfolding rows_of
rows_length ws h = length-slice VALUE QUEUE ws (omega arith)

-- ---- the keys of the two tables
pub keys₀ : (w : ℕ) → key_w 0 w < most_identifiers
unfolding key_w
keys₀ w = omega arith

pub keys₁ : (w : ℕ) → key_w 1 w < most_lists
unfolding key_w
keys₁ w = omega arith
