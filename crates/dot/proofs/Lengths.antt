-- How long the parts of a line are at most, their numbers being of 32 bits.
use Prim.Native.Nat.{ℕ, ◌+◌, ◌/◌, ◌%◌, ◌≤◌, ◌<◌}
use native.Mathlib.Omega.{arith}
use mathlib.Core.Path.{◌≡◌, sym, ap, subst, ◌∙◌}
use mathlib.Core.List.{List, [], ◌∷◌, ◌++◌, append_assoc}
use lib.ListN.{length, length-append}
use Rattle.model.specs.Graph.{EdgeKind, capture, alias, maybe, Edge, edge_kind}
use Rattle.model.specs.Digits.{bytes, zero_digit, digits}
use Rattle.model.specs.Dot.{kind_word, node_line, edge_line}
use Rattle.model.proofs.Digits.{digits_few, digits_more, digits_ten}
use Rattle.workspace.specs.Graph.{relation_of, edge_row}
use Rattle.writing.specs.declared.Writer.{Writer}
use Rattle.writing.specs.Wrote.{Writes}
use Rattle.writing.proofs.Writing.{writes_none, writes_then, writes_as}
use Rattle.dot.specs.Lines.{most_digits, most_kind, most_ends, most_label, most_line, ends_text, label_text, Put}

-- every number of 32 bits is below this
abbrev pub numbers : ℕ
numbers = 4294967296

pub kind_short : (k : EdgeKind) → length (kind_word k) ≤ most_kind
kind_short capture = omega arith
kind_short alias = omega arith
kind_short maybe = omega arith

pub node_short : (x : ℕ) → x < numbers → length (node_line x) ≤ most_line
unfolding node_line
node_short x h = omega (arith, length-append (digits x) (bytes ";\n"), digits_ten x h)

pub ends_short : (x into : ℕ) → x < numbers → into < numbers → length (ends_text x into) ≤ most_ends
unfolding ends_text
ends_short x into h k = omega (arith, length-append (digits x) (bytes " -> n" ++ digits into), digits_ten x h, digits_ten into k)

pub label_short : (k : EdgeKind) (index : ℕ) → index < numbers → length (label_text k index) ≤ most_label
unfolding label_text
label_short k index h = omega (arith, length-append (kind_word k) (bytes " " ++ (digits index ++ bytes "\"];\n")), length-append (digits index) (bytes "\"];\n"), kind_short k, digits_ten index h)

-- a line of an edge is its ends and its label
pub line_parts : (x : ℕ) (e : Edge) → ends_text x e.into ++ label_text e.kind e.index ≡ edge_line x e
unfolding ends_text label_text edge_line
line_parts x e = ap (λ (l : List ℕ). bytes "  n" ++ l) (append_assoc (digits x) (bytes " -> n" ++ digits e.into) (label_text e.kind e.index))

pub edge_short : (x w : ℕ) → x < numbers → w < numbers → length (edge_line x (edge_row w)) ≤ most_line
unfolding edge_row
edge_short x w h k =
    let e : length (ends_text x (w % 512) ++ label_text (edge_kind (relation_of (w / 512 % 4))) (w / 2048)) ≡ length (edge_line x (edge_row w)) = ap (λ (l : List ℕ). length l) (line_parts x (edge_row w)) in
    omega (arith, e, length-append (ends_text x (w % 512)) (label_text (edge_kind (relation_of (w / 512 % 4))) (w / 2048)), ends_short x (w % 512) h (omega arith), label_short (edge_kind (relation_of (w / 512 % 4))) (w / 2048) (omega (arith, k)))

-- ---- what was written, and how long it is at most
-- what was written is short, if its bytes are
pub put_short : {bs : List ℕ} {o o' : Writer ℕ} (most : ℕ) → length bs ≤ most → Writes bs o o' → Put bs most o o'
put_short most h w = record { wrote = w; few = omega (arith, w.wrote.next, h) }

-- nothing was
pub put_none : {bs : List ℕ} {o : Writer ℕ} {most : ℕ} → [] ≡ bs → Put bs most o o
put_none {o = o} e = record { wrote = writes_as (writes_none o) e; few = omega arith }

-- the same bytes by another name
pub put_as : {bs cs : List ℕ} {o o' : Writer ℕ} {most : ℕ} → Put bs most o o' → bs ≡ cs → Put cs most o o'
put_as p e = record { wrote = writes_as p.wrote e; few = p.few }

-- ---- a number: its digits before the last, if it has any, and the last
pub record Leading (n : ℕ) (o o' : Writer ℕ) : Type 0 where
  pub before : List ℕ
  pub wrote : Writes before o o'
  pub whole : digits n ≡ before ++ ((zero_digit + n % 10) ∷ [])

pub leading_more : (n : ℕ) {o o' o'' : Writer ℕ} → 10 ≤ n → Writes (digits (n / 10)) o o' → o'' ≡ o' → Leading n o o''
leading_more n {o} h w e = subst (λ (x : Writer ℕ). Leading n o x) (sym e) (record { before = digits (n / 10); wrote = w; whole = digits_more n h })

pub leading_none : (n : ℕ) {o o' : Writer ℕ} → n < 10 → o' ≡ o → Leading n o o'
leading_none n {o} h e =
    let d : n ≡ n % 10 = omega arith in
    subst (λ (x : Writer ℕ). Leading n o x) (sym e) (record { before = []; wrote = writes_none o; whole = digits_few n h ∙ ap (λ (i : ℕ). (zero_digit + i) ∷ []) d })

module _ {n : ℕ} {o o' : Writer ℕ} (l : Leading n o o') where
  pub leading_room : n < numbers → o'.at < o.at + most_digits
  leading_room h = omega (arith, l.wrote.wrote.next, ap (λ (d : List ℕ). length d) l.whole, length-append l.before ((zero_digit + n % 10) ∷ []), digits_ten n h)

  pub leading_last : {o'' : Writer ℕ} → Writes ((zero_digit + n % 10) ∷ []) o' o'' → Writes (digits n) o o''
  leading_last w = writes_as (writes_then l.wrote w) (sym l.whole)
