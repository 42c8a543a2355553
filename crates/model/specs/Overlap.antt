-- Document 02, order 7: "Answers that change: sheets that pass a total before their first other fault gave 3, 4, 5, 6 or 7 and now give 8; no accepted sheet changes."
-- The readings of document 01 and of orders 7 to 9 are definitions here alone: no call takes either way.
use Rattle.std.specs.Prelude.{ℕ, suc, ◌≤◌, ◌≡◌, Bool, ◌||◌, ◌&&◌, List, length, ltb, eqb}
use Rattle.model.specs.Limits.{most_sheet}
use Rattle.model.specs.Lists.{pick}
use Rattle.model.specs.Sheet.{EffectKind, Sheet}
use Rattle.model.specs.Reading.{Position, Result, got, refused, pure, refuse}
use Rattle.model.specs.Sections.{inner_function, sheet}
use Rattle.model.specs.Asking.{Asks}
use Rattle.model.specs.Asking as asking
use Rattle.model.specs.Totals.{Totals, totals, over}
use Rattle.model.specs.Counting.{no_totals, with_relation, count_kind, counting_by}
use Rattle.model.specs.Call.{ended}

-- "over 1,024 relation effects", until document 02, order 10
abbrev pub most_relation_effects : ℕ
most_relation_effects = 1024

-- "over 1,024 relation effects, 512 mutations or 256 renders"
unfoldable pub over_then : Totals → Bool
over_then t = ltb most_relation_effects t.relations || over t

-- document 02, orders 7 to 9: relation effects are counted while reading as well
unfoldable pub read_then : List ℕ → Result Sheet
read_then ws = pick (ltb most_sheet (length ws)) (refused 2) (ended (asking.sheet (counting_by over_then) ws 0) (length ws))

-- document 01: 8 comes after 7
unfoldable pub judged : Result Sheet → Result Sheet
judged (got s c) = pick (over_then (totals s)) (refused 8) (got s c)
judged (refused k) = refused k

-- document 01: "3 to 6 come from one reading left to right", then 7, then 8
unfoldable pub read_before : List ℕ → Result Sheet
read_before ws = pick (ltb most_sheet (length ws)) (refused 2) (judged (ended (sheet ws 0) (length ws)))

-- how many counted words the reading has come to, and the totals with them
pub record Seen : Type 0 where
  pub words : ℕ
  pub totals : Totals

-- one more
abbrev pub seen_effect : Bool → EffectKind → Seen → Seen
seen_effect terminal k s = record { words = suc s.words; totals = count_kind terminal k s.totals }

-- the same of a phi operand or a Return value
abbrev pub seen_relation : Seen → Seen
seen_relation s = record { words = suc s.words; totals = with_relation s.totals }

-- the reading that looks at its n-th counted word alone: whether a total is passed there
abbrev pub looking_at : ℕ → Asks
looking_at n = record {
  Tally = Seen;
  none = record { words = 0; totals = no_totals };
  effect = seen_effect;
  relation = seen_relation;
  ask = λ s. pick (eqb s.words n && over_then s.totals) (refuse 8) (pure tt);
  inner = inner_function;
}

-- "pass a total before their first other fault": the reading comes to a counted word, its n-th, with which a total is over its limit
abbrev pub Passes : List ℕ → Type 0
Passes ws = (n : ℕ) × (asking.sheet (looking_at n) ws 0 ≡ refused 8)

pub record Overlap (ws : List ℕ) : Type 0 where
  -- "no accepted sheet changes": what was accepted is accepted, as the same tree
  pub same : (s : Sheet) (c : Position) → read_before ws ≡ got s c → read_then ws ≡ got s c
  -- and nothing else
  pub back : (s : Sheet) (c : Position) → read_then ws ≡ got s c → read_before ws ≡ got s c
  -- "sheets that pass a total before their first other fault .. now give 8"
  pub news : length ws ≤ most_sheet → Passes ws → read_then ws ≡ refused 8
  -- every other refusal is the one that was given before
  pub others : (k : ℕ) → read_then ws ≡ refused k → (k ≡ 8 → ⊥) → read_before ws ≡ refused k
