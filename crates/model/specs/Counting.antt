-- Document 02, order 7, "Two refusals overlap": "Totals are from now on counted while reading. Refusal 8 comes at the kind word of the effect, or the first word of the
-- phi operand or Return place, that passes a total, after that word's own checks under 5 and 6."
use Rattle.std.specs.Prelude.{suc, Bool}
use Rattle.model.specs.Lists.{pick}
use Rattle.model.specs.Sheet.{EffectKind, Sheet}
use Rattle.model.specs.Effects.{Role, relation, mutation, render, diagnosis, nothing, row_of, is_alias}
use Rattle.model.specs.Reading.{Read, pure, refuse}
use Rattle.model.specs.Sections.{inner_function}
use Rattle.model.specs.Asking.{Asks, sheet}
use Rattle.model.specs.Totals.{Totals, over}

-- before the first block
abbrev pub no_totals : Totals
no_totals = record { relations = 0; mutations = 0; renders = 0 }

-- one more relation effect
abbrev pub with_relation : Totals → Totals
with_relation t = record { relations = suc t.relations; mutations = t.mutations; renders = t.renders }

-- one more mutation
abbrev pub with_mutation : Totals → Totals
with_mutation t = record { relations = t.relations; mutations = suc t.mutations; renders = t.renders }

-- one more render
abbrev pub with_render : Totals → Totals
with_render t = record { relations = t.relations; mutations = t.mutations; renders = suc t.renders }

-- one more effect of an instruction, by what it is for
abbrev pub count_role : Role → Totals → Totals
count_role relation t = with_relation t
count_role mutation t = with_mutation t
count_role render t = with_render t
count_role diagnosis t = t
count_role nothing t = t

-- one more effect: "kind 6 in terminals" alone
unfoldable pub count_kind : Bool → EffectKind → Totals → Totals
count_kind terminal k t = pick terminal (pick (is_alias k) (with_relation t) t) (count_role (row_of k).role t)

-- 8, if a total is passed with this word
abbrev pub ask_totals : (Totals → Bool) → Totals → Read (Unit {0})
ask_totals over t = pick (over t) (refuse 8) (pure tt)

-- what is counted, and what is asked at each counted word, by what is over a limit
abbrev pub counting_by : (Totals → Bool) → Asks
counting_by over = record { Tally = Totals; none = no_totals; effect = count_kind; relation = with_relation; ask = ask_totals over; inner = inner_function }

-- mutations and renders
abbrev pub counting : Asks
counting = counting_by over

-- "one reading left to right" for 3 to 6 and 8
unfoldable pub counted_sheet : Read Sheet
counted_sheet = sheet counting
