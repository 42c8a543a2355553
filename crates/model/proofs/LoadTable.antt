-- The table of class loads holds, by computing with the definitions.
use lib.Dec.{T}
use Rattle.model.specs.Call.{fits}
use Rattle.model.specs.Effects.{row_of}
use Rattle.model.specs.Encoder.{sheet_words}
use Rattle.model.specs.Traits.{traits_word}
use Rattle.model.specs.Load.{next_state, draw_below, load_kind, draw_second, draw_places, draw_effect, load_instructions, class_load, loadable, load}
use Rattle.model.specs.LoadCases.{loads, loads_right}

pub loads-right : T (loads_right loads)
unfolding fits row_of sheet_words traits_word next_state draw_below load_kind draw_second draw_places draw_effect load_instructions class_load loadable load loads loads_right
loads-right = tt
