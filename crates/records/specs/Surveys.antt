-- The steps of a look: what the records themselves say.
use Rattle.std.specs.Prelude.{List, ℕ, Option, Some, None}
use Rattle.basics.specs.Choice.{pick}
use Rattle.codec.specs.declared.Raw.{Raw}
use Rattle.records.specs.Table.{place_of, held_of}
use Rattle.records.specs.declared.fitting.Looked.{Looked}
use Rattle.records.specs.Fitting.{keys_fit}

abbrev pub found_in : ℕ → ℕ → List Raw → Looked
found_in tag id t = record { at = place_of tag id t; held = held_of tag id t }

abbrev pub survey_of : ℕ → ℕ → List Raw → Option Looked
survey_of tag id t = pick (keys_fit t) (Some (found_in tag id t)) None
