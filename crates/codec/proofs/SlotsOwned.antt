-- What owning a record tells of its value: its body has ten places.
use mathlib.Core.Path.{◌≡◌}
use mathlib.Core.List.{List}
use mir.Val.{Val}
use lib.ListN.{length}
use denote.Laws.{Is}
use Rattle.codec.specs.declared.Raw.{Raw}
use Rattle.codec.specs.contracts.Raw as raw

pub ten : (r : Raw) {vs : List Val} → Is raw.the_row r vs → length r.body ≡ 10
ten r g = g.1.1.1.1.0.1.0.1
