-- `records::find` meets its contract. The loop's invariant: what is found from here on is what is found in all.
use mathlib.Core.Path.{◌≡◌}
use lib.ListN.{take}
use Rattle.records.specs.Table.{key_place}
use Rattle.records.proofs.TableFinding.{found}
use Rattle.records.proofs.find.Given as goal

abbrev pub invariant-loop-i : goal.invariant-loop-i
invariant-loop-i l =
    found l.tag l.id l.i (take l.count l.tags) (take l.count l.ids) ≡ key_place l.tag l.id (take l.count l.tags) (take l.count l.ids)
