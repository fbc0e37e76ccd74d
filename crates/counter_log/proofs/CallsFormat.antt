-- Format: what it is by the state of the log, and that its table fills the places in front.
use mathlib.Core.Path.{◌≡◌, sym, ap}
use mathlib.Core.Bool.{true}
use mathlib.Core.List.{List, []}
use Prim.Native.Nat.{ℕ, ◌≤◌}
use native.Mathlib.Omega.{arith}
use lib.Dec.{leb}
use lib.ListN.{length, take, length-take}
use borrow.Author.Tests.{leb-true}
use Rattle.basics.proofs.ChoiceLaws as both
use Rattle.codec.specs.declared.Raw.{Raw}
use Rattle.records.specs.Table.{limit}
use Rattle.records.specs.Logs.{places}
use Rattle.records.proofs.LogsPlaces.{places-take}
use Rattle.decisions.specs.declared.seeds.Seed.{Seed}
use Rattle.decisions.specs.Seeds.{all_known, seeds_known, seed_table}
use Rattle.decisions.proofs.SeedsLaws.{seeded-most}
use Rattle.decisions.specs.Ready.{Filled}

pub known-few : (seeds : List Seed) (count : ℕ) → seeds_known seeds count ≡ true → count ≤ 8
known-few seeds count e = leb-true count 8 (both.first (leb count 8) (all_known (take count seeds)) e)

pub table-most : (seeds : List Seed) (count : ℕ) → count ≤ 8 → length (seed_table seeds count) ≤ limit
table-most seeds count h = omega (arith, seeded-most (take count seeds) [], length-take count seeds, h)

pub filled : (t : List Raw) → length t ≤ limit → Filled (places t) (length t)
filled t h = record { counted = ap length (places-take t); most = h; behind = ap places (sym (places-take t)) }
