-- `decisions::seeds::seed_table` meets its contract. The loop's invariant: the seeds from here on, put into the table so far, make the whole.
use mathlib.Core.Path.{◌≡◌}
use mathlib.Core.List.{List, []}
use Prim.Native.Nat.{ℕ, ◌≤◌}
use lib.ListN.{length, drop, take}
use Rattle.codec.specs.declared.Raw.{Raw}
use Rattle.records.specs.Logs.{places}
use Rattle.decisions.specs.declared.seeds.Seed.{Seed}
use Rattle.decisions.specs.Seeds.{seeded}
use Rattle.decisions.proofs.seeds.seed_table.Given as goal

-- t: the table so far
pub record Made (seeds : List Seed) (table : List Raw) (n i : ℕ) : Type 0 where
  pub t : List Raw
  pub placed : table ≡ places t
  pub counted : n ≡ length t
  pub few : n ≤ i
  pub rest : seeded (drop i seeds) t ≡ seeded seeds []

abbrev pub invariant-loop-s : goal.invariant-loop-s
invariant-loop-s l = Made (take l.count l.fn.seeds) l.table l.n l.s-index
