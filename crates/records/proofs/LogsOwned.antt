-- What owning a log tells of its value: as many places as the limit, and bytes in each, ten of them in the body.
use mathlib.Core.Path.{◌≡◌}
use mathlib.Core.List.{List, [], ◌∷◌}
use Prim.Native.Nat.{ℕ, ◌<◌, ◌^◌}
use mir.Val.{Val}
use lib.Dec.{T}
use lib.ListN.{length}
use lib.Pow.{are_bytes}
use denote.Laws.{Is}
use denote.Shadow.{shadow}
use denote.Array.{each}
use denote.Builtin.{u8}
use Rattle.basics.proofs.ListsLaws.{bytes_cons}
use Rattle.codec.specs.declared.Raw.{Raw}
use Rattle.codec.specs.contracts.Raw as raw
use Rattle.records.specs.declared.Log.{Log}
use Rattle.records.specs.Table.{limit}
use Rattle.records.specs.contracts.Log as log

-- ---- records
pub record Whole (r : Raw) : Type 0 where
  pub tag_fits : r.tag < 256
  pub id_fits : r.id < 256
  pub ten : length r.body ≡ 10
  pub bytes : T (are_bytes r.body)

unfoldable pub AllWhole : List Raw → Type 0
AllWhole [] = Unit {0}
AllWhole (r ∷ rs) = Whole r × AllWhole rs

in_bytes : (bs : List ℕ) (us : List Val) → shadow (each u8.Denot u8.own_val bs us) → T (are_bytes bs)
in_bytes [] us s = tt
in_bytes (b ∷ bs) [] s = absurd s
in_bytes (b ∷ bs) (u ∷ us) s = bytes_cons b bs s.0.1 (in_bytes bs us s.1)

one : (r : Raw) {vs : List Val} → shadow ((raw.the_row).own_val r vs) → Whole r
one r s = let body = s.1.1.1.1.0 in
    record {
      tag_fits = s.1.1.0.1;
      id_fits = s.1.1.1.0.1;
      ten = body.1.0.1;
      bytes = in_bytes r.body body.0 body.1.1;
    }

all : (rs : List Raw) (us : List Val)
    → shadow (each (raw.the_row).Denot (raw.the_row).own_val rs us) → AllWhole rs
unfolding AllWhole
all [] us s = tt
all (r ∷ rs) [] s = absurd s
all (r ∷ rs) (u ∷ us) s = (one r s.0, all rs us s.1)

-- ---- the log
pub record WholeLog (l : Log) : Type 0 where
  pub next_fits : l.next_seq < 2 ^ 32
  pub size : length l.table ≡ limit
  pub whole : AllWhole l.table

pub whole-log : (l : Log) {vs : List Val} → Is log.the_row l vs → WholeLog l
whole-log l g =
    let table = g.1.1.1.1.1.0 in
    record { next_fits = g.1.1.1.0.1; size = table.1.0.1; whole = all l.table table.0 table.1.1 }
