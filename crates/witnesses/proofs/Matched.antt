-- The premise of the chance match is needed: on the unlucky stick it fails, and reopening shows a third table.
use mathlib.Core.Path.{◌≡◌, refl, sym, ap, ap₂, subst, ◌∙◌}
use mathlib.Core.Bool.{false, false≢true}
use mathlib.Core.List.{List}
use Prim.Native.Nat.{ℕ}
use native.Mathlib.Omega.{arith}
use lib.Dec.{eqb}
use borrow.Author.Tests.{eq-eqb}
use Rattle.basics.specs.Lists.{same}
use Rattle.basics.specs.Little.{le_bytes, le_number}
use Rattle.basics.proofs.ListsLaws.{same_refl}
use Rattle.crc.specs.Register.{turn, turns, eat, feed, finished, crc32_of}
use Rattle.codec.specs.declared.Raw.{Raw}
use Rattle.codec.specs.Slots.{header_slot, crc_under, slot_of, raw_of}
use Rattle.flash.specs.Image.{slot_at, with_slot}
use Rattle.ids.specs.Ids.{counter_tag}
use Rattle.ids.specs.Counters.{remaining_of}
use Rattle.records.specs.declared.Log.{Log}
use Rattle.records.specs.Table.{place_of, holds, held_of}
use Rattle.scan.specs.Opening.{open_of}
use Rattle.tries.specs.Tries.{start_of}
use Rattle.demands.specs.Chance.{cut_at, ChanceMatch}
use Rattle.demands.specs.Healthy.{healthy}
use Rattle.demands.specs.Seen.{Table, table_of}
use Rattle.demands.specs.Calls.{table_after, NoChance}
use Rattle.demands.specs.Sessions.{opened, outcome}
use Rattle.demands.specs.PulledStick.{tries_in, woken}
use Rattle.demands.proofs.PulledStickSpends.{records_in}
use Rattle.witnesses.specs.Sticks.{pin, pulled_after, unlucky, unlucky_stick, log_with, unspent, spent, torn, spend_on}
use Rattle.witnesses.proofs.Computed.{opens, opens-torn, called, remaining}

-- ---- the match: the spend's slot under this sector's number, cut after eight bytes
abbrev whole : List ℕ
whole = slot_of unlucky spent

unlike : same (cut_at 8 whole) whole ≡ false
unfolding same slot_of crc_under crc32_of feed eat turns turn finished le_bytes
unlike = refl

pub matched : ChanceMatch unlucky whole
unfolding slot_of crc_under crc32_of feed eat turns turn finished le_bytes
matched = record {
  k = 8;
  low = omega arith;
  high = omega arith;
  matches = refl;
  differs = λ e. false≢true (sym unlike ∙ ap (λ (l : List ℕ). same l whole) e ∙ same_refl whole);
}

-- ---- the premise fails: slot 2 was left so
stands : slot_at (torn 0 2 8 whole unlucky_stick) 0 2 ≡ cut_at 8 whole
unfolding unlucky_stick slot_at with_slot header_slot slot_of crc_under crc32_of feed eat turns turn finished le_bytes
stands = refl

pub out_of_luck : NoChance (spend_on (pulled_after 8)).call unlucky_stick (opened unlucky_stick).log (pulled_after 8) → ⊥
unfolding held_of holds place_of start_of le_number le_bytes slot_of matched
out_of_luck lucky =
    subst (λ (l : Log). NoChance (spend_on (pulled_after 8)).call unlucky_stick l (pulled_after 8)) opens.chance lucky 2 (omega arith)
    (omega arith) matched
    (ap (λ (left : List ℕ). slot_at left 0 2) called.by-chance.leaves ∙ stands)

-- ---- and the table that is found is neither the one from before nor the one after: each leaves other tries
abbrev tries_of : Table → ℕ
tries_of t = remaining_of (start_of (held_of counter_tag pin (records_in t)) 3)

abbrev found : Log
found = woken (opened unlucky_stick) (spend_on (pulled_after 8))

found-is : found ≡ log_with unlucky 3 (raw_of (cut_at 8 whole))
found-is =
    ap (λ (l : Log). (open_of (outcome (spend_on (pulled_after 8)) (record { image = unlucky_stick; log = l })).flash.image).log) opens.chance
    ∙ ap (λ (left : List ℕ). (open_of left).log) called.by-chance.leaves ∙ opens-torn.chance

-- logs of one record whose tries differ show other tables
apart : (a b : Log) (x y : ℕ) (r q : Raw) → a ≡ log_with unlucky x r → b ≡ log_with unlucky y q
    → eqb (tries_in pin 3 (log_with unlucky x r)) (tries_in pin 3 (log_with unlucky y q)) ≡ false → table_of a ≡ table_of b → ⊥
apart a b x y r q e k differ same =
    false≢true (sym differ ∙ eq-eqb _ _ (ap tries_of (sym (ap table_of e) ∙ same ∙ ap table_of k)))

pub not-before : table_of found ≡ table_of (opened unlucky_stick).log → ⊥
not-before =
    apart found (opened unlucky_stick).log 3 2 (raw_of (cut_at 8 whole)) unspent found-is opens.chance
    (ap₂ eqb (remaining.none unlucky 3) (remaining.all unlucky 2))

pub not_after : table_of found ≡ table_after (spend_on healthy).call unlucky_stick (opened unlucky_stick).log → ⊥
not_after =
    apart found (outcome (spend_on healthy) (opened unlucky_stick)).log 3 3 (raw_of (cut_at 8 whole)) spent found-is
    (ap (λ (l : Log). (outcome (spend_on healthy) (record { image = unlucky_stick; log = l })).log) opens.chance ∙ called.after)
    (ap₂ eqb (remaining.none unlucky 3) (remaining.one_fewer unlucky 3))
