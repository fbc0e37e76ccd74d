-- All by computing: first what the sticks open to, whole and torn; then the calls on the logs so opened; then both together.
use mathlib.Core.Path.{◌≡◌, refl, sym, ap, subst, ◌∙◌}
use mathlib.Core.Bool.{true}
use mathlib.Core.List.{List, [], ◌∷◌}
use Prim.Native.Nat.{ℕ}
use lib.ListN.{get_or, replicate}
use Rattle.basics.specs.Lists.{same, all_are}
use Rattle.basics.specs.Little.{le_bytes, le_number}
use Rattle.ids.specs.Ids.{place_from, is_monotonic}
use Rattle.ids.specs.Counters.{remaining_of, failed_of}
use Rattle.crc.specs.Register.{turn, turns, eat, feed, finished, crc32_of}
use Rattle.codec.specs.Slots.{header_slot, header_of, crc_under, slot_of, raw_of, decoded_with, decoded}
use Rattle.flash.specs.Image.{sectors_in, slot_at, sector_at, with_slot, with_sector}
use Rattle.flash.specs.Run.{landed, program, blanked, erase}
use Rattle.records.specs.declared.Log.{Log}
use Rattle.records.specs.Table.{place_of, holds, joined, falls, absorbed, held_of}
use Rattle.scan.specs.Choosing.{best_from}
use Rattle.scan.specs.Reading.{read_from, head_from}
use Rattle.scan.specs.Opening.{scan_of, open_of}
use Rattle.records.specs.Fitting.{all_zeros, keys_fit, log_fits}
use Rattle.sectors.specs.Sectors.{write_records, write_sector}
use Rattle.sectors.specs.Commits.{commit_from}
use Rattle.sectors.specs.Appends.{tries_from, append_of}
use Rattle.reads.specs.Entering.{entry_answer, room_for}
use Rattle.decisions.specs.Seeds.{seeded, all_known}
use Rattle.decisions.specs.Outcomes.{entered}
use Rattle.decisions.specs.Performing.{performed}
use Rattle.counter_log.specs.Calls.{format_of}
use Rattle.tries.specs.Tries.{start_of, spend_from, spend_of, advance_from, advance_of}
use Rattle.demands.specs.Chance.{cut_at}
use Rattle.demands.specs.Healthy.{healthy}
use Rattle.demands.specs.Sessions.{World, opened, Made, outcome, Lasts}
use Rattle.demands.specs.PulledStick.{tries_in, Has}
use Rattle.witnesses.specs.Sticks.{pin, pulled_after, blank_stick, new_stick, full_stick, unlucky, unlucky_stick, log_with, unspent, spent}
use Rattle.witnesses.specs.Sticks.{torn, formatting, spend_on, refusals}
use Rattle.witnesses.specs.Computed.{numbers, Pulled, Spends, ends, Computed}

-- ---- the sticks opened
pub record Opens : Type 0 where
  pub new : (open_of new_stick).log ≡ log_with 1 2 unspent
  pub full : (open_of full_stick).log ≡ log_with 2 256 unspent
  pub chance : (open_of unlucky_stick).log ≡ log_with unlucky 2 unspent

pub opens : Opens
unfolding new_stick full_stick unlucky_stick held_of start_of remaining_of place_of sectors_in all_are place_from joined open_of scan_of best_from
    read_from head_from decoded decoded_with absorbed falls is_monotonic header_of slot_at with_slot same slot_of crc_under crc32_of feed eat turns
    turn finished le_bytes le_number header_slot holds
opens = record { new = refl; full = refl; chance = refl }

-- the tries on the torn ones
abbrev tries : List ℕ → ℕ
tries image = tries_in pin 3 (open_of image).log

-- the full stick with n bytes of its second sector erased
abbrev emptied : ℕ → List ℕ
emptied n = with_sector 1 (blanked n (sector_at full_stick 1)) full_stick

-- then the slots of that sector: its record whole, and its header up to byte j
abbrev headed : ℕ → List ℕ
headed j = torn 1 0 j (header_slot 3) (with_slot 1 1 (slot_of 3 spent) (emptied 4096))

pub record OpensTorn : Type 0 where
  pub append : tries (torn 0 2 5 (slot_of 1 spent) new_stick) ≡ 3
  pub erase : tries (emptied 100) ≡ 3
  pub rec : tries (torn 1 1 7 (slot_of 3 spent) (emptied 4096)) ≡ 3
  pub chance : (open_of (torn 0 2 8 (slot_of unlucky spent) unlucky_stick)).log ≡ log_with unlucky 3 (raw_of (cut_at 8 (slot_of unlucky spent)))

pub opens-torn : OpensTorn
unfolding new_stick full_stick unlucky_stick held_of start_of remaining_of place_of sectors_in all_are place_from joined open_of scan_of best_from
    read_from head_from decoded decoded_with absorbed falls is_monotonic header_of slot_at with_slot sector_at with_sector same slot_of crc_under
    crc32_of feed eat turns turn finished le_bytes le_number header_slot holds
opens-torn = record { append = refl; erase = refl; rec = refl; chance = refl }

pub opens-headed : (tries (headed 5) ≡ 3) × (tries (headed 15) ≡ 3)
unfolding full_stick held_of start_of remaining_of place_of sectors_in all_are place_from joined open_of scan_of best_from read_from head_from decoded
    decoded_with absorbed falls is_monotonic header_of slot_at with_slot sector_at with_sector same slot_of crc_under crc32_of feed eat turns turn
    finished le_bytes le_number header_slot holds
opens-headed = (refl, refl)

-- the second sector's first slot and last, before and after a hundred bytes of it are erased
pub ends_are : (ends full_stick ≡ header_slot 1 ∷ replicate 16 0 ∷ []) × (ends (emptied 100) ≡ replicate 16 0xFF ∷ replicate 16 0 ∷ [])
unfolding full_stick slot_at sector_at with_sector slot_of crc_under crc32_of feed eat turns turn finished le_bytes header_slot
ends_are = (refl, refl)

-- ---- the calls
abbrev world : List ℕ → Log → World
world image log = record { image = image; log = log }

-- where a call is cut, and what it leaves
pub record Cuts (image : List ℕ) (log : Log) (m : Made) (left : List ℕ) : Type 0 where
  pub cut : (outcome m (world image log)).flash.cut ≡ true
  pub leaves : (outcome m (world image log)).flash.image ≡ left

-- what a healthy spend answers and counts
abbrev figures : List ℕ → Log → List ℕ
figures image log =
    (outcome (spend_on healthy) (world image log)).value ∷ (outcome (spend_on healthy) (world image log)).flash.programmed
    ∷ (outcome (spend_on healthy) (world image log)).flash.erased ∷ []

pub record Called : Type 0 where
  pub formats : (outcome (formatting healthy) (opened blank_stick)).flash.image ≡ new_stick
  pub holds : Has pin 3 (log_with 1 2 unspent)
  pub lasts : Lasts refusals (world new_stick (log_with 1 2 unspent))
  pub answers : numbers refusals (world new_stick (log_with 1 2 unspent)) ≡ 0 ∷ 6 ∷ 0 ∷ []
  pub appends : figures new_stick (log_with 1 2 unspent) ≡ 3 ∷ 16 ∷ 0 ∷ []
  pub commits : figures full_stick (log_with 2 256 unspent) ≡ 3 ∷ 32 ∷ 4096 ∷ []
  pub in_append : Cuts new_stick (log_with 1 2 unspent) (spend_on (pulled_after 5)) (torn 0 2 5 (slot_of 1 spent) new_stick)
  pub in_erase : Cuts full_stick (log_with 2 256 unspent) (spend_on (pulled_after 100)) (emptied 100)
  pub in_record : Cuts full_stick (log_with 2 256 unspent) (spend_on (pulled_after 4103)) (torn 1 1 7 (slot_of 3 spent) (emptied 4096))
  pub in_header : Cuts full_stick (log_with 2 256 unspent) (spend_on (pulled_after 4117)) (headed 5)
  pub at_last : Cuts full_stick (log_with 2 256 unspent) (spend_on (pulled_after 4127)) (headed 15)
  pub taken : tries_in pin 3 (outcome (spend_on (pulled_after 4128)) (world full_stick (log_with 2 256 unspent))).log ≡ 2
  pub by-chance : Cuts unlucky_stick (log_with unlucky 2 unspent) (spend_on (pulled_after 8)) (torn 0 2 8 (slot_of unlucky spent) unlucky_stick)
  pub after : (outcome (spend_on healthy) (world unlucky_stick (log_with unlucky 2 unspent))).log ≡ log_with unlucky 3 spent

pub called : Called
unfolding blank_stick new_stick full_stick unlucky_stick refusals numbers Lasts format_of spend_of advance_of advance_from performed held_of room_for
    holds place_of start_of spend_from remaining_of failed_of append_of tries_from entered entry_answer sectors_in log_fits all_zeros keys_fit all_are
    all_known seeded place_from joined open_of scan_of best_from header_of slot_at same commit_from write_sector erase sector_at with_sector
    write_records program with_slot landed slot_of crc_under crc32_of feed eat turns turn finished le_bytes le_number header_slot
called = record {
  formats = refl;
  holds = (_, refl, refl);
  lasts = (refl, (refl, (refl, tt)));
  answers = refl;
  appends = refl;
  commits = refl;
  in_append = record { cut = refl; leaves = refl };
  in_erase = record { cut = refl; leaves = refl };
  in_record = record { cut = refl; leaves = refl };
  in_header = record { cut = refl; leaves = refl };
  at_last = record { cut = refl; leaves = refl };
  taken = refl;
  by-chance = record { cut = refl; leaves = refl };
  after = refl;
}

-- ---- the tries of the records
pub record Remaining : Type 0 where
  pub all : (seq head : ℕ) → tries_in pin 3 (log_with seq head unspent) ≡ 3
  pub one_fewer : (seq head : ℕ) → tries_in pin 3 (log_with seq head spent) ≡ 2
  pub none : (seq head : ℕ) → tries_in pin 3 (log_with seq head (raw_of (cut_at 8 (slot_of unlucky spent)))) ≡ 0

pub remaining : Remaining
unfolding held_of start_of remaining_of place_of holds le_bytes le_number slot_of
remaining = record { all = λ seq head. refl; one_fewer = λ seq head. refl; none = λ seq head. refl }

-- ---- both together
pulled : (image left : List ℕ) (log : Log) (m : Made) (n : ℕ) → (open_of image).log ≡ log → Cuts image log m left → tries left ≡ n → Pulled image m n
pulled image left log m n opening cuts found = record {
  cut = subst (λ (l : Log). (outcome m (world image l)).flash.cut ≡ true) (sym opening) cuts.cut;
  found = ap (λ (l : Log). tries (outcome m (world image l)).flash.image) opening ∙ ap tries cuts.leaves ∙ found;
}

spends : (image : List ℕ) (log : Log) (programmed erased : ℕ) → (open_of image).log ≡ log → figures image log ≡ 3 ∷ programmed ∷ erased ∷ []
    → Spends image programmed erased
spends image log programmed erased opening counted =
    let found : figures image (open_of image).log ≡ 3 ∷ programmed ∷ erased ∷ [] = ap (figures image) opening ∙ counted in
    record {
      value = ap (λ (l : List ℕ). get_or l 0 0) found;
      programmed-is = ap (λ (l : List ℕ). get_or l 1 0) found;
      erased-is = ap (λ (l : List ℕ). get_or l 2 0) found;
    }

pub computed : Computed
computed = record {
  formats = called.formats;
  holds = subst (Has pin 3) (sym opens.new) called.holds;
  lasts = subst (λ (l : Log). Lasts refusals (world new_stick l)) (sym opens.new) called.lasts;
  answers = ap (λ (l : Log). numbers refusals (world new_stick l)) opens.new ∙ called.answers;
  appends = spends new_stick _ 16 0 opens.new called.appends;
  commits = spends full_stick _ 32 4096 opens.full called.commits;
  in_append = pulled new_stick _ _ _ 3 opens.new called.in_append opens-torn.append;
  in_erase = pulled full_stick _ _ _ 3 opens.full called.in_erase opens-torn.erase;
  in_record = pulled full_stick _ _ _ 3 opens.full called.in_record opens-torn.rec;
  in_header = pulled full_stick _ _ _ 3 opens.full called.in_header opens-headed.0;
  at_last = pulled full_stick _ _ _ 3 opens.full called.at_last opens-headed.1;
  taken = ap (λ (l : Log). tries_in pin 3 (outcome (spend_on (pulled_after 4128)) (world full_stick l)).log) opens.full ∙ called.taken;
  older_copy = ends_are.0;
  half_erased =
      ap (λ (l : Log). ends (outcome (spend_on (pulled_after 100)) (world full_stick l)).flash.image) opens.full
      ∙ ap ends called.in_erase.leaves
      ∙ ends_are.1;
  by-chance = pulled unlucky_stick _ _ _ 0 opens.chance called.by-chance (ap (tries_in pin 3) opens-torn.chance ∙ remaining.none unlucky 3);
  before = ap (tries_in pin 3) opens.chance ∙ remaining.all unlucky 2;
  after =
      ap (λ (l : Log). tries_in pin 3 (outcome (spend_on healthy) (world unlucky_stick l)).log) opens.chance
      ∙ ap (tries_in pin 3) called.after
      ∙ remaining.one_fewer unlucky 3;
}
