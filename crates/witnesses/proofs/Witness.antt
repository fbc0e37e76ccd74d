-- The premises of the demands can be met: through refusals, and cut in the middle of an append, of an erase, of a record and of a header.
use mathlib.Core.Path.{◌≡◌, refl, sym, subst, ◌∙◌}
use mathlib.Core.Bool.{false, false≢true}
use mathlib.Core.List.{List, []}
use mathlib.Core.Logic.{◌⊎◌}
use Prim.Native.Nat.{ℕ, zero, suc, ◌+◌, ◌≤◌}
use native.Mathlib.Omega.{arith}
use lib.Dec.{T, eqb}
use lib.ListN.{take}
use lib.Pow.{are_bytes}
use borrow.Author.Tests.{eq-eqb}
use Rattle.basics.specs.Little.{le_bytes, le_number}
use Rattle.crc.specs.Register.{turn, turns, eat, feed, finished, crc32_of}
use Rattle.codec.specs.Slots.{header_slot, crc_under, slot_of}
use Rattle.flash.specs.declared.Plan.{Plan}
use Rattle.records.specs.declared.Log.{Log}
use Rattle.records.specs.Table.{place_of, holds, held_of}
use Rattle.tries.specs.Tries.{start_of}
use Rattle.demands.specs.Chance.{cut_at, ChanceMatch}
use Rattle.demands.specs.Calls.{NoChance}
use Rattle.demands.specs.Sessions.{opened, played, AllTyped, Lasts, Powered}
use Rattle.demands.specs.Demand3.{FindsAgain}
use Rattle.demands.specs.PulledStick.{woken, Lucky, tries_in, NoneSets, KeepsCount}
use Rattle.demands.proofs.Demands.{demands}
use Rattle.witnesses.specs.Sticks.{pin, new_stick, full_stick, spent, spend_on, refusals}
use Rattle.witnesses.proofs.Computed.{opens, computed}

-- ---- the sticks are bytes, and the calls have their types
record Bytes : Type 0 where
  new : T (are_bytes new_stick)
  full : T (are_bytes full_stick)

bytes : Bytes
unfolding new_stick full_stick header_slot slot_of crc_under crc32_of feed eat turns turn finished le_bytes
bytes = record { new = tt; full = tt }

typed : AllTyped refusals
unfolding refusals AllTyped
typed = ((omega arith, omega arith), ((omega arith, omega arith), (omega arith, tt)))

none_made : (w : List ℕ) → Lasts [] (opened w)
unfolding Lasts
none_made w = tt

none-typed : AllTyped []
unfolding AllTyped
none-typed = tt

-- the premises of a session: met through refusals, and where nothing was called yet
through_refusals : Powered new_stick refusals
through_refusals = record { bytes = bytes.new; typed = typed; lasts = computed.lasts }

just_opened : (stick : List ℕ) → T (are_bytes stick) → Powered stick []
just_opened stick b = record { bytes = b; typed = none-typed; lasts = none_made stick }

-- ---- power lasts through refusals: what is held is found, and of two spends that were begun at most two tries are gone
none-sets : NoneSets pin refusals
unfolding refusals NoneSets
none-sets = (refl, (refl, (refl, tt)))

pub keeps_count : KeepsCount new_stick refusals pin 3
keeps_count = demands.stick_session new_stick refusals through_refusals pin 3 computed.holds none-sets

pub finds_again : FindsAgain (played refusals (opened new_stick))
finds_again = demands.powered new_stick refusals through_refusals

-- ---- no chance match
-- of the record that the new stick's first spend writes, under the sector's number 1
clash : (k : ℕ) → 1 ≤ k → k ≤ 11 → eqb (crc_under 1 (take 12 (cut_at k (slot_of 1 spent)))) 0xFFFF_FFFF ≡ false
unfolding slot_of crc_under crc32_of feed eat turns turn finished le_bytes
clash zero low high = absurd (omega arith)
clash (suc zero) low high = refl
clash (suc (suc zero)) low high = refl
clash (suc (suc (suc zero))) low high = refl
clash (suc (suc (suc (suc zero)))) low high = refl
clash (suc (suc (suc (suc (suc zero))))) low high = refl
clash (suc (suc (suc (suc (suc (suc zero)))))) low high = refl
clash (suc (suc (suc (suc (suc (suc (suc zero))))))) low high = refl
clash (suc (suc (suc (suc (suc (suc (suc (suc zero)))))))) low high = refl
clash (suc (suc (suc (suc (suc (suc (suc (suc (suc zero))))))))) low high = refl
clash (suc (suc (suc (suc (suc (suc (suc (suc (suc (suc zero)))))))))) low high = refl
clash (suc (suc (suc (suc (suc (suc (suc (suc (suc (suc (suc zero))))))))))) low high = refl
clash (suc (suc (suc (suc (suc (suc (suc (suc (suc (suc (suc (suc k)))))))))))) low high = absurd (omega arith)

unmatched : ChanceMatch 1 (slot_of 1 spent) → ⊥
unmatched m =
    false≢true
    (sym (clash m.k m.low m.high) ∙ eq-eqb (crc_under 1 (take 12 (cut_at m.k (slot_of 1 spent)))) 0xFFFF_FFFF m.matches)

new_lucky : (plan : Plan) → Lucky (opened new_stick) (spend_on plan)
unfolding held_of holds place_of start_of le_number le_bytes
new_lucky plan _ = subst (λ (l : Log). NoChance (spend_on plan).call new_stick l plan) (sym opens.new) (λ h low high m e. unmatched m)

-- a full sector has no slot to append to
full_lucky : (plan : Plan) → Lucky (opened full_stick) (spend_on plan)
full_lucky plan _ =
    subst (λ (l : Log). NoChance (spend_on plan).call full_stick l plan) (sym opens.full) (λ h low high m e. omega (arith, low, high))

-- ---- so the statements speak of these sticks, wherever a spend is cut: each wakes with three tries or two
module _ (plan : Plan) where
  abbrev KeepsOrTakes : List ℕ → Type 0
  KeepsOrTakes stick =
      (tries_in pin 3 (woken (opened stick) (spend_on plan)) ≡ tries_in pin 3 (opened stick).log)
      ⊎ (tries_in pin 3 (woken (opened stick) (spend_on plan)) + 1 ≡ tries_in pin 3 (opened stick).log)

  pub new-wakes : KeepsOrTakes new_stick
  unfolding played
  new-wakes = (demands.stick_spend new_stick [] (just_opened new_stick bytes.new) pin 3 (omega arith) (omega arith) plan).either (new_lucky plan)

  pub full-wakes : KeepsOrTakes full_stick
  unfolding played
  full-wakes =
      (demands.stick_spend full_stick [] (just_opened full_stick bytes.full) pin 3 (omega arith) (omega arith) plan).either (full_lucky plan)
