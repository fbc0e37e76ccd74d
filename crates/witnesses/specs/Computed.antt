-- What the definitions come to on those sticks, computed.
use Rattle.std.specs.Prelude.{◌≡◌, true, List, [], ◌∷◌, ℕ, replicate}
use Rattle.basics.specs.Answers.{number_of}
use Rattle.codec.specs.Slots.{header_slot}
use Rattle.flash.specs.Image.{slot_at}
use Rattle.demands.specs.Healthy.{healthy}
use Rattle.demands.specs.Sessions.{World, opened, Made, outcome, afterwards, Lasts}
use Rattle.demands.specs.PulledStick.{tries_in, Has, woken}
use Rattle.witnesses.specs.Sticks.{pin, pulled_after, blank_stick, new_stick, full_stick, unlucky_stick, formatting, spend_on, refusals}

-- the numbers that a session's calls answer
unfoldable pub numbers : List Made → World → List ℕ
numbers [] w = []
numbers (m ∷ ms) w = number_of (outcome m w).answer ∷ numbers ms (afterwards (outcome m w))

-- a call that is cut on a stick that was just opened, and the tries that are found afterwards
pub record Pulled (image : List ℕ) (m : Made) (tries : ℕ) : Type 0 where
  pub cut : (outcome m (opened image)).flash.cut ≡ true
  pub found : tries_in pin 3 (woken (opened image) m) ≡ tries

-- a spend on a healthy flash: the tries before it, and what it programs and erases
pub record Spends (image : List ℕ) (programmed erased : ℕ) : Type 0 where
  pub value : (outcome (spend_on healthy) (opened image)).value ≡ 3
  pub programmed-is : (outcome (spend_on healthy) (opened image)).flash.programmed ≡ programmed
  pub erased-is : (outcome (spend_on healthy) (opened image)).flash.erased ≡ erased

-- the first slot of an image's second sector, and the last
abbrev pub ends : List ℕ → List (List ℕ)
ends image = slot_at image 1 0 ∷ slot_at image 1 255 ∷ []

pub record Computed : Type 0 where
  -- a format makes the new stick, which opens with three tries
  pub formats : (outcome (formatting healthy) (opened blank_stick)).flash.image ≡ new_stick
  pub holds : Has pin 3 (opened new_stick).log
  -- power lasts through a session in which every call meets refusals: the first spend answers 0, the second 6, the Lamport number 0
  pub lasts : Lasts refusals (opened new_stick)
  pub answers : numbers refusals (opened new_stick) ≡ 0 ∷ 6 ∷ 0 ∷ []
  -- "A healthy append reports 16 and 0; a healthy commit of r records 16 × (r + 1) and 4,096."
  pub appends : Spends new_stick 16 0
  pub commits : Spends full_stick 32 4096
  -- a spend that is cut in the middle of an append
  pub in_append : Pulled new_stick (spend_on (pulled_after 5)) 3
  -- a spend on a full sector, cut in the middle of the other sector's erase, of its record, and of its header
  pub in_erase : Pulled full_stick (spend_on (pulled_after 100)) 3
  pub in_record : Pulled full_stick (spend_on (pulled_after 4103)) 3
  pub in_header : Pulled full_stick (spend_on (pulled_after 4117)) 3
  -- and one byte before its end: the header's last byte is missing
  pub at_last : Pulled full_stick (spend_on (pulled_after 4127)) 3
  -- with power for all of it one try is taken
  pub taken : tries_in pin 3 (outcome (spend_on (pulled_after 4128)) (opened full_stick)).log ≡ 2
  -- the cut erase changed bytes and left others: the older copy's header is erased, and its last slot stands as it was
  pub older_copy : ends full_stick ≡ header_slot 1 ∷ replicate 16 0 ∷ []
  pub half_erased : ends (outcome (spend_on (pulled_after 100)) (opened full_stick)).flash.image ≡ replicate 16 0xFF ∷ replicate 16 0 ∷ []
  -- a spend that is cut just where its slot matches by chance: three tries were held, two should be left
  pub by-chance : Pulled unlucky_stick (spend_on (pulled_after 8)) 0
  pub before : tries_in pin 3 (opened unlucky_stick).log ≡ 3
  pub after : tries_in pin 3 (outcome (spend_on healthy) (opened unlucky_stick)).log ≡ 2
