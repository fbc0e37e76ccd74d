-- "The chance match of demand 3": a slot of which the first k bytes were programmed may read as a record by chance.
use Rattle.std.specs.Prelude.{◌≡◌, List, ◌++◌, ℕ, ◌-◌, ◌≤◌, ◌<◌, take, replicate}
use Rattle.codec.specs.declared.Raw.{Raw}
use Rattle.codec.specs.Slots.{slot_size, crc_under, slot_of}
use Rattle.flash.specs.Image.{slot_count, slot_at}
use Rattle.records.specs.declared.State.{State}
use Rattle.records.specs.declared.State.TheVariants.{Unformatted, Failed, Active}

-- "the slot's first k bytes followed by FF"
abbrev pub cut_at : ℕ → List ℕ → List ℕ
cut_at k slot = take k slot ++ replicate (slot_size - k) 0xFF

-- "for k from 1 to 11, the slot's first k bytes followed by FF have CRC FFFFFFFF under the sector's seq, and differ from the whole slot"
pub record ChanceMatch (seq : ℕ) (slot : List ℕ) : Type 0 where
  pub k : ℕ
  pub low : 1 ≤ k
  pub high : k ≤ 11
  pub matches : crc_under seq (take 12 (cut_at k slot)) ≡ 0xFFFF_FFFF
  pub differs : cut_at k slot ≡ slot → ⊥

-- of the active sector no slot from head on was left as a chance match of this record
abbrev pub Unmatched : State → Raw → List ℕ → Type 0
Unmatched Unformatted r left = Unit {0}
Unmatched Failed r left = Unit {0}
Unmatched (Active sector seq head) r left =
    (h : ℕ) → head ≤ h → h < slot_count → (m : ChanceMatch seq (slot_of seq r)) → slot_at left sector h ≡ cut_at m.k (slot_of seq r) → ⊥
