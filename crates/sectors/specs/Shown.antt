-- How an answer struct and the image show what a definition comes to. Whether power was cut, `cut`, can't be seen in them.
use Rattle.std.specs.Prelude.{◌≡◌, Bool, List, ℕ}
use Rattle.flash.specs.Run.{Flash, Stepped}
use Rattle.sectors.specs.declared.Used.{Used}
use Rattle.sectors.specs.declared.Step.{Step}
use Rattle.sectors.specs.declared.Wrote as wrote
use Rattle.sectors.specs.declared.Tried as tried
use Rattle.sectors.specs.Commits.{Written}
use Rattle.sectors.specs.Appends.{SlotTries}

-- the flash that an image and what was used stand for
abbrev pub flash_with : List ℕ → Used → Bool → Flash
flash_with image used cut =
    record { image = image; plan = used.plan; programmed = used.programmed; erased = used.erased; cut = cut }

abbrev pub used_of : Flash → Used
used_of f = record { plan = f.plan; programmed = f.programmed; erased = f.erased }

pub record ShowsStep (o : Stepped) (r : Step) (image : List ℕ) : Type 0 where
  pub shown : r ≡ record { answer = o.answer; used = used_of o.flash }
  pub left : image ≡ o.flash.image

pub record ShowsWrote (o : Written) (r : wrote.Wrote) (image : List ℕ) : Type 0 where
  pub shown : r ≡ record { answer = o.answer; state = o.state; next_seq = o.next; used = used_of o.flash }
  pub left : image ≡ o.flash.image

pub record ShowsTried (o : SlotTries) (r : tried.Tried) (image : List ℕ) : Type 0 where
  pub shown : r ≡ record { full = o.full; answer = o.answer; head = o.head; used = used_of o.flash }
  pub left : image ≡ o.flash.image
