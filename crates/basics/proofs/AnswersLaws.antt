-- Laws of answers: 0 is done, and a refusal is none.
use mathlib.Core.Path.{◌≡◌, refl}
use lib.Dec.{eqb}
use Rattle.std.specs.Prelude.{Ok, Err, is_ok}
use Rattle.basics.specs.declared.Refusal.TheVariants.{BadImage, BadLog, BadId, NotFormatted, ReadError, WriteError, EraseError}
use Rattle.basics.specs.declared.Refusal.TheVariants.{KeystoreFull, IntegrityFailure}
use Rattle.basics.specs.Answers.{Answer, number_of, is_done, beside}

pub done-number : (a : Answer) → is_done a ≡ eqb (number_of a) 0
done-number (Ok d) = refl
done-number (Err BadImage) = refl
done-number (Err BadLog) = refl
done-number (Err BadId) = refl
done-number (Err NotFormatted) = refl
done-number (Err ReadError) = refl
done-number (Err WriteError) = refl
done-number (Err EraseError) = refl
done-number (Err KeystoreFull) = refl
done-number (Err IntegrityFailure) = refl

-- what stands beside an answer is there just where it is done
pub beside-done : {A : Type 0} (a : Answer) (x : A) → is_ok (beside a x) ≡ is_done a
beside-done (Ok d) x = refl
beside-done (Err r) x = refl
