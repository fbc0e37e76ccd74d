-- What a program and an erase come to on any flash, by cases: refused, stopped for want of a unit, or done whole.
use Rattle.std.specs.Prelude.{Err}
use Rattle.basics.specs.Answers.{all_done, Answer}
use mathlib.Core.Path.{◌≡◌, refl, sym, ap, subst, ◌∙◌}
use mathlib.Core.Bool.{Bool, true, false, not, ◌&&◌, ◌||◌, or-true, or-false, false≢true}
use mathlib.Core.List.{List}
use mathlib.Core.Logic.{◌⊎◌, inl, inr}
use Prim.Native.Nat.{ℕ, ◌+◌, ◌≤◌, ◌<◌}
use native.Mathlib.Nat.{add-zero}
use native.Mathlib.Omega.{arith}
use lib.Dec.{T, ltb}
use lib.ListN.{length, replicate}
use lib.Pow.{are_bytes}
use borrow.Author.Tests.{lt-ltb, le-ltb, ltb-true, ltb-false}
use Rattle.basics.specs.Choice.{pick}
use Rattle.basics.specs.Lists.{same, all_are}
use Rattle.basics.specs.declared.Refusal.TheVariants.{WriteError, EraseError}
use Rattle.basics.proofs.ChoiceLaws.{by_test}
use Rattle.basics.proofs.ListsLaws.{same_refl, same_eq, all_replicate}
use Rattle.flash.specs.declared.Plan.{Plan}
use Rattle.flash.specs.Image.{slot_at, sector_at, with_slot, with_sector}
use Rattle.flash.specs.Power.{is_limited, units_in, powered, charged, one_used_up, to_program, after_program, program_cut, to_erase, after_erase, erase_cut}
use Rattle.flash.specs.Run.{Flash, Stepped, landed, blanked, program_answer, erase_answer, program, erase}
use Rattle.flash.proofs.PowerLaws.{Enough, Short, drained, powered-short, charged-short, powered_enough, enough_or-short}
use Rattle.flash.proofs.PowerLaws.{powered-most, charged-limited, charged-units}
use Rattle.flash.proofs.RunLanding.{landed-length, landed_none, landed-bytes, landed-new, blanked-length, blanked-all, blanked-bytes}
use Rattle.flash.proofs.ImageView.{Fits, slot-length, slot-bytes, with-slot-same, with-slot-length, with-slot-beside}
use Rattle.flash.proofs.ImageView.{with-slot-apart, with-slot-bytes, sector-most, sector-length, sector-bytes, with-sector-length}
use Rattle.flash.proofs.ImageView.{with-sector-apart, with-sector-bytes, erased-none}

-- ---- program
-- what a program of slot k of sector s comes to
pub data Programmed (s k : ℕ) (new : List ℕ) (f : Flash) : Stepped → Type 0 where
  program-refused : 0 < f.plan.refuse_programs → Programmed s k new f (record {
    answer = Err WriteError;
    flash = record {
      image = f.image;
      plan = one_used_up f.plan;
      programmed = f.programmed;
      erased = f.erased;
      cut = f.cut;
    };
  })
  program-stopped : f.plan.refuse_programs ≡ 0 → Short f.plan 16 → Programmed s k new f (record {
    answer = Err WriteError;
    flash = record {
      image = with_slot s k (landed (units_in f.plan) new (slot_at f.image s k)) f.image;
      plan = drained f.plan;
      programmed = f.programmed + units_in f.plan;
      erased = f.erased;
      cut = true;
    };
  })
  program-whole : f.plan.refuse_programs ≡ 0 → Enough f.plan 16 → Programmed s k new f (record {
    answer = pick (same (landed 16 new (slot_at f.image s k)) new) all_done (Err WriteError);
    flash = record {
      image = with_slot s k (landed 16 new (slot_at f.image s k)) f.image;
      plan = charged f.plan 16;
      programmed = f.programmed + 16;
      erased = f.erased;
      cut = f.cut;
    };
  })

pub program-outcome : (s k : ℕ) (new : List ℕ) (f : Flash) → Programmed s k new f (program s k new f)
unfolding program
program-outcome s k new f = go (ltb 0 f.plan.refuse_programs) refl
  where
    powers : f.plan.refuse_programs ≡ 0 → Enough f.plan 16 ⊎ Short f.plan 16 → Programmed s k new f (program s k new f)
    powers e (inl h) =
        let runs = le-ltb 0 f.plan.refuse_programs (omega arith) in
        rw (runs, powered_enough f.plan 16 h, or-false) (program-whole e h)
    powers e (inr h) =
        let runs = le-ltb 0 f.plan.refuse_programs (omega arith) in
        rw (runs, charged-short f.plan 16 h, powered-short f.plan 16 h, lt-ltb (units_in f.plan) 16 h.1, or-true) (program-stopped e h)

    go : (b : Bool) → ltb 0 f.plan.refuse_programs ≡ b → Programmed s k new f (program s k new f)
    go true e = rw (e, landed_none, with-slot-same, add-zero, or-false) (program-refused (ltb-true 0 f.plan.refuse_programs e))
    go false e = powers (omega (arith, ltb-false 0 f.plan.refuse_programs e)) (enough_or-short f.plan 16)

-- what is found after all sixteen bytes is new just where the answer is Done
pub done-found : (found new : List ℕ) → pick (same found new) all_done (Err WriteError) ≡ all_done → found ≡ new
done-found found new e = go (same found new) refl e
  where
    go : (b : Bool) → same found new ≡ b → pick b all_done (Err WriteError) ≡ all_done → found ≡ new
    go true h e = same_eq found new h
    go false h e = let z : ◌≡◌ {A = ℕ} 0 1 = cc in absurd (omega arith)

pub found-done : (found new : List ℕ) → found ≡ new → pick (same found new) all_done (Err WriteError) ≡ all_done
found-done found new e = rw (e, same_refl new)

-- over a blank slot sixteen bytes land as they are
pub blank_lands : (new old : List ℕ) → length new ≡ 16 → T (are_bytes new) → old ≡ replicate 16 0xFF → landed 16 new old ≡ new
blank_lands new old size t e =
    ap (landed 16 new) e
    ∙ ap (λ (n : ℕ). landed n new (replicate n 0xFF)) (sym size)
    ∙ landed-new (length new) new t (omega arith)

-- ---- erase
-- what an erase of sector s comes to
pub data Erased (s : ℕ) (f : Flash) : Stepped → Type 0 where
  erase-refused : f.plan.refuse_erase ≡ true → Erased s f (record { answer = Err EraseError; flash = f })
  erase-stopped : f.plan.refuse_erase ≡ false → Short f.plan 4096 → Erased s f (record {
    answer = Err EraseError;
    flash = record {
      image = with_sector s (blanked (units_in f.plan) (sector_at f.image s)) f.image;
      plan = drained f.plan;
      programmed = f.programmed;
      erased = f.erased + units_in f.plan;
      cut = true;
    };
  })
  erase-whole : f.plan.refuse_erase ≡ false → Enough f.plan 4096 → Erased s f (record {
    answer = all_done;
    flash = record {
      image = with_sector s (blanked 4096 (sector_at f.image s)) f.image;
      plan = charged f.plan 4096;
      programmed = f.programmed;
      erased = f.erased + 4096;
      cut = f.cut;
    };
  })

-- the step by what it turns on: whether it is refused, and the bytes that there is power for
abbrev erase_by : ℕ → Flash → Bool → ℕ → Stepped
erase_by s f refused n =
    let m = pick refused 0 n in
    record {
      answer = erase_answer m (blanked m (sector_at f.image s));
      flash = record {
        image = with_sector s (blanked m (sector_at f.image s)) f.image;
        plan = pick refused f.plan (charged f.plan n);
        programmed = f.programmed;
        erased = f.erased + m;
        cut = f.cut || (not refused && ltb n 4096);
      };
    }

pub erase-outcome : (s : ℕ) (f : Flash) → Erased s f (erase s f)
unfolding erase
erase-outcome s f = go f.plan.refuse_erase refl
  where
    all : all_are 0xFF (blanked 4096 (sector_at f.image s)) ≡ true
    all = ap (all_are 0xFF) (blanked-all 4096 (sector_at f.image s) (sector-most f.image s)) ∙ all_replicate 4096 0xFF

    powers : f.plan.refuse_erase ≡ false → Enough f.plan 4096 ⊎ Short f.plan 4096 → Erased s f (erase_by s f false (powered f.plan 4096))
    powers e (inl h) =
        subst (λ (n : ℕ). Erased s f (erase_by s f false n)) (sym (powered_enough f.plan 4096 h)) (rw (all, or-false) (erase-whole e h))
    powers e (inr h) =
        rw (charged-short f.plan 4096 h, powered-short f.plan 4096 h, lt-ltb (units_in f.plan) 4096 h.1, or-true) (erase-stopped e h)

    go : (b : Bool) → f.plan.refuse_erase ≡ b → Erased s f (erase_by s f b (powered f.plan 4096))
    go true e = rw (erased-none, add-zero, or-false) (erase-refused e)
    go false e = powers e (enough_or-short f.plan 4096)

-- ---- the code's calls, one after the other, are the step
pub program-run : (s k : ℕ) (new : List ℕ) (f : Flash) (n : ℕ) (answer : Answer) (image : List ℕ) (plan : Plan)
    → n ≡ to_program f.plan
    → answer ≡ program_answer n new (landed n new (slot_at f.image s k))
    → image ≡ with_slot s k (landed n new (slot_at f.image s k)) f.image
    → plan ≡ after_program f.plan
    → program s k new f
    ≡ record {
      answer = answer;
      flash = record {
        image = image;
        plan = plan;
        programmed = f.programmed + n;
        erased = f.erased;
        cut = f.cut || program_cut f.plan;
      };
    }
unfolding program
program-run s k new f n answer image plan e r i p = rw (r, i, p, e)

pub erase-run : (s : ℕ) (f : Flash) (n : ℕ) (answer : Answer) (image : List ℕ) (plan : Plan)
    → n ≡ to_erase f.plan
    → answer ≡ erase_answer n (blanked n (sector_at f.image s))
    → image ≡ with_sector s (blanked n (sector_at f.image s)) f.image
    → plan ≡ after_erase f.plan
    → erase s f
    ≡ record {
      answer = answer;
      flash = record {
        image = image;
        plan = plan;
        programmed = f.programmed;
        erased = f.erased + n;
        cut = f.cut || erase_cut f.plan;
      };
    }
unfolding erase
erase-run s f n answer image plan e r i p = rw (r, i, p, e)

-- ---- the image: its size and its bytes stay bytes, and no other slot and no other sector changes
module _ (s k : ℕ) (new : List ℕ) (f : Flash) where
  abbrev program_left : List ℕ
  program_left = landed (to_program f.plan) new (slot_at f.image s k)

  pub program-bytes : T (are_bytes f.image) → T (are_bytes (program s k new f).flash.image)
  unfolding program
  program-bytes t =
      with-slot-bytes f.image t program_left (landed-bytes (to_program f.plan) new (slot_at f.image s k) (slot-bytes f.image t s k)) s k

  module _ (n : ℕ) (fits : Fits n f.image) (in_image : s < n) (in-sector : k < 256) where
    program_left-size : length program_left ≡ 16
    program_left-size = landed-length (to_program f.plan) new (slot_at f.image s k) ∙ slot-length n f.image fits s in_image k in-sector

    pub program-fits : Fits n (program s k new f).flash.image
    unfolding program
    program-fits = with-slot-length n f.image fits s in_image k in-sector program_left program_left-size ∙ fits

    pub program-beside : (j : ℕ) → (j ≡ k → ⊥) → slot_at (program s k new f).flash.image s j ≡ slot_at f.image s j
    unfolding program
    program-beside = with-slot-beside n f.image fits s in_image k in-sector program_left program_left-size

    pub program-apart : (x j : ℕ) → (x ≡ s → ⊥) → j < 256 → slot_at (program s k new f).flash.image x j ≡ slot_at f.image x j
    unfolding program
    program-apart = with-slot-apart n f.image fits s in_image k in-sector program_left program_left-size

module _ (s : ℕ) (f : Flash) where
  abbrev erase_left : List ℕ
  erase_left = blanked (to_erase f.plan) (sector_at f.image s)

  pub erase-bytes : T (are_bytes f.image) → T (are_bytes (erase s f).flash.image)
  unfolding erase
  erase-bytes t =
      with-sector-bytes f.image t erase_left (blanked-bytes (to_erase f.plan) (sector_at f.image s) (sector-bytes f.image t s)) s

  module _ (n : ℕ) (fits : Fits n f.image) (in_image : s < n) where
    erase_left-size : length erase_left ≡ 4096
    erase_left-size =
        let size = sector-length n f.image fits s in_image in
        let most : to_erase f.plan ≤ 4096 =
        by_test (λ (m : ℕ). m ≤ 4096) f.plan.refuse_erase 0 (powered f.plan 4096) (λ _. omega arith) (λ _. powered-most f.plan 4096) in
        blanked-length (to_erase f.plan) (sector_at f.image s) (omega arith) ∙ size

    pub erase-fits : Fits n (erase s f).flash.image
    unfolding erase
    erase-fits = with-sector-length n f.image fits s in_image erase_left erase_left-size ∙ fits

    pub erase-apart : (x j : ℕ) → (x ≡ s → ⊥) → j < 256 → slot_at (erase s f).flash.image x j ≡ slot_at f.image x j
    unfolding erase
    erase-apart = with-sector-apart n f.image fits s in_image erase_left erase_left-size

-- ---- power
-- what a step keeps: whether power is limited; where it is, units and counts together; where it is not, nothing is cut
pub record Paid (f g : Flash) : Type 0 where
  pub limited : is_limited g.plan ≡ is_limited f.plan
  pub units : is_limited f.plan ≡ true → units_in g.plan + (g.programmed + g.erased) ≡ units_in f.plan + (f.programmed + f.erased)
  pub uncut : is_limited f.plan ≡ false → g.cut ≡ f.cut

pub program_paid : (s k : ℕ) (new : List ℕ) (f : Flash) → Paid f (program s k new f).flash
program_paid s k new f = go (program-outcome s k new f)
  where
    go : {r : Stepped} → Programmed s k new f r → Paid f r.flash
    go (program-refused h) = record { limited = refl; units = λ _. refl; uncut = λ _. refl }
    go (program-stopped e h) =
        record { limited = sym h.0; units = λ _. omega arith; uncut = λ free. absurd (false≢true (sym free ∙ h.0)) }
    go (program-whole e h) =
        record { limited = charged-limited f.plan 16; units = λ l. omega (arith, h l, charged-units f.plan 16 l); uncut = λ _. refl }

pub erase_paid : (s : ℕ) (f : Flash) → Paid f (erase s f).flash
erase_paid s f = go (erase-outcome s f)
  where
    go : {r : Stepped} → Erased s f r → Paid f r.flash
    go (erase-refused h) = record { limited = refl; units = λ _. refl; uncut = λ _. refl }
    go (erase-stopped e h) =
        record { limited = sym h.0; units = λ _. omega arith; uncut = λ free. absurd (false≢true (sym free ∙ h.0)) }
    go (erase-whole e h) =
        record { limited = charged-limited f.plan 4096; units = λ l. omega (arith, h l, charged-units f.plan 4096 l); uncut = λ _. refl }

-- ---- a flash without power, as a stop leaves it
abbrev pub Dead : Flash → Type 0
Dead f = (is_limited f.plan ≡ true) × (units_in f.plan ≡ 0)

-- a step on it fails, changes no byte and counts nothing, and leaves it without power
pub record Idle (failure : Answer) (f : Flash) (r : Stepped) : Type 0 where
  pub answer : r.answer ≡ failure
  pub image : r.flash.image ≡ f.image
  pub programmed : r.flash.programmed ≡ f.programmed
  pub erased : r.flash.erased ≡ f.erased
  pub dead : Dead r.flash

pub program-dead : (s k : ℕ) (new : List ℕ) (f : Flash) → Dead f → Idle (Err WriteError) f (program s k new f)
program-dead s k new f d = go (program-outcome s k new f)
  where
    go : {r : Stepped} → Programmed s k new f r → Idle (Err WriteError) f r
    go (program-refused h) = record { answer = refl; image = refl; programmed = refl; erased = refl; dead = d }
    go (program-stopped e h) =
        record {
          answer = refl;
          image = rw (d.1, landed_none) (with-slot-same f.image s k);
          programmed = omega arith;
          erased = refl;
          dead = (refl, refl);
        }
    go (program-whole e h) = absurd (omega (arith, h d.0))

pub erase-dead : (s : ℕ) (f : Flash) → Dead f → Idle (Err EraseError) f (erase s f)
erase-dead s f d = go (erase-outcome s f)
  where
    go : {r : Stepped} → Erased s f r → Idle (Err EraseError) f r
    go (erase-refused h) = record { answer = refl; image = refl; programmed = refl; erased = refl; dead = d }
    go (erase-stopped e h) =
        record {
          answer = refl;
          image = rw d.1 (erased-none f.image s);
          programmed = refl;
          erased = omega arith;
          dead = (refl, refl);
        }
    go (erase-whole e h) = absurd (omega (arith, h d.0))

-- a flash that was cut is without power, and stays so
abbrev pub CutIsDead : Flash → Type 0
CutIsDead f = f.cut ≡ true → Dead f

pub program-cut : (s k : ℕ) (new : List ℕ) (f : Flash) → CutIsDead f → CutIsDead (program s k new f).flash
program-cut s k new f d = go (program-outcome s k new f)
  where
    go : {r : Stepped} → Programmed s k new f r → CutIsDead r.flash
    go (program-refused h) = d
    go (program-stopped e h) = λ _. (refl, refl)
    go (program-whole e h) = λ c. absurd (omega (arith, h (d c).0, (d c).1))

pub erase-cut : (s : ℕ) (f : Flash) → CutIsDead f → CutIsDead (erase s f).flash
erase-cut s f d = go (erase-outcome s f)
  where
    go : {r : Stepped} → Erased s f r → CutIsDead r.flash
    go (erase-refused h) = d
    go (erase-stopped e h) = λ _. (refl, refl)
    go (erase-whole e h) = λ c. absurd (omega (arith, h (d c).0, (d c).1))
