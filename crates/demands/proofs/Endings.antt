-- How a program of a blank slot and an erase end: refused, done whole, or stopped for want of a unit; after a stop nothing changes any more.
use mathlib.Core.Path.{◌≡◌, refl, sym, ap, ◌∙◌}
use mathlib.Core.Bool.{true, false, false≢true}
use mathlib.Core.List.{List}
use Prim.Native.Nat.{ℕ, ◌+◌, ◌<◌}
use native.Mathlib.Omega.{arith}
use lib.Dec.{T}
use lib.ListN.{length, replicate}
use lib.Pow.{are_bytes}
use Rattle.basics.specs.Answers.{is_done, Answer}
use Rattle.flash.specs.Image.{slot_at, sector_at, with_slot, with_sector}
use Rattle.flash.specs.Power.{units_in}
use Rattle.flash.specs.Run.{Flash, Stepped, blanked, program, erase}
use Rattle.flash.proofs.PowerLaws.{Short, charged-limited}
use Rattle.flash.proofs.RunLaws.{Programmed, program-refused, program-stopped, program-whole, program-outcome, blank_lands, found-done}
use Rattle.flash.proofs.RunLaws.{Erased, erase-refused, erase-stopped, erase-whole, erase-outcome, Dead, program-dead, erase-dead}
use Rattle.demands.specs.Chance.{cut_at}
use Rattle.demands.specs.Healthy.{Healthy}
use Rattle.demands.proofs.Torn.{landed-cut}

abbrev pub Fails : Answer → Type 0
Fails a = is_done a ≡ false

-- it stopped for want of a unit, and has none left
pub record Cut (f : Flash) : Type 0 where
  pub marked : f.cut ≡ true
  pub dead : Dead f

-- so many bytes more were programmed and erased
pub record Used (p e : ℕ) (f g : Flash) : Type 0 where
  pub programmed : g.programmed ≡ f.programmed + p
  pub erased : g.erased ≡ f.erased + e

-- a flash that is short of power refuses something
short_ill : (f : Flash) (n : ℕ) → Short f.plan n → Healthy f → ⊥
short_ill f n h w = false≢true (sym w.endless ∙ h.0)

-- ---- a blank slot is programmed
pub data Ran (s k : ℕ) (new : List ℕ) (f : Flash) (o : Stepped) : Type 0 where
  refused : (Healthy f → ⊥) → Fails o.answer → o.flash.cut ≡ false → o.flash.image ≡ f.image → Ran s k new f o
  done : (Healthy f → Healthy o.flash) → is_done o.answer ≡ true → o.flash.cut ≡ false
      → o.flash.image ≡ with_slot s k new f.image → Used 16 0 f o.flash → Ran s k new f o
  stopped : (Healthy f → ⊥) → Fails o.answer → Cut o.flash → (j : ℕ) → j < 16
      → o.flash.image ≡ with_slot s k (cut_at j new) f.image → Ran s k new f o

module _ (s k : ℕ) (new : List ℕ) (f : Flash) where
  pub program_ran : f.cut ≡ false → slot_at f.image s k ≡ replicate 16 0xFF → length new ≡ 16 → T (are_bytes new)
      → Ran s k new f (program s k new f)
  program_ran on blank size bytes = go (program-outcome s k new f)
    where
      go : {o : Stepped} → Programmed s k new f o → Ran s k new f o
      go (program-refused h) = refused (λ w. omega (arith, w.willing)) refl on refl
      go (program-stopped e h) =
          stopped (short_ill f 16 h) refl (record { marked = refl; dead = (refl, refl) }) (units_in f.plan) h.1
          (ap (λ (l : List ℕ). with_slot s k l f.image) (landed-cut (units_in f.plan) new (slot_at f.image s k) size bytes blank))
      go (program-whole e h) =
          let whole = blank_lands new (slot_at f.image s k) size bytes blank in
          done (λ w. record { endless = charged-limited f.plan 16 ∙ w.endless; erasing = w.erasing; willing = w.willing })
          (ap is_done (found-done _ new whole)) on (ap (λ (l : List ℕ). with_slot s k l f.image) whole)
          (record { programmed = refl; erased = omega arith })

-- ---- a sector is erased
pub data Wiped (s : ℕ) (f : Flash) (o : Stepped) : Type 0 where
  refused : (Healthy f → ⊥) → Fails o.answer → o.flash.cut ≡ false → o.flash.image ≡ f.image → Wiped s f o
  done : (Healthy f → Healthy o.flash) → is_done o.answer ≡ true → o.flash.cut ≡ false
      → o.flash.image ≡ with_sector s (blanked 4096 (sector_at f.image s)) f.image → Used 0 4096 f o.flash → Wiped s f o
  stopped : (Healthy f → ⊥) → Fails o.answer → Cut o.flash → (j : ℕ) → j < 4096
      → o.flash.image ≡ with_sector s (blanked j (sector_at f.image s)) f.image → Wiped s f o

pub erase-wiped : (s : ℕ) (f : Flash) → f.cut ≡ false → Wiped s f (erase s f)
erase-wiped s f on = go (erase-outcome s f)
  where
    go : {o : Stepped} → Erased s f o → Wiped s f o
    go (erase-refused h) = refused (λ w. false≢true (sym w.erasing ∙ h)) refl on refl
    go (erase-stopped e h) = stopped (short_ill f 4096 h) refl (record { marked = refl; dead = (refl, refl) }) (units_in f.plan) h.1 refl
    go (erase-whole e h) =
        done (λ w. record { endless = charged-limited f.plan 4096 ∙ w.endless; erasing = w.erasing; willing = w.willing }) refl on refl
        (record { programmed = omega arith; erased = refl })

-- ---- after a stop
-- an answer that fails, the image as it was, and still no power
pub record Still (f : Flash) (answer : Answer) (g : Flash) : Type 0 where
  pub fails : Fails answer
  pub same : g.image ≡ f.image
  pub cut : Cut g

module _ (f : Flash) (c : Cut f) where
  pub program_still : (s k : ℕ) (new : List ℕ) → Still f (program s k new f).answer (program s k new f).flash
  program_still s k new =
      let i = program-dead s k new f c.dead in
      record { fails = ap is_done i.answer; same = i.image; cut = record { marked = go (program-outcome s k new f); dead = i.dead } }
    where
      go : {o : Stepped} → Programmed s k new f o → o.flash.cut ≡ true
      go (program-refused h) = c.marked
      go (program-stopped e h) = refl
      go (program-whole e h) = c.marked

  pub erase_still : (s : ℕ) → Still f (erase s f).answer (erase s f).flash
  erase_still s =
      let i = erase-dead s f c.dead in
      record { fails = ap is_done i.answer; same = i.image; cut = record { marked = go (erase-outcome s f); dead = i.dead } }
    where
      go : {o : Stepped} → Erased s f o → o.flash.cut ≡ true
      go (erase-refused h) = c.marked
      go (erase-stopped e h) = refl
      go (erase-whole e h) = c.marked

pub still_on : (f g h : Flash) (a b : Answer) → Still f a g → Still g b h → Still f b h
still_on f g h a b x y = record { fails = y.fails; same = y.same ∙ x.same; cut = y.cut }
