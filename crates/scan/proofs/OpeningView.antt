-- Opening depends on the slots' contents alone, and head is one past the last slot that isn't erased.
use Rattle.std.specs.Prelude.{Option, Some, None, Err}
use Rattle.basics.specs.Answers.{all_done}
use mathlib.Core.Path.{◌≡◌, refl, ap, ap₂, ◌∙◌}
use mathlib.Core.Bool.{Bool, true, false}
use mathlib.Core.List.{List, []}
use mathlib.Core.Logic.{◌⊎◌, inl, inr}
use Prim.Native.Nat.{ℕ, zero, suc, ◌+◌, ◌≤◌, ◌<◌}
use native.Mathlib.Omega.{arith}
use lib.Dec.{eqb}
use lib.ListN.{length}
use borrow.Author.Tests.{eqb-true, eqb-false}
use Rattle.basics.specs.Choice.{pick}
use Rattle.basics.specs.Lists.{all_are}
use Rattle.codec.specs.Slots.{header_of}
use Rattle.flash.specs.Image.{sectors_in, slot_at}
use Rattle.basics.specs.declared.Refusal.TheVariants.{BadImage}
use Rattle.records.specs.declared.State.TheVariants.{Failed}
use Rattle.records.specs.Logs.{log_of}
use Rattle.scan.specs.declared.RegionScan.{RegionScan}
use Rattle.scan.specs.declared.Opened.{Opened}
use Rattle.scan.specs.Choosing.{better, best_from, header_at, chosen_of}
use Rattle.scan.specs.Reading.{Read, with_slot, read_from, head_from, head_in}
use Rattle.scan.specs.Opening.{region_read, region_chosen, scan_of, log_from, open_of}
use Rattle.scan.proofs.ChoosingWinner.{Right, chosen_right}

-- ---- equal contents, equal answers
pub best_same : (G H : ℕ → Option ℕ) (n s : ℕ) (b : Option (ℕ × ℕ)) → ((x : ℕ) → s ≤ x → x < s + n → G x ≡ H x) → best_from n s G b ≡ best_from n s H b
unfolding best_from
best_same G H zero s b e = refl
best_same G H (suc n) s b e =
    ap (λ (h : Option ℕ). best_from n (suc s) G (better b s h)) (e s (omega arith) (omega arith))
    ∙ best_same G H n (suc s) (better b s (H s)) (λ x l u. e x (omega arith) (omega arith))

pub read_same : (S T : ℕ → List ℕ) (seq n k : ℕ) (r : Read) → ((x : ℕ) → k ≤ x → x < k + n → S x ≡ T x) → read_from n k seq S r ≡ read_from n k seq T r
unfolding read_from
read_same S T seq zero k r e = refl
read_same S T seq (suc n) k r e =
    ap (λ (slot : List ℕ). read_from n (suc k) seq S (with_slot seq slot r)) (e k (omega arith) (omega arith))
    ∙ read_same S T seq n (suc k) (with_slot seq (T k) r) (λ x l u. e x (omega arith) (omega arith))

pub head-same : (S T : ℕ → List ℕ) (n k head : ℕ) → ((x : ℕ) → k ≤ x → x < k + n → S x ≡ T x) → head_from n k S head ≡ head_from n k T head
unfolding head_from
head-same S T zero k head e = refl
head-same S T (suc n) k head e =
    ap (λ (slot : List ℕ). head_from n (suc k) S (pick (all_are 0xFF slot) head (suc k))) (e k (omega arith) (omega arith))
    ∙ head-same S T n (suc k) (pick (all_are 0xFF (T k)) head (suc k)) (λ x l u. e x (omega arith) (omega arith))

module _ (a b : List ℕ) (long : length a ≡ length b) (alike : (s k : ℕ) → s < sectors_in (length a) → k < 256 → slot_at a s k ≡ slot_at b s k) where
  n : ℕ
  n = sectors_in (length a)

  region_same : (version : ℕ) (c : Option (ℕ × ℕ)) → Right (header_at version a) n c → region_chosen a c ≡ region_chosen b c
  unfolding n
  region_same version None w = refl
  region_same version (Some (s, seq)) w =
      ap₂ (region_read s seq)
      (head-same (slot_at a s) (slot_at b s) 255 1 1 (λ x l u. alike s x w.within (omega arith)))
      (read_same (slot_at a s) (slot_at b s) seq 255 1 _ (λ x l u. alike s x w.within (omega arith)))

  pub scan_same : (version : ℕ) → scan_of version a ≡ scan_of version b
  unfolding scan_of n
  scan_same version =
      region_same version (chosen_of version n a) (chosen_right (header_at version a) n)
      ∙ ap (region_chosen b)
      (best_same (header_at version a) (header_at version b) n 0 None (λ x l u. ap (header_of version) (alike x 0 (omega arith) (omega arith)))
      ∙ ap (λ (m : ℕ). chosen_of version m b) (ap sectors_in long))

  -- two images of one size whose slots are the same open to the same
  pub open_same : open_of a ≡ open_of b
  unfolding open_of
  open_same =
      ap₂
      (λ (m : ℕ) (r : RegionScan).
      pick {A = Opened} (eqb m 0) (record { answer = Err BadImage; log = log_of Failed 1 [] })
      (record { answer = all_done; log = log_from r }))
      (ap sectors_in long) (scan_same 2)

-- ---- head
-- everything from head on is erased, and what lies just below it isn't, unless head is 1
pub record Heads (slots : ℕ → List ℕ) (past head : ℕ) : Type 0 where
  pub low : 1 ≤ head
  pub high : head ≤ past
  pub behind : (k : ℕ) → head ≤ k → k < past → all_are 0xFF (slots k) ≡ true
  pub below : (head ≡ 1) ⊎ ((k : ℕ) × (head ≡ suc k) × (all_are 0xFF (slots k) ≡ false))

head_step : (slots : ℕ → List ℕ) (k head : ℕ) → Heads slots k head → 1 ≤ k → (b : Bool) → all_are 0xFF (slots k) ≡ b
    → Heads slots (suc k) (pick b head (suc k))
head_step slots k head h low true e = record {
  low = h.low;
  high = omega (arith, h.high);
  below = h.below;
  behind = λ x l u. go x l (eqb x k) refl u;
}
  where
    go : (x : ℕ) → head ≤ x → (b : Bool) → eqb x k ≡ b → x < suc k → all_are 0xFF (slots x) ≡ true
    go x l true z u = rw (eqb-true x k z) e
    go x l false z u = let apart = eqb-false x k z in h.behind x l (omega arith)
head_step slots k head h low false e = record {
  low = omega arith;
  high = omega arith;
  below = inr (k, refl, e);
  behind = λ x l u. absurd (omega arith);
}

heads_from : (slots : ℕ → List ℕ) (n k head : ℕ) → Heads slots k head → 1 ≤ k → Heads slots (k + n) (head_from n k slots head)
unfolding head_from
heads_from slots zero k head h low = let none : k + 0 ≡ k = omega arith in rw none h
heads_from slots (suc n) k head h low =
    let on : k + suc n ≡ suc k + n = omega arith in
    rw on
    (heads_from slots n (suc k) (pick (all_are 0xFF (slots k)) head (suc k)) (head_step slots k head h low (all_are 0xFF (slots k)) refl)
    (omega arith))

pub head_right : (slots : ℕ → List ℕ) → Heads slots 256 (head_in slots)
head_right slots =
    heads_from slots 255 1 1 (record { low = omega arith; high = omega arith; behind = λ k l u. absurd (omega arith); below = inl refl })
    (omega arith)
