-- Laws of decimal text: it reads back as the number, how long it can be, and how all but its last digit is the text of its tenth part.
use mathlib.Core.Path.{◌≡◌, refl, sym, ap, ◌∙◌}
use mathlib.Core.List.{List, [], ◌∷◌, ◌++◌, append_assoc}
use Prim.Native.Nat.{ℕ, zero, suc, ◌+◌, ◌/◌, ◌%◌, ◌^◌, ◌≤◌, ◌<◌}
use native.Mathlib.Nat.{pow-suc}
use native.Mathlib.Omega.{arith}
use lib.Dec.{ltb}
use lib.ListN.{length}
use borrow.Author.Tests.{lt-ltb, le-ltb, ltb-true, ltb-false}
use Rattle.basics.proofs.ChoiceLaws.{by_test}
use Rattle.basics.specs.Choice.{pick}
use Rattle.text.specs.Text.{digits, decimal, value_from, value_of, Puts}
use Rattle.text.proofs.TextPutting.{Begun, put-none}

-- ---- the two cases
digits_last : (n x : ℕ) (more : List ℕ) → x < 10 → digits (suc n) x more ≡ (48 + x) ∷ more
unfolding digits
digits_last n x more h = rw (lt-ltb x 10 h)

digits_more : (n x : ℕ) (more : List ℕ) → 10 ≤ x → digits (suc n) x more ≡ digits n (x / 10) ((48 + x % 10) ∷ more)
unfolding digits
digits_more n x more h = rw (le-ltb x 10 h)

-- ---- reading
digits-read : (n x : ℕ) (more : List ℕ) → x < 10 ^ n → value_from 0 (digits n x more) ≡ value_from x more
unfolding digits value_from
digits-read zero x more h = let e : x ≡ 0 = omega arith in rw e
digits-read (suc n) x more h =
    by_test (λ (l : List ℕ). value_from 0 l ≡ value_from x more) (ltb x 10) ((48 + x) ∷ more) (digits n (x / 10) ((48 + x % 10) ∷ more))
    (λ e. ap (λ (v : ℕ). value_from v more) (omega arith))
    (λ e. digits-read n (x / 10) ((48 + x % 10) ∷ more) (omega (arith, pow-suc 10 n)) ∙ ap (λ (v : ℕ). value_from v more) (omega arith))

-- the text of a number reads back as that number
pub decimal-read : (x : ℕ) → x < 2 ^ 64 → value_of (decimal x) ≡ x
unfolding decimal value_from
decimal-read x h = digits-read 20 x [] (omega arith)

-- ---- length
digits-short : (n k x : ℕ) (more : List ℕ) → x < 10 ^ suc k → length (digits n x more) ≤ suc k + length more
unfolding digits
digits-short zero k x more h = omega arith
digits-short (suc n) zero x more h = rw (lt-ltb x 10 h) (omega arith)
digits-short (suc n) (suc k) x more h =
    by_test (λ (l : List ℕ). length l ≤ suc (suc k) + length more) (ltb x 10) ((48 + x) ∷ more) (digits n (x / 10) ((48 + x % 10) ∷ more))
    (λ e. omega arith)
    (λ e. omega (arith, digits-short n k (x / 10) ((48 + x % 10) ∷ more) (omega (arith, pow-suc 10 (suc k)))))

-- a number below 10 ^ k has at most k digits
pub decimal-short : (k x : ℕ) → 0 < k → x < 10 ^ k → length (decimal x) ≤ k
unfolding decimal
decimal-short zero x p h = absurd (omega arith)
decimal-short (suc k) x p h = omega (arith, digits-short 20 k x [] h)

-- ---- writing, the tenth part before the last digit
digits-append : (n x : ℕ) (more : List ℕ) → digits n x more ≡ digits n x [] ++ more
unfolding digits
digits-append zero x more = refl
digits-append (suc n) x more =
    let last : List ℕ = (48 + x % 10) ∷ [] in
    by_test (λ (l : List ℕ). l ≡ digits (suc n) x [] ++ more) (ltb x 10) ((48 + x) ∷ more) (digits n (x / 10) ((48 + x % 10) ∷ more))
    (λ e. sym (ap (λ (l : List ℕ). l ++ more) (digits_last n x [] (ltb-true x 10 e))))
    (λ e.
    digits-append n (x / 10) (last ++ more)
    ∙ sym (append_assoc (digits n (x / 10) []) last more)
    ∙ sym (ap (λ (l : List ℕ). l ++ more) (digits_more n x [] (ltb-false x 10 e) ∙ digits-append n (x / 10) last)))

-- one digit more than it takes changes nothing
digits-spare : (n x : ℕ) (more : List ℕ) → x < 10 ^ suc n → digits (suc n) x more ≡ digits (suc (suc n)) x more
unfolding digits
digits-spare zero x more h = digits_last 0 x more (omega arith) ∙ sym (digits_last 1 x more (omega arith))
digits-spare (suc n) x more h =
    ap (λ (l : List ℕ). pick (ltb x 10) ((48 + x) ∷ more) l) (digits-spare n (x / 10) ((48 + x % 10) ∷ more) (omega (arith, pow-suc 10 (suc n))))

pub decimal-more : (x : ℕ) → 10 ≤ x → x < 2 ^ 64 → decimal x ≡ decimal (x / 10) ++ ((48 + x % 10) ∷ [])
unfolding decimal
decimal-more x h k =
    let last : List ℕ = (48 + x % 10) ∷ [] in
    digits_more 19 x [] h
    ∙ digits-append 19 (x / 10) last
    ∙ ap (λ (l : List ℕ). l ++ last) (digits-spare 18 (x / 10) [] (omega arith))

-- all but the last digit stands, where there are no more, and where the tenth part was put
module _ (before : List ℕ) (at x : ℕ) where
  pub begun_short : x < 10 → Begun before at (decimal x) ((48 + x % 10) ∷ []) before at
  unfolding decimal
  begun_short h =
      let one : x % 10 ≡ x = omega arith in
      record { done = []; stands = put-none before at; lacks = rw one (sym (digits_last 19 x [] h)) }

  pub begun_long : {after : List ℕ} {r : ℕ} → 10 ≤ x → x < 2 ^ 64 → Puts before at (decimal (x / 10)) after r
      → Begun before at (decimal x) ((48 + x % 10) ∷ []) after r
  begun_long h k p = record { done = decimal (x / 10); stands = p; lacks = sym (decimal-more x h k) }
