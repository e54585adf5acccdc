-- The processor's operations on bits and what the definitions say of them, for bytes: digit by digit for two bytes, and
-- computed over all bytes for one bit of a byte. Assumes nothing.
use Rattle.std.proofs.Common.{◌≡◌, ℕ, zero, suc, ◌+◌, ◌-◌, ◌*◌, ◌/◌, ◌%◌, ◌^◌, ◌<◌, min, max, true, eqb, refl, ◌∙◌, ap₂, pow-suc, arith, eqb-true}
use lib.Bits.{bit_and, bit_or, bit_xor, differ, and_step, or_step, xor_step}
use Rattle.decoder.proofs.Below.{all, below}
use Rattle.alu.specs.Alu.{bitwise, and_of, or_of, xor_of, with_bit}

-- An operation that goes digit by digit, as g does on single bits, is `bitwise g`.
module _ (op g h : ℕ → ℕ → ℕ) (nothing : op 0 0 ≡ 0) (step : (a b : ℕ) → op a b ≡ op (a / 2) (b / 2) * 2 + h (a % 2) (b % 2)) (same : (a b : ℕ) → a < 2 → b < 2 → h a b ≡ g a b) where
  digit_by_digit : (n a b : ℕ) → a < 2 ^ n → b < 2 ^ n → op a b ≡ bitwise g n a b
  digit_by_digit zero a b p q =
      let za : a ≡ 0 = omega arith in
      let zb : b ≡ 0 = omega arith in
      rw (za, zb) nothing
  digit_by_digit (suc n) a b p q =
      let pa : a < 2 ^ n * 2 = rw (← pow-suc 2 n) p in
      let pb : b < 2 ^ n * 2 = rw (← pow-suc 2 n) q in
      step a b
      ∙ ap₂ (λ (x y : ℕ). x * 2 + y) (digit_by_digit n (a / 2) (b / 2) (omega arith) (omega arith)) (same (a % 2) (b % 2) (omega arith) (omega arith))

-- Two operations that agree on all numbers below m and n, by computing.
module _ (h g : ℕ → ℕ → ℕ) where
  pub agree : (m n : ℕ) → all m (λ a. all n (λ b. eqb (h a b) (g a b))) ≡ true → (a b : ℕ) → a < m → b < n → h a b ≡ g a b
  agree m n e a b p q = eqb-true (h a b) (g a b) (below (λ b. eqb (h a b) (g a b)) n (below (λ a. all n (λ b. eqb (h a b) (g a b))) m e a p) b q)

pub and_bytes : (x y : ℕ) → x < 256 → y < 256 → bit_and x y ≡ and_of x y
unfolding and_of
and_bytes x y = digit_by_digit bit_and (λ a b. a * b) min refl and_step (agree min (λ a b. a * b) 2 2 refl) 8 x y

pub or_bytes : (x y : ℕ) → x < 256 → y < 256 → bit_or x y ≡ or_of x y
unfolding or_of
or_bytes x y = digit_by_digit bit_or (λ a b. a + b - a * b) max refl or_step (agree max (λ a b. a + b - a * b) 2 2 refl) 8 x y

pub xor_bytes : (x y : ℕ) → x < 256 → y < 256 → bit_xor x y ≡ xor_of x y
unfolding xor_of
xor_bytes x y = digit_by_digit bit_xor (λ a b. (a + b) % 2) differ refl xor_step (agree differ (λ a b. (a + b) % 2) 2 2 refl) 8 x y

-- One bit of a byte, cleared and set.
pub clear_bit : (x b : ℕ) → x < 256 → b < 8 → bit_and x (255 - 1 * 2 ^ b % 256) ≡ with_bit b 0 x
clear_bit = agree (λ x b. bit_and x (255 - 1 * 2 ^ b % 256)) (λ x b. with_bit b 0 x) 256 8 refl

pub set_bit : (x b : ℕ) → x < 256 → b < 8 → bit_or x (1 * 2 ^ b % 256) ≡ with_bit b 1 x
set_bit = agree (λ x b. bit_or x (1 * 2 ^ b % 256)) (λ x b. with_bit b 1 x) 256 8 refl
