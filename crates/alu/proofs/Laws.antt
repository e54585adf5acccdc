-- What the layers above may cite of the arithmetic. Assumes nothing.
use Rattle.std.proofs.Common.{◌≡◌, ℕ, ◌+◌, ◌*◌, ◌/◌, ◌%◌, ◌<◌, ◌≤◌, refl, arith}
use Rattle.alu.specs.Alu.{with_bit}
use Rattle.alu.proofs.Bytes.{agree}

-- A place in a byte is one of eight.
pub place_in_byte : {b : ℕ} → b ≤ 7 → b % 8 ≡ b
place_in_byte h = omega arith

-- STATUS with another C, and INTCON with bit 7 set.
pub lowest_bit : (x v : ℕ) → with_bit 0 x v ≡ v / 2 * 2 + x
lowest_bit x v = omega arith

pub highest_bit : (v : ℕ) → v < 256 → with_bit 7 1 v ≡ 128 + v % 128
highest_bit v h = omega arith

-- STATUS with TO set and another PD.
pub watch_bits : (v pd : ℕ) → v < 256 → pd < 2 → with_bit 4 1 (with_bit 3 pd v) ≡ v / 32 * 32 + 16 + pd * 8 + v % 8
watch_bits = agree (λ v pd. with_bit 4 1 (with_bit 3 pd v)) (λ v pd. v / 32 * 32 + 16 + pd * 8 + v % 8) 256 2 refl
