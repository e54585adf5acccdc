-- What the operations make of bytes, and the flags beside it: document 01, "One instruction". Bits are counted from 0,
-- the lowest. Assumes nothing.
use Rattle.std.specs.Prelude.{ℕ, zero, suc, ◌+◌, ◌-◌, ◌*◌, ◌/◌, ◌%◌, ◌^◌, Bool, true, false, ◌==◌, nat_le}

abbrev pub to_bit : Bool → ℕ
to_bit true = 1
to_bit false = 0

-- Bit b of v.
abbrev pub bit_of : ℕ → ℕ → ℕ
bit_of b v = v / 2 ^ b % 2

-- v with x as its bit b: the bits above, x, the bits below.
abbrev pub with_bit : ℕ → ℕ → ℕ → ℕ
with_bit b x v = v / 2 ^ suc b * 2 ^ suc b + x * 2 ^ b + v % 2 ^ b

-- An operation on each of the n lowest bits of two numbers.
abbrev pub bitwise : (ℕ → ℕ → ℕ) → ℕ → ℕ → ℕ → ℕ
bitwise g zero x y = 0
bitwise g (suc n) x y = bitwise g n (x / 2) (y / 2) * 2 + g (x % 2) (y % 2)

-- 1 where both are 1; where one is; where just one is.
unfoldable pub and_of : ℕ → ℕ → ℕ
and_of = bitwise (λ a b. a * b) 8

unfoldable pub or_of : ℕ → ℕ → ℕ
or_of = bitwise (λ a b. a + b - a * b) 8

unfoldable pub xor_of : ℕ → ℕ → ℕ
xor_of = bitwise (λ a b. (a + b) % 2) 8

-- The flags that an operation affects, with what they become: none, Z alone, C alone, or Z, DC and C.
pub data Flags : Type 0 where
  none : Flags
  only_z : ℕ → Flags
  only_c : ℕ → Flags
  all : ℕ → ℕ → ℕ → Flags

-- What an operation gives: a byte and the flags.
pub record Result : Type 0 where
  pub value : ℕ
  pub flags : Flags

-- "Z is 1 for result 0."
abbrev pub is_zero : ℕ → ℕ
is_zero v = to_bit (v == 0)

abbrev pub plain : ℕ → Result
plain v = record { value = v; flags = none }

abbrev pub zeroed : ℕ → Result
zeroed v = record { value = v; flags = only_z (is_zero v) }

abbrev pub carried : ℕ → ℕ → Result
carried v c = record { value = v; flags = only_c c }

abbrev pub summed : ℕ → ℕ → ℕ → Result
summed v dc c = record { value = v; flags = all (is_zero v) dc c }

-- "After addition C and DC are the carries out of bits 7 and 3."
abbrev pub added : ℕ → ℕ → Result
added x w = summed ((x + w) % 256) ((x % 16 + w % 16) / 16) ((x + w) / 256)

-- "After subtraction (f or k, minus W) C and DC are 1 exactly when that byte, or that low nibble, needed no borrow."
abbrev pub no_borrow : ℕ → ℕ → ℕ
no_borrow x w = to_bit (nat_le w x)

abbrev pub subtracted : ℕ → ℕ → Result
subtracted x w = summed ((x + 256 - w) % 256) (no_borrow (x % 16) (w % 16)) (no_borrow x w)

abbrev pub plus_one : ℕ → ℕ
plus_one v = (v + 1) % 256

abbrev pub less_one : ℕ → ℕ
less_one v = (v + 255) % 256

-- Every bit the other way.
abbrev pub complemented : ℕ → ℕ
complemented v = 255 - v

-- The nibbles exchanged.
abbrev pub swapped : ℕ → ℕ
swapped v = v % 16 * 16 + v / 16

-- Through C, to the left and to the right: C comes in at one end and takes what leaves at the other.
abbrev pub rotated_left : ℕ → ℕ → Result
rotated_left c v = carried (v % 128 * 2 + c) (v / 128)

abbrev pub rotated_right : ℕ → ℕ → Result
rotated_right c v = carried (c * 128 + v / 2) (v % 2)
