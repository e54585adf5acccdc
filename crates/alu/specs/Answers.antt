-- The promises of the arithmetic's calls. A sum, a difference or a turned byte is read as the definitions' result, and
-- what `bit` and `is_zero` give by `to_bit`; the other calls give a number, and promise an equation with a definition as
-- it stands. Assumes nothing.
use Rattle.std.specs.Prelude.{◌≡◌, ℕ, ◌%◌}
use Rattle.alu.specs.declared.operations.Sum.{Sum}
use Rattle.alu.specs.declared.operations.Turned.{Turned}
use Rattle.alu.specs.Alu.{Result, to_bit, summed, carried, added, subtracted, rotated_left, rotated_right}

abbrev pub result_of : Sum → Result
result_of r = summed r.value (to_bit r.digit) (to_bit r.carry)

abbrev pub Adds : ℕ → ℕ → Sum → Type 0
Adds x w r = result_of r ≡ added x w

abbrev pub Subtracts : ℕ → ℕ → Sum → Type 0
Subtracts x w r = result_of r ≡ subtracted x w

abbrev pub turn_of : Turned → Result
turn_of r = carried r.value (to_bit r.carry)

-- C is the lowest bit of STATUS.
abbrev pub TurnsLeft : ℕ → ℕ → Turned → Type 0
TurnsLeft x status r = turn_of r ≡ rotated_left (status % 2) x

abbrev pub TurnsRight : ℕ → ℕ → Turned → Type 0
TurnsRight x status r = turn_of r ≡ rotated_right (status % 2) x
