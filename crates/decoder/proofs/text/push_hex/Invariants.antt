-- `push_hex` pushes the digits from the highest on. The invariant: the digits above this turn's are pushed, and no more.
-- Assumes nothing.
use Rattle.std.proofs.Common.{◌≡◌, ◌+◌, ◌-◌, ◌*◌, ◌/◌, ◌^◌, ◌++◌}
use Rattle.arrayvec.specs.ArrayString.{array_string_len}
use Rattle.decoder.specs.Text.{hex}
use Rattle.decoder.proofs.text.push_hex.Given as goal

abbrev pub invariant-loop-i : goal.invariant-loop-i
invariant-loop-i g l = record {
  bytes : l.text.bytes ≡ l.initial.text.bytes ++ hex l.i (l.v / 2 ^ (4 * (l.digits - l.i)));
  len : array_string_len l.text ≡ array_string_len l.initial.text + l.i;
}
