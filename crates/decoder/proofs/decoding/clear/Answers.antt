-- `clear` tells CLRW from CLRF. Assumes nothing.
use Rattle.std.proofs.Common.{◌≡◌, ◌/◌, ◌^◌, arith}
use Rattle.decoder.specs.Table.{rows}
use Rattle.decoder.proofs.Rows.{fixed_at, decode_at, own_fields}
use Rattle.decoder.proofs.decoding.clear.Goals as goal

pub returns-then-word-lt384 : goal.returns-then-word-lt384
unfolding rows fixed_at
returns-then-word-lt384 c =
    let w = c.args.word in
    let e : w / 2 ^ 7 ≡ 0b00_0001_0 = omega arith in
    decode_at 0b00_0001_0 7 e (own_fields w)

pub returns-else-word-lt384 : goal.returns-else-word-lt384
unfolding rows fixed_at
returns-else-word-lt384 c =
    let w = c.args.word in
    let e : w / 2 ^ 7 ≡ 0b00_0001_1 = omega arith in
    rw c.requires.1 (decode_at 0b00_0001_1 7 e (own_fields w))
