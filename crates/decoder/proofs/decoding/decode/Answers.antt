-- `decode` reads Table 29-1. An arm knows the word's upper six bits; `decode_at` then says which row fits.
-- Assumes nothing.
use Rattle.std.proofs.Common.{◌≡◌, ◌/◌, ◌^◌, ◌≤◌, arith}
use Rattle.decoder.specs.Table.{rows}
use Rattle.decoder.proofs.Rows.{Fields, decode_at, fixed_at}
use Rattle.decoder.proofs.Below.{Refuted}
use Rattle.decoder.proofs.Undefined.{tops, no_top_row}
use Rattle.decoder.proofs.decoding.decode.Goals as goal
use Rattle.decoder.proofs.decoding.decode.Goals.{After-address_of-a}

-- what was read off the word before the first test
fields : (c : After-address_of-a) → Fields c.args.word c.file_of-f.result c.dest_of-d.result c.bit_of-b.result c.literal_of-k.result c.address_of-a.result
fields c = record {
  is_f = c.file_of-f.ensures;
  is_d = c.dest_of-d.ensures;
  is_b = c.bit_of-b.ensures;
  is_k8 = c.literal_of-k.ensures;
  is_k11 = c.address_of-a.ensures;
}

-- no row
pub returns-in_default : goal.returns-in_default
returns-in_default c =
    let least : 2 ≤ c.args.word / 2 ^ 8 = omega arith in
    let none : Refuted (c.args.word / 256) tops = assumption in
    no_top_row c.args.word least none

pub returns-in-2 : goal.returns-in-2
unfolding rows fixed_at
returns-in-2 c = decode_at 2 8 c.in-2.is (fields (goal.at.returns-in-2 c).After-address_of-a)

pub returns-in-3 : goal.returns-in-3
unfolding rows fixed_at
returns-in-3 c = decode_at 3 8 c.in-3.is (fields (goal.at.returns-in-3 c).After-address_of-a)

pub returns-in-4 : goal.returns-in-4
unfolding rows fixed_at
returns-in-4 c = decode_at 4 8 c.in-4.is (fields (goal.at.returns-in-4 c).After-address_of-a)

pub returns-in-5 : goal.returns-in-5
unfolding rows fixed_at
returns-in-5 c = decode_at 5 8 c.in-5.is (fields (goal.at.returns-in-5 c).After-address_of-a)

pub returns-in-6 : goal.returns-in-6
unfolding rows fixed_at
returns-in-6 c = decode_at 6 8 c.in-6.is (fields (goal.at.returns-in-6 c).After-address_of-a)

pub returns-in-7 : goal.returns-in-7
unfolding rows fixed_at
returns-in-7 c = decode_at 7 8 c.in-7.is (fields (goal.at.returns-in-7 c).After-address_of-a)

pub returns-in-8 : goal.returns-in-8
unfolding rows fixed_at
returns-in-8 c = decode_at 8 8 c.in-8.is (fields (goal.at.returns-in-8 c).After-address_of-a)

pub returns-in-9 : goal.returns-in-9
unfolding rows fixed_at
returns-in-9 c = decode_at 9 8 c.in-9.is (fields (goal.at.returns-in-9 c).After-address_of-a)

pub returns-in-10 : goal.returns-in-10
unfolding rows fixed_at
returns-in-10 c = decode_at 10 8 c.in-10.is (fields (goal.at.returns-in-10 c).After-address_of-a)

pub returns-in-11 : goal.returns-in-11
unfolding rows fixed_at
returns-in-11 c = decode_at 11 8 c.in-11.is (fields (goal.at.returns-in-11 c).After-address_of-a)

pub returns-in-12 : goal.returns-in-12
unfolding rows fixed_at
returns-in-12 c = decode_at 12 8 c.in-12.is (fields (goal.at.returns-in-12 c).After-address_of-a)

pub returns-in-13 : goal.returns-in-13
unfolding rows fixed_at
returns-in-13 c = decode_at 13 8 c.in-13.is (fields (goal.at.returns-in-13 c).After-address_of-a)

pub returns-in-14 : goal.returns-in-14
unfolding rows fixed_at
returns-in-14 c = decode_at 14 8 c.in-14.is (fields (goal.at.returns-in-14 c).After-address_of-a)

pub returns-in-15 : goal.returns-in-15
unfolding rows fixed_at
returns-in-15 c = decode_at 15 8 c.in-15.is (fields (goal.at.returns-in-15 c).After-address_of-a)

pub returns-in-16 : goal.returns-in-16
unfolding rows fixed_at
returns-in-16 c = decode_at 16 8 c.in-16.is (fields (goal.at.returns-in-16 c).After-address_of-a)

pub returns-in-17 : goal.returns-in-17
unfolding rows fixed_at
returns-in-17 c = decode_at 17 8 c.in-17.is (fields (goal.at.returns-in-17 c).After-address_of-a)

pub returns-in-18 : goal.returns-in-18
unfolding rows fixed_at
returns-in-18 c = decode_at 18 8 c.in-18.is (fields (goal.at.returns-in-18 c).After-address_of-a)

pub returns-in-19 : goal.returns-in-19
unfolding rows fixed_at
returns-in-19 c = decode_at 19 8 c.in-19.is (fields (goal.at.returns-in-19 c).After-address_of-a)

pub returns-in-20 : goal.returns-in-20
unfolding rows fixed_at
returns-in-20 c = decode_at 20 8 c.in-20.is (fields (goal.at.returns-in-20 c).After-address_of-a)

pub returns-in-21 : goal.returns-in-21
unfolding rows fixed_at
returns-in-21 c = decode_at 21 8 c.in-21.is (fields (goal.at.returns-in-21 c).After-address_of-a)

pub returns-in-22 : goal.returns-in-22
unfolding rows fixed_at
returns-in-22 c = decode_at 22 8 c.in-22.is (fields (goal.at.returns-in-22 c).After-address_of-a)

pub returns-in-23 : goal.returns-in-23
unfolding rows fixed_at
returns-in-23 c = decode_at 23 8 c.in-23.is (fields (goal.at.returns-in-23 c).After-address_of-a)

pub returns-in-24 : goal.returns-in-24
unfolding rows fixed_at
returns-in-24 c = decode_at 24 8 c.in-24.is (fields (goal.at.returns-in-24 c).After-address_of-a)

pub returns-in-25 : goal.returns-in-25
unfolding rows fixed_at
returns-in-25 c = decode_at 25 8 c.in-25.is (fields (goal.at.returns-in-25 c).After-address_of-a)

pub returns-in-26 : goal.returns-in-26
unfolding rows fixed_at
returns-in-26 c = decode_at 26 8 c.in-26.is (fields (goal.at.returns-in-26 c).After-address_of-a)

pub returns-in-27 : goal.returns-in-27
unfolding rows fixed_at
returns-in-27 c = decode_at 27 8 c.in-27.is (fields (goal.at.returns-in-27 c).After-address_of-a)

pub returns-in-28 : goal.returns-in-28
unfolding rows fixed_at
returns-in-28 c = decode_at 28 8 c.in-28.is (fields (goal.at.returns-in-28 c).After-address_of-a)

pub returns-in-29 : goal.returns-in-29
unfolding rows fixed_at
returns-in-29 c = decode_at 29 8 c.in-29.is (fields (goal.at.returns-in-29 c).After-address_of-a)

pub returns-in-30 : goal.returns-in-30
unfolding rows fixed_at
returns-in-30 c = decode_at 30 8 c.in-30.is (fields (goal.at.returns-in-30 c).After-address_of-a)

pub returns-in-31 : goal.returns-in-31
unfolding rows fixed_at
returns-in-31 c = decode_at 31 8 c.in-31.is (fields (goal.at.returns-in-31 c).After-address_of-a)

pub returns-in-32 : goal.returns-in-32
unfolding rows fixed_at
returns-in-32 c = decode_at 32 8 c.in-32.is (fields (goal.at.returns-in-32 c).After-address_of-a)

pub returns-in-33 : goal.returns-in-33
unfolding rows fixed_at
returns-in-33 c = decode_at 33 8 c.in-33.is (fields (goal.at.returns-in-33 c).After-address_of-a)

pub returns-in-34 : goal.returns-in-34
unfolding rows fixed_at
returns-in-34 c = decode_at 34 8 c.in-34.is (fields (goal.at.returns-in-34 c).After-address_of-a)

pub returns-in-35 : goal.returns-in-35
unfolding rows fixed_at
returns-in-35 c = decode_at 35 8 c.in-35.is (fields (goal.at.returns-in-35 c).After-address_of-a)

pub returns-in-36 : goal.returns-in-36
unfolding rows fixed_at
returns-in-36 c = decode_at 36 8 c.in-36.is (fields (goal.at.returns-in-36 c).After-address_of-a)

pub returns-in-37 : goal.returns-in-37
unfolding rows fixed_at
returns-in-37 c = decode_at 37 8 c.in-37.is (fields (goal.at.returns-in-37 c).After-address_of-a)

pub returns-in-38 : goal.returns-in-38
unfolding rows fixed_at
returns-in-38 c = decode_at 38 8 c.in-38.is (fields (goal.at.returns-in-38 c).After-address_of-a)

pub returns-in-39 : goal.returns-in-39
unfolding rows fixed_at
returns-in-39 c = decode_at 39 8 c.in-39.is (fields (goal.at.returns-in-39 c).After-address_of-a)

pub returns-in-40 : goal.returns-in-40
unfolding rows fixed_at
returns-in-40 c = decode_at 40 8 c.in-40.is (fields (goal.at.returns-in-40 c).After-address_of-a)

pub returns-in-41 : goal.returns-in-41
unfolding rows fixed_at
returns-in-41 c = decode_at 41 8 c.in-41.is (fields (goal.at.returns-in-41 c).After-address_of-a)

pub returns-in-42 : goal.returns-in-42
unfolding rows fixed_at
returns-in-42 c = decode_at 42 8 c.in-42.is (fields (goal.at.returns-in-42 c).After-address_of-a)

pub returns-in-43 : goal.returns-in-43
unfolding rows fixed_at
returns-in-43 c = decode_at 43 8 c.in-43.is (fields (goal.at.returns-in-43 c).After-address_of-a)

pub returns-in-44 : goal.returns-in-44
unfolding rows fixed_at
returns-in-44 c = decode_at 44 8 c.in-44.is (fields (goal.at.returns-in-44 c).After-address_of-a)

pub returns-in-45 : goal.returns-in-45
unfolding rows fixed_at
returns-in-45 c = decode_at 45 8 c.in-45.is (fields (goal.at.returns-in-45 c).After-address_of-a)

pub returns-in-46 : goal.returns-in-46
unfolding rows fixed_at
returns-in-46 c = decode_at 46 8 c.in-46.is (fields (goal.at.returns-in-46 c).After-address_of-a)

pub returns-in-47 : goal.returns-in-47
unfolding rows fixed_at
returns-in-47 c = decode_at 47 8 c.in-47.is (fields (goal.at.returns-in-47 c).After-address_of-a)

pub returns-in-48 : goal.returns-in-48
unfolding rows fixed_at
returns-in-48 c = decode_at 48 8 c.in-48.is (fields (goal.at.returns-in-48 c).After-address_of-a)

pub returns-in-49 : goal.returns-in-49
unfolding rows fixed_at
returns-in-49 c = decode_at 49 8 c.in-49.is (fields (goal.at.returns-in-49 c).After-address_of-a)

pub returns-in-50 : goal.returns-in-50
unfolding rows fixed_at
returns-in-50 c = decode_at 50 8 c.in-50.is (fields (goal.at.returns-in-50 c).After-address_of-a)

pub returns-in-51 : goal.returns-in-51
unfolding rows fixed_at
returns-in-51 c = decode_at 51 8 c.in-51.is (fields (goal.at.returns-in-51 c).After-address_of-a)

pub returns-in-52 : goal.returns-in-52
unfolding rows fixed_at
returns-in-52 c = decode_at 52 8 c.in-52.is (fields (goal.at.returns-in-52 c).After-address_of-a)

pub returns-in-53 : goal.returns-in-53
unfolding rows fixed_at
returns-in-53 c = decode_at 53 8 c.in-53.is (fields (goal.at.returns-in-53 c).After-address_of-a)

pub returns-in-54 : goal.returns-in-54
unfolding rows fixed_at
returns-in-54 c = decode_at 54 8 c.in-54.is (fields (goal.at.returns-in-54 c).After-address_of-a)

pub returns-in-55 : goal.returns-in-55
unfolding rows fixed_at
returns-in-55 c = decode_at 55 8 c.in-55.is (fields (goal.at.returns-in-55 c).After-address_of-a)

pub returns-in-56 : goal.returns-in-56
unfolding rows fixed_at
returns-in-56 c = decode_at 56 8 c.in-56.is (fields (goal.at.returns-in-56 c).After-address_of-a)

pub returns-in-57 : goal.returns-in-57
unfolding rows fixed_at
returns-in-57 c = decode_at 57 8 c.in-57.is (fields (goal.at.returns-in-57 c).After-address_of-a)

pub returns-in-58 : goal.returns-in-58
unfolding rows fixed_at
returns-in-58 c = decode_at 58 8 c.in-58.is (fields (goal.at.returns-in-58 c).After-address_of-a)

pub returns-in-60 : goal.returns-in-60
unfolding rows fixed_at
returns-in-60 c = decode_at 60 8 c.in-60.is (fields (goal.at.returns-in-60 c).After-address_of-a)

pub returns-in-61 : goal.returns-in-61
unfolding rows fixed_at
returns-in-61 c = decode_at 61 8 c.in-61.is (fields (goal.at.returns-in-61 c).After-address_of-a)

pub returns-in-62 : goal.returns-in-62
unfolding rows fixed_at
returns-in-62 c = decode_at 62 8 c.in-62.is (fields (goal.at.returns-in-62 c).After-address_of-a)

pub returns-in-63 : goal.returns-in-63
unfolding rows fixed_at
returns-in-63 c = decode_at 63 8 c.in-63.is (fields (goal.at.returns-in-63 c).After-address_of-a)

-- 0x0080 to 0x00FF
pub returns-then-word-ge128 : goal.returns-then-word-ge128
unfolding rows fixed_at
returns-then-word-ge128 c =
    let e : c.args.word / 2 ^ 7 ≡ 0b00_0000_1 = omega arith in
    decode_at 0b00_0000_1 7 e (fields (goal.at.returns-then-word-ge128 c).After-address_of-a)
