-- Words and instructions, there and back. Assumes nothing.
use mathlib.Core.Path.{◌≡◌, refl, sym}
use mathlib.Core.Bool.{Bool, true, false, cond, ◌&&◌}
use mathlib.Core.List.{List, [], ◌∷◌}
use Prim.Native.Nat.{ℕ, ◌+◌, ◌*◌, ◌/◌, ◌%◌, ◌^◌, ◌≤◌, ◌<◌}
use native.Mathlib.Omega.{arith}
use lib.Dec.{eqb}
use borrow.Author.Tests.{eqb-true, eqb-false}
use Rattle.decoder.specs.declared.instruction.Dest.{Dest}
use Rattle.decoder.specs.declared.instruction.Dest.TheVariants.{W, File}
use Rattle.decoder.specs.declared.instruction.Instruction.{Instruction}
use Rattle.decoder.specs.declared.instruction.Instruction.TheVariants.{Addwf, Andwf, Clrf, Clrw, Comf, Decf, Decfsz, Incf, Incfsz, Iorwf, Movf, Movwf, Nop, Rlf, Rrf, Subwf, Swapf, Xorwf, Bcf, Bsf, Btfsc, Btfss, Addlw, Andlw, Call, Clrwdt, Goto, Iorlw, Movlw, Retfie, Retlw, Return, Sleep, Sublw, Xorlw}
use Rattle.decoder.specs.Table.{Row, rows, rows_of, first_of, first_x, decode_of, x_of, fixed, bits, dest_of, field_f, field_d, field_b, field_k8, field_k11}
use Rattle.decoder.specs.Table.Answer.{gives}
use Rattle.decoder.specs.Printed.{InRange, bit_of, word_of}
use Rattle.decoder.proofs.Below.{and_left, and_right, no_value}
use Rattle.decoder.proofs.Fit.{bit_below}
use Rattle.decoder.proofs.Rows.{decode_at, fixed_at}

-- d is its bit, both ways.
dest_bit : (v : ℕ) → v < 2 → bit_of (dest_of (eqb v 1)) ≡ v
dest_bit v h = go (eqb v 1) refl
  where
    zero_left : (v ≡ 1 → ⊥) → 0 ≡ v
    zero_left other = omega arith

    go : (t : Bool) → eqb v 1 ≡ t → bit_of (dest_of t) ≡ v
    go true e = sym (eqb-true v 1 e)
    go false e = zero_left (eqb-false v 1 e)

bit_dest : (d : Dest) → dest_of (eqb (bit_of d) 1) ≡ d
bit_dest W = refl
bit_dest File = refl

-- From an instruction to its word and back, for each form of operands: t is the word's fixed bits.
module _ (t f : ℕ) (f_fits : f ≤ 127) where
  of_f : let w = 2 ^ 7 * t + f in first_of (rows (fixed_at w t 7) w f (field_d w) (field_b w) (field_k8 w) (field_k11 w)) ≡ decode_of w
  of_f = decode_at t 7 (omega arith) (record { is_f = omega arith; is_d = refl; is_b = refl; is_k8 = refl; is_k11 = refl })

  of_fd : (d : Dest) → let w = 2 ^ 8 * t + (0x80 * bit_of d + f) in first_of (rows (fixed_at w t 8) w f d (field_b w) (field_k8 w) (field_k11 w)) ≡ decode_of w
  of_fd d =
      let below : bit_of d < 2 = bit_below d in
      let bit : (2 ^ 8 * t + (0x80 * bit_of d + f)) / 2 ^ 7 % 2 ≡ bit_of d = omega arith in
      decode_at t 8 (omega arith) (record { is_f = omega arith; is_d = rw bit (sym (bit_dest d)); is_b = refl; is_k8 = refl; is_k11 = refl })

  of_fb : (b : ℕ) → b ≤ 7 → let w = 2 ^ 10 * t + (0x80 * b + f) in first_of (rows (fixed_at w t 10) w f (field_d w) b (field_k8 w) (field_k11 w)) ≡ decode_of w
  of_fb b b_fits = decode_at t 10 (omega arith) (record { is_f = omega arith; is_d = refl; is_b = omega arith; is_k8 = refl; is_k11 = refl })

of_k8 : (t k : ℕ) → k ≤ 255 → let w = 2 ^ 8 * t + k in first_of (rows (fixed_at w t 8) w (field_f w) (field_d w) (field_b w) k (field_k11 w)) ≡ decode_of w
of_k8 t k fits = decode_at t 8 (omega arith) (record { is_f = refl; is_d = refl; is_b = refl; is_k8 = omega arith; is_k11 = refl })

of_k11 : (t k : ℕ) → k ≤ 2047 → let w = 2 ^ 11 * t + k in first_of (rows (fixed_at w t 11) w (field_f w) (field_d w) (field_b w) (field_k8 w) k) ≡ decode_of w
of_k11 t k fits = decode_at t 11 (omega arith) (record { is_f = refl; is_d = refl; is_b = refl; is_k8 = refl; is_k11 = omega arith })

-- The decoder reads back what the encoder writes.
pub decode-encode : (i : Instruction) → InRange i → decode_of (word_of i) ≡ gives i
unfolding word_of decode_of rows_of rows fixed fixed_at
decode-encode (Addwf f d) h = sym (of_fd 0b00_0111 f h d)
decode-encode (Andwf f d) h = sym (of_fd 0b00_0101 f h d)
decode-encode (Clrf f) h = sym (of_f 0b00_0001_1 f h)
decode-encode Clrw h = refl
decode-encode (Comf f d) h = sym (of_fd 0b00_1001 f h d)
decode-encode (Decf f d) h = sym (of_fd 0b00_0011 f h d)
decode-encode (Decfsz f d) h = sym (of_fd 0b00_1011 f h d)
decode-encode (Incf f d) h = sym (of_fd 0b00_1010 f h d)
decode-encode (Incfsz f d) h = sym (of_fd 0b00_1111 f h d)
decode-encode (Iorwf f d) h = sym (of_fd 0b00_0100 f h d)
decode-encode (Movf f d) h = sym (of_fd 0b00_1000 f h d)
decode-encode (Movwf f) h = sym (of_f 0b00_0000_1 f h)
decode-encode Nop h = refl
decode-encode (Rlf f d) h = sym (of_fd 0b00_1101 f h d)
decode-encode (Rrf f d) h = sym (of_fd 0b00_1100 f h d)
decode-encode (Subwf f d) h = sym (of_fd 0b00_0010 f h d)
decode-encode (Swapf f d) h = sym (of_fd 0b00_1110 f h d)
decode-encode (Xorwf f d) h = sym (of_fd 0b00_0110 f h d)
decode-encode (Bcf f b) h = sym (of_fb 0b01_00 f h.0 b h.1)
decode-encode (Bsf f b) h = sym (of_fb 0b01_01 f h.0 b h.1)
decode-encode (Btfsc f b) h = sym (of_fb 0b01_10 f h.0 b h.1)
decode-encode (Btfss f b) h = sym (of_fb 0b01_11 f h.0 b h.1)
decode-encode (Addlw k) h = sym (of_k8 0b11_1110 k h)
decode-encode (Andlw k) h = sym (of_k8 0b11_1001 k h)
decode-encode (Call k) h = sym (of_k11 0b10_0 k h)
decode-encode Clrwdt h = refl
decode-encode (Goto k) h = sym (of_k11 0b10_1 k h)
decode-encode (Iorlw k) h = sym (of_k8 0b11_1000 k h)
decode-encode (Movlw k) h = sym (of_k8 0b11_0000 k h)
decode-encode Retfie h = refl
decode-encode (Retlw k) h = sym (of_k8 0b11_0100 k h)
decode-encode Return h = refl
decode-encode Sleep h = refl
decode-encode (Sublw k) h = sym (of_k8 0b11_1100 k h)
decode-encode (Xorlw k) h = sym (of_k8 0b11_1010 k h)

-- What a row that fits says: its instruction's word and the x bits make the word, and its operands fit.
abbrev Sound : ℕ → Row → Type 0
Sound w r = r.fits ≡ true → (word_of r.instruction + r.x ≡ w) × InRange r.instruction

data All (P : Row → Type 0) : List Row → Type 0 where
  none : All P []
  more : {r : Row} {rs : List Row} → P r → All P rs → All P (r ∷ rs)

first_sound : (w : ℕ) (i : Instruction) (rs : List Row) → All (Sound w) rs → first_of rs ≡ gives i → (word_of i + first_x rs ≡ w) × InRange i
first_sound w i [] none e = absurd (no_value (sym e))
first_sound w i (r ∷ rs) (more here later) e = go r.fits refl (first_sound w i rs later) e
  where
    go : (t : Bool) → r.fits ≡ t → (first_of rs ≡ gives i → (word_of i + first_x rs ≡ w) × InRange i)
        → cond t (gives r.instruction) (first_of rs) ≡ gives i → (word_of i + cond t r.x (first_x rs) ≡ w) × InRange i
    go true fits h e = let is : r.instruction ≡ i = cc in rw is at (here fits)
    go false fits h e = h e

-- Each form of operands: the fixed bits and the fields make the word.
module _ (w t : ℕ) where
  with_f : fixed w t 7 ≡ true → (2 ^ 7 * t + field_f w + 0 ≡ w) × (field_f w ≤ 127)
  unfolding fixed
  with_f e = let is : w / 2 ^ 7 ≡ t = eqb-true _ _ e in (omega arith, omega arith)

  with_fd : fixed w t 8 ≡ true → (2 ^ 8 * t + (0x80 * bit_of (field_d w) + field_f w) + 0 ≡ w) × (field_f w ≤ 127)
  unfolding fixed
  with_fd e =
      let is : w / 2 ^ 8 ≡ t = eqb-true _ _ e in
      let bit : bit_of (field_d w) ≡ w / 2 ^ 7 % 2 = dest_bit (w / 2 ^ 7 % 2) (omega arith) in
      (omega arith, omega arith)

  with_fb : fixed w t 10 ≡ true → (2 ^ 10 * t + (0x80 * field_b w + field_f w) + 0 ≡ w) × ((field_f w ≤ 127) × (field_b w ≤ 7))
  unfolding fixed
  with_fb e = let is : w / 2 ^ 10 ≡ t = eqb-true _ _ e in (omega arith, (omega arith, omega arith))

  with_k8 : fixed w t 8 ≡ true → (2 ^ 8 * t + field_k8 w + 0 ≡ w) × (field_k8 w ≤ 255)
  unfolding fixed
  with_k8 e = let is : w / 2 ^ 8 ≡ t = eqb-true _ _ e in (omega arith, omega arith)

  with_k11 : fixed w t 11 ≡ true → (2 ^ 11 * t + field_k11 w + 0 ≡ w) × (field_k11 w ≤ 2047)
  unfolding fixed
  with_k11 e = let is : w / 2 ^ 11 ≡ t = eqb-true _ _ e in (omega arith, omega arith)

  alone : fixed w t 0 ≡ true → (t + 0 + 0 ≡ w) × Unit {0}
  unfolding fixed
  alone e = let is : w / 1 ≡ t = eqb-true _ _ e in (omega arith, tt)

  x_1 : fixed w t 9 ≡ true → (2 ^ 9 * t + field_k8 w + bits w 8 1 ≡ w) × (field_k8 w ≤ 255)
  unfolding fixed bits
  x_1 e = let is : w / 2 ^ 9 ≡ t = eqb-true _ _ e in (omega arith, omega arith)

  x_2 : fixed w t 10 ≡ true → (2 ^ 10 * t + field_k8 w + bits w 8 2 ≡ w) × (field_k8 w ≤ 255)
  unfolding fixed bits
  x_2 e = let is : w / 2 ^ 10 ≡ t = eqb-true _ _ e in (omega arith, omega arith)

clrw_row : (w : ℕ) → fixed w 0b00_0001_0 7 ≡ true → (0x100 + 0 + bits w 0 7 ≡ w) × Unit {0}
unfolding fixed bits
clrw_row w e = let is : w / 2 ^ 7 ≡ 2 = eqb-true _ _ e in (omega arith, tt)

nop_row : (w : ℕ) → (fixed w 0b00_0000_0 7 && eqb (w % 2 ^ 5) 0) ≡ true → (0 + 0 + bits w 5 2 ≡ w) × Unit {0}
unfolding fixed bits
nop_row w e =
    let is : w / 2 ^ 7 ≡ 0 = eqb-true _ _ (and_left (eqb (w / 2 ^ 7) 0) (eqb (w % 2 ^ 5) 0) e) in
    let low : w % 2 ^ 5 ≡ 0 = eqb-true _ _ (and_right (eqb (w / 2 ^ 7) 0) (eqb (w % 2 ^ 5) 0) e) in
    (omega arith, tt)

-- All rows of the table.
table_sound : (w : ℕ) → All (Sound w) (rows_of w)
unfolding rows_of rows word_of
table_sound w =
    more (with_fd w 0b00_0111)
    (more (with_fd w 0b00_0101)
    (more (with_f w 0b00_0001_1)
    (more (clrw_row w)
    (more (with_fd w 0b00_1001)
    (more (with_fd w 0b00_0011)
    (more (with_fd w 0b00_1011)
    (more (with_fd w 0b00_1010)
    (more (with_fd w 0b00_1111)
    (more (with_fd w 0b00_0100)
    (more (with_fd w 0b00_1000)
    (more (with_f w 0b00_0000_1)
    (more (nop_row w)
    (more (with_fd w 0b00_1101)
    (more (with_fd w 0b00_1100)
    (more (with_fd w 0b00_0010)
    (more (with_fd w 0b00_1110)
    (more (with_fd w 0b00_0110)
    (more (with_fb w 0b01_00)
    (more (with_fb w 0b01_01)
    (more (with_fb w 0b01_10)
    (more (with_fb w 0b01_11)
    (more (x_1 w 0b11_111)
    (more (with_k8 w 0b11_1001)
    (more (with_k11 w 0b10_0)
    (more (alone w 0b00_0000_0110_0100)
    (more (with_k11 w 0b10_1)
    (more (with_k8 w 0b11_1000)
    (more (x_2 w 0b11_00)
    (more (alone w 0b00_0000_0000_1001)
    (more (x_2 w 0b11_01)
    (more (alone w 0b00_0000_0000_1000)
    (more (alone w 0b00_0000_0110_0011)
    (more (x_1 w 0b11_110)
    (more (with_k8 w 0b11_1010) none))))))))))))))))))))))))))))))))))

-- The encoder writes a decoded word with its x bits 0, and a decoded word's operands fit.
pub encode-decode : (w : ℕ) (i : Instruction) → decode_of w ≡ gives i → (word_of i + x_of w ≡ w) × InRange i
unfolding decode_of x_of
encode-decode w i e = first_sound w i (rows_of w) (table_sound w) e
