-- Table 29-1 read from a word to an instruction, and document 01, "Words".
-- A row fits a word where its fixed bits, the 0s and 1s that the table prints, are the word's. Assumes nothing.
use Rattle.std.specs.Prelude.{Bool, true, false, cond, not, ◌&&◌, ◌||◌, List, [], ◌∷◌, ℕ, ◌*◌, ◌/◌, ◌%◌, ◌^◌, eqb, leb, ltb}
use Rattle.decoder.specs.declared.instruction.Dest.{Dest}
use Rattle.decoder.specs.declared.instruction.Dest.TheVariants.{W, File}
use Rattle.decoder.specs.declared.instruction.Instruction.{Instruction}
use Rattle.decoder.specs.declared.instruction.Instruction.TheVariants.{Addwf, Andwf, Clrf, Clrw, Comf, Decf, Decfsz, Incf, Incfsz, Iorwf, Movf, Movwf, Nop, Rlf, Rrf, Subwf, Swapf, Xorwf, Bcf, Bsf, Btfsc, Btfss, Addlw, Andlw, Call, Clrwdt, Goto, Iorlw, Movlw, Retfie, Retlw, Return, Sleep, Sublw, Xorlw}

-- What a call answers: a value, or a refusal with its number.
pub data Answer (A : Type 0) : Type 0 where
  gives : A → Answer A
  refuses : ℕ → Answer A

-- The fields of a word (Table 29-2 and Figure 29-1).
abbrev pub field_f : ℕ → ℕ
field_f w = w % 2 ^ 7

abbrev pub dest_of : Bool → Dest
dest_of true = File
dest_of false = W

abbrev pub field_d : ℕ → Dest
field_d w = dest_of (eqb (w / 2 ^ 7 % 2) 1)

abbrev pub field_b : ℕ → ℕ
field_b w = w / 2 ^ 7 % 2 ^ 3

abbrev pub field_k8 : ℕ → ℕ
field_k8 w = w % 2 ^ 8

abbrev pub field_k11 : ℕ → ℕ
field_k11 w = w % 2 ^ 11

-- The word without its n low bits is c.
unfoldable pub fixed : ℕ → ℕ → ℕ → Bool
fixed w c n = eqb (w / 2 ^ n) c

-- The value of the n bits of a word from bit i up.
unfoldable pub bits : ℕ → ℕ → ℕ → ℕ
bits w i n = 2 ^ i * (w / 2 ^ i % 2 ^ n)

-- A row of the table at a word: whether it fits, its instruction, and what the word has in the row's x bits.
pub record Row : Type 0 where
  pub fits : Bool
  pub instruction : Instruction
  pub x : ℕ

abbrev pub row : Bool → Instruction → Row
row t i = record { fits = t; instruction = i; x = 0 }

abbrev pub row_x : Bool → Instruction → ℕ → Row
row_x t i x = record { fits = t; instruction = i; x = x }

-- Table 29-1, a line for each row, in the table's order. `is c n`: the word is the fixed bits c and then n bits. So
-- `is 0b00_0001_1 7` is the printed 00 0001 1fff ffff: what is printed up to the first letter, and how many bits are
-- left. w is the word, and the others are its fields.
unfoldable pub rows : (ℕ → ℕ → Bool) → (w f : ℕ) (d : Dest) (b k8 k11 : ℕ) → List Row
rows is w f d b k8 k11 =
    -- byte-oriented file register operations
    row (is 0b00_0111 8) (Addwf f d)
    ∷ row (is 0b00_0101 8) (Andwf f d)
    ∷ row (is 0b00_0001_1 7) (Clrf f)
    ∷ row_x (is 0b00_0001_0 7) Clrw (bits w 0 7)
    ∷ row (is 0b00_1001 8) (Comf f d)
    ∷ row (is 0b00_0011 8) (Decf f d)
    ∷ row (is 0b00_1011 8) (Decfsz f d)
    ∷ row (is 0b00_1010 8) (Incf f d)
    ∷ row (is 0b00_1111 8) (Incfsz f d)
    ∷ row (is 0b00_0100 8) (Iorwf f d)
    ∷ row (is 0b00_1000 8) (Movf f d)
    ∷ row (is 0b00_0000_1 7) (Movwf f)
    ∷ row_x (is 0b00_0000_0 7 && eqb (w % 2 ^ 5) 0b0_0000) Nop (bits w 5 2)
    ∷ row (is 0b00_1101 8) (Rlf f d)
    ∷ row (is 0b00_1100 8) (Rrf f d)
    ∷ row (is 0b00_0010 8) (Subwf f d)
    ∷ row (is 0b00_1110 8) (Swapf f d)
    ∷ row (is 0b00_0110 8) (Xorwf f d)
    -- bit-oriented file register operations
    ∷ row (is 0b01_00 10) (Bcf f b)
    ∷ row (is 0b01_01 10) (Bsf f b)
    ∷ row (is 0b01_10 10) (Btfsc f b)
    ∷ row (is 0b01_11 10) (Btfss f b)
    -- literal and control operations
    ∷ row_x (is 0b11_111 9) (Addlw k8) (bits w 8 1)
    ∷ row (is 0b11_1001 8) (Andlw k8)
    ∷ row (is 0b10_0 11) (Call k11)
    ∷ row (is 0b00_0000_0110_0100 0) Clrwdt
    ∷ row (is 0b10_1 11) (Goto k11)
    ∷ row (is 0b11_1000 8) (Iorlw k8)
    ∷ row_x (is 0b11_00 10) (Movlw k8) (bits w 8 2)
    ∷ row (is 0b00_0000_0000_1001 0) Retfie
    ∷ row_x (is 0b11_01 10) (Retlw k8) (bits w 8 2)
    ∷ row (is 0b00_0000_0000_1000 0) Return
    ∷ row (is 0b00_0000_0110_0011 0) Sleep
    ∷ row_x (is 0b11_110 9) (Sublw k8) (bits w 8 1)
    ∷ row (is 0b11_1010 8) (Xorlw k8)
    ∷ []

-- The instruction of the row that fits, or 6 where none does (document 01, "Run answers").
abbrev pub first_of : List Row → Answer Instruction
first_of [] = refuses 6
first_of (r ∷ rs) = cond r.fits (gives r.instruction) (first_of rs)

-- The x bits of the row that fits.
abbrev pub first_x : List Row → ℕ
first_x [] = 0
first_x (r ∷ rs) = cond r.fits r.x (first_x rs)

unfoldable pub rows_of : ℕ → List Row
rows_of w = rows (fixed w) w (field_f w) (field_d w) (field_b w) (field_k8 w) (field_k11 w)

-- What a word means.
unfoldable pub decode_of : ℕ → Answer Instruction
decode_of w = first_of (rows_of w)

-- What a word has in its x bits; 0 for a word that has none.
unfoldable pub x_of : ℕ → ℕ
x_of w = first_x (rows_of w)

-- Document 01, "Words", lists the undefined words: 0x0000 to 0x007F but for eight, 0x3B00 to 0x3BFF, and above 0x3FFF.
abbrev pub is_one_of : ℕ → List ℕ → Bool
is_one_of w [] = false
is_one_of w (v ∷ vs) = eqb w v || is_one_of w vs

unfoldable pub undefined_of : ℕ → Bool
undefined_of w =
    (leb w 0x007F && not (is_one_of w (0x0000 ∷ 0x0020 ∷ 0x0040 ∷ 0x0060 ∷ 0x0008 ∷ 0x0009 ∷ 0x0063 ∷ 0x0064 ∷ [])))
    || (leb 0x3B00 w && leb w 0x3BFF)
    || ltb 0x3FFF w
