-- Table 29-1 read from an instruction to what the table prints for it: mnemonic, word, operands.
-- Document 01, "Words": what the encoder writes and what it refuses. Assumes nothing.
use Rattle.std.specs.Prelude.{Bool, true, cond, ◌&&◌, List, ℕ, ◌+◌, ◌*◌, ◌≤◌, leb, codes}
use Prim.Native.String.{String}
use Rattle.decoder.specs.declared.instruction.Dest.{Dest}
use Rattle.decoder.specs.declared.instruction.Dest.TheVariants.{W, File}
use Rattle.decoder.specs.declared.instruction.Instruction.{Instruction}
use Rattle.decoder.specs.declared.instruction.Instruction.TheVariants.{Addwf, Andwf, Clrf, Clrw, Comf, Decf, Decfsz, Incf, Incfsz, Iorwf, Movf, Movwf, Nop, Rlf, Rrf, Subwf, Swapf, Xorwf, Bcf, Bsf, Btfsc, Btfss, Addlw, Andlw, Call, Clrwdt, Goto, Iorlw, Movlw, Retfie, Retlw, Return, Sleep, Sublw, Xorlw}
use Rattle.decoder.specs.declared.instruction.Operands.{Operands}
use Rattle.decoder.specs.declared.instruction.Operands.TheVariants.{None, F, FD, FB, K8, K11}
use Rattle.decoder.specs.Table.{Answer}
use Rattle.decoder.specs.Table.Answer.{gives, refuses}

-- A row of the table as an instruction fills it: mnemonic, word with operands and x bits 0, operands. `codes` of a text
-- are its characters' numbers, in their order.
pub record Printed : Type 0 where
  pub mnemonic : List ℕ
  pub word : ℕ
  pub operands : Operands

abbrev prints : String → ℕ → Operands → Printed
prints m w o = record { mnemonic = codes m; word = w; operands = o }

-- Table 29-1, a line for each row, in the table's order.
abbrev pub printed_of : Instruction → Printed
printed_of (Addwf f d) = prints "ADDWF" 0b00_0111_0000_0000 (FD f d)
printed_of (Andwf f d) = prints "ANDWF" 0b00_0101_0000_0000 (FD f d)
printed_of (Clrf f) = prints "CLRF" 0b00_0001_1000_0000 (F f)
printed_of Clrw = prints "CLRW" 0b00_0001_0000_0000 None
printed_of (Comf f d) = prints "COMF" 0b00_1001_0000_0000 (FD f d)
printed_of (Decf f d) = prints "DECF" 0b00_0011_0000_0000 (FD f d)
printed_of (Decfsz f d) = prints "DECFSZ" 0b00_1011_0000_0000 (FD f d)
printed_of (Incf f d) = prints "INCF" 0b00_1010_0000_0000 (FD f d)
printed_of (Incfsz f d) = prints "INCFSZ" 0b00_1111_0000_0000 (FD f d)
printed_of (Iorwf f d) = prints "IORWF" 0b00_0100_0000_0000 (FD f d)
printed_of (Movf f d) = prints "MOVF" 0b00_1000_0000_0000 (FD f d)
printed_of (Movwf f) = prints "MOVWF" 0b00_0000_1000_0000 (F f)
printed_of Nop = prints "NOP" 0b00_0000_0000_0000 None
printed_of (Rlf f d) = prints "RLF" 0b00_1101_0000_0000 (FD f d)
printed_of (Rrf f d) = prints "RRF" 0b00_1100_0000_0000 (FD f d)
printed_of (Subwf f d) = prints "SUBWF" 0b00_0010_0000_0000 (FD f d)
printed_of (Swapf f d) = prints "SWAPF" 0b00_1110_0000_0000 (FD f d)
printed_of (Xorwf f d) = prints "XORWF" 0b00_0110_0000_0000 (FD f d)
printed_of (Bcf f b) = prints "BCF" 0b01_0000_0000_0000 (FB f b)
printed_of (Bsf f b) = prints "BSF" 0b01_0100_0000_0000 (FB f b)
printed_of (Btfsc f b) = prints "BTFSC" 0b01_1000_0000_0000 (FB f b)
printed_of (Btfss f b) = prints "BTFSS" 0b01_1100_0000_0000 (FB f b)
printed_of (Addlw k) = prints "ADDLW" 0b11_1110_0000_0000 (K8 k)
printed_of (Andlw k) = prints "ANDLW" 0b11_1001_0000_0000 (K8 k)
printed_of (Call k) = prints "CALL" 0b10_0000_0000_0000 (K11 k)
printed_of Clrwdt = prints "CLRWDT" 0b00_0000_0110_0100 None
printed_of (Goto k) = prints "GOTO" 0b10_1000_0000_0000 (K11 k)
printed_of (Iorlw k) = prints "IORLW" 0b11_1000_0000_0000 (K8 k)
printed_of (Movlw k) = prints "MOVLW" 0b11_0000_0000_0000 (K8 k)
printed_of Retfie = prints "RETFIE" 0b00_0000_0000_1001 None
printed_of (Retlw k) = prints "RETLW" 0b11_0100_0000_0000 (K8 k)
printed_of Return = prints "RETURN" 0b00_0000_0000_1000 None
printed_of Sleep = prints "SLEEP" 0b00_0000_0110_0011 None
printed_of (Sublw k) = prints "SUBLW" 0b11_1100_0000_0000 (K8 k)
printed_of (Xorlw k) = prints "XORLW" 0b11_1010_0000_0000 (K8 k)

-- d is one bit: 0 for W, 1 for the file register (Table 29-2).
abbrev pub bit_of : Dest → ℕ
bit_of W = 0
bit_of File = 1

-- The operands in their places of the word: f from bit 0, d and b from bit 7, k from bit 0 (Figure 29-1).
abbrev pub placed : Operands → ℕ
placed None = 0
placed (F f) = f
placed (FD f d) = 0x80 * bit_of d + f
placed (FB f b) = 0x80 * b + f
placed (K8 k) = k
placed (K11 k) = k

-- Each operand fits its field: f to 127, b to 7, k to 255, or to 2,047 for CALL and GOTO.
abbrev pub Fit : Operands → Type 0
Fit None = Unit {0}
Fit (F f) = f ≤ 127
Fit (FD f d) = f ≤ 127
Fit (FB f b) = (f ≤ 127) × (b ≤ 7)
Fit (K8 k) = k ≤ 255
Fit (K11 k) = k ≤ 2047

-- The same as a test.
abbrev pub fit_of : Operands → Bool
fit_of None = true
fit_of (F f) = leb f 127
fit_of (FD f d) = leb f 127
fit_of (FB f b) = leb f 127 && leb b 7
fit_of (K8 k) = leb k 255
fit_of (K11 k) = leb k 2047

-- An instruction's operands are in range.
abbrev pub InRange : Instruction → Type 0
InRange i = Fit (printed_of i).operands

-- The instruction's word, with its x bits 0.
unfoldable pub word_of : Instruction → ℕ
word_of i = (printed_of i).word + placed (printed_of i).operands

-- The word, or 10 where a field does not hold an operand.
unfoldable pub encode_of : Instruction → Answer ℕ
encode_of i = cond (fit_of (printed_of i).operands) (gives (word_of i)) (refuses 10)
