-- The 35 instructions as a few forms: a line for each row of Table 29-1, in the table's order. What a form does is in
-- Step.antt. Assumes nothing.
use Rattle.std.specs.Prelude.{ℕ}
use Rattle.decoder.specs.declared.instruction.Dest.{Dest}
use Rattle.decoder.specs.declared.instruction.Dest.TheVariants.{File}
use Rattle.decoder.specs.declared.instruction.Instruction.{Instruction}
use Rattle.decoder.specs.declared.instruction.Instruction.TheVariants.{Addwf, Andwf, Clrf, Clrw, Comf, Decf, Decfsz, Incf, Incfsz, Iorwf, Movf, Movwf, Nop, Rlf, Rrf, Subwf, Swapf, Xorwf, Bcf, Bsf, Btfsc, Btfss, Addlw, Andlw, Call, Clrwdt, Goto, Iorlw, Movlw, Retfie, Retlw, Return, Sleep, Sublw, Xorlw}
use Rattle.alu.specs.Alu.{Result, plain, zeroed, added, subtracted, plus_one, less_one, complemented, swapped, rotated_left, rotated_right, and_of, or_of, xor_of, with_bit}

-- CLRF, BCF and BSF: what becomes of the byte.
pub data Patch : Type 0 where
  zeroes : Patch
  bit_to : ℕ → ℕ → Patch

-- RETURN; RETLW, which loads W; RETFIE, which sets INTCON bit 7.
pub data ReturnKind : Type 0 where
  bare : ReturnKind
  loads : ℕ → ReturnKind
  enables : ReturnKind

pub data Form : Type 0 where
  -- a result of W, the byte and C, to f or W
  byte : ℕ → Dest → (ℕ → ℕ → ℕ → Result) → Form
  -- a byte counted up or down, to f or W, and a skip where it comes to 0
  count : ℕ → Dest → (ℕ → ℕ) → Form
  -- a byte or a bit of f written
  patch : ℕ → Patch → Form
  -- a result of W, to W
  literal : (ℕ → Result) → Form
  -- a skip where bit b of f is x
  test : ℕ → ℕ → ℕ → Form
  -- CLRWDT and SLEEP: what PD becomes
  watch : ℕ → Form
  jump : ℕ → Form
  calls : ℕ → Form
  returns : ReturnKind → Form

unfoldable pub form_of : Instruction → Form
form_of (Addwf f d) = byte f d (λ w v c. added v w)
form_of (Andwf f d) = byte f d (λ w v c. zeroed (and_of v w))
form_of (Clrf f) = patch f zeroes
form_of Clrw = literal (λ w. zeroed 0)
form_of (Comf f d) = byte f d (λ w v c. zeroed (complemented v))
form_of (Decf f d) = byte f d (λ w v c. zeroed (less_one v))
form_of (Decfsz f d) = count f d less_one
form_of (Incf f d) = byte f d (λ w v c. zeroed (plus_one v))
form_of (Incfsz f d) = count f d plus_one
form_of (Iorwf f d) = byte f d (λ w v c. zeroed (or_of v w))
form_of (Movf f d) = byte f d (λ w v c. zeroed v)
form_of (Movwf f) = byte f File (λ w v c. plain w)
form_of Nop = literal (λ w. plain w)
form_of (Rlf f d) = byte f d (λ w v c. rotated_left c v)
form_of (Rrf f d) = byte f d (λ w v c. rotated_right c v)
form_of (Subwf f d) = byte f d (λ w v c. subtracted v w)
form_of (Swapf f d) = byte f d (λ w v c. plain (swapped v))
form_of (Xorwf f d) = byte f d (λ w v c. zeroed (xor_of v w))
form_of (Bcf f b) = patch f (bit_to b 0)
form_of (Bsf f b) = patch f (bit_to b 1)
form_of (Btfsc f b) = test f b 0
form_of (Btfss f b) = test f b 1
form_of (Addlw k) = literal (λ w. added k w)
form_of (Andlw k) = literal (λ w. zeroed (and_of k w))
form_of (Call k) = calls k
form_of Clrwdt = watch 1
form_of (Goto k) = jump k
form_of (Iorlw k) = literal (λ w. zeroed (or_of k w))
form_of (Movlw k) = literal (λ w. plain k)
form_of Retfie = returns enables
form_of (Retlw k) = returns (loads k)
form_of Return = returns bare
form_of Sleep = watch 0
form_of (Sublw k) = literal (λ w. subtracted k w)
form_of (Xorlw k) = literal (λ w. zeroed (xor_of k w))

-- The byte, and the result of a patch: CLRF affects Z, BCF and BSF no flag.
abbrev pub patched : Patch → ℕ → Result
patched zeroes v = zeroed 0
patched (bit_to b x) v = plain (with_bit b x v)
