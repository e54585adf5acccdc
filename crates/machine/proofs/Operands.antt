-- The operands that a form has from a decoded word: f to 127, b to 7, k of CALL and GOTO to 2,047, and a bit is written
-- 0 or 1. From the decoder's promise alone. Assumes nothing.
use mathlib.Core.Path.{◌≡◌}
use Prim.Native.Nat.{ℕ, ◌≤◌}
use native.Mathlib.Omega.{arith}
use Rattle.decoder.specs.declared.instruction.Instruction.{Instruction}
use Rattle.decoder.specs.declared.instruction.Instruction.TheVariants.{Addwf, Andwf, Clrf, Clrw, Comf, Decf, Decfsz, Incf, Incfsz, Iorwf, Movf, Movwf, Nop, Rlf, Rrf, Subwf, Swapf, Xorwf, Bcf, Bsf, Btfsc, Btfss, Addlw, Andlw, Call, Clrwdt, Goto, Iorlw, Movlw, Retfie, Retlw, Return, Sleep, Sublw, Xorlw}
use Rattle.decoder.specs.Table.{decode_of}
use Rattle.decoder.specs.Table.Answer.{gives}
use Rattle.decoder.specs.Printed.{InRange}
use Rattle.decoder.proofs.Laws.{operands_in_range}
use Rattle.machine.specs.Forms.{Form, Patch, form_of}
use Rattle.machine.specs.Forms.Form.{byte, count, patch, literal, test, watch, jump, calls, returns}
use Rattle.machine.specs.Forms.Patch.{zeroes, bit_to}

abbrev pub Bits : Patch → Type 0
Bits zeroes = Unit {0}
Bits (bit_to b x) = (b ≤ 7) × (x ≤ 1)

abbrev pub Fits : Form → Type 0
Fits (byte f d op) = f ≤ 127
Fits (count f d op) = f ≤ 127
Fits (patch f c) = (f ≤ 127) × Bits c
Fits (literal op) = Unit {0}
Fits (test f b x) = f ≤ 127
Fits (watch pd) = Unit {0}
Fits (jump k) = k ≤ 2047
Fits (calls k) = k ≤ 2047
Fits (returns r) = Unit {0}

in_range_fits : (i : Instruction) → InRange i → Fits (form_of i)
unfolding form_of
in_range_fits (Addwf f d) h = h
in_range_fits (Andwf f d) h = h
in_range_fits (Clrf f) h = (h, tt)
in_range_fits Clrw h = tt
in_range_fits (Comf f d) h = h
in_range_fits (Decf f d) h = h
in_range_fits (Decfsz f d) h = h
in_range_fits (Incf f d) h = h
in_range_fits (Incfsz f d) h = h
in_range_fits (Iorwf f d) h = h
in_range_fits (Movf f d) h = h
in_range_fits (Movwf f) h = h
in_range_fits Nop h = tt
in_range_fits (Rlf f d) h = h
in_range_fits (Rrf f d) h = h
in_range_fits (Subwf f d) h = h
in_range_fits (Swapf f d) h = h
in_range_fits (Xorwf f d) h = h
in_range_fits (Bcf f b) h = (h.0, (h.1, omega arith))
in_range_fits (Bsf f b) h = (h.0, (h.1, omega arith))
in_range_fits (Btfsc f b) h = h.0
in_range_fits (Btfss f b) h = h.0
in_range_fits (Addlw k) h = tt
in_range_fits (Andlw k) h = tt
in_range_fits (Call k) h = h
in_range_fits Clrwdt h = tt
in_range_fits (Goto k) h = h
in_range_fits (Iorlw k) h = tt
in_range_fits (Movlw k) h = tt
in_range_fits Retfie h = tt
in_range_fits (Retlw k) h = tt
in_range_fits Return h = tt
in_range_fits Sleep h = tt
in_range_fits (Sublw k) h = tt
in_range_fits (Xorlw k) h = tt

pub form_fits : (w : ℕ) (i : Instruction) → decode_of w ≡ gives i → Fits (form_of i)
form_fits w i e = in_range_fits i (operands_in_range w i e)
