-- How long a text is. Assumes nothing.
use Rattle.std.specs.Prelude.{codes}
use mathlib.Core.List.{◌++◌}
use Prim.Native.Nat.{ℕ, ◌≤◌}
use native.Mathlib.Omega.{arith}
use lib.Dec.{lit≤}
use lib.ListN.{length, length-append}
use Rattle.decoder.specs.declared.instruction.Instruction.{Instruction}
use Rattle.decoder.specs.declared.instruction.Instruction.TheVariants.{Addwf, Andwf, Clrf, Clrw, Comf, Decf, Decfsz, Incf, Incfsz, Iorwf, Movf, Movwf, Nop, Rlf, Rrf, Subwf, Swapf, Xorwf, Bcf, Bsf, Btfsc, Btfss, Addlw, Andlw, Call, Clrwdt, Goto, Iorlw, Movlw, Retfie, Retlw, Return, Sleep, Sublw, Xorlw}
use Rattle.decoder.specs.declared.instruction.Operands.{Operands}
use Rattle.decoder.specs.declared.instruction.Operands.TheVariants.{None, F, FD, FB, K8, K11}
use Rattle.decoder.specs.Printed.{printed_of, bit_of}
use Rattle.decoder.specs.Text.{hex, operand_text, text_of}
use Rattle.decoder.proofs.Writing.{hex_length}

pub mnemonic_length : (i : Instruction) → length ((printed_of i).mnemonic) ≤ 6
mnemonic_length (Addwf f d) = lit≤ tt
mnemonic_length (Andwf f d) = lit≤ tt
mnemonic_length (Clrf f) = lit≤ tt
mnemonic_length Clrw = lit≤ tt
mnemonic_length (Comf f d) = lit≤ tt
mnemonic_length (Decf f d) = lit≤ tt
mnemonic_length (Decfsz f d) = lit≤ tt
mnemonic_length (Incf f d) = lit≤ tt
mnemonic_length (Incfsz f d) = lit≤ tt
mnemonic_length (Iorwf f d) = lit≤ tt
mnemonic_length (Movf f d) = lit≤ tt
mnemonic_length (Movwf f) = lit≤ tt
mnemonic_length Nop = lit≤ tt
mnemonic_length (Rlf f d) = lit≤ tt
mnemonic_length (Rrf f d) = lit≤ tt
mnemonic_length (Subwf f d) = lit≤ tt
mnemonic_length (Swapf f d) = lit≤ tt
mnemonic_length (Xorwf f d) = lit≤ tt
mnemonic_length (Bcf f b) = lit≤ tt
mnemonic_length (Bsf f b) = lit≤ tt
mnemonic_length (Btfsc f b) = lit≤ tt
mnemonic_length (Btfss f b) = lit≤ tt
mnemonic_length (Addlw k) = lit≤ tt
mnemonic_length (Andlw k) = lit≤ tt
mnemonic_length (Call k) = lit≤ tt
mnemonic_length Clrwdt = lit≤ tt
mnemonic_length (Goto k) = lit≤ tt
mnemonic_length (Iorlw k) = lit≤ tt
mnemonic_length (Movlw k) = lit≤ tt
mnemonic_length Retfie = lit≤ tt
mnemonic_length (Retlw k) = lit≤ tt
mnemonic_length Return = lit≤ tt
mnemonic_length Sleep = lit≤ tt
mnemonic_length (Sublw k) = lit≤ tt
mnemonic_length (Xorlw k) = lit≤ tt

two : (f v : ℕ) → length (codes " 0x" ++ hex 2 f ++ codes "," ++ hex 1 v) ≤ 7
two f v =
    let all = length-append (codes " 0x" ++ hex 2 f ++ codes ",") (hex 1 v) in
    let front = length-append (codes " 0x" ++ hex 2 f) (codes ",") in
    omega (arith, all, front, hex_length 2 f, hex_length 1 v)

operand_length : (o : Operands) → length (operand_text o) ≤ 7
unfolding operand_text
operand_length None = lit≤ tt
operand_length (F f) = omega (arith, hex_length 2 f)
operand_length (FD f d) = two f (bit_of d)
operand_length (FB f b) = two f b
operand_length (K8 k) = omega (arith, hex_length 2 k)
operand_length (K11 k) = omega (arith, hex_length 3 k)

-- A text has at most 13 bytes, so a buffer of 14 holds each.
pub text_length : (i : Instruction) → length (text_of i) ≤ 13
unfolding text_of
text_length i =
    let m = mnemonic_length i in
    let o = operand_length (printed_of i).operands in
    rw (length-append ((printed_of i).mnemonic) (operand_text (printed_of i).operands)) (omega arith)
