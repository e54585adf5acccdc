-- An instruction's text and a word's disassembly: document 01, "The listing" and the end of "Run answers".
-- Assumes nothing.
use Rattle.std.specs.Prelude.{cond, List, [], ◌∷◌, ◌++◌, ℕ, zero, suc, ◌/◌, ◌%◌, get_or, length, drop, ltb, codes}
use Rattle.decoder.specs.declared.instruction.Instruction.{Instruction}
use Rattle.decoder.specs.declared.instruction.Operands.{Operands}
use Rattle.decoder.specs.declared.instruction.Operands.TheVariants.{None, F, FD, FB, K8, K11}
use Rattle.decoder.specs.Table.{Answer, decode_of}
use Rattle.decoder.specs.Table.Answer.{gives, refuses}
use Rattle.decoder.specs.Printed.{printed_of, bit_of}

-- A digit, in capitals.
unfoldable pub digit : ℕ → ℕ
digit v = get_or (codes "0123456789ABCDEF") v 0

-- A number in n hexadecimal digits.
unfoldable pub hex : ℕ → ℕ → List ℕ
hex zero v = []
hex (suc n) v = hex n (v / 16) ++ (digit (v % 16) ∷ [])

-- The operands, after one space, joined by a comma: f and byte k as 0x and two digits, the eleven-bit k as 0x and
-- three; b and d in decimal, where each is one digit and so the same as in hexadecimal.
unfoldable pub operand_text : Operands → List ℕ
operand_text None = []
operand_text (F f) = codes " 0x" ++ hex 2 f
operand_text (FD f d) = codes " 0x" ++ hex 2 f ++ codes "," ++ hex 1 (bit_of d)
operand_text (FB f b) = codes " 0x" ++ hex 2 f ++ codes "," ++ hex 1 b
operand_text (K8 k) = codes " 0x" ++ hex 2 k
operand_text (K11 k) = codes " 0x" ++ hex 3 k

-- The mnemonic, then the operands if any.
unfoldable pub text_of : Instruction → List ℕ
text_of i = (printed_of i).mnemonic ++ operand_text (printed_of i).operands

-- What a call that writes into a lent buffer leaves: its answer, and the buffer's bytes.
pub record Left : Type 0 where
  pub answer : Answer ℕ
  pub bytes : List ℕ

abbrev pub refused : ℕ → List ℕ → Left
refused n buffer = record { answer = refuses n; bytes = buffer }

-- The text from the buffer's start, every other byte kept, and the text's length.
abbrev pub written : List ℕ → List ℕ → Left
written text buffer = record { answer = gives (length text); bytes = text ++ drop (length text) buffer }

-- 6 for an undefined word, then 11 for a buffer under 14 bytes, both with nothing written.
abbrev pub disassembled : Answer Instruction → List ℕ → Left
disassembled (refuses n) buffer = refused n buffer
disassembled (gives i) buffer = cond (ltb (length buffer) 14) (refused 11 buffer) (written (text_of i) buffer)

unfoldable pub disassemble_of : ℕ → List ℕ → Left
disassemble_of w buffer = disassembled (decode_of w) buffer
