-- The listing of an input, whole: document 01, "The listing". Assumes nothing.
use Rattle.std.specs.Prelude.{Bool, cond, not, ◌&&◌, List, [], ◌++◌, ℕ, zero, suc, ◌+◌, ◌*◌, ◌/◌, ◌%◌, eqb, leb, ltb, get_or, length, codes}
use Rattle.decoder.specs.declared.instruction.Instruction.{Instruction}
use Rattle.decoder.specs.Table.{Answer, decode_of}
use Rattle.decoder.specs.Table.Answer.{gives, refuses}
use Rattle.decoder.specs.Text.{hex, text_of, Left, refused, written}

-- A two-byte number, low byte first.
abbrev pub number_at : List ℕ → ℕ → ℕ
number_at s at = get_or s at 0 + 256 * get_or s (at + 1) 0

-- The input: a length, a kind, and that many bytes of words.
abbrev pub length_of : List ℕ → ℕ
length_of input = number_at input 0

abbrev pub kind_of : List ℕ → ℕ
kind_of input = number_at input 2

abbrev pub word_at : List ℕ → ℕ → ℕ
word_at input i = number_at input (4 + 2 * i)

-- The length is even, not 0 and at most 16,384, the kind is 1, and no byte is missing or extra.
unfoldable pub accepted_of : List ℕ → Bool
accepted_of input =
    leb 4 (length input)
    && eqb (length_of input % 2) 0
    && not (eqb (length_of input) 0)
    && leb (length_of input) 16384
    && eqb (kind_of input) 1
    && eqb (length input) (4 + length_of input)

-- A word's text, or ???? where it is undefined.
abbrev pub shown : Answer Instruction → List ℕ
shown (gives i) = text_of i
shown (refuses n) = codes "????"

-- A line: four-digit address, four-digit word, text, with single spaces.
unfoldable pub line_of : ℕ → ℕ → List ℕ
line_of address word = hex 4 address ++ codes " " ++ hex 4 word ++ codes " " ++ shown (decode_of word) ++ codes "\n"

-- The lines of the first n words.
unfoldable pub lines_of : ℕ → List ℕ → List ℕ
lines_of zero input = []
lines_of (suc n) input = lines_of n input ++ line_of n (word_at input n)

unfoldable pub listing_of : List ℕ → List ℕ
listing_of input = cond (accepted_of input) (lines_of (length_of input / 2) input) (codes "REFUSED\n")

-- The listing from the buffer's start, and its length. A buffer that could not hold 8,192 lines of 25 bytes is refused
-- first, with 70 and nothing written.
unfoldable pub list_of : List ℕ → List ℕ → Left
list_of input buffer = cond (ltb (length buffer) 204800) (refused 70 buffer) (written (listing_of input) buffer)
