-- The promises of the decoder layer's four calls. Each answer is read by document 01's numbers: 6 for an undefined word,
-- 10 for an operand too large, 11 for a buffer too short; and 70, ours, for a listing's buffer too short. Each promise is
-- one equation, for every input, and fixes the answer and every lent byte. Assumes nothing.
use Rattle.std.specs.Prelude.{◌≡◌, List, ℕ, Result, Ok, Err, codes}
use Rattle.decoder.specs.declared.instruction.Instruction.{Instruction}
use Rattle.decoder.specs.declared.refusal.Refusal.{Refusal}
use Rattle.decoder.specs.declared.refusal.Refusal.TheVariants.{Undefined, TooLarge, ShortText, ShortListing}
use Rattle.decoder.specs.Table.{Answer, decode_of}
use Rattle.decoder.specs.Table.Answer.{gives, refuses}
use Rattle.decoder.specs.Printed.{encode_of}
use Rattle.decoder.specs.Text.{Left, disassemble_of}
use Rattle.decoder.specs.Listing.{list_of}

-- A refusal's number.
abbrev pub number_of : Refusal → ℕ
number_of Undefined = 6
number_of TooLarge = 10
number_of ShortText = 11
number_of ShortListing = 70

-- What a refusal says of itself.
abbrev pub sentence_of : Refusal → List ℕ
sentence_of Undefined = codes "the word is none of Table 29-1's"
sentence_of TooLarge = codes "an operand is too large for its field"
sentence_of ShortText = codes "the buffer is too short for a text"
sentence_of ShortListing = codes "the buffer is too short for a listing"

-- What a call answers, with the number in the refusal's place.
abbrev pub answer_of : {A : Type 0} → Result A Refusal → Answer A
answer_of (Ok a) = gives a
answer_of (Err r) = refuses (number_of r)

-- decode
abbrev pub Decodes : ℕ → Result Instruction Refusal → Type 0
Decodes word r = answer_of r ≡ decode_of word

-- encode
abbrev pub Encodes : Instruction → Result ℕ Refusal → Type 0
Encodes i r = answer_of r ≡ encode_of i

-- What a call that writes into a lent buffer leaves: its answer, and the lent bytes after it.
abbrev pub left_of : Result ℕ Refusal → List ℕ → Left
left_of r after = record { answer = answer_of r; bytes = after }

-- disassemble: `before` and `after` are the lent bytes
abbrev pub Disassembles : ℕ → List ℕ → Result ℕ Refusal → List ℕ → Type 0
Disassembles word before r after = left_of r after ≡ disassemble_of word before

-- list
abbrev pub Lists : List ℕ → List ℕ → Result ℕ Refusal → List ℕ → Type 0
Lists input before r after = left_of r after ≡ list_of input before
