-- What the crate's own functions tell each other. No promise names it, so a reader may skip it. Assumes nothing.
use Rattle.std.specs.Prelude.{◌≡◌, Bool, true, cond, not, ◌&&◌, List, [], ◌++◌, ℕ, zero, suc, ◌+◌, ◌*◌, ◌/◌, ◌%◌, ◌≤◌, eqb, leb, get_or, take, drop, length}
use Rattle.decoder.specs.declared.instruction.Operands.{Operands}
use Rattle.decoder.specs.Table.{Answer}
use Rattle.decoder.specs.Table.Answer.{gives, refuses}
use Rattle.decoder.specs.Printed.{fit_of, placed}
use Rattle.decoder.specs.Listing.{accepted_of, length_of, line_of, lines_of}

-- The operands in their places, or 10 where a field does not hold one.
unfoldable pub fields_of : Operands → Answer ℕ
fields_of o = cond (fit_of o) (gives (placed o)) (refuses 10)

-- `after` is `before` with the text in it from `at` on, and `end` is the place behind the text.
pub record Wrote (before after : List ℕ) (at end : ℕ) (text : List ℕ) : Type 0 where
  pub bytes : after ≡ take at before ++ text ++ drop (at + length text) before
  pub place : end ≡ at + length text

-- A header's numbers, with that many bytes behind it: what is left of `accepted_of` once the header is there.
unfoldable pub form_of : ℕ → ℕ → ℕ → Bool
form_of length kind bytes = eqb (length % 2) 0 && not (eqb length 0) && leb length 16384 && eqb kind 1 && eqb bytes length

-- A word's two bytes, low byte first, as a number.
abbrev pub word_in : List ℕ → ℕ
word_in w = get_or w 0 0 + 256 * get_or w 1 0

-- The lines of the first n of these words.
unfoldable pub lines_in : ℕ → List (List ℕ) → List ℕ
lines_in zero words = []
lines_in (suc n) words = lines_in n words ++ line_of n (word_in (get_or words n []))

-- The words of an input of the right form.
pub record Words (input : List ℕ) (words : List (List ℕ)) : Type 0 where
  pub accepted : accepted_of input ≡ true
  pub most : length words ≤ 8192
  pub lines : lines_in (length words) words ≡ lines_of (length_of input / 2) input
