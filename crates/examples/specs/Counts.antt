-- How many words are defined and how many instructions exist: document 01, "Words". Assumes nothing.
use Rattle.std.specs.Prelude.{◌≡◌, Bool, true, false, cond, List, [], ◌∷◌, ℕ, zero, suc, ◌+◌, ◌<◌, eqb, ltb}
use Rattle.decoder.specs.declared.instruction.Instruction.{Instruction}
use Rattle.decoder.specs.Table.{Answer, Row, rows_of, decode_of}
use Rattle.decoder.specs.Table.Answer.{gives, refuses}
use Rattle.decoder.specs.Printed.{InRange, word_of}

-- How many numbers below n pass a test.
unfoldable pub count_below : ℕ → (ℕ → Bool) → ℕ
count_below zero test = 0
count_below (suc n) test = cond (test n) 1 0 + count_below n test

-- How many rows of Table 29-1 fit a word.
unfoldable pub fitting : List Row → ℕ
fitting [] = 0
fitting (r ∷ rs) = cond r.fits 1 0 + fitting rs

abbrev pub is_defined : Answer Instruction → Bool
is_defined (gives i) = true
is_defined (refuses n) = false

-- A word is written by the encoder where its instruction encodes to it.
abbrev pub writes : Answer Instruction → ℕ → Bool
writes (gives i) w = eqb (word_of i) w
writes (refuses n) w = false

unfoldable pub is_written : ℕ → Bool
is_written w = writes (decode_of w) w

pub record Counts : Type 0 where
  -- No word fits two rows of the table, so the order of the rows is of no account.
  pub one_row : count_below 16384 (λ w. ltb 1 (fitting (rows_of w))) ≡ 0
  -- 16,008 of the 16,384 words of 14 bits are defined.
  pub defined : count_below 16384 (λ w. is_defined (decode_of w)) ≡ 16008
  -- 13,830 of them are written by the encoder. Each instruction with operands in range has one of those words, and
  -- each of those words one such instruction: so there are 13,830 instructions.
  pub written : count_below 16384 is_written ≡ 13830
  pub each_instruction : (i : Instruction) → InRange i → (is_written (word_of i) ≡ true) × (word_of i < 16384)
  pub each_word : (w : ℕ) → is_written w ≡ true → (i : Instruction) × InRange i × (word_of i ≡ w)
  pub no_two : (i j : Instruction) → InRange i → InRange j → word_of i ≡ word_of j → i ≡ j
