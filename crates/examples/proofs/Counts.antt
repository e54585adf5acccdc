-- The counts are computed, over all 16,384 words; that they count what they should follows from the decoder's laws.
-- Assumes nothing.
use mathlib.Core.Path.{◌≡◌, refl, ◌∙◌}
use mathlib.Core.Bool.{Bool, true, false, not, false≢true}
use Prim.Native.Nat.{ℕ, zero, suc}
use lib.Dec.{ltb}
use borrow.Author.Tests.{eqb-true, eq-eqb}
use Rattle.decoder.specs.declared.instruction.Instruction.{Instruction}
use Rattle.decoder.specs.Table.{Answer, decode_of, rows_of, rows, fixed, undefined_of}
use Rattle.decoder.specs.Table.Answer.{gives, refuses}
use Rattle.decoder.specs.Printed.{InRange, word_of}
use Rattle.decoder.proofs.Laws.{operands_in_range, decode-encode, one_word_each, word_below, undefined_word, defined_word}
use Rattle.examples.specs.Counts.{Counts, count_below, fitting, is_defined, is_written, writes}

-- two tests that agree count the same
alike : (n : ℕ) (f g : ℕ → Bool) → ((w : ℕ) → f w ≡ g w) → count_below n f ≡ count_below n g
unfolding count_below
alike zero f g h = refl
alike (suc n) f g h = rw (h n, alike n f g h)

listed : (w : ℕ) → is_defined (decode_of w) ≡ not (undefined_of w)
listed w = go (undefined_of w) refl
  where
    go : (t : Bool) → undefined_of w ≡ t → is_defined (decode_of w) ≡ not t
    go true e = rw (undefined_word w e)
    go false e = rw (defined_word w e).1

rows_apart : count_below 16384 (λ w. ltb 1 (fitting (rows_of w))) ≡ 0
unfolding count_below fitting rows_of rows fixed
rows_apart = refl

by_list : count_below 16384 (λ w. not (undefined_of w)) ≡ 16008
unfolding count_below undefined_of
by_list = refl

one_by_one : count_below 16384 is_written ≡ 13830
unfolding count_below is_written decode_of rows_of rows fixed word_of
one_by_one = refl

written_word : (i : Instruction) → InRange i → is_written (word_of i) ≡ true
unfolding is_written
written_word i h = rw (decode-encode i h) (eq-eqb (word_of i) (word_of i) refl)

word_written : (w : ℕ) → is_written w ≡ true → (i : Instruction) × InRange i × (word_of i ≡ w)
unfolding is_written
word_written w e = go (decode_of w) refl e
  where
    go : (x : Answer Instruction) → decode_of w ≡ x → writes x w ≡ true → (i : Instruction) × InRange i × (word_of i ≡ w)
    go (gives i) d e = (i, operands_in_range w i d, eqb-true (word_of i) w e)
    go (refuses n) d e = absurd (false≢true e)

pub counts : Counts
counts = record {
  one_row = rows_apart;
  defined = alike 16384 _ _ listed ∙ by_list;
  written = one_by_one;
  each_instruction = λ i h. (written_word i h, word_below i h);
  each_word = word_written;
  no_two = one_word_each;
}
