-- What a step does by the word at the counter: past the words, a word with an instruction, an undefined one. Assumes nothing.
use mathlib.Core.Path.{◌≡◌}
use mathlib.Core.List.{List}
use Prim.Native.Nat.{ℕ, ◌<◌, ◌≤◌}
use lib.ListN.{get_or, length}
use borrow.Author.Tests.{lt-ltb, le-ltb}
use Rattle.decoder.specs.declared.instruction.Instruction.{Instruction}
use Rattle.decoder.specs.Table.{decode_of}
use Rattle.decoder.specs.Table.Answer.{gives, refuses}
use Rattle.machine.specs.declared.state.State.{State}
use Rattle.machine.specs.Step.{done_by, step_of}
use Rattle.machine.specs.Step.Outcome.{refused}

pub past_words : (words : List ℕ) (s : State) (file : List ℕ) → length words ≤ s.counter → step_of words s file ≡ refused 5
unfolding step_of
past_words words s file h = rw (le-ltb _ _ h)

pub word_done : (words : List ℕ) (s : State) (file : List ℕ) (i : Instruction) → s.counter < length words
    → decode_of (get_or words s.counter 0) ≡ gives i → step_of words s file ≡ done_by i s file
unfolding step_of
word_done words s file i h e = rw (lt-ltb _ _ h, e)

pub word_undefined : (words : List ℕ) (s : State) (file : List ℕ) (n : ℕ) → s.counter < length words
    → decode_of (get_or words s.counter 0) ≡ refuses n → step_of words s file ≡ refused 6
unfolding step_of
word_undefined words s file n h e = rw (lt-ltb _ _ h, e)
