-- The numbers of a run's answers: document 01, "Run answers"; and what a refusal says of itself. Assumes nothing.
use Rattle.std.specs.Prelude.{List, ℕ, Result, Ok, Err, codes}
use Rattle.machine.specs.declared.refusal.Refusal.{Refusal}
use Rattle.machine.specs.declared.refusal.Refusal.TheVariants.{Sizes, State, Length, PastWords, Undefined, StackFull, StackEmpty, CountedPcl}
use Rattle.machine.specs.declared.running.Finish.{Finish}
use Rattle.machine.specs.declared.running.Finish.TheVariants.{All, Asleep}

abbrev pub number_of : Refusal → ℕ
number_of Sizes = 2
number_of State = 3
number_of Length = 4
number_of PastWords = 5
number_of Undefined = 6
number_of StackFull = 7
number_of StackEmpty = 8
number_of CountedPcl = 9

abbrev pub sentence_of : Refusal → List ℕ
sentence_of Sizes = codes "the file is not 512 bytes, or no words or over 8,192 are lent"
sentence_of State = codes "the counter or a stack entry is over 8,191, or the depth over 8"
sentence_of Length = codes "more than 1,000,000 instructions are asked for"
sentence_of PastWords = codes "the counter is at or past the lent words"
sentence_of Undefined = codes "the word at the counter is undefined"
sentence_of StackFull = codes "a CALL at depth 8"
sentence_of StackEmpty = codes "a return at depth 0"
sentence_of CountedPcl = codes "INCFSZ or DECFSZ would write PCL"

abbrev pub finish_number : Finish → ℕ
finish_number All = 0
finish_number Asleep = 1

abbrev pub end_number : Result Finish Refusal → ℕ
end_number (Ok finish) = finish_number finish
end_number (Err refusal) = number_of refusal
