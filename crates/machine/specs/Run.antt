-- A run: document 01, "Run answers". Assumes nothing.
use Rattle.std.specs.Prelude.{Bool, true, cond, ◌&&◌, not, List, [], ◌∷◌, ℕ, zero, suc, ◌+◌, leb, eqb, length}
use Rattle.machine.specs.declared.state.State.{State}
use Rattle.machine.specs.Step.{Outcome, step_of}
use Rattle.machine.specs.Step.Outcome.{done, refused}
use Rattle.machine.specs.Step.Note.{going, cleared, asleep}

-- A run's result: "state, instructions done, cycles, number".
pub record Told : Type 0 where
  pub state : State
  pub done : ℕ
  pub cycles : ℕ
  pub number : ℕ

-- What a run leaves: its result and the lent file.
pub record Left : Type 0 where
  pub ran : Told
  pub file : List ℕ

abbrev pub ends : State → List ℕ → ℕ → ℕ → ℕ → Left
ends s file n cycles number = record { ran = record { state = s; done = n; cycles = cycles; number = number }; file = file }

-- What a run leaves, after n instructions more that took k cycles more.
abbrev pub after : ℕ → ℕ → Left → Left
after n k l =
    record {
      ran = record { state = l.ran.state; done = n + l.ran.done; cycles = k + l.ran.cycles; number = l.ran.number };
      file = l.file;
    }

-- What follows from a step's outcome: a refused instruction ends the run with its number, SLEEP with 1.
abbrev pub followed : (State → List ℕ → Left) → State → List ℕ → Outcome → Left
followed rest s file (refused number) = ends s file 0 0 number
followed rest s file (done s' file' k going) = after 1 k (rest s' file')
followed rest s file (done s' file' k cleared) = after 1 k (rest s' file')
followed rest s file (done s' file' k asleep) = ends s' file' 1 k 1

-- n instructions, one after the other.
unfoldable pub steps_of : List ℕ → ℕ → State → List ℕ → Left
steps_of words zero s file = ends s file 0 0 0
steps_of words (suc n) s file = followed (steps_of words n) s file (step_of words s file)

-- The cycles of each instruction that n of them do, in their order.
abbrev pub costs_after : (State → List ℕ → List ℕ) → Outcome → List ℕ
costs_after rest (refused number) = []
costs_after rest (done s' file' k going) = k ∷ rest s' file'
costs_after rest (done s' file' k cleared) = k ∷ rest s' file'
costs_after rest (done s' file' k asleep) = k ∷ []

unfoldable pub costs_of : List ℕ → ℕ → State → List ℕ → List ℕ
costs_of words zero s file = []
costs_of words (suc n) s file = costs_after (costs_of words n) (step_of words s file)

abbrev pub sum : List ℕ → ℕ
sum [] = 0
sum (k ∷ ks) = k + sum ks

-- The tests before a run. 2: file not 512 bytes, or 0 or over 8,192 words lent.
unfoldable pub sizes_fit : ℕ → ℕ → Bool
sizes_fit words bytes = eqb bytes 512 && (leb 1 words && leb words 8192)

-- 3: counter or any stack entry over 8,191, or depth over 8.
unfoldable pub entries_fit : List ℕ → Bool
entries_fit [] = true
entries_fit (r ∷ rs) = leb r 8191 && entries_fit rs

unfoldable pub state_fits : State → Bool
state_fits s = leb s.counter 8191 && (leb s.depth 8 && entries_fit s.stack)

-- 4: n over 1,000,000. With 2 to 4 everything stays as it was, and both counts are 0.
unfoldable pub run_of : List ℕ → List ℕ → State → ℕ → Left
run_of words file s n =
    cond (not (sizes_fit (length words) (length file))) (ends s file 0 0 2)
    (cond (not (state_fits s)) (ends s file 0 0 3)
    (cond (not (leb n 1000000)) (ends s file 0 0 4)
    (steps_of words n s file)))
