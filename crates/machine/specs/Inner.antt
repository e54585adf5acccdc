-- What the crate's own functions tell each other. No promise names it, so a reader may skip it. Assumes nothing.
use Rattle.std.specs.Prelude.{◌≡◌, Bool, true, false, cond, List, ℕ, ◌≤◌, leb, length, Result, Ok, Err}
use Rattle.machine.specs.declared.refusal.Refusal.{Refusal}
use Rattle.machine.specs.declared.state.State.{State}
use Rattle.machine.specs.declared.state.Core.{Core}
use Rattle.machine.specs.declared.stack.Stack.{Stack}
use Rattle.machine.specs.declared.step.End.{End}
use Rattle.machine.specs.declared.step.End.TheVariants.{Next, Skip, Sleep}
use Rattle.machine.specs.declared.step.Stepped.{Stepped}
use Rattle.machine.specs.declared.place.Operand.{Operand}
use Rattle.machine.specs.declared.running.Gone.{Gone}
use Rattle.machine.specs.declared.running.Ran.{Ran}
use Rattle.machine.specs.Step.{Outcome}
use Rattle.machine.specs.Step.Outcome.{done, refused}
use Rattle.machine.specs.Step.Note.{going, cleared, asleep}
use Rattle.machine.specs.State.{plus}
use Rattle.machine.specs.Numbers.{number_of, end_number}
use Rattle.machine.specs.Run.{Told, Left, ends, entries_fit, sizes_fit, state_fits}
use Rattle.machine.specs.Answers.{told}
use Rattle.machine.specs.Registers.{place_at, read_at}

-- The operand f of an instruction at a.
pub record Found (file : List ℕ) (f a : ℕ) (o : Operand) : Type 0 where
  pub place : o.place ≡ place_at file f
  pub byte : o.byte ≡ read_at a file o.place

-- The core and the stack make a state.
abbrev pub state_of : Core → Stack → State
state_of c k = record { w = c.w; counter = c.counter; depth = k.depth; stack = k.entries }

-- What a step shows: the state and the file, its cycles, and whether the run goes on or stops with a number, which is 1
-- for SLEEP.
pub data Sign : Type 0 where
  on : Sign
  stop : ℕ → Sign

pub record Shown : Type 0 where
  pub state : State
  pub file : List ℕ
  pub cycles : ℕ
  pub sign : Sign

abbrev pub skipped : Core → Core
skipped c = record { w = c.w; counter = plus c.counter 1 }

-- The loop takes a taken skip's second word and cycle.
abbrev pub shown_by : End → Core → ℕ → Stack → List ℕ → Shown
shown_by Next c k stack file = record { state = state_of c stack; file = file; cycles = k; sign = on }
shown_by Skip c k stack file = record { state = state_of (skipped c) stack; file = file; cycles = 2; sign = on }
shown_by Sleep c k stack file = record { state = state_of c stack; file = file; cycles = k; sign = stop 1 }

abbrev pub shown : Stepped → Stack → List ℕ → Shown
shown r stack file = shown_by r.end r.core r.cycles stack file

-- The same where the step may be refused at the core c.
abbrev pub tried : Core → Result Stepped Refusal → Stack → List ℕ → Shown
tried c (Ok r) stack file = shown r stack file
tried c (Err refusal) stack file = record { state = state_of c stack; file = file; cycles = 0; sign = stop (number_of refusal) }

-- The same of the definition's outcome at s and file.
abbrev pub expected : State → List ℕ → Outcome → Shown
expected s file (refused n) = record { state = s; file = file; cycles = 0; sign = stop n }
expected s file (done s' file' k going) = record { state = s'; file = file'; cycles = k; sign = on }
expected s file (done s' file' k cleared) = record { state = s'; file = file'; cycles = k; sign = on }
expected s file (done s' file' k asleep) = record { state = s'; file = file'; cycles = k; sign = stop 1 }

-- A step of the core c with a stack and a file does what the definition does.
abbrev pub Steps : Core → Stack → List ℕ → Result Stepped Refusal → Stack → List ℕ → (State → List ℕ → Outcome) → Type 0
Steps c stack file r stack' file' o = tried c r stack' file' ≡ expected (state_of c stack) file (o (state_of c stack) file)

-- A function of the core and the file alone does what the definition does with any stack; one that may refuse, too.
abbrev pub Does : Core → List ℕ → Stepped → List ℕ → (State → Outcome) → Type 0
Does c before r after o = (stack : Stack) → shown r stack after ≡ expected (state_of c stack) before (o (state_of c stack))

abbrev pub Tries : Core → List ℕ → Result Stepped Refusal → List ℕ → (State → Outcome) → Type 0
Tries c before r after o = (stack : Stack) → tried c r stack after ≡ expected (state_of c stack) before (o (state_of c stack))

-- The ways a step ends: on to the next word, past it, by a jump, in SLEEP.
abbrev pub end_of : Bool → End
end_of true = Skip
end_of false = Next

abbrev pub skip_of : Core → Bool → Stepped
skip_of c taken = record { core = skipped c; cycles = 1; end = end_of taken }

abbrev pub next_of : Core → Stepped
next_of c = skip_of c false

abbrev pub jump_of : Core → ℕ → Stepped
jump_of c a = record { core = record { w = c.w; counter = a }; cycles = 2; end = Next }

abbrev pub sleep_of : Core → Stepped
sleep_of c = record { core = skipped c; cycles = 1; end = Sleep }

-- A state as test 3 lets it in, with its eight entries.
pub record Within (s : State) : Type 0 where
  pub counter : s.counter ≤ 8191
  pub deep : s.depth ≤ 8
  pub entries : entries_fit s.stack ≡ true
  pub places : length s.stack ≡ 8

-- The number of the first of the tests 2, 3 and 4 that a run does not pass, or 0.
unfoldable pub test_of : ℕ → ℕ → State → ℕ → ℕ
test_of words bytes s n = cond (sizes_fit words bytes) (cond (state_fits s) (cond (leb n 1000000) 0 4) 3) 2

abbrev pub test_answer : Result Unit Refusal → ℕ
test_answer (Ok u) = 0
test_answer (Err refusal) = number_of refusal

-- What a run tells that may be turned down before its first instruction.
abbrev pub told_by : State → Result Ran Refusal → Told
told_by s (Ok ran) = told ran
told_by s (Err refusal) = record { state = s; done = 0; cycles = 0; number = number_of refusal }

-- What the loop leaves, and how it stops.
abbrev pub left_by : Gone → Stack → List ℕ → Left
left_by r stack file = ends (state_of r.core stack) file r.done r.cycles (end_number r.end)
