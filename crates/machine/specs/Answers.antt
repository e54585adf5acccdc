-- The promises of the machine layer's public calls. Each is one equation, for every input, and fixes the answer and
-- every lent byte. Assumes nothing.
use Rattle.std.specs.Prelude.{◌≡◌, List, ℕ}
use Rattle.machine.specs.declared.state.State.{State}
use Rattle.machine.specs.declared.running.Ran.{Ran}
use Rattle.machine.specs.State.{blank, blank_file}
use Rattle.machine.specs.Run.{Told, run_of}
use Rattle.machine.specs.Numbers.{end_number}

-- run: what its result tells, with document 01's number; `before` and `after` are the lent file
abbrev pub told : Ran → Told
told r = record { state = r.state; done = r.done; cycles = r.cycles; number = end_number r.end }

abbrev pub Runs : List ℕ → List ℕ → State → ℕ → Ran → List ℕ → Type 0
Runs words before s n r after = record { ran = told r; file = after } ≡ run_of words before s n

abbrev pub IsBlank : State → Type 0
IsBlank r = r ≡ blank

abbrev pub IsBlankFile : List ℕ → Type 0
IsBlankFile r = r ≡ blank_file
