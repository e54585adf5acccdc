-- The flow of an instruction: what it does to the counter, the return addresses and the page, and what it costs. This
-- and View.antt are all that the sheet's rules know of the machine. Assumes nothing.
use Rattle.std.specs.Prelude.{Bool, true, false, List, [], ◌∷◌, ℕ}
use Rattle.machine.specs.State.{plus}
use Rattle.machine.specs.Step.{hops, target}

pub data Flow : Type 0 where
  next : Flow
  clear : Flow
  skip : Flow
  goto : ℕ → Flow
  call : ℕ → Flow
  back : Flow

-- The control part of a state: the counter, the return addresses, the last pushed first, and PCLATH bits 4 and 3.
pub record Control : Type 0 where
  pub counter : ℕ
  pub frames : List ℕ
  pub page : ℕ

-- The last return address becomes the counter.
abbrev pub back_to : List ℕ → ℕ → ℕ → Control
back_to [] a page = record { counter = a; frames = []; page = page }
back_to (r ∷ rs) a page = record { counter = r; frames = rs; page = page }

-- Where control stands after an instruction of a flow; `taken` says whether a skip is, `page` is the page after it.
abbrev pub after : Flow → Bool → Control → ℕ → Control
after next taken c page = record { counter = plus c.counter 1; frames = c.frames; page = page }
after clear taken c page = record { counter = plus c.counter 1; frames = c.frames; page = page }
after skip taken c page = record { counter = plus c.counter (hops taken); frames = c.frames; page = page }
after (goto k) taken c page = record { counter = target c.page k; frames = c.frames; page = page }
after (call k) taken c page = record { counter = target c.page k; frames = plus c.counter 1 ∷ c.frames; page = page }
after back taken c page = back_to c.frames c.counter page

-- "Cycles: 2 for CALL, GOTO, the returns, a taken skip and a PCL write; else 1." No flow writes PCL.
abbrev pub costs : Flow → Bool → ℕ
costs next taken = 1
costs clear taken = 1
costs skip taken = hops taken
costs (goto k) taken = 2
costs (call k) taken = 2
costs back taken = 2

-- CLRWDT and SLEEP.
abbrev pub clears : Flow → Bool
clears next = false
clears clear = true
clears skip = false
clears (goto k) = false
clears (call k) = false
clears back = false
