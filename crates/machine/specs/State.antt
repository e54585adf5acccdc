-- The machine's state, its start and each change of it: document 01, "Run answers". A state is made of W, the program
-- counter, the depth and eight stack entries; what is told of it elsewhere goes through the names below.
-- Assumes nothing.
use Rattle.std.specs.Prelude.{List, ℕ, ◌+◌, ◌%◌, get_or, set, replicate}
use Rattle.machine.specs.declared.state.State.{State}

-- a + 1 and a + 2 are meant modulo 8,192.
abbrev pub plus : ℕ → ℕ → ℕ
plus a k = (a + k) % 8192

-- "A blank state has W, counter, depth and entries 0; a blank file has 512 zeros."
abbrev pub blank : State
blank = record { w = 0; counter = 0; depth = 0; stack = replicate 8 0 }

abbrev pub blank_file : List ℕ
blank_file = replicate 512 0

-- W becomes w, and the counter a.
abbrev pub moved : State → ℕ → ℕ → State
moved s w a = record { w = w; counter = a; depth = s.depth; stack = s.stack }

-- The return address r is pushed, and the counter becomes a.
abbrev pub pushed : State → ℕ → ℕ → State
pushed s r a = record { w = s.w; counter = a; depth = s.depth + 1; stack = set s.stack s.depth r }

-- The entry at d, the last below the depth, becomes the counter, and stays where it is; W becomes w.
abbrev pub popped : State → ℕ → ℕ → State
popped s w d = record { w = w; counter = get_or s.stack d 0; depth = d; stack = s.stack }
