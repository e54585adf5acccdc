-- What the ways a step ends show, and that a result put in its place with its flags is what the definition does.
-- Assumes nothing.
use mathlib.Core.Path.{◌≡◌, refl}
use mathlib.Core.Bool.{Bool, true, false}
use mathlib.Core.List.{List}
use mathlib.Core.Logic.{◌≢◌}
use Prim.Native.Nat.{ℕ, ◌+◌, ◌*◌, ◌%◌, ◌<◌}
use native.Mathlib.Omega.{arith}
use lib.ListN.{get_or}
use Rattle.alu.specs.Alu.{Result}
use Rattle.machine.specs.declared.place.Place.{Place}
use Rattle.machine.specs.declared.place.Place.TheVariants.{Nowhere, Counter, Latch, Cell}
use Rattle.machine.specs.declared.state.Core.{Core}
use Rattle.machine.specs.declared.stack.Stack.{Stack}
use Rattle.machine.specs.State.{plus}
use Rattle.machine.specs.Registers.{PCLATH, write_at, flag, stored}
use Rattle.machine.specs.Step.{goes_on, to_place}
use Rattle.machine.specs.Inner.{state_of, shown, expected, skip_of, next_of, jump_of}

two_on : (a : ℕ) → plus (plus a 1) 1 ≡ plus a 2
two_on a = omega arith

-- On to the next word or past it, with w in W.
pub skips : (c : Core) (w : ℕ) (before after : List ℕ) (taken : Bool) (stack : Stack)
    → shown (skip_of (record { w = w; counter = c.counter }) taken) stack after
    ≡ expected (state_of c stack) before (goes_on (state_of c stack) w after taken)
skips c w before after true stack = rw (two_on c.counter)
skips c w before after false stack = refl

-- A result in its place, where that is not PCL, and one for PCL.
pub lands : (c : Core) (file : List ℕ) (p : Place) (r : Result) (stack : Stack) → p ≢ Counter
    → shown (next_of c) stack (flag r.flags (write_at file p r.value)) ≡ expected (state_of c stack) file (to_place (state_of c stack) file p r)
unfolding stored
lands c file Nowhere r stack h = refl
lands c file Counter r stack h = absurd (h refl)
lands c file Latch r stack h = refl
lands c file (Cell n) r stack h = refl

pub jumps : (c : Core) (file : List ℕ) (r : Result) (stack : Stack) → r.value < 256
    → shown (jump_of c (get_or file PCLATH 0 % 32 * 256 + r.value)) stack (flag r.flags file)
    ≡ expected (state_of c stack) file (to_place (state_of c stack) file Counter r)
unfolding stored
jumps c file r stack h = let byte : r.value % 256 ≡ r.value = omega arith in rw byte
