-- What one instruction does to the state and the file: document 01, "One instruction". Assumes nothing.
use Rattle.std.specs.Prelude.{Bool, true, false, cond, List, ℕ, zero, suc, ◌+◌, ◌*◌, ◌%◌, ltb, eqb, get_or, length, set}
use Rattle.decoder.specs.declared.instruction.Dest.{Dest}
use Rattle.decoder.specs.declared.instruction.Dest.TheVariants.{W, File}
use Rattle.decoder.specs.declared.instruction.Instruction.{Instruction}
use Rattle.decoder.specs.Table.{Answer, decode_of}
use Rattle.decoder.specs.Table.Answer.{gives, refuses}
use Rattle.alu.specs.Alu.{Result, bit_of, with_bit}
use Rattle.machine.specs.declared.place.Place.{Place}
use Rattle.machine.specs.declared.place.Place.TheVariants.{Nowhere, Counter, Latch, Cell}
use Rattle.machine.specs.declared.state.State.{State}
use Rattle.machine.specs.State.{plus, moved, pushed, popped}
use Rattle.machine.specs.Registers.{STATUS, INTCON, place_at, read_at, write_at, counter_from, page_of, flag, stored}
use Rattle.machine.specs.Forms.{Form, ReturnKind, form_of, patched}
use Rattle.machine.specs.Forms.Form.{byte, count, patch, literal, test, watch, jump, calls, returns}
use Rattle.machine.specs.Forms.ReturnKind.{bare, loads, enables}

-- What a done instruction was: SLEEP, CLRWDT, or another.
pub data Note : Type 0 where
  going : Note
  cleared : Note
  asleep : Note

-- An instruction is done, with the state and the file after it and its cycles, or it is refused with a number and
-- changes nothing.
pub data Outcome : Type 0 where
  done : State → List ℕ → ℕ → Note → Outcome
  refused : ℕ → Outcome

-- "At address a the next is a+1; a taken skip goes to a+2", at one cycle and at two.
abbrev pub hops : Bool → ℕ
hops true = 2
hops false = 1

-- On to the next instruction, or past it, with W and the file as given.
abbrev pub goes_on : State → ℕ → List ℕ → Bool → Outcome
goes_on s w file skips = done (moved s w (plus s.counter (hops skips))) file (hops skips) going

-- A result goes to its place; one that goes to PCL is a jump.
abbrev pub to_place : State → List ℕ → Place → Result → Outcome
to_place s file Nowhere r = goes_on s s.w (stored file Nowhere r) false
to_place s file Counter r = done (moved s s.w (counter_from file r.value)) (stored file Counter r) 2 going
to_place s file Latch r = goes_on s s.w (stored file Latch r) false
to_place s file (Cell n) r = goes_on s s.w (stored file (Cell n) r) false

-- A result goes to W or to its place.
abbrev pub to_dest : State → List ℕ → Dest → Place → Result → Outcome
to_dest s file W p r = goes_on s r.value (flag r.flags file) false
to_dest s file File p r = to_place s file p r

-- INCFSZ and DECFSZ: the skip is judged by the result, and none is written to PCL.
abbrev pub counted : State → List ℕ → Dest → Place → ℕ → Outcome
counted s file W p v = goes_on s v file (eqb v 0)
counted s file File Nowhere v = goes_on s s.w file (eqb v 0)
counted s file File Counter v = refused 9
counted s file File Latch v = goes_on s s.w (write_at file Latch v) (eqb v 0)
counted s file File (Cell n) v = goes_on s s.w (write_at file (Cell n) v) (eqb v 0)

-- "CALL and GOTO take PCLATH bits 4 and 3 above k."
abbrev pub target : ℕ → ℕ → ℕ
target page k = page * 2048 + k

-- "CALL pushes a+1." "The stack has eight places."
abbrev pub called : State → List ℕ → ℕ → Outcome
called s file k =
    cond (ltb s.depth 8)
    (done (pushed s (plus s.counter 1) (target (page_of file) k)) file 2 going)
    (refused 7)

-- "Returns pop; RETLW also loads W, and RETFIE sets INTCON bit 7."
abbrev pub loaded : ReturnKind → ℕ → ℕ
loaded bare w = w
loaded (loads k) w = k
loaded enables w = w

abbrev pub enabled : ReturnKind → List ℕ → List ℕ
enabled bare file = file
enabled (loads k) file = file
enabled enables file = set file INTCON (with_bit 7 1 (get_or file INTCON 0))

abbrev pub returned : State → List ℕ → ReturnKind → ℕ → Outcome
returned s file r zero = refused 8
returned s file r (suc d) = done (popped s (loaded r s.w) d) (enabled r file) 2 going

-- "CLRWDT sets TO and PD (STATUS bits 4, 3). SLEEP sets TO, clears PD, and ends the run."
abbrev pub watched : ℕ → List ℕ → List ℕ
watched pd file = set file STATUS (with_bit 4 1 (with_bit 3 pd (get_or file STATUS 0)))

abbrev pub noted : ℕ → Note
noted zero = asleep
noted (suc n) = cleared

-- What each form does. The place and the byte are taken before anything is written.
unfoldable pub step_form : Form → State → List ℕ → Outcome
step_form (byte f d op) s file =
    let p = place_at file f in
    to_dest s file d p (op s.w (read_at s.counter file p) (get_or file STATUS 0 % 2))
step_form (count f d op) s file =
    let p = place_at file f in
    counted s file d p (op (read_at s.counter file p))
step_form (patch f c) s file =
    let p = place_at file f in
    to_place s file p (patched c (read_at s.counter file p))
step_form (literal op) s file = to_dest s file W Nowhere (op s.w)
step_form (test f b x) s file = goes_on s s.w file (eqb (bit_of b (read_at s.counter file (place_at file f))) x)
step_form (watch pd) s file = done (moved s s.w (plus s.counter 1)) (watched pd file) 1 (noted pd)
step_form (jump k) s file = done (moved s s.w (target (page_of file) k)) file 2 going
step_form (calls k) s file = called s file k
step_form (returns r) s file = returned s file r s.depth

-- An instruction, and the word at the counter: 5 past the words, 6 for an undefined one.
unfoldable pub done_by : Instruction → State → List ℕ → Outcome
done_by i s file = step_form (form_of i) s file

abbrev pub step_word : Answer Instruction → State → List ℕ → Outcome
step_word (refuses n) s file = refused 6
step_word (gives i) s file = done_by i s file

unfoldable pub step_of : List ℕ → State → List ℕ → Outcome
step_of words s file =
    cond (ltb s.counter (length words))
    (step_word (decode_of (get_or words s.counter 0)) s file)
    (refused 5)
