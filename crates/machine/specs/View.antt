-- The machine in the flow view: an instruction's flow, rule 25's test, the page after a word, the control part of a
-- state, reset, and what inputs may rewrite. Document 01, "The sheet"; demand 3. Assumes nothing.
use Rattle.std.specs.Prelude.{◌≡◌, Bool, true, false, not, cond, ◌&&◌, List, [], ◌∷◌, ℕ, zero, suc, ◌*◌, ◌/◌, ◌%◌, ◌≤◌, eqb, get_or, length}
use Rattle.decoder.specs.declared.instruction.Dest.{Dest}
use Rattle.decoder.specs.declared.instruction.Dest.TheVariants.{W, File}
use Rattle.decoder.specs.declared.instruction.Instruction.{Instruction}
use Rattle.alu.specs.Alu.{bit_of}
use Rattle.machine.specs.declared.state.State.{State}
use Rattle.machine.specs.State.{moved}
use Rattle.machine.specs.Registers.{PCLATH, place_at, read_at, page_of}
use Rattle.machine.specs.Forms.{Form, form_of, patched}
use Rattle.machine.specs.Forms.Form.{byte, count, patch, literal, test, watch, jump, calls, returns}
use Rattle.machine.specs.Step.{Note, noted}
use Rattle.machine.specs.Step.Note.{going, cleared, asleep}
use Rattle.machine.specs.Flow.{Flow, Control}
use Rattle.machine.specs.Flow.Flow.{next, clear, skip, goto, call, back}

abbrev pub flow_form : Form → Flow
flow_form (byte f d op) = next
flow_form (count f d op) = skip
flow_form (patch f c) = next
flow_form (literal op) = next
flow_form (test f b x) = skip
flow_form (watch pd) = clear
flow_form (jump k) = goto k
flow_form (calls k) = call k
flow_form (returns r) = back

unfoldable pub flow_of : Instruction → Flow
flow_of i = flow_form (form_of i)

-- What the word is noted as when it is done.
abbrev pub note_form : Form → Note
note_form (byte f d op) = going
note_form (count f d op) = going
note_form (patch f c) = going
note_form (literal op) = going
note_form (test f b x) = going
note_form (watch pd) = noted pd
note_form (jump k) = going
note_form (calls k) = going
note_form (returns r) = going

unfoldable pub note_of : Instruction → Note
note_of i = note_form (form_of i)

-- A clear was done.
abbrev pub is_clear : Note → Bool
is_clear going = false
is_clear cleared = true
is_clear asleep = true

-- Rule 25: "it writes neither f = 0 nor f = 0x02; it writes f = 0x0A only by CLRF, BCF or BSF."
abbrev pub writes_to : ℕ → Dest → Bool
writes_to f W = true
writes_to f File = not (eqb f 0) && (not (eqb f 0x02) && not (eqb f PCLATH))

abbrev pub allowed : Form → Bool
allowed (byte f d op) = writes_to f d
allowed (count f d op) = writes_to f d
allowed (patch f c) = not (eqb f 0) && not (eqb f 0x02)
allowed (literal op) = true
allowed (test f b x) = true
allowed (watch pd) = true
allowed (jump k) = true
allowed (calls k) = true
allowed (returns r) = true

unfoldable pub may_write : Instruction → Bool
may_write i = allowed (form_of i)

-- The page after a word: CLRF, BCF and BSF of PCLATH change it, by what they do to bits 4 and 3.
abbrev pub page_form : Form → ℕ → ℕ
page_form (byte f d op) page = page
page_form (count f d op) page = page
page_form (patch f c) page = cond (eqb f PCLATH) ((patched c (page * 8)).value % 32 / 8) page
page_form (literal op) page = page
page_form (test f b x) page = page
page_form (watch pd) page = page
page_form (jump k) page = page
page_form (calls k) page = page
page_form (returns r) page = page

unfoldable pub page_after : Instruction → ℕ → ℕ
page_after i page = page_form (form_of i) page

-- Whether a skip is taken.
abbrev pub skips_form : Form → State → List ℕ → Bool
skips_form (byte f d op) s file = false
skips_form (count f d op) s file = eqb (op (read_at s.counter file (place_at file f))) 0
skips_form (patch f c) s file = false
skips_form (literal op) s file = false
skips_form (test f b x) s file = eqb (bit_of b (read_at s.counter file (place_at file f))) x
skips_form (watch pd) s file = false
skips_form (jump k) s file = false
skips_form (calls k) s file = false
skips_form (returns r) s file = false

unfoldable pub skips_of : Instruction → State → List ℕ → Bool
skips_of i s file = skips_form (form_of i) s file

-- The return addresses, the last pushed first.
abbrev pub frames_of : ℕ → List ℕ → List ℕ
frames_of zero stack = []
frames_of (suc d) stack = get_or stack d 0 ∷ frames_of d stack

unfoldable pub control_of : State → List ℕ → Control
control_of s file = record { counter = s.counter; frames = frames_of s.depth s.stack; page = page_of file }

-- What a machine is: 512 bytes, eight places, and no more return addresses than places.
pub record Well (s : State) (file : List ℕ) : Type 0 where
  pub bytes : length file ≡ 512
  pub places : length s.stack ≡ 8
  pub deep : s.depth ≤ 8

-- Reset: counter 0, depth 0, PCLATH 0, anything else arbitrary.
pub record Reset (s : State) (file : List ℕ) : Type 0 where
  pub bytes : length file ≡ 512
  pub places : length s.stack ≡ 8
  pub at_zero : s.counter ≡ 0
  pub no_frames : s.depth ≡ 0
  pub latch : get_or file PCLATH 0 % 32 ≡ 0

-- What inputs do between instructions: W becomes w, and every register but PCL and PCLATH may be rewritten.
abbrev pub rewritten : State → ℕ → State
rewritten s w = moved s w s.counter

pub record Rewrites (before after : List ℕ) : Type 0 where
  pub bytes : length after ≡ 512
  pub latch : get_or after PCLATH 0 % 32 ≡ get_or before PCLATH 0 % 32
