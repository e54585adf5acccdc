-- What the layers above may cite of the machine, and nothing else: what a step, an input and a reset do to the control
-- part of a state, in the flow view (specs/Flow.antt and specs/View.antt). Assumes nothing.
use mathlib.Core.Path.{◌≡◌, refl, sym, ap, ◌∙◌}
use mathlib.Core.Bool.{true}
use mathlib.Core.List.{List, []}
use Prim.Native.Nat.{ℕ, suc, ◌+◌, ◌≤◌, ◌<◌}
use native.Mathlib.Omega.{arith}
use lib.ListN.{get_or, length}
use borrow.Author.Tests.{lt-ltb, le-leb, leb-true}
use Rattle.decoder.specs.declared.instruction.Instruction.{Instruction}
use Rattle.decoder.specs.Table.{decode_of}
use Rattle.decoder.specs.Table.Answer.{gives}
use Rattle.machine.specs.declared.state.State.{State}
use Rattle.machine.specs.Registers.{page_of}
use Rattle.machine.specs.Forms.{form_of}
use Rattle.machine.specs.Step.{done_by, step_of}
use Rattle.machine.specs.Step.Outcome.{done, refused}
use Rattle.machine.specs.Run.{Left, ends, after, followed, steps_of, costs_of, sum, sizes_fit, state_fits, run_of}
use Rattle.machine.specs.Flow.{costs, clears}
use Rattle.machine.specs.Flow as flow
use Rattle.machine.specs.Flow.Flow.{call, back}
use Rattle.machine.specs.View.{flow_of, note_of, is_clear, may_write, page_after, skips_of, control_of, Well, Reset, rewritten, Rewrites}
use Rattle.machine.proofs.Operands.{form_fits}
use Rattle.machine.proofs.Runs as runs
use Rattle.machine.proofs.Tested.{bytes_fit, within, fits, answered}
use Rattle.machine.proofs.Flowing.{frames_length, form_flows, form_clears, form_returns}

-- A step that is done as the flow of i says: its cycles, its note, and the control part of the machine that it leaves.
pub record Stepped (words : List ℕ) (i : Instruction) (s : State) (file : List ℕ) : Type 0 where
  pub s' : State
  pub file' : List ℕ
  pub is : step_of words s file ≡ done s' file' (costs (flow_of i) (skips_of i s file)) (note_of i)
  pub goes : control_of s' file' ≡ flow.after (flow_of i) (skips_of i s file) (control_of s file) (page_after i (control_of s file).page)
  pub well : Well s' file'

-- A word that decodes to i and that rule 25 allows steps so, given room for a call and a return address for a return.
pub step_law : (words : List ℕ) {i : Instruction} {s : State} {file : List ℕ} → Well s file → (control_of s file).counter < length words
    → decode_of (get_or words (control_of s file).counter 0) ≡ gives i → may_write i ≡ true
    → ((k : ℕ) → flow_of i ≡ call k → length (control_of s file).frames < 8)
    → (flow_of i ≡ back → 0 < length (control_of s file).frames)
    → Stepped words i s file
unfolding step_of done_by control_of flow_of note_of may_write page_after skips_of
step_law words {i} {s} {file} h inside e ok room some =
    let deep = frames_length s.depth s.stack in
    let l = form_flows s file h (form_of i) (form_fits _ i e) ok (λ k q. omega (arith, deep, room k q)) (λ q. omega (arith, deep, some q)) in
    record { s' = l.s'; file' = l.file'; is = rw (lt-ltb s.counter (length words) inside, e) l.is; goes = l.goes; well = l.well }

-- A flow clears where the word is a CLRWDT or a SLEEP.
pub clear_law : (i : Instruction) → clears (flow_of i) ≡ is_clear (note_of i)
unfolding flow_of note_of
clear_law i = form_clears (form_of i)

-- A return leaves the page.
pub return_law : (i : Instruction) (page : ℕ) → flow_of i ≡ back → page_after i page ≡ page
unfolding flow_of page_after
return_law i page e = form_returns (form_of i) page e

-- The return addresses are as many as the depth.
pub depth_law : (s : State) (file : List ℕ) → length (control_of s file).frames ≡ s.depth
unfolding control_of
depth_law s file = frames_length s.depth s.stack

-- What inputs rewrite is not seen in the control part.
pub input_law : {s : State} {file file' : List ℕ} (w : ℕ) → Well s file → Rewrites file file'
    → Well (rewritten s w) file' × (control_of (rewritten s w) file' ≡ control_of s file)
unfolding control_of
input_law w h m = (record { bytes = m.bytes; places = h.places; deep = h.deep }, rw m.latch)

-- At reset control stands at 0, on page 0, with no return address.
pub reset_law : {s : State} {file : List ℕ} → Reset s file → Well s file × (control_of s file ≡ record { counter = 0; frames = []; page = 0 })
unfolding control_of
reset_law {s} {file} r =
    let page : page_of file ≡ 0 = omega arith in
    (record { bytes = r.bytes; places = r.places; deep = omega arith }, rw (r.at_zero, r.no_frames, page))

-- The control part's counter is the state's.
pub counter_law : (s : State) (file : List ℕ) → (control_of s file).counter ≡ s.counter
unfolding control_of
counter_law s file = refl

-- A run that passes the tests 2, 3 and 4 is its n instructions, one step after the other.
pub run_law : (words file : List ℕ) (s : State) (n : ℕ) → sizes_fit (length words) (length file) ≡ true → state_fits s ≡ true → n ≤ 1000000
    → run_of words file s n ≡ steps_of words n s file
unfolding run_of
run_law words file s n sizes state few = rw (sizes, state, le-leb n 1000000 few)

pub steps_none : (words : List ℕ) (s : State) (file : List ℕ) → steps_of words 0 s file ≡ ends s file 0 0 0
unfolding steps_of
steps_none words s file = refl

pub steps_on : (words : List ℕ) (n : ℕ) (s : State) (file : List ℕ)
    → steps_of words (suc n) s file ≡ followed (steps_of words n) s file (step_of words s file)
unfolding steps_of
steps_on words n s file = refl

-- What a run that passes the tests leaves passes them again; its cycles are the sum over its steps, and its count is how
-- many they are; it answers at most 9, and where it answers 0 it has done all n.
pub record Sound (words file : List ℕ) (s : State) (n : ℕ) (l : Left) : Type 0 where
  pub state : state_fits l.ran.state ≡ true
  pub places : length l.ran.state.stack ≡ 8
  pub bytes : length l.file ≡ 512
  pub cycles : l.ran.cycles ≡ sum (costs_of words n s file)
  pub count : l.ran.done ≡ length (costs_of words n s file)
  pub number : l.ran.number ≤ 9
  pub all : l.ran.number ≡ 0 → l.ran.done ≡ n

pub sound_law : (words file : List ℕ) (s : State) (n : ℕ) → length s.stack ≡ 8 → sizes_fit (length words) (length file) ≡ true
    → state_fits s ≡ true → n ≤ 1000000 → Sound words file s n (run_of words file s n)
sound_law words file s n places sizes state few =
    let l = runs.sound words n s file (within s places state) (bytes_fit (length words) (length file) sizes) in
    rw (run_law words file s n sizes state few)
    (record {
      state = fits l.within;
      places = l.within.places;
      bytes = l.bytes;
      cycles = l.cycles;
      count = l.count;
      number = l.number;
      all = l.all;
    })

-- A run of n and then a run of m from what it left is a run of n + m, where the first answers 0.
pub then_law : (words file : List ℕ) (s : State) (n m : ℕ) → length s.stack ≡ 8 → n + m ≤ 1000000
    → let l = run_of words file s n in
    l.ran.number ≡ 0 → run_of words file s (n + m) ≡ after l.ran.done l.ran.cycles (run_of words l.file l.ran.state m)
then_law words file s n m places few none =
    let p = answered words file s n (omega arith) (omega arith) (omega arith) in
    let h = within s places p.state in
    let b = bytes_fit (length words) (length file) p.sizes in
    let l = runs.sound words n s file h b in
    let sizes : sizes_fit (length words) (length (steps_of words n s file).file) ≡ true = rw l.bytes (rw b at p.sizes) in
    rw p.run
    (run_law words file s (n + m) p.sizes p.state few
    ∙ runs.then words n m s file h b (rw p.run at none)
    ∙ ap (after (steps_of words n s file).ran.done (steps_of words n s file).ran.cycles)
    (sym (run_law words (steps_of words n s file).file (steps_of words n s file).ran.state m sizes (fits l.within) (omega arith))))

-- A run that is refused at an instruction keeps exactly the instructions finished before it: it is the run of as many,
-- which answers 0, and the step from what it left is refused with its number.
pub broken_law : (words file : List ℕ) (s : State) (n : ℕ) → length s.stack ≡ 8
    → let l = run_of words file s n in
    5 ≤ l.ran.number
    → (run_of words file s l.ran.done ≡ ends l.ran.state l.file l.ran.done l.ran.cycles 0)
    × (step_of words l.ran.state l.file ≡ refused l.ran.number)
broken_law words file s n places five =
    let p = answered words file s n (omega arith) (omega arith) (omega arith) in
    let h = within s places p.state in
    let b = bytes_fit (length words) (length file) p.sizes in
    let l = runs.sound words n s file h b in
    let few : n ≤ 1000000 = leb-true n 1000000 p.count in
    let done = (steps_of words n s file).ran.done in
    let broke = runs.broken words n s file h b (rw p.run at five) in
    rw p.run (run_law words file s done p.sizes p.state (omega (arith, l.some, few)) ∙ broke.before, broke.at)
