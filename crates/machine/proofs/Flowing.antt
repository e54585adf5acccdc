-- What a step of each form does to the control part of a state: document 01, "The sheet", where rule 25's test holds and
-- the operands are a decoded word's. Laws.antt states it of words. Assumes nothing.
use mathlib.Core.Path.{◌≡◌, refl, ap, ◌∙◌}
use mathlib.Core.Logic.{◌≢◌}
use mathlib.Core.Bool.{Bool, true, false, not, cond, ◌&&◌, and-eq-true_iff}
use mathlib.Core.List.{List, ◌∷◌}
use Prim.Native.Nat.{ℕ, zero, suc, ◌+◌, ◌*◌, ◌/◌, ◌%◌, ◌≤◌, ◌<◌}
use native.Mathlib.Numerals.{add-one}
use native.Mathlib.Omega.{arith}
use lib.Dec.{eqb}
use lib.ListN.{get_or, length, set, length-set}
use lib.Seq.{get_or-set_same, get_or-set_other}
use borrow.Author.Tests.{eqb-true, eqb-false, not-true, lt-ltb, ne_eqb}
use Rattle.decoder.specs.declared.instruction.Dest.{Dest}
use Rattle.decoder.specs.declared.instruction.Dest.TheVariants.{W, File}
use Rattle.decoder.proofs.Below.{below}
use Rattle.decoder.proofs.Below as tests
use Rattle.alu.specs.Alu.{Flags, Result, with_bit}
use Rattle.alu.specs.Alu.Flags.{none, only_z, only_c, all}
use Rattle.machine.specs.declared.place.Place.{Place}
use Rattle.machine.specs.declared.place.Place.TheVariants.{Nowhere, Latch, Cell}
use Rattle.machine.specs.declared.state.State.{State}
use Rattle.machine.specs.State.{plus, pushed, popped}
use Rattle.machine.specs.Registers.{STATUS, PCLATH, INTCON, address_of, shared, place_of, place_at, read_at, page_of, flag, stored}
use Rattle.machine.specs.Forms.{Form, Patch, ReturnKind, patched}
use Rattle.machine.specs.Forms.Form.{byte, count, patch, literal, test, watch, jump, calls, returns}
use Rattle.machine.specs.Forms.Patch.{zeroes, bit_to}
use Rattle.machine.specs.Forms.ReturnKind.{bare, loads, enables}
use Rattle.machine.specs.Step.{Outcome, Note, hops, goes_on, to_place, to_dest, target, loaded, enabled, step_form}
use Rattle.machine.specs.Step.Outcome.{done}
use Rattle.machine.specs.Step.Note.{going}
use Rattle.machine.specs.Flow.{Control, after, costs, clears}
use Rattle.machine.specs.Flow.Flow.{skip, call, back}
use Rattle.machine.specs.View.{flow_form, note_form, is_clear, writes_to, allowed, page_form, skips_form, frames_of, control_of, Well}
use Rattle.machine.proofs.Operands.{Bits, Fits}
use Rattle.machine.proofs.Within.{written_length, flagged_length, stored_length, enabled_length}

-- An outcome with the cycles and the note given, that leaves a machine whose control part is c.
pub record Lands (o : Outcome) (cycles : ℕ) (note : Note) (c : Control) : Type 0 where
  pub s' : State
  pub file' : List ℕ
  pub is : o ≡ done s' file' cycles note
  pub goes : control_of s' file' ≡ c
  pub well : Well s' file'

-- A form's step, in the flow view.
abbrev pub Flows : Form → State → List ℕ → Type 0
Flows m s file =
    Lands (step_form m s file) (costs (flow_form m) (skips_form m s file)) (note_form m)
    (after (flow_form m) (skips_form m s file) (control_of s file) (page_form m (page_of file)))

-- The page is PCLATH's, and stays where another cell is written.
set_page : (file : List ℕ) (n v : ℕ) → PCLATH ≢ n → page_of (set file n v) ≡ page_of file
set_page file n v h = rw (get_or-set_other file n PCLATH v 0 h)

flag_page : (g : Flags) (file : List ℕ) → page_of (flag g file) ≡ page_of file
flag_page none file = refl
flag_page (only_z z) file = set_page file STATUS (with_bit 2 z (get_or file STATUS 0)) (omega arith)
flag_page (only_c c) file = set_page file STATUS (with_bit 0 c (get_or file STATUS 0)) (omega arith)
flag_page (all z dc c) file = set_page file STATUS (get_or file STATUS 0 / 8 * 8 + z * 4 + dc * 2 + c) (omega arith)

enabled_page : (r : ReturnKind) (file : List ℕ) → page_of (enabled r file) ≡ page_of file
enabled_page bare file = refl
enabled_page (loads k) file = refl
enabled_page enables file = set_page file INTCON (with_bit 7 1 (get_or file INTCON 0)) (omega arith)

-- Where a register lies that rule 25 lets be written: PCLATH in the latch, another in a cell that is not PCLATH's.
abbrev Lies : Bool → Place → Type 0
Lies true p = p ≡ Latch
Lies false p = (n : ℕ) × (p ≡ Cell n) × (PCLATH ≢ n)

lies : (file : List ℕ) (f : ℕ) → f ≤ 127 → f ≢ 0 → f ≢ 0x02 → (t : Bool) → eqb f PCLATH ≡ t → Lies t (place_at file f)
unfolding address_of place_of
lies file f h h0 h2 t e =
    let q : (get_or file STATUS 0 / 32 % 4 * 128 + f) % 128 ≡ f = omega arith in
    rw (ne_eqb f 0 h0, q, ne_eqb f 0 h0, ne_eqb f 0x02 h2, e) (go t e (shared f))
  where
    go : (t : Bool) → eqb f PCLATH ≡ t → (b : Bool) → Lies t (cond t Latch (cond b (Cell f) (Cell (get_or file STATUS 0 / 32 % 4 * 128 + f))))
    go true e b = refl
    go false e true = (f, refl, omega (arith, eqb-false f PCLATH e))
    go false e false = (get_or file STATUS 0 / 32 % 4 * 128 + f, refl, omega (arith, eqb-false f PCLATH e))

differ : (a b : ℕ) → not (eqb a b) ≡ true → a ≢ b
differ a b h = eqb-false a b (not-true (eqb a b) h)

-- CLRF, BCF and BSF of PCLATH: the page after it comes from the page before it alone.
page_test : ℕ → ℕ → ℕ → Bool
page_test u b x = eqb (with_bit b x u % 32 % 32 / 8) (with_bit b x (u / 8 * 8) % 32 / 8)

pages_tested : tests.all 32 (λ u. tests.all 8 (λ b. tests.all 2 (page_test u b))) ≡ true
unfolding page_test
pages_tested = refl

patched_page : (c : Patch) → Bits c → (v : ℕ) → (patched c (v % 32)).value % 32 % 32 / 8 ≡ (patched c (v % 32 / 8 * 8)).value % 32 / 8
unfolding page_test
patched_page zeroes h v = refl
patched_page (bit_to b x) h v =
    let u = v % 32 in
    let at_u = below (λ u. tests.all 8 (λ b. tests.all 2 (page_test u b))) 32 pages_tested u (omega arith) in
    let at_b = below (λ b. tests.all 2 (page_test u b)) 8 at_u b (omega arith) in
    eqb-true _ _ (below (page_test u b) 2 at_b x (omega arith))

-- The return addresses after a push.
set_frames : (d k r : ℕ) (stack : List ℕ) → d ≤ k → frames_of d (set stack k r) ≡ frames_of d stack
set_frames zero k r stack h = refl
set_frames (suc d) k r stack h = rw (get_or-set_other stack k d r 0 (omega arith), set_frames d k r stack (omega arith))

push_frames : (d r : ℕ) (stack : List ℕ) → d < length stack → frames_of (d + 1) (set stack d r) ≡ r ∷ frames_of d stack
push_frames d r stack h = rw (add-one, get_or-set_same stack d r 0 h, set_frames d d r stack (omega arith))

pub frames_length : (d : ℕ) (stack : List ℕ) → length (frames_of d stack) ≡ d
frames_length zero stack = refl
frames_length (suc d) stack = ap suc (frames_length d stack)

module _ (s : State) (file : List ℕ) (h : Well s file) where
  -- On to the next word, or past it: the return addresses stay.
  abbrev On : Outcome → Bool → ℕ → Type 0
  On o t page = Lands o (hops t) going (after skip t (control_of s file) page)

  goes_on_lem : (w : ℕ) (file' : List ℕ) (t : Bool) (page : ℕ) → length file' ≡ length file → page_of file' ≡ page → On (goes_on s w file' t) t page
  unfolding control_of
  goes_on_lem w file' t page bytes e =
      record { s' = _; file' = file'; is = refl; goes = rw e; well = record { bytes = bytes ∙ h.bytes; places = h.places; deep = h.deep } }

  to_w : (r : Result) → On (to_dest s file W Nowhere r) false (page_of file)
  to_w r = goes_on_lem r.value (flag r.flags file) false (page_of file) (flagged_length r.flags file) (flag_page r.flags file)

  to_cell : (n : ℕ) (r : Result) → PCLATH ≢ n → On (to_place s file (Cell n) r) false (page_of file)
  unfolding stored
  to_cell n r e =
      goes_on_lem s.w (stored file (Cell n) r) false (page_of file) (stored_length file (Cell n) r)
      (flag_page r.flags (set file n r.value) ∙ set_page file n r.value e)

  to_latch : (c : Patch) → Bits c
      → On (to_place s file Latch (patched c (read_at s.counter file Latch))) false ((patched c (page_of file * 8)).value % 32 / 8)
  unfolding stored
  to_latch c k =
      let r = patched c (read_at s.counter file Latch) in
      goes_on_lem s.w (stored file Latch r) false _ (stored_length file Latch r)
      (flag_page r.flags (set file PCLATH (r.value % 32))
      ∙ rw (get_or-set_same file PCLATH (r.value % 32) 0 (omega arith)) (patched_page c k (get_or file PCLATH 0)))

  -- A byte operation's place, by rule 25.
  written_cell : (f : ℕ) → f ≤ 127 → writes_to f File ≡ true → Lies false (place_at file f)
  written_cell f small ok =
      let (h0, rest) = (and-eq-true_iff (not (eqb f 0)) (not (eqb f 0x02) && not (eqb f PCLATH))).0 ok in
      let (h2, h10) = (and-eq-true_iff (not (eqb f 0x02)) (not (eqb f PCLATH))).0 rest in
      lies file f small (differ f 0 h0) (differ f 0x02 h2) false (not-true (eqb f PCLATH) h10)

  byte_flows : (f : ℕ) (d : Dest) (op : ℕ → ℕ → ℕ → Result) → f ≤ 127 → writes_to f d ≡ true → Flows (byte f d op) s file
  unfolding step_form control_of
  byte_flows f W op small ok = to_w (op s.w (read_at s.counter file (place_at file f)) (get_or file STATUS 0 % 2))
  byte_flows f File op small ok =
      let (n, e, apart) = written_cell f small ok in
      rw e (to_cell n (op s.w (get_or file n 0) (get_or file STATUS 0 % 2)) apart)

  count_flows : (f : ℕ) (d : Dest) (op : ℕ → ℕ) → f ≤ 127 → writes_to f d ≡ true → Flows (count f d op) s file
  unfolding step_form control_of
  count_flows f W op small ok =
      let v = op (read_at s.counter file (place_at file f)) in
      goes_on_lem v file (eqb v 0) (page_of file) refl refl
  count_flows f File op small ok =
      let (n, e, apart) = written_cell f small ok in
      let v = op (get_or file n 0) in
      rw e (goes_on_lem s.w (set file n v) (eqb v 0) (page_of file) (written_length file (Cell n) v) (set_page file n v apart))

  patch_flows : (f : ℕ) (c : Patch) → f ≤ 127 → Bits c → not (eqb f 0) && not (eqb f 0x02) ≡ true → Flows (patch f c) s file
  unfolding step_form control_of
  patch_flows f c small k ok =
      let (h0, h2) = (and-eq-true_iff (not (eqb f 0)) (not (eqb f 0x02))).0 ok in
      go (eqb f PCLATH) (lies file f small (differ f 0 h0) (differ f 0x02 h2) (eqb f PCLATH) refl)
    where
      go : (t : Bool) → Lies t (place_at file f)
          → On (to_place s file (place_at file f) (patched c (read_at s.counter file (place_at file f)))) false
          (cond t ((patched c (page_of file * 8)).value % 32 / 8) (page_of file))
      go true e = rw e (to_latch c k)
      go false (n, e, apart) = rw e (to_cell n (patched c (get_or file n 0)) apart)

  call_flows : (k : ℕ) → s.depth < 8 → Flows (calls k) s file
  unfolding step_form control_of
  call_flows k room =
      record {
        s' = pushed s (plus s.counter 1) (target (page_of file) k);
        file' = file;
        is = rw (lt-ltb s.depth 8 room);
        goes = rw (push_frames s.depth (plus s.counter 1) s.stack (omega arith));
        well = record { bytes = h.bytes; places = rw length-set h.places; deep = omega arith };
      }

  return_flows : (r : ReturnKind) (d : ℕ) → s.depth ≡ d → 0 < d → Flows (returns r) s file
  unfolding step_form control_of
  return_flows r zero e some = absurd (omega arith)
  return_flows r (suc d) e some =
      record {
        s' = popped s (loaded r s.w) d;
        file' = enabled r file;
        is = rw e;
        goes = rw (e, enabled_page r file);
        well = record { bytes = enabled_length r file ∙ h.bytes; places = h.places; deep = omega arith };
      }

  -- Every form, given room for a call and a return address for a return.
  pub form_flows : (m : Form) → Fits m → allowed m ≡ true → ((k : ℕ) → flow_form m ≡ call k → s.depth < 8)
      → (flow_form m ≡ back → 0 < s.depth) → Flows m s file
  unfolding step_form control_of
  form_flows (byte f d op) fits ok room some = byte_flows f d op fits ok
  form_flows (count f d op) fits ok room some = count_flows f d op fits ok
  form_flows (patch f c) fits ok room some = patch_flows f c fits.0 fits.1 ok
  form_flows (literal op) fits ok room some = to_w (op s.w)
  form_flows (test f b x) fits ok room some = goes_on_lem s.w file (skips_form (test f b x) s file) (page_of file) refl refl
  form_flows (watch pd) fits ok room some =
      record {
        s' = _;
        file' = _;
        is = refl;
        goes = rw (get_or-set_other file STATUS PCLATH _ 0 (omega arith));
        well = record { bytes = rw length-set h.bytes; places = h.places; deep = h.deep };
      }
  form_flows (jump k) fits ok room some =
      record { s' = _; file' = file; is = refl; goes = refl; well = record { bytes = h.bytes; places = h.places; deep = h.deep } }
  form_flows (calls k) fits ok room some = call_flows k (room k refl)
  form_flows (returns r) fits ok room some = return_flows r s.depth refl (some refl)

pub form_clears : (m : Form) → clears (flow_form m) ≡ is_clear (note_form m)
form_clears (byte f d op) = refl
form_clears (count f d op) = refl
form_clears (patch f c) = refl
form_clears (literal op) = refl
form_clears (test f b x) = refl
form_clears (watch zero) = refl
form_clears (watch (suc n)) = refl
form_clears (jump k) = refl
form_clears (calls k) = refl
form_clears (returns r) = refl

pub form_returns : (m : Form) (page : ℕ) → flow_form m ≡ back → page_form m page ≡ page
form_returns (byte f d op) page e = refl
form_returns (count f d op) page e = refl
form_returns (patch f c) page e = cc
form_returns (literal op) page e = refl
form_returns (test f b x) page e = refl
form_returns (watch pd) page e = refl
form_returns (jump k) page e = refl
form_returns (calls k) page e = refl
form_returns (returns r) page e = refl
