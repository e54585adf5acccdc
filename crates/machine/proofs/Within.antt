-- What a step keeps, whatever it does: the counter and the stack's entries to 8,191, the depth to 8, eight entries, and
-- 512 bytes of file. It takes at most 2 cycles, and a refusal's number is from 5 to 9. Assumes nothing.
use mathlib.Core.Path.{◌≡◌, refl, ◌∙◌}
use mathlib.Core.Bool.{Bool, true, false, cond, and-eq-true_iff}
use mathlib.Core.List.{List, [], ◌∷◌}
use Prim.Native.Nat.{ℕ, zero, suc, ◌≤◌}
use native.Mathlib.Omega.{arith}
use lib.Dec.{leb, ltb, eqb}
use lib.ListN.{get_or, length, set, length-set}
use borrow.Author.Tests.{ltb-true, leb-true, le-leb}
use Rattle.decoder.specs.declared.instruction.Dest.{Dest}
use Rattle.decoder.specs.declared.instruction.Dest.TheVariants.{W, File}
use Rattle.decoder.specs.declared.instruction.Instruction.{Instruction}
use Rattle.decoder.specs.Table.{Answer, decode_of}
use Rattle.decoder.specs.Table.Answer.{gives, refuses}
use Rattle.alu.specs.Alu.{Flags, Result}
use Rattle.alu.specs.Alu.Flags.{none, only_z, only_c, all}
use Rattle.machine.specs.declared.place.Place.{Place}
use Rattle.machine.specs.declared.place.Place.TheVariants.{Nowhere, Counter, Latch, Cell}
use Rattle.machine.specs.declared.state.State.{State}
use Rattle.machine.specs.State.{plus, moved, pushed}
use Rattle.machine.specs.Registers.{place_at, write_at, page_of, flag, stored}
use Rattle.machine.specs.Forms.{Form, ReturnKind, form_of}
use Rattle.machine.specs.Forms.Form.{byte, count, patch, literal, test, watch, jump, calls, returns}
use Rattle.machine.specs.Forms.ReturnKind.{bare, loads, enables}
use Rattle.machine.specs.Step.{Outcome, goes_on, to_place, to_dest, counted, target, called, enabled, returned, step_form, done_by, step_word, step_of}
use Rattle.machine.specs.Step.Outcome.{done, refused}
use Rattle.machine.specs.Step.Note.{going}
use Rattle.machine.specs.Run.{entries_fit}
use Rattle.machine.specs.Inner.{Within}
use Rattle.machine.specs.View.{skips_form}
use Rattle.machine.proofs.Operands.{Fits, form_fits}

abbrev pub Kept : Outcome → Type 0
Kept (done s' file' k note) = Within s' × (length file' ≡ 512) × (k ≤ 2)
Kept (refused n) = (5 ≤ n) × (n ≤ 9)

-- An entry of a stack that fits, and a stack with one entry written.
pub entry_fits : (stack : List ℕ) (d : ℕ) → entries_fit stack ≡ true → get_or stack d 0 ≤ 8191
unfolding entries_fit
entry_fits [] d e = omega arith
entry_fits (r ∷ rs) zero e = leb-true r 8191 ((and-eq-true_iff (leb r 8191) (entries_fit rs)).0 e).0
entry_fits (r ∷ rs) (suc d) e = entry_fits rs d ((and-eq-true_iff (leb r 8191) (entries_fit rs)).0 e).1

pub set_fits : (stack : List ℕ) (d r : ℕ) → entries_fit stack ≡ true → r ≤ 8191 → entries_fit (set stack d r) ≡ true
unfolding entries_fit
set_fits [] d r e h = refl
set_fits (q ∷ qs) zero r e h = rw (le-leb r 8191 h) ((and-eq-true_iff (leb q 8191) (entries_fit qs)).0 e).1
set_fits (q ∷ qs) (suc d) r e h =
    let both = (and-eq-true_iff (leb q 8191) (entries_fit qs)).0 e in
    rw both.0 (set_fits qs d r both.1 h)

moved_within : (s : State) (w a : ℕ) → Within s → a ≤ 8191 → Within (moved s w a)
moved_within s w a h b = record { counter = b; deep = h.deep; entries = h.entries; places = h.places }

-- The file keeps its length.
pub written_length : (file : List ℕ) (p : Place) (v : ℕ) → length (write_at file p v) ≡ length file
written_length file Nowhere v = refl
written_length file Counter v = refl
written_length file Latch v = simp length-set
written_length file (Cell n) v = simp length-set

pub flagged_length : (g : Flags) (file : List ℕ) → length (flag g file) ≡ length file
flagged_length none file = refl
flagged_length (only_z z) file = simp length-set
flagged_length (only_c c) file = simp length-set
flagged_length (all z dc c) file = simp length-set

pub stored_length : (file : List ℕ) (p : Place) (r : Result) → length (stored file p r) ≡ length file
unfolding stored
stored_length file p r = flagged_length r.flags (write_at file p r.value) ∙ written_length file p r.value

pub enabled_length : (r : ReturnKind) (file : List ℕ) → length (enabled r file) ≡ length file
enabled_length bare file = refl
enabled_length (loads k) file = refl
enabled_length enables file = simp length-set

-- Each way a form ends, from a state and a file as they should be.
module _ (s : State) (file : List ℕ) (h : Within s) (bytes : length file ≡ 512) where
  goes_on_kept : (w : ℕ) (file' : List ℕ) (t : Bool) → length file' ≡ length file → Kept (goes_on s w file' t)
  goes_on_kept w file' true e = (moved_within s w _ h (omega arith), e ∙ bytes, omega arith)
  goes_on_kept w file' false e = (moved_within s w _ h (omega arith), e ∙ bytes, omega arith)

  place_kept : (p : Place) (r : Result) → Kept (to_place s file p r)
  place_kept Nowhere r = goes_on_kept s.w (stored file Nowhere r) false (stored_length file Nowhere r)
  place_kept Counter r = (moved_within s s.w _ h (omega arith), stored_length file Counter r ∙ bytes, omega arith)
  place_kept Latch r = goes_on_kept s.w (stored file Latch r) false (stored_length file Latch r)
  place_kept (Cell n) r = goes_on_kept s.w (stored file (Cell n) r) false (stored_length file (Cell n) r)

  dest_kept : (d : Dest) (p : Place) (r : Result) → Kept (to_dest s file d p r)
  dest_kept W p r = goes_on_kept r.value (flag r.flags file) false (flagged_length r.flags file)
  dest_kept File p r = place_kept p r

  counted_kept : (d : Dest) (p : Place) (v : ℕ) → Kept (counted s file d p v)
  counted_kept W p v = goes_on_kept v file (eqb v 0) refl
  counted_kept File Nowhere v = goes_on_kept s.w file (eqb v 0) refl
  counted_kept File Counter v = (omega arith, omega arith)
  counted_kept File Latch v = goes_on_kept s.w (write_at file Latch v) (eqb v 0) (written_length file Latch v)
  counted_kept File (Cell n) v = goes_on_kept s.w (write_at file (Cell n) v) (eqb v 0) (written_length file (Cell n) v)

  called_kept : (k : ℕ) → k ≤ 2047 → Kept (called s file k)
  called_kept k small = go (ltb s.depth 8) refl
    where
      go : (t : Bool) → ltb s.depth 8 ≡ t
          → Kept (cond t (done (pushed s (plus s.counter 1) (target (page_of file) k)) file 2 going) (refused 7))
      go true e = (
        record {
          counter = omega arith;
          deep = omega (arith, ltb-true);
          entries = set_fits s.stack s.depth (plus s.counter 1) h.entries (omega arith);
          places = rw length-set h.places;
        },
        bytes,
        omega arith,
      )
      go false e = (omega arith, omega arith)

  returned_kept : (r : ReturnKind) (d : ℕ) → s.depth ≡ d → Kept (returned s file r d)
  returned_kept r zero e = (omega arith, omega arith)
  returned_kept r (suc d) e = (
    record { counter = entry_fits s.stack d h.entries; deep = omega arith; entries = h.entries; places = h.places },
    enabled_length r file ∙ bytes,
    omega arith,
  )

  form_kept : (m : Form) → Fits m → Kept (step_form m s file)
  unfolding step_form
  form_kept (byte f d op) k = dest_kept d (place_at file f) _
  form_kept (count f d op) k = counted_kept d (place_at file f) _
  form_kept (patch f c) k = place_kept (place_at file f) _
  form_kept (literal op) k = dest_kept W Nowhere (op s.w)
  form_kept (test f b x) k = goes_on_kept s.w file (skips_form (test f b x) s file) refl
  form_kept (watch pd) k = (moved_within s s.w _ h (omega arith), rw length-set bytes, omega arith)
  form_kept (jump k) small = (moved_within s s.w _ h (omega arith), bytes, omega arith)
  form_kept (calls k) small = called_kept k small
  form_kept (returns r) k = returned_kept r s.depth refl

pub step_kept : (words : List ℕ) (s : State) (file : List ℕ) → Within s → length file ≡ 512 → Kept (step_of words s file)
unfolding step_of done_by
step_kept words s file h bytes = go (ltb s.counter (length words)) (decode_of (get_or words s.counter 0)) refl
  where
    go : (t : Bool) (a : Answer Instruction) → decode_of (get_or words s.counter 0) ≡ a → Kept (cond t (step_word a s file) (refused 5))
    go false a e = (omega arith, omega arith)
    go true (refuses n) e = (omega arith, omega arith)
    go true (gives i) e = form_kept s file h bytes (form_of i) (form_fits _ i e)
