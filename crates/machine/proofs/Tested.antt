-- The tests 2, 3 and 4 before a run: what is turned down, and what has passed. Assumes nothing.
use mathlib.Core.Path.{◌≡◌, refl, sym}
use mathlib.Core.Logic.{◌≢◌}
use mathlib.Core.Bool.{Bool, true, false, cond, not, ◌&&◌, and-eq-true_iff}
use mathlib.Core.List.{List}
use Prim.Native.Nat.{ℕ, ◌≤◌}
use native.Mathlib.Omega.{arith}
use lib.Dec.{leb, eqb}
use lib.ListN.{length}
use borrow.Author.Tests.{eqb-true, leb-true, le-leb, ne_eqb}
use Rattle.machine.specs.declared.refusal.Refusal.{Refusal}
use Rattle.machine.specs.declared.refusal.Refusal.TheVariants as refusal
use Rattle.machine.specs.declared.refusal.Refusal.TheVariants.{Sizes, Length, PastWords, Undefined, StackFull, StackEmpty, CountedPcl}
use Rattle.machine.specs.declared.state.State.{State}
use Rattle.machine.specs.Numbers.{number_of}
use Rattle.machine.specs.Run.{Left, ends, steps_of, sizes_fit, state_fits, entries_fit, run_of}
use Rattle.machine.specs.Inner.{Within, test_of}

-- A refusal's number is 2 or more.
pub least : (r : Refusal) → 2 ≤ number_of r
least Sizes = omega arith
least refusal.State = omega arith
least Length = omega arith
least PastWords = omega arith
least Undefined = omega arith
least StackFull = omega arith
least StackEmpty = omega arith
least CountedPcl = omega arith

not_none : (r : Refusal) → number_of r ≢ 0
not_none r h = absurd (omega (arith, h, least r))

-- A run on another file than 512 bytes, or one that a test turns down, leaves everything.
pub wrong_bytes : (words file : List ℕ) (s : State) (n : ℕ) → length file ≢ 512 → ends s file 0 0 2 ≡ run_of words file s n
unfolding run_of sizes_fit
wrong_bytes words file s n h = rw (ne_eqb (length file) 512 h)

pub turned_down : (words file : List ℕ) (s : State) (n : ℕ) (r : Refusal) → length file ≡ 512 → number_of r ≡ test_of (length words) 512 s n
    → ends s file 0 0 (number_of r) ≡ run_of words file s n
unfolding run_of test_of
turned_down words file s n r bytes e = rw bytes (sym (go (sizes_fit (length words) 512) (state_fits s) (leb n 1000000) (number_of r) (not_none r) e))
  where
    go : (p q t : Bool) (number : ℕ) → number ≢ 0 → number ≡ cond p (cond q (cond t 0 4) 3) 2
        → cond (not p) (ends s file 0 0 2) (cond (not q) (ends s file 0 0 3) (cond (not t) (ends s file 0 0 4) (steps_of words n s file)))
        ≡ ends s file 0 0 number
    go true true true number h e = absurd (h e)
    go true true false number h e = rw e
    go true false t number h e = rw e
    go false q t number h e = rw e

pub record Passed (words file : List ℕ) (s : State) (n : ℕ) : Type 0 where
  pub run : run_of words file s n ≡ steps_of words n s file
  pub sizes : sizes_fit (length words) (length file) ≡ true
  pub state : state_fits s ≡ true
  pub count : leb n 1000000 ≡ true

pub passed : (words file : List ℕ) (s : State) (n : ℕ) → length file ≡ 512 → test_of (length words) 512 s n ≡ 0 → Passed words file s n
unfolding run_of test_of
passed words file s n bytes e = go (sizes_fit (length words) (length file)) (state_fits s) (leb n 1000000) refl refl refl (rw bytes e)
  where
    go : (p q r : Bool) → sizes_fit (length words) (length file) ≡ p → state_fits s ≡ q → leb n 1000000 ≡ r
        → ◌≡◌ {A = ℕ} (cond p (cond q (cond r 0 4) 3) 2) 0 → Passed words file s n
    go true true true p q r e = record { run = rw (p, q, r); sizes = p; state = q; count = r }
    go true true false p q r e = absurd (omega arith)
    go true false c p q r e = absurd (omega arith)
    go false b c p q r e = absurd (omega arith)

pub within : (s : State) → length s.stack ≡ 8 → state_fits s ≡ true → Within s
unfolding state_fits
within s places e =
    let (counter, rest) = (and-eq-true_iff (leb s.counter 8191) (leb s.depth 8 && entries_fit s.stack)).0 e in
    let (deep, entries) = (and-eq-true_iff (leb s.depth 8) (entries_fit s.stack)).0 rest in
    record { counter = leb-true s.counter 8191 counter; deep = leb-true s.depth 8 deep; entries = entries; places = places }

pub bytes_fit : (words bytes : ℕ) → sizes_fit words bytes ≡ true → bytes ≡ 512
unfolding sizes_fit
bytes_fit words bytes e = eqb-true bytes 512 ((and-eq-true_iff (eqb bytes 512) (leb 1 words && leb words 8192)).0 e).0

pub fits : {s : State} → Within s → state_fits s ≡ true
unfolding state_fits
fits h = rw (le-leb _ _ h.counter, le-leb _ _ h.deep, h.entries)

-- A run that answers another number than 2, 3 and 4 has passed the tests.
pub answered : (words file : List ℕ) (s : State) (n : ℕ) → (run_of words file s n).ran.number ≢ 2 → (run_of words file s n).ran.number ≢ 3
    → (run_of words file s n).ran.number ≢ 4 → Passed words file s n
unfolding run_of
answered words file s n h2 h3 h4 = go (sizes_fit (length words) (length file)) (state_fits s) (leb n 1000000) refl refl refl h2 h3 h4
  where
    answer : Bool → Bool → Bool → Left
    answer p q r = cond (not p) (ends s file 0 0 2) (cond (not q) (ends s file 0 0 3) (cond (not r) (ends s file 0 0 4) (steps_of words n s file)))

    go : (p q r : Bool) → sizes_fit (length words) (length file) ≡ p → state_fits s ≡ q → leb n 1000000 ≡ r
        → (answer p q r).ran.number ≢ 2 → (answer p q r).ran.number ≢ 3 → (answer p q r).ran.number ≢ 4 → Passed words file s n
    go true true true p q r a b c = record { run = rw (p, q, r); sizes = p; state = q; count = r }
    go true true false p q r a b c = absurd (c refl)
    go true false t p q r a b c = absurd (b refl)
    go false u t p q r a b c = absurd (a refl)
