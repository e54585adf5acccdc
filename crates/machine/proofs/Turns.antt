-- One turn of a run: what follows from what a step shows. Assumes nothing.
use mathlib.Core.Path.{◌≡◌, refl, sym, ap, ◌∙◌}
use mathlib.Core.Bool.{false}
use mathlib.Core.List.{List}
use Prim.Native.Nat.{ℕ, suc, ◌+◌, ◌-◌, ◌≤◌, ◌<◌}
use native.Mathlib.Omega.{arith}
use lib.Dec.{eqb}
use lib.ListN.{length}
use borrow.Author.Tests.{ne_eqb}
use Rattle.alu.specs.Alu.{to_bit}
use Rattle.machine.specs.declared.refusal.Refusal.{Refusal}
use Rattle.machine.specs.declared.state.State.{State}
use Rattle.machine.specs.Step.{Outcome, step_of}
use Rattle.machine.specs.Step.Outcome.{done, refused}
use Rattle.machine.specs.Step.Note.{going, cleared, asleep}
use Rattle.machine.specs.Numbers.{number_of}
use Rattle.machine.specs.Run.{Left, ends, after, steps_of}
use Rattle.machine.specs.Inner.{Within, Shown, expected}
use Rattle.machine.specs.Inner.Sign.{on, stop}
use Rattle.machine.proofs.Tested.{least}
use Rattle.machine.proofs.Within.{Kept, step_kept}

on_stop : {q : ℕ} → on ≡ stop q → ⊥
on_stop e = let z : ◌≡◌ {A = ℕ} 0 1 = cc in omega arith

-- The run goes on, or it stops with q, as the step shows.
pub record GoesOn (words : List ℕ) (s : State) (file : List ℕ) (x : Shown) : Type 0 where
  pub rest : (m : ℕ) → steps_of words (suc m) s file ≡ after 1 x.cycles (steps_of words m x.state x.file)
  pub within : Within x.state
  pub bytes : length x.file ≡ 512
  pub cost : x.cycles ≤ 2

pub record Stops (words : List ℕ) (s : State) (file : List ℕ) (x : Shown) (q : ℕ) : Type 0 where
  pub all : (m : ℕ) → steps_of words (suc m) s file ≡ ends x.state x.file (to_bit (eqb q 1)) x.cycles q
  pub within : Within x.state
  pub cost : x.cycles ≤ 2

module _ (words : List ℕ) (s : State) (file : List ℕ) (h : Within s) (bytes : length file ≡ 512) where
  goes_on_lem : (o : Outcome) → Kept o → step_of words s file ≡ o → (expected s file o).sign ≡ on → GoesOn words s file (expected s file o)
  unfolding steps_of
  goes_on_lem (refused n) k e z = absurd (on_stop (sym z))
  goes_on_lem (done s' file' c going) k e z = record { rest = λ m. rw e; within = k.0; bytes = k.1; cost = k.2 }
  goes_on_lem (done s' file' c cleared) k e z = record { rest = λ m. rw e; within = k.0; bytes = k.1; cost = k.2 }
  goes_on_lem (done s' file' c asleep) k e z = absurd (on_stop (sym z))

  stops : (o : Outcome) → Kept o → step_of words s file ≡ o → (q : ℕ) → (expected s file o).sign ≡ stop q → Stops words s file (expected s file o) q
  unfolding steps_of
  stops (refused n) k e q z =
      let same : n ≡ q = cc in
      record { all = λ m. rw (e, ← same, ne_eqb n 1 (omega arith)); within = h; cost = omega arith }
  stops (done s' file' c going) k e q z = absurd (on_stop z)
  stops (done s' file' c cleared) k e q z = absurd (on_stop z)
  stops (done s' file' c asleep) k e q z = let same : 1 ≡ q = cc in record { all = λ m. rw (e, ← same); within = k.0; cost = k.2 }

  pub go_on : {x : Shown} → x ≡ expected s file (step_of words s file) → x.sign ≡ on → GoesOn words s file x
  go_on e z = rw e (goes_on_lem (step_of words s file) (step_kept words s file h bytes) refl (rw e at z))

  pub go_stop : {x : Shown} → x ≡ expected s file (step_of words s file) → (q : ℕ) → x.sign ≡ stop q → Stops words s file x q
  go_stop e q z = rw e (stops (step_of words s file) (step_kept words s file h bytes) refl q (rw e at z))

-- 1 is no refusal's number.
no_sleep : (r : Refusal) → eqb (number_of r) 1 ≡ false
no_sleep r = let two : 2 ≤ number_of r = least r in ne_eqb (number_of r) 1 (omega arith)

-- Instructions and cycles add up.
pub after_after : (n k m c : ℕ) (l : Left) → after n k (after m c l) ≡ after (n + m) (k + c) l
after_after n k m c l =
    let count : n + (m + l.ran.done) ≡ n + m + l.ran.done = omega arith in
    let cycles : k + (c + l.ran.cycles) ≡ k + c + l.ran.cycles = omega arith in
    rw (count, cycles)

pub after_none : (l : Left) → after 0 0 l ≡ l
after_none l =
    let count : 0 + l.ran.done ≡ l.ran.done = omega arith in
    let cycles : 0 + l.ran.cycles ≡ l.ran.cycles = omega arith in
    rw (count, cycles)

-- The loop's invariant, one instruction later, and where it ends.
module _ (words : List ℕ) (n : ℕ) (all : Left) (s : State) (file : List ℕ) (i k : ℕ) (less : i < n) (so_far : all ≡ after i k (steps_of words (n - i) s file)) where
  one_more : n - i ≡ suc (n - (i + 1))
  one_more = omega arith

  pub carried_on : (x : Shown) → GoesOn words s file x → all ≡ after (i + 1) (k + x.cycles) (steps_of words (n - (i + 1)) x.state x.file)
  carried_on x g =
      so_far ∙ ap (λ (m : ℕ). after i k (steps_of words m s file)) one_more ∙ ap (after i k) (g.rest (n - (i + 1)))
      ∙ after_after i k 1 x.cycles (steps_of words (n - (i + 1)) x.state x.file)

  broken_off : (x : Shown) (q : ℕ) → Stops words s file x q → all ≡ ends x.state x.file (i + to_bit (eqb q 1)) (k + x.cycles) q
  broken_off x q g =
      so_far ∙ ap (λ (m : ℕ). after i k (steps_of words m s file)) one_more ∙ ap (after i k) (g.all (n - (i + 1)))

  pub slept : (x : Shown) → Stops words s file x 1 → ends x.state x.file (i + 1) (k + x.cycles) 1 ≡ all
  slept x g = sym (broken_off x 1 g)

  -- A refused instruction takes no cycle and is not counted.
  pub refused_at : (x : Shown) (r : Refusal) → x.cycles ≡ 0 → Stops words s file x (number_of r) → ends x.state x.file i k (number_of r) ≡ all
  refused_at x r e g =
      let count : i + to_bit (eqb (number_of r) 1) ≡ i = rw (no_sleep r) (omega arith) in
      let cycles : k + x.cycles ≡ k = omega arith in
      sym (broken_off x (number_of r) g ∙ rw (count, cycles))

pub at_the_end : (words : List ℕ) (n : ℕ) (all : Left) (s : State) (file : List ℕ) (i k : ℕ) → i ≡ n
    → all ≡ after i k (steps_of words (n - i) s file) → ends s file n k 0 ≡ all
unfolding steps_of
at_the_end words n all s file i k last e =
    let none : n - i ≡ 0 = omega arith in
    let count : i + 0 ≡ n = omega arith in
    let cycles : k + 0 ≡ k = omega arith in
    sym (e ∙ rw (none, count, cycles))
