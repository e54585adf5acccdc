-- A turn goes on or stops as one of `steps_of` does, so the loop keeps its invariant and ends as `steps_of` does.
-- Assumes nothing.
use Rattle.std.proofs.Common.{◌≡◌, ℕ, ◌+◌, ◌≤◌, refl, arith}
use Rattle.machine.specs.Numbers.{number_of}
use Rattle.machine.specs.Inner.{state_of}
use Rattle.machine.specs.Inner.Sign.{on, stop}
use Rattle.machine.proofs.Turns.{GoesOn, Stops, go_on, go_stop, carried_on, slept, refused_at, at_the_end}
use Rattle.machine.proofs.running.go.Goals.{in-Next, in-Skip, In-Sleep}
use Rattle.machine.proofs.running.go.Goals as goal

pub returns-in-Err : goal.returns-in-Err
returns-in-Err c =
    let l = c.loop-done in
    let words = c.args.words.now in
    let s = state_of l.core l.stack in
    let broke = go_stop words s l.file l.invariant.within l.invariant.bytes (rw c.in-Err.is at c.turn.ensures) (number_of c.in-Err.refusal) refl in
    (refused_at words c.args.n _ s l.file l.done l.cycles c.loop-done-test.true l.invariant.so_far _ c.in-Err.refusal refl broke, broke.within)

pub overflow_add-cycles : goal.overflow_add-cycles
overflow_add-cycles c =
    let l = c.loop-done in
    let went = go_on c.args.words.now (state_of l.core l.stack) l.file l.invariant.within l.invariant.bytes (rw (c.in-Ok.is, c.in-Next.is) at c.turn.ensures) refl in
    let cost : c.in-Ok.r.cycles ≤ 2 = went.cost in
    omega arith

-- SLEEP ends the run.
asleep : (c : In-Sleep) → let l = c.loop-done in
    Stops c.args.words.now (state_of l.core l.stack) l.file (record { state = state_of c.in-Ok.r.core c.turn.new.stack; file = c.turn.new.file; cycles = c.in-Ok.r.cycles; sign = stop 1 }) 1
asleep c =
    let l = c.loop-done in
    go_stop c.args.words.now (state_of l.core l.stack) l.file l.invariant.within l.invariant.bytes (rw (c.in-Ok.is, c.in-Sleep.is) at c.turn.ensures) 1 refl

pub overflow_add-result-in-Sleep : goal.overflow_add-result-in-Sleep
overflow_add-result-in-Sleep c =
    let cost : c.in-Ok.r.cycles ≤ 2 = (asleep (goal.at.overflow_add-result-in-Sleep c).In-Sleep).cost in
    omega arith

pub returns-in-Sleep : goal.returns-in-Sleep
returns-in-Sleep c =
    let l = c.loop-done in
    let broke = asleep (goal.at.returns-in-Sleep c).In-Sleep in
    (slept c.args.words.now c.args.n _ (state_of l.core l.stack) l.file l.done l.cycles c.loop-done-test.true l.invariant.so_far _ broke, broke.within)

pub loop-done-preserved : goal.loop-done-preserved
loop-done-preserved c =
    let l = c.loop-done in
    let t = c.turn in
    let words = c.args.words.now in
    let s = state_of l.core l.stack in
    let moved : (k : ℕ) × (c.match-r.cycles ≡ l.cycles + k) × GoesOn words s l.file (record { state = state_of c.match-r.core t.new.stack; file = t.new.file; cycles = k; sign = on }) =
    elim c.match-r.branch [
      | in-Next w ↦ (c.in-Ok.r.cycles, w.cycles-is, rw w.core-is (go_on words s l.file l.invariant.within l.invariant.bytes (rw (c.in-Ok.is, w.in-Next.is) at t.ensures) refl))
      | in-Skip w ↦ (2, w.cycles-is, rw (w.core-is, w.past-core.ensures) (go_on words s l.file l.invariant.within l.invariant.bytes (rw (c.in-Ok.is, w.in-Skip.is) at t.ensures) refl))
    ] in
    let (k, spent, went) = moved in
    record {
      bytes = went.bytes;
      within = went.within;
      cost = omega (arith, spent, went.cost);
      so_far = rw spent (carried_on words c.args.n _ s l.file l.done l.cycles c.loop-done-test.true l.invariant.so_far (record { state = state_of c.match-r.core t.new.stack; file = t.new.file; cycles = k; sign = on }) went);
    }

pub returns : goal.returns
returns c =
    let l = c.loop-done in
    (at_the_end c.args.words.now c.args.n _ (state_of l.core l.stack) l.file l.done l.cycles (omega arith) l.invariant.so_far, l.invariant.within)
