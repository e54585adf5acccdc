-- The loop's invariant: what n instructions from the start leave is what the rest of them leave from here on, after the
-- instructions and the cycles so far. Assumes nothing.
use Rattle.std.proofs.Common.{◌≡◌, ◌-◌, ◌*◌, ◌≤◌, length}
use Rattle.machine.specs.Run.{after, steps_of}
use Rattle.machine.specs.Inner.{Within, state_of}
use Rattle.machine.proofs.running.go.Given as goal

abbrev pub invariant-loop-done : goal.invariant-loop-done
invariant-loop-done l =
    record {
      bytes : length l.file ≡ 512;
      within : Within (state_of l.core l.stack);
      cost : l.cycles ≤ 2 * l.done;
      so_far : steps_of l.words l.n (state_of l.fn.c l.fn.stack) l.fn.file
          ≡ after l.done l.cycles (steps_of l.words (l.n - l.done) (state_of l.core l.stack) l.file);
    }
