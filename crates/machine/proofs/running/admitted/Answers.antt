-- A run that passes the tests does what `steps_of` does. Assumes nothing.
use Rattle.std.proofs.Common.{◌≡◌, sym, length, rules}
use borrow.Author.Tests.{leb-true}
use Rattle.machine.specs.Inner.{Within}
use Rattle.machine.proofs.Tested.{Passed, passed, within}
use Rattle.machine.proofs.running.admitted.Goals as goal
use Rattle.machine.proofs.running.admitted.Goals.{After-from-2}

-- what the tests have shown
tests : (c : After-from-2) → Passed c.args.words.now c.args.file.now c.args.state c.args.n
tests c =
    let bytes : length c.args.file.now ≡ 512 = search rules in
    passed c.args.words.now c.args.file.now c.args.state c.args.n bytes (sym c.in_ok-tested.ensures)

lets_in : (c : After-from-2) → Within c.args.state
lets_in c = let eight : length c.args.state.stack ≡ 8 = search rules in within c.args.state eight (tests c).state

pub invariant_of-stack : goal.invariant_of-stack
invariant_of-stack c = record { deep = rw c.from.ensures (lets_in c).deep }

pub go-r-requires : goal.go-r-requires
go-r-requires c =
    let at = (goal.at.go-r-requires c).After-from-2 in
    (rw (c.from.ensures, c.from-2.ensures) (lets_in at), leb-true _ _ (tests at).count)

pub returns : goal.returns
returns c =
    let same : c.in_ok-cells.cells.now ≡ c.args.file.now = search rules in
    rw (tests (goal.at.returns c).After-from-2).run (rw (same, c.from.ensures, c.from-2.ensures) at c.go-r.ensures.0)
