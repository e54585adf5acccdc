-- A byte, and then its flags: what the definition does with the result. Assumes nothing.
use Rattle.std.proofs.Common.{◌<◌}
use Rattle.machine.proofs.Ways.{lands, jumps}
use Rattle.machine.proofs.state.Core.to_place.Goals.{in-Counter, in_default}
use Rattle.machine.proofs.state.Core.to_place.Goals as goal

pub returns : goal.returns
returns g c =
    let a = c.args in
    let r = g.R.Flagged.gives a.r in
    let small : r.value < 256 = rw c.value-v.ensures at c.value-v.type_inv in
    λ stack. rw (c.flag.ensures, c.store.ensures, c.value-v.ensures)
    (elim c.match-o.branch [
      | in-Counter w ↦
          rw (w.stepped-is, w.jump-stepped.ensures, w.from.ensures, w.from-in-Counter.ensures, c.store.ensures, c.value-v.ensures, w.in-Counter.is) (jumps a.self a.file.now r stack small)
      | in_default w ↦ rw (w.stepped-is, w.next-stepped.ensures) (lands a.self a.file.now a.o.place r stack w.in_default.not-Counter)
    ])
