-- What the runs that are left make of crate and memory is the same at each turn.
use Rattle.std.proofs.Common.{◌≡◌, ◌-◌}
use Rattle.device.specs.State.{machine}
use Rattle.playing.specs.Often.{ran_often}
use Rattle.playing.proofs.file.run_often.Given as goal

abbrev pub invariant-loop : goal.invariant-loop
invariant-loop l =
    ran_often (l.times - l.counter) l.trace (machine l.state l.mem) ≡ ran_often l.times l.trace (machine l.initial.state l.initial.mem)
