use mathlib.Core.Path.{◌≡◌}
use Rattle.registers.specs.Calls.{tick, from}
use Rattle.device.specs.State.{machine}
use Rattle.trace.specs.Run.{repeated}
use Rattle.trace.proofs.running.tick_on.Given as goal

abbrev pub invariant-loop-left : goal.invariant-loop-left
invariant-loop-left l = from (machine l.state l.mem) (repeated l.left (tick l.levels.inputs l.levels.gates)) ≡ from (machine l.initial.state l.mem) (repeated l.initial.left (tick l.levels.inputs l.levels.gates))

abbrev pub decreases-loop-left : goal.decreases-loop-left
decreases-loop-left l = l.left
