use Prim.Native.Nat.{◌-◌}
use mathlib.Core.Bool.{true}
use mathlib.Core.Path.{◌≡◌}
use lib.ListN.{length}
use Rattle.device.specs.State.{machine}
use Rattle.trace.specs.Run.{progress_of, run, run_of}
use Rattle.trace.proofs.Halts.{ended}
use Rattle.trace.proofs.running.run.Given as goal

-- what the turns left make of the run is the same at each turn
abbrev pub invariant-loop-stop : goal.invariant-loop-stop
invariant-loop-stop l = record {
  trace : l.running.trace.now ≡ l.trace;
  budget : l.running.budget ≡ l.budget;
  same : ended l.trace l.budget (run (progress_of l.state l.running.report true) l.mem) ≡ run_of l.trace l.budget (machine l.fn.state l.fn.mem);
}

-- each record moves the offset on
abbrev pub decreases-loop-stop : goal.decreases-loop-stop
decreases-loop-stop l = length l.trace - l.running.report.next
