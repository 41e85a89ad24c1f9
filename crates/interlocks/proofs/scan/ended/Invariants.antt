use mathlib.Core.Path.{◌≡◌}
use Rattle.interlocks.specs.Interlock.{signals}
use Rattle.interlocks.proofs.Scanning.{ended_after}
use Rattle.interlocks.proofs.scan.ended.Given as goal

abbrev pub invariant-loop-k : goal.invariant-loop-k
invariant-loop-k l = l.ended ≡ ended_after l.s.settings.selections (signals l.s) l.k
