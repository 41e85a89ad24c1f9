-- A trace run so many times, each run on the crate and memory that the last one left.
use Rattle.std.specs.Prelude.{ℕ, zero, suc, List}
use Rattle.device.specs.State.{Machine}
use Rattle.trace.specs.Run.{machine_of, run_of}

-- the ticks of one run, as many as the program has
abbrev pub ticks_each : ℕ
ticks_each = 1_000_000

unfoldable pub ran_often : ℕ → List ℕ → Machine → Machine
ran_often zero trace m = m
ran_often (suc n) trace m = ran_often n trace (machine_of (run_of trace ticks_each m))
