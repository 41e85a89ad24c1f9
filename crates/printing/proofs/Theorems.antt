-- The run of the program is one of document 01's lists: so every theorem about lists holds of what it prints.
use Prim.Native.Nat.{ℕ}
use mathlib.Core.List.{List}
use mathlib.Core.Path.{◌≡◌}
use lib.ListN.{take}
use Rattle.registers.specs.Calls.{after, machine0}
use Rattle.trace.specs.Passed.{calls_in, passed_in}
use Rattle.trace.specs.Run.{machine_of}
use Rattle.trace.proofs.Listed.{run_is_list}
use Rattle.printing.specs.Printed.{program_bytes, program_run, program_ticks}

-- the crate and memory after the calls of the records that the run passes
pub program_list : (input : List ℕ) → machine_of (program_run input) ≡ after (calls_in (passed_in (take program_bytes input) program_ticks machine0))
unfolding program_run after
program_list input = (run_is_list (take program_bytes input) program_ticks machine0).state
