-- The run of `mirvacula_run` and of `mirvacula_scan` is one of document 01's lists: so every theorem about lists holds of what they show.
use Prim.Native.Nat.{ℕ}
use mathlib.Core.Bool.{true}
use mathlib.Core.List.{List}
use mathlib.Core.Path.{◌≡◌}
use Rattle.loader.specs.Memory.{is_whole}
use Rattle.registers.specs.Calls.{after, machine0, powered, powered_memory}
use Rattle.trace.specs.Passed.{calls_in, passed_in}
use Rattle.trace.specs.Run.{machine_of}
use Rattle.trace.proofs.Listed.{run_is_list}
use Rattle.mirvacula.specs.Exported.{run_on}

-- on a memory of 16,384 words: the crate and memory after the calls of the records that the run passes
pub exported_list : (memory t : List ℕ) (budget : ℕ) → is_whole memory ≡ true →
    machine_of (run_on memory t budget) ≡ after (calls_in (passed_in t budget machine0))
unfolding run_on powered powered_memory after
exported_list memory t budget e = rw e (run_is_list t budget machine0).state
