-- What a run from power-up leaves prints as the program does.
use Prim.Native.Nat.{ℕ, min}
use mathlib.Core.Bool.{false}
use mathlib.Core.List.{List}
use mathlib.Core.Path.{◌≡◌, ap}
use lib.ListN.{length, take}
use Rattle.std.proofs.Math.Nat.{min_comm}
use Rattle.std.proofs.lemmas.List.{take_min}
use Rattle.device.specs.declared.state.Crate.{Crate}
use Rattle.causes.specs.Causes.{Answer}
use Rattle.device.specs.State.{Machine, machine}
use Rattle.registers.specs.Calls.{machine0, powered, powered_memory}
use Rattle.machine.proofs.Powered.{powered_up}
use Rattle.trace.specs.declared.Report.{Report}
use Rattle.trace.specs.Run.{Run, machine_of, progress_of, run_of, run}
use Rattle.printing.specs.Printed.{printed, program_bytes, program_prints, program_run, program_ticks}
use Rattle.loader.specs.Memory.{memory_words}

-- `m` is the machine powered up
pub prints_from : (input : List ℕ) (n : ℕ) (m : Machine) (s : Crate) (r : Report) (memory : List ℕ) →
    n ≡ min (length input) program_bytes → m ≡ machine0 →
    run (progress_of s r false) memory ≡ run_of (take n input) program_ticks m →
    printed r (machine s memory) ≡ program_prints input
unfolding program_run program_prints
prints_from input n m s r memory taken started e =
    let ran : run (progress_of s r false) memory ≡ program_run input = rw (taken, min_comm, take_min, started) at e in
    ap (λ (q : Run). printed q.progress.report (machine_of q)) ran

-- `words` is the memory lent, `start` the memory powered up
pub prints : (input : List ℕ) (n : ℕ) (words start : List ℕ) (o : Crate × Answer) (s : Crate) (r : Report) (memory : List ℕ) →
    n ≡ min (length input) program_bytes → length words ≡ memory_words → o ≡ powered words → start ≡ powered_memory words →
    run (progress_of s r false) memory ≡ run_of (take n input) program_ticks (machine o.0 start) →
    printed r (machine s memory) ≡ program_prints input
prints input n words start o s r memory taken long po ps e = prints_from input n (machine o.0 start) s r memory taken (powered_up words start o long (po, ps)) e
