-- Document 01, "Trace and printing program": "The program runs the first 65,536 bytes of standard input, .. from power-up with 1,000,000
-- ticks", the numbers written by hand. The must-fail edits ticks_999999_in_both and bytes_65535_in_both are refused here.
use Prim.Native.Nat.{ℕ, ◌/◌, ◌%◌}
use mathlib.Core.Bool.{true}
use mathlib.Core.List.{List, [], ◌∷◌, ◌++◌}
use mathlib.Core.Path.{◌≡◌, refl}
use lib.ListN.{replicate, take}
use Rattle.lists.specs.Checks.{Row, row, right}
use Rattle.registers.proofs.Computing.{computing}
use Rattle.registers.specs.Calls.{machine0}
use Rattle.records.specs.Records.{number_at, levels_at, next_at, ticks_at, payload_at, record_at}
use Rattle.trace.specs.Run.{passes, repeated, ticks_in, by_record, once_of, run_from, run_of}
use Rattle.printing.specs.Printed.{program_bytes, program_run, program_ticks}

-- a tick record with all levels low
abbrev ticks : ℕ → List ℕ
ticks n = 1 ∷ 0 ∷ 11 ∷ n / 256 ∷ n % 256 ∷ replicate 9 0

-- 983,025 ticks in fifteen records
abbrev fifteen : List ℕ
fifteen =
    ticks 65535 ++ ticks 65535 ++ ticks 65535 ++ ticks 65535 ++ ticks 65535 ++ ticks 65535 ++ ticks 65535 ++ ticks 65535
    ++ ticks 65535 ++ ticks 65535 ++ ticks 65535 ++ ticks 65535 ++ ticks 65535 ++ ticks 65535 ++ ticks 65535

unfoldable pub figures : List Row
figures =
    row 65_536 program_bytes
    ∷ row 1_000_000 program_ticks
    -- 16,975 more are 1,000,000 and run; 16,976 exceed the ticks left
    ∷ row 1_000_000 (program_run (fifteen ++ ticks 16975)).progress.report.ticks
    ∷ row 983_025 (program_run (fifteen ++ ticks 16976)).progress.report.ticks
    ∷ []

pub figures_right : right figures ≡ true
unfolding computing figures number_at levels_at next_at ticks_at payload_at record_at passes repeated ticks_in by_record once_of run_from run_of program_run
figures_right = refl

-- so runs the program, whatever its input is. As a record has 7 or 14 bytes, no report tells 65,535 bytes from 65,536: both end within a header
pub program_runs : (input : List ℕ) → program_run input ≡ run_of (take 65_536 input) 1_000_000 machine0
unfolding program_run
program_runs input = refl
