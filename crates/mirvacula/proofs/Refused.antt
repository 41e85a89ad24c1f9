-- A scan that is refused is shown as zeros.
use mathlib.Core.Bool.{false}
use mathlib.Core.List.{List}
use mathlib.Core.Path.{◌≡◌, refl}
use lib.ListN.{replicate}
use Rattle.std.proofs.Common.{Result, Ok, Err}
use Rattle.std.specs.Result.{result_unwrap_or}
use Rattle.lists.specs.Table.{table_from, tabulate}
use Rattle.causes.specs.declared.Cause.{Cause}
use Rattle.interlocks.specs.declared.scan.OutputScan.{OutputScan}
use Rattle.mirvacula.specs.Exported.{output_numbers, scan_numbers}

pub scan_told : (scan : Result (List OutputScan) Cause) →
    output_numbers (result_unwrap_or scan (replicate 6 (record { level = false; words = 0 }))) ≡ scan_numbers scan
unfolding tabulate table_from
scan_told (Ok outputs) = refl
scan_told (Err cause) = refl
