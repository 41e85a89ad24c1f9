-- The table of worked cases holds: one computed test, and one law that gives each row.
use Prim.Native.Nat.{ℕ, ◌<◌}
use mathlib.Core.Bool.{true}
use mathlib.Core.Path.{◌≡◌, refl}
use lib.ListN.{length, get_or}
use Rattle.lists.specs.Checks.{row, right}
use Rattle.lists.proofs.Rows.{row_right}
use Rattle.sheet.specs.Requests.{stand_after}
use Rattle.sheet.specs.Waiting.{tallied, tag_tally, tick_tally, write_tally}
use Rattle.worked.proofs.Computing.{computing}
use Rattle.worked.proofs.Worked.{worked, gate_rows, counter_rows, register_rows, refusal_rows, loader_rows, bound_rows, output_rows, trace_rows, raw_rows, length_rows, scan_rows}

worked_right : right worked ≡ true
unfolding computing worked gate_rows counter_rows register_rows refusal_rows loader_rows bound_rows output_rows trace_rows raw_rows length_rows
    stand_after tallied write_tally tag_tally tick_tally
worked_right = refl

-- the worked cases
pub worked_cases : (k : ℕ) → k < length worked → (get_or worked k (row 0 0)).computed ≡ (get_or worked k (row 0 0)).expected
worked_cases = row_right worked worked_right

scans_right : right scan_rows ≡ true
unfolding computing scan_rows
scans_right = refl

-- and those of scans
pub scan_cases : (k : ℕ) → k < length scan_rows → (get_or scan_rows k (row 0 0)).computed ≡ (get_or scan_rows k (row 0 0)).expected
scan_cases = row_right scan_rows scans_right
