-- Document 02, CR 3: what a scan gives of one output. A refused one gives nothing: here a level of 0 and no words.
use Rattle.std.specs.Prelude.{ℕ, false, List, get_or, Result, Ok, Err}
use Rattle.causes.specs.declared.Cause.{Cause}
use Rattle.interlocks.specs.declared.scan.OutputScan.{OutputScan}

abbrev pub no_scan : OutputScan
no_scan = record { level = false; words = 0 }

abbrev pub scan_at : Result (List OutputScan) Cause → ℕ → OutputScan
scan_at (Ok scans) o = get_or scans o no_scan
scan_at (Err cause) o = no_scan
