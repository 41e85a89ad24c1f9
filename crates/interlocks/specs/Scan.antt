-- Document 02, CR 3: how far the scan of an output's selection words goes, and what one call returns of the six outputs.
use Rattle.std.specs.Prelude.{ℕ, List, Result, Ok, Err}
use Rattle.bools.specs.Pick.{pick}
use Rattle.lists.specs.Table.{least, tabulate}
use Rattle.loader.specs.Memory.{is_whole}
use Rattle.causes.specs.declared.Cause.{Cause}
use Rattle.causes.specs.declared.Cause.TheVariants.{Memory}
use Rattle.device.specs.declared.state.Crate.{Crate}
use Rattle.device.specs.Map.{output_count, output_words}
use Rattle.device.specs.State.{Machine}
use Rattle.interlocks.specs.declared.scan.OutputScan.{OutputScan}
use Rattle.interlocks.specs.Interlock.{interlock, trips}

-- "goes up from the lowest address and ends at the first word by which those read already make the output 0", "all of them where the
-- level is 1": the least w such that the first w words alone make it 0, and all 22 where no fewer do
unfoldable pub words_read : Crate → ℕ → ℕ
words_read s o = least output_words (trips s o)

-- of one output "the level, still that of the full selection, and the number of words read"
abbrev pub output_scan : Crate → ℕ → OutputScan
output_scan s o = record { level = interlock s o; words = words_read s o }

-- "for each of the six outputs"
abbrev pub scanned : Crate → List OutputScan
scanned s = tabulate output_count (output_scan s)

-- "refused 1", and else the six
unfoldable pub scan_of : Machine → Result (List OutputScan) Cause
scan_of m = pick (is_whole m.memory) (Ok (scanned m.state)) (Err Memory)
