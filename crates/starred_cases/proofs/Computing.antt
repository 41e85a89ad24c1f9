-- `computing` opens every definition of the printed lines, of the trace and of the packages below it by its `unfolding` line.
use mathlib.Core.Bool.{Bool}
use mathlib.Core.List.{List}
use Rattle.lists.specs.Checks.{Row, right}
use Rattle.pages.specs.Text.{decimal_in, decimal, hexadecimal}
use Rattle.printing.specs.Printed.{stop_text, report_line, words_from, printed, program_run, program_prints}
use Rattle.worked.proofs.Computing as worked

unfoldable pub computing : List Row → Bool
unfolding worked.computing decimal_in decimal hexadecimal stop_text report_line words_from printed program_run program_prints
computing rows = right rows
