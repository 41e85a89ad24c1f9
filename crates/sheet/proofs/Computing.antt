-- `computing` opens every definition of the sheet and of the packages below it by its `unfolding` line: a proof that says `unfolding computing`
-- can compute, and no other does.
use mathlib.Core.Bool.{Bool}
use mathlib.Core.List.{List}
use Rattle.lists.specs.Checks.{Row, right}
use Rattle.registers.proofs.Computing as registers
use Rattle.sheet.specs.Lines.{join, lines_at, lines_in, lines_of, own_lines}
use Rattle.sheet.specs.OwnPart.{added, four_of, own, own_at, own_part, own_tag}
use Rattle.sheet.specs.Settled.{all_pulsed, has_four, idle_command, idle_tag, repeats, settled, settled_from}
use Rattle.sheet.specs.Sheet.{sheet0, sheet_after, sheet_command, sheet_from, sheet_load, sheet_shows, sheet_step, sheet_tag, sheet_tick}
use Rattle.sheet.specs.Shows.{shows}

unfoldable pub computing : List Row → Bool
unfolding registers.computing join lines_at lines_in lines_of own_lines added four_of own own_at own_part own_tag all_pulsed has_four idle_command idle_tag
    repeats settled settled_from sheet0 sheet_after sheet_command
    sheet_from sheet_load sheet_shows sheet_step sheet_tag sheet_tick shows
computing rows = right rows
