-- `computing` opens every definition of the sheet, of the trace, of leaps and of the packages below them by its `unfolding` line.
use mathlib.Core.Bool.{Bool}
use mathlib.Core.List.{List}
use Rattle.lists.specs.Checks.{Row, right}
use Rattle.counters.specs.Leap.{count_after, counter_after, counter_leap, leap_counters}
use Rattle.gate_leaps.specs.Leap.{gate_after, leap_gates, steady, steady_gates}
use Rattle.lines.specs.Leap.{leap_phases, low_phases, phase_after, rises_in}
use Rattle.watchdogs.specs.Leap.{leap_watchdogs, watchdog_after}
use Rattle.leaps.specs.Leap.{leap_common, leap_of, quiet}
use Rattle.sheet.specs.Lines.{join, lines_at, lines_in, lines_of, own_lines}
use Rattle.sheet.specs.OwnPart.{added, four_of, own, own_at, own_part, own_tag}
use Rattle.sheet.specs.Sheet.{sheet0, sheet_after, sheet_from, sheet_step}
use Rattle.worked.proofs.Computing as worked

unfoldable pub computing : List Row → Bool
unfolding worked.computing count_after counter_after counter_leap leap_counters gate_after leap_gates steady steady_gates leap_phases low_phases phase_after
    rises_in leap_watchdogs watchdog_after leap_common leap_of quiet join lines_at lines_in lines_of own_lines added four_of own own_at own_part
    own_tag sheet0 sheet_after sheet_from sheet_step
computing rows = right rows
