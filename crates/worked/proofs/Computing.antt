-- `computing` opens every definition of the trace and of the packages below it by its `unfolding` line.
use mathlib.Core.Bool.{Bool}
use mathlib.Core.List.{List}
use Rattle.lists.specs.Checks.{Row, right}
use Rattle.registers.proofs.Computing as registers
use Rattle.records.specs.Records.{number_at, next_at, levels_at, ticks_at, payload_at, record_at}
use Rattle.trace.specs.Run.{passes, repeated, ticks_in, call_in, by_record, once_of, run_from, run_of}

unfoldable pub computing : List Row → Bool
unfolding registers.computing number_at next_at levels_at ticks_at payload_at record_at passes repeated ticks_in call_in by_record once_of run_from run_of
computing rows = right rows
