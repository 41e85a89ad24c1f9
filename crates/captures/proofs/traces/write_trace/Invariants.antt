use Prim.Native.Nat.{◌*◌}
use Rattle.std.specs.Iterator.Adapters.{enumerate_count, enumerate_source}
use Rattle.captures.specs.Nine.{records_left, trace_in}
use Rattle.captures.proofs.Wrote.{Wrote}
use Rattle.captures.proofs.traces.write_trace.Given as goal

abbrev pub invariant-loop-record : goal.invariant-loop-record
invariant-loop-record l =
    goal.iterator-loop-record.can_next l.record-iterator
    × goal.iterator-loop-record.is_finite l.record-iterator
    × Wrote (trace_in l.frames) l.fn.out (14 * enumerate_count l.record-iterator) (records_left (enumerate_source l.record-iterator)) l.out
