-- `read_input` meets its contract: what is read lies within the buffer. The measure is the room that is left.
use Rattle.std.proofs.Common.{◌-◌, ◌≤◌, length}
use Rattle.standard_input.proofs.read_input.Given as goal

abbrev pub invariant-loop-length : goal.invariant-loop-length
invariant-loop-length g l = l.length ≤ length l.buf

abbrev pub decreases-loop-length : goal.decreases-loop-length
decreases-loop-length g l = length l.initial.buf - l.length
