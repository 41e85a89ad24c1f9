-- `low_gates` meets its contract, by `low_is`.
use Rattle.interlocks.proofs.Meeting.{low_is}
use Rattle.interlocks.proofs.signals.low_gates.Goals as goal

pub returns : goal.returns
returns c = low_is _
