-- `overflow_word` meets its contract: it is the word of flags, read with `counter0`, for which the test fails.
use Rattle.counters.specs.Counter.{counter_at, counter0, overflow_word}
use Rattle.counters.proofs.counter.overflow_word.Goals as goal

pub returns : goal.returns
unfolding overflow_word counter_at
returns g c = λ f tests none. c.flags_word.ensures f counter0 tests none
