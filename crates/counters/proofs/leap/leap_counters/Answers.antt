-- `leap_counters` meets its contract: each counter leaps, and each was in range.
use native.Mathlib.Omega.{arith}
use borrow.Author.Rules.{rules}
use Rattle.counters.specs.Counter.{counter0}
use Rattle.counters.specs.Leap.{leap_counters}
use Rattle.counters.proofs.leap.leap_counters.Goals as goal

pub returns : goal.returns
unfolding leap_counters
returns c = (
  search rules,
  record { counts = λ i h. let called = c.step_each.ensures.called counter0 i (omega (arith, c.told-counters)) in search (rules, called) },
)
