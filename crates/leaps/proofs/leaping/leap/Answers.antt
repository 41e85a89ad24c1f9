-- `leap` meets its contract: the parts' contracts, and the rises from a table (`table_rises`).
use borrow.Author.Rules.{rules}
use Rattle.gates.specs.Gate.{output, outputs_of}
use Rattle.counters.proofs.Leaps.{table_rises}
use Rattle.lines.specs.Leap.{rises_in}
use Rattle.leaps.specs.Leap.{leap_common, leap_of}
use Rattle.leaps.proofs.leaping.leap.Goals as goal

pub returns : goal.returns
unfolding leap_of leap_common outputs_of
returns c =
    let a = c.args in
    let s = a.s.now in (
      rw (
        c.leap_status.ensures.0,
        c.leap_watchdogs.ensures,
        c.leap_common.ensures,
        c.leap_gates.ensures,
        c.leap_counters.ensures.0,
        c.gate_bits.ensures output (λ g b p. search (rules, p)),
        c.rises_in.ensures,
        table_rises s.common.control (outputs_of s.gates) (rises_in a.k s.common.phases) s.counters,
      ),
      record { counters = c.leap_counters.ensures.1; rawcounts = c.leap_status.ensures.1 },
    )
