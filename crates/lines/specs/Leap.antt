-- Document 01, "Lines and test pulses", over so many ticks at once: the test signals while no input rises.
use Rattle.std.specs.Prelude.{ℕ, ◌+◌, ◌-◌, ◌*◌, ◌/◌, ◌%◌, Bool, not, List, leb, ltb, get_or}
use Rattle.bools.specs.Pick.{pick}
use Rattle.lists.specs.Table.{any, each}
use Rattle.lines.specs.Lines.{frequency, phase_limit, signal_count}

-- "adds f to its phase each tick": what k ticks add up to, with nothing taken off
abbrev pub phase_total : ℕ → ℕ → ℕ → ℕ
phase_total k j phase = phase + k * frequency j

-- "when the phase reaches 125,000, that is taken off": of a phase below 125,000, once for each rise
unfoldable pub phase_after : ℕ → ℕ → ℕ → ℕ
phase_after k j phase = phase_total k j phase % phase_limit

unfoldable pub leap_phases : ℕ → List ℕ → List ℕ
leap_phases k phases = each signal_count 0 (phase_after k) phases

-- "and a rise is given": the rises of a selection value in k ticks in which no input rises; ground gives none
unfoldable pub rises_in : ℕ → List ℕ → ℕ → ℕ
rises_in k phases u = pick (ltb u 55) 0 (phase_total k (u - 55) (get_or phases (u - 55) 0) / phase_limit)

-- every phase is below 125,000, as from power-up on all are
unfoldable pub low_phases : List ℕ → Bool
low_phases phases = not (any signal_count (λ j. leb phase_limit (get_or phases j 0)))
