-- So many ticks at once, at the levels of the last tick: what k ticks make of the crate while nothing but test signals, counts, watchdogs and
-- PREPARE timers moves, the test that it is so, and the stretch that is made at once.
use Rattle.std.specs.Prelude.{ℕ, zero, suc, min, Bool, not, ◌&&◌, ◌||◌, List, ◌≡◌, eqb, length}
use Rattle.bools.specs.Pick.{pick}
use Rattle.counters.specs.Leap.{Ranged, leap_counters}
use Rattle.gates.specs.Gate.{outputs_of}
use Rattle.gate_leaps.specs.Leap.{horizon, leap_gates, steady_gates}
use Rattle.lines.specs.Leap.{leap_phases, low_phases, rises_in}
use Rattle.loader.specs.Loader.{busy, is_empty}
use Rattle.watchdogs.specs.Leap.{leap_watchdogs}
use Rattle.device.specs.declared.state.Common.{Common}
use Rattle.device.specs.declared.state.Crate.{Crate}
use Rattle.device.specs.State.{common_of, crate_of, with_gatelevels}
use Rattle.ticking.specs.Tick.{tick_of}

-- so many ticks at the same levels, one by one
unfoldable pub ticks_of : ℕ → Crate → List ℕ → ℕ → ℕ → Crate
ticks_of zero s memory inputs gatelevels = s
ticks_of (suc k) s memory inputs gatelevels = ticks_of k (tick_of s memory inputs gatelevels) memory inputs gatelevels

-- ---- k ticks at once

-- test signals move; loader, queue and registers stay
unfoldable pub leap_common : ℕ → Common → Common
leap_common k cm =
    common_of cm.control cm.key cm.enable cm.reload cm.queue cm.loader (leap_phases k cm.phases)

-- of the status the gate levels alone are set: no input rises, so raw counts stay
unfoldable pub leap_of : ℕ → Crate → ℕ → Crate
leap_of k s gatelevels =
    crate_of
    (leap_counters s.common.control (rises_in k s.common.phases) (outputs_of s.gates) s.counters)
    s.groups (leap_gates k s.gates) (leap_watchdogs k s.settings.timeout s.watchdogs) s.levels (leap_common k s.common) s.settings
    (with_gatelevels s.status gatelevels)

-- ---- when that is so

-- the levels are those of the last tick, the loader is idle and no request waits, the phases are below 125,000, and no gate leaves its state
unfoldable pub quiet : ℕ → Crate → ℕ → ℕ → Bool
quiet k s inputs gatelevels =
    (eqb s.levels inputs && not (busy s.common.loader || not (is_empty s.common.queue)))
    && (low_phases s.common.phases && steady_gates k gatelevels s.gates)

-- how many of the ticks left are made at once: fewer than 2^32 and as many as the timers of PREPARE allow, if these are quiet, else none
unfoldable pub stretch_of : Crate → ℕ → ℕ → ℕ → ℕ
stretch_of s left inputs gatelevels =
    let k : ℕ = horizon 12 s.gates (min left 4294967295) in pick (quiet k s inputs gatelevels) k 0

-- what the types of the code say of a crate: counts of 32 bits, and as many raw counts as inputs
pub record Formed (s : Crate) : Type 0 where
  pub counters : Ranged s.counters 128
  pub rawcounts : length s.status.rawcounts ≡ 54
