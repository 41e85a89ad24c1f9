-- Document 01, "Threshold memory and loader": the order within a tick.
use Rattle.std.specs.Prelude.{ℕ, Option, Some, None, List}
use Rattle.gates.specs.declared.gate.Gate.{Gate}
use Rattle.loader.specs.declared.loader.Reload.{Reload}
use Rattle.counters.specs.Counter.{tick_counters}
use Rattle.gates.specs.Gate.{gate_step, each_gate, outputs_of}
use Rattle.lines.specs.Lines.{rises_of, step_phases}
use Rattle.lines.specs.RawCounts.{count_rises}
use Rattle.loader.specs.Loader.{load_into, loader_step, queue_step}
use Rattle.watchdogs.specs.Watchdog.{step_watchdogs}
use Rattle.device.specs.declared.state.Common.{Common}
use Rattle.device.specs.declared.state.Crate.{Crate}
use Rattle.device.specs.declared.state.Events.{Events}
use Rattle.device.specs.declared.state.Status.{Status}
use Rattle.device.specs.State.{crate_of, common_of, events_of, status_of}

-- phases, queue and loader
unfoldable pub common_tick : Common → Common
common_tick cm =
    common_of cm.control cm.key cm.enable cm.reload
    (queue_step cm.loader cm.queue)
    (loader_step cm.loader cm.queue)
    (step_phases cm.phases)

-- 0x0904: "the last counter handled"
abbrev pub last_handled : Option Reload → ℕ → ℕ
last_handled None before = before
last_handled (Some l) before = l.next

abbrev pub handled_by : Option Reload → Events → Events
handled_by l e = events_of e.low e.high e.code (last_handled l e.handled)

-- raw counts take the input rises as they are: "Gates, selections and RESET have no effect"
unfoldable pub status_tick : ℕ → ℕ → Option Reload → Status → Status
status_tick rises gatelevels l s = status_of (count_rises rises s.rawcounts) gatelevels (handled_by l s.events)

-- "A tick runs: test phases, input rises, gates, counters, watchdogs, loader; then event pulses are dropped and levels kept."
unfoldable pub tick_of : Crate → List ℕ → ℕ → ℕ → Crate
tick_of s memory inputs gatelevels =
    let rises : ℕ = rises_of s.levels inputs s.common.phases in
    let gates : List Gate = each_gate gate_step gatelevels s.gates in
    crate_of
    (load_into s.common.loader s.groups memory
    (tick_counters s.common.control rises (outputs_of s.gates) (outputs_of gates) s.counters))
    s.groups gates (step_watchdogs s.settings.timeout rises s.watchdogs) inputs (common_tick s.common) s.settings
    (status_tick rises gatelevels s.common.loader s.status)
