-- The crate's state: one place for each change of a record, the crate with its memory, and power-up.
use Rattle.std.specs.Prelude.{ℕ, List, Option}
use Rattle.lists.specs.Table.{tabulate}
use Rattle.counters.specs.declared.counter.Counter.{Counter}
use Rattle.gates.specs.declared.gate.Gate.{Gate}
use Rattle.loader.specs.declared.loader.Queue.{Queue}
use Rattle.loader.specs.declared.loader.Reload.{Reload}
use Rattle.watchdogs.specs.declared.watchdog.Watchdog.{Watchdog}
use Rattle.counters.specs.Counter.{counter0, counter_count}
use Rattle.gates.specs.Gate.{gate0}
use Rattle.lines.specs.Lines.{gate_count, input_count, signal_count}
use Rattle.loader.specs.Loader.{group_words, loader0, queue0}
use Rattle.loader.specs.Memory.{memory_words}
use Rattle.watchdogs.specs.Watchdog.{watchdog0}
use Rattle.device.specs.Map.{mask_count, output_count, output_words}
use Rattle.device.specs.declared.state.Common.{Common}
use Rattle.device.specs.declared.state.Crate.{Crate}
use Rattle.device.specs.declared.state.Events.{Events}
use Rattle.device.specs.declared.state.Settings.{Settings}
use Rattle.device.specs.declared.state.Status.{Status}

abbrev pub crate_of : List Counter → List ℕ → List Gate → List Watchdog → ℕ → Common → Settings → Status → Crate
crate_of counters groups gates watchdogs levels common settings status = record {
  counters = counters;
  groups = groups;
  gates = gates;
  watchdogs = watchdogs;
  levels = levels;
  common = common;
  settings = settings;
  status = status;
}

abbrev pub with_counters : Crate → List Counter → Crate
with_counters s x = crate_of x s.groups s.gates s.watchdogs s.levels s.common s.settings s.status

abbrev pub with_groups : Crate → List ℕ → Crate
with_groups s x = crate_of s.counters x s.gates s.watchdogs s.levels s.common s.settings s.status

abbrev pub with_gates : Crate → List Gate → Crate
with_gates s x = crate_of s.counters s.groups x s.watchdogs s.levels s.common s.settings s.status

abbrev pub with_watchdogs : Crate → List Watchdog → Crate
with_watchdogs s x = crate_of s.counters s.groups s.gates x s.levels s.common s.settings s.status

abbrev pub with_common : Crate → Common → Crate
with_common s x = crate_of s.counters s.groups s.gates s.watchdogs s.levels x s.settings s.status

abbrev pub with_settings : Crate → Settings → Crate
with_settings s x = crate_of s.counters s.groups s.gates s.watchdogs s.levels s.common x s.status

abbrev pub with_status : Crate → Status → Crate
with_status s x = crate_of s.counters s.groups s.gates s.watchdogs s.levels s.common s.settings x

-- what all counters share: the four registers 0x0801, 0x0A00, 0x0A01, 0x0A02, the queue, the loader, the phases

abbrev pub common_of : ℕ → ℕ → ℕ → ℕ → Queue → Option Reload → List ℕ → Common
common_of control key enable reload queue loader phases = record {
  control = control;
  key = key;
  enable = enable;
  reload = reload;
  queue = queue;
  loader = loader;
  phases = phases;
}

abbrev pub with_registers : Common → ℕ → ℕ → ℕ → ℕ → Common
with_registers cm control key enable reload = common_of control key enable reload cm.queue cm.loader cm.phases

abbrev pub with_queue : Common → Queue → Common
with_queue cm q = common_of cm.control cm.key cm.enable cm.reload q cm.loader cm.phases

-- what writes alone change and no counter sees

abbrev pub settings_of : List ℕ → ℕ → List (List ℕ) → Settings
settings_of masks timeout selections = record { masks = masks; timeout = timeout; selections = selections }

abbrev pub with_masks : Settings → List ℕ → Settings
with_masks s x = settings_of x s.timeout s.selections

abbrev pub with_watchdog_timeout : Settings → ℕ → Settings
with_watchdog_timeout s x = settings_of s.masks x s.selections

abbrev pub with_selections : Settings → List (List ℕ) → Settings
with_selections s x = settings_of s.masks s.timeout x

-- what ticks and tags alone change and no counter sees

abbrev pub events_of : ℕ → ℕ → ℕ → ℕ → Events
events_of low high code handled = record { low = low; high = high; code = code; handled = handled }

abbrev pub status_of : List ℕ → ℕ → Events → Status
status_of rawcounts gatelevels events = record { rawcounts = rawcounts; gatelevels = gatelevels; events = events }

abbrev pub with_rawcounts : Status → List ℕ → Status
with_rawcounts s x = status_of x s.gatelevels s.events

abbrev pub with_gatelevels : Status → ℕ → Status
with_gatelevels s x = status_of s.rawcounts x s.events

abbrev pub with_events : Status → Events → Status
with_events s x = status_of s.rawcounts s.gatelevels x

-- "one crate and one memory"
pub record Machine : Type 0 where
  pub state : Crate
  pub memory : List ℕ

abbrev pub machine : Crate → List ℕ → Machine
machine s memory = record { state = s; memory = memory }

abbrev pub with_state : Machine → Crate → Machine
with_state m s = machine s m.memory

abbrev pub with_memory : Machine → List ℕ → Machine
with_memory m memory = machine m.state memory

-- "All is 0 at power-up, except the input registers, 0x0800 at 65,535", 0x0719 and the module IDs; raw counts are "cleared at power-up
-- only"

abbrev pub common0 : Common
common0 = common_of 0 0 0 0 queue0 loader0 (tabulate signal_count (λ k. 0))

abbrev pub settings0 : Settings
settings0 = settings_of (tabulate mask_count (λ k. 0)) 65535 (tabulate output_count (λ o. tabulate output_words (λ k. 0)))

abbrev pub status0 : Status
status0 = status_of (tabulate input_count (λ i. 0)) 0 (events_of 0 0 0 0)

unfoldable pub power_up : Crate
power_up =
    crate_of (tabulate counter_count (λ n. counter0)) (tabulate group_words (λ k. 0)) (tabulate gate_count (λ g. gate0))
    (tabulate input_count (λ i. watchdog0)) 0 common0 settings0 status0

-- "16,384 lent words, .. cleared at power-up"
unfoldable pub memory0 : List ℕ
memory0 = tabulate memory_words (λ a. 0)
