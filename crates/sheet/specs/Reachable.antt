-- What holds of every crate and memory that a list from power-up reaches: ranges, unused bits 0, counts 0 while RESET is set.
use Rattle.std.specs.Prelude.{ℕ, ◌*◌, ◌^◌, ◌≤◌, ◌<◌, true, Option, Some, None, List, [], ◌∷◌, ◌≡◌, pos, get_or, length}
use Rattle.std.specs.Int.Signed.{mag}
use Rattle.counters.specs.declared.counter.Counter.{Counter}
use Rattle.gates.specs.declared.gate.Gate.{Gate}
use Rattle.loader.specs.declared.loader.Queue.{Queue}
use Rattle.loader.specs.declared.loader.Reload.{Reload as Reloading}
use Rattle.loader.specs.declared.loader.Request.{Request}
use Rattle.counters.specs.Counter.{counter_at, reset_on}
use Rattle.gates.specs.Gate.{gate_at, timeout_unit}
use Rattle.lines.specs.Lines.{gate_count, input_count, phase_limit}
use Rattle.lines.specs.RawCounts.{raw_at}
use Rattle.loader.specs.Loader.{request0}
use Rattle.loader.specs.Memory.{memory_words, word_at}
use Rattle.watchdogs.specs.Watchdog.{watchdog_at, watchdog_top}
use Rattle.device.specs.declared.map.Register.TheVariants.{Setting, Shared}
use Rattle.device.specs.declared.map.SettingWord.TheVariants.{Mask, Selection, WatchdogTimeout}
use Rattle.device.specs.declared.map.SharedWord.TheVariants.{Control, Enable, Key, Reload}
use Rattle.device.specs.declared.state.Common.{Common}
use Rattle.device.specs.declared.state.Events.{Events}
use Rattle.device.specs.declared.state.Settings.{Settings}
use Rattle.device.specs.declared.state.Status.{Status}
use Rattle.registers.specs.Calls.{Call, tick, write, tag, download}
use Rattle.device.specs.Map.{used_bits}
use Rattle.interlocks.specs.Interlock.{selected}
use Rattle.device.specs.State.{Machine}

-- a count and thresholds of 32 bits in two's complement, an input register of 16
pub record CounterInRange (c : Counter) : Type 0 where
  pub count : mag c.count < 2 ^ 31
  pub positive : mag c.positive < 2 ^ 31
  pub negative : mag c.negative < 2 ^ 31
  pub input : c.input < 2 ^ 16

pub record GateInRange (g : Gate) : Type 0 where
  pub timer : g.timer ≤ timeout_unit * 65535
  pub timeout : g.timeout < 2 ^ 16

-- "dataset above 31" is never requested
pub record RequestInRange (r : Request) : Type 0 where
  pub dataset : r.dataset < 32
  pub group : r.group < 16

-- "a queue of 16"
pub record QueueInRange (q : Queue) : Type 0 where
  pub places : length q.places ≡ 16
  pub waiting : q.waiting ≤ 16
  pub requests : (i : ℕ) → RequestInRange (get_or q.places i request0)

-- a busy loader's request, and the counter that it handles next
pub record ReloadingInRange (l : Reloading) : Type 0 where
  pub request : RequestInRange l.request
  pub next : l.next < 128

-- an idle loader has neither
abbrev pub LoaderInRange : Option Reloading → Type 0
LoaderInRange None = Unit
LoaderInRange (Some l) = ReloadingInRange l

pub record CommonInRange (cm : Common) : Type 0 where
  pub control : cm.control < 2 ^ used_bits (Shared Control)
  pub key : cm.key < 2 ^ used_bits (Shared Key)
  pub enable : cm.enable < 2 ^ used_bits (Shared Enable)
  pub reload : cm.reload < 2 ^ used_bits (Shared Reload)
  pub queue : QueueInRange cm.queue
  pub loader : LoaderInRange cm.loader
  pub phases : (k : ℕ) → get_or cm.phases k 0 < phase_limit

pub record EventsInRange (e : Events) : Type 0 where
  pub low : e.low < 2 ^ 16
  pub high : e.high < 2 ^ 16
  pub code : e.code < 2 ^ 16
  pub handled : e.handled < 128

pub record SettingsInRange (s : Settings) : Type 0 where
  pub masks : (k : ℕ) → get_or s.masks k 0 < 2 ^ used_bits (Setting (Mask k))
  pub timeout : s.timeout < 2 ^ used_bits (Setting WatchdogTimeout)
  pub selections : (o k : ℕ) → selected s.selections o k < 2 ^ used_bits (Setting (Selection o k))

pub record StatusInRange (s : Status) : Type 0 where
  pub rawcounts : (i : ℕ) → raw_at s.rawcounts i < 2 ^ 32
  pub gatelevels : s.gatelevels < 2 ^ gate_count
  pub events : EventsInRange s.events

pub record Reached (m : Machine) : Type 0 where
  pub memory : length m.memory ≡ memory_words
  pub words : (a : ℕ) → word_at m.memory a < 2 ^ 16
  pub counters : (n : ℕ) → CounterInRange (counter_at m.state.counters n)
  pub groups : (k : ℕ) → get_or m.state.groups k 0 < 2 ^ 16
  pub gates : (g : ℕ) → GateInRange (gate_at m.state.gates g)
  pub watchdogs : (i : ℕ) → (watchdog_at m.state.watchdogs i).value ≤ watchdog_top
  pub levels : m.state.levels < 2 ^ input_count
  pub common : CommonInRange m.state.common
  pub settings : SettingsInRange m.state.settings
  pub status : StatusInRange m.state.status
  -- "While RESET (bit 0) is set all counts are 0."
  pub reset : reset_on m.state.common.control ≡ true → (n : ℕ) → (counter_at m.state.counters n).count ≡ pos 0

-- a list whose downloads are of words: all that the library's types allow
unfoldable pub OfWords : List Call → Type 0
OfWords [] = Unit
OfWords (tick inputs gates ∷ l) = OfWords l
OfWords (write a w ∷ l) = OfWords l
OfWords (tag t ∷ l) = OfWords l
OfWords (download d words ∷ l) = ((i : ℕ) → get_or words i 0 < 2 ^ 16) × OfWords l
