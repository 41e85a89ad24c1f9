-- Document 01, "Writes and event tags": what a write answers and does.
use Rattle.std.specs.Prelude.{ℕ, Bool, not, ◌&&◌, List, [], get_or, set, Ok, Err}
use Rattle.bools.specs.Pick.{pick}
use Rattle.words.specs.Word.{bit, field_of}
use Rattle.counters.specs.declared.counter.Counter.{Counter}
use Rattle.gates.specs.declared.gate.Gate.{Gate}
use Rattle.loader.specs.declared.loader.Queue.{Queue}
use Rattle.counters.specs.Counter.{clear_counters, counter_at, reset_on, with_input}
use Rattle.gates.specs.Gate.{each_gate, gate_at, with_mode, with_prepare, with_recover, with_timeout}
use Rattle.loader.specs.Loader.{is_beyond, is_full, pushed, request_for}
use Rattle.watchdogs.specs.Watchdog.{reset_watchdogs}
use Rattle.causes.specs.declared.Cause.TheVariants.{ReadOnly, Dataset, Full}
use Rattle.device.specs.declared.map.GateWord.{GateWord}
use Rattle.device.specs.declared.map.GateWord.TheVariants.{Mode, Timeout, Prepare, Recover}
use Rattle.device.specs.declared.map.Register.{Register}
use Rattle.device.specs.declared.map.Register.TheVariants.{Readout, Setting, Shared, Gates, Watchdogs, Input, Group, Word}
use Rattle.device.specs.declared.map.SettingWord.{SettingWord}
use Rattle.device.specs.declared.map.SettingWord.TheVariants.{Mask, WatchdogTimeout, Selection}
use Rattle.device.specs.declared.map.SharedWord.{SharedWord}
use Rattle.device.specs.declared.map.SharedWord.TheVariants.{Control, Key, Enable, Reload}
use Rattle.device.specs.declared.state.Common.{Common}
use Rattle.device.specs.declared.state.Settings.{Settings}
use Rattle.causes.specs.Causes.{Answer, is_done}
use Rattle.device.specs.Map.{kept}
use Rattle.device.specs.State.{Machine, with_common, with_counters, with_gates, with_groups, with_memory, with_queue, with_registers, with_settings, with_state, with_watchdogs}
use Rattle.device.specs.State.{with_masks, with_selections, with_watchdog_timeout}

-- a request: "dataset above 31" 4, before "16 requests wait" 5
unfoldable pub request_answer : Queue → ℕ → Answer
request_answer q dataset = pick (is_beyond dataset) (Err Dataset) (pick (is_full q) (Err Full) (Ok tt))

-- the Manual's Tables 3.22 and 3.40: DATASET in bits 7-0, GROUP in 11-8, TRIGGER in 12
abbrev pub dataset_in : ℕ → ℕ
dataset_in w = field_of w 0 8

abbrev pub group_in : ℕ → ℕ
group_in w = field_of w 8 4

abbrev pub trigger : ℕ → Bool
trigger w = bit w 12

-- the request of a word enters the queue
unfoldable pub requested : ℕ → Common → Common
requested w cm = with_queue cm (pushed cm.queue (request_for (dataset_in w) (group_in w)))

-- "A write to 0x0A02 that sets TRIGGER where it was clear makes a request."
abbrev pub triggers : ℕ → Common → Bool
triggers w cm = trigger w && not (trigger cm.reload)

unfoldable pub reload_answer : ℕ → Common → Answer
reload_answer w cm = pick (triggers w cm) (request_answer cm.queue (dataset_in w)) (Ok tt)

abbrev pub with_reload : ℕ → Common → Common
with_reload w cm = with_registers cm cm.control cm.key cm.enable w

-- a refused request stores nothing
unfoldable pub reload_write : ℕ → Common → Common
reload_write w cm =
    pick (is_done (reload_answer w cm)) (with_reload (kept (Shared Reload) w) (pick (triggers w cm) (requested w cm) cm)) cm

unfoldable pub control_write : ℕ → Common → Common
control_write w cm = with_registers cm (kept (Shared Control) w) cm.key cm.enable cm.reload

unfoldable pub key_write : ℕ → Common → Common
key_write w cm = with_registers cm cm.control (kept (Shared Key) w) cm.enable cm.reload

unfoldable pub enable_write : ℕ → Common → Common
enable_write w cm = with_registers cm cm.control cm.key (kept (Shared Enable) w) cm.reload

-- a word of an output's block
abbrev pub with_selected : List (List ℕ) → ℕ → ℕ → ℕ → List (List ℕ)
with_selected selections o k w = set selections o (set (get_or selections o []) k w)

-- a write to a setting
unfoldable pub settings_write : SettingWord → ℕ → Settings → Settings
settings_write (Mask k) w s = with_masks s (set s.masks k (kept (Setting (Mask k)) w))
settings_write WatchdogTimeout w s = with_watchdog_timeout s (kept (Setting WatchdogTimeout) w)
settings_write (Selection o k) w s =
    with_selections s (with_selected s.selections o k (kept (Setting (Selection o k)) w))

-- a write to a register that all counters share: what it answers, which is cause 4 or 5 of 0x0A02 alone, and what it does
abbrev pub shared_answer : SharedWord → ℕ → Common → Answer
shared_answer Reload w cm = reload_answer w cm
shared_answer q w cm = Ok tt

unfoldable pub shared_write : SharedWord → ℕ → Common → Common
shared_write Control w cm = control_write w cm
shared_write Key w cm = key_write w cm
shared_write Enable w cm = enable_write w cm
shared_write Reload w cm = reload_write w cm

-- "While RESET (bit 0) is set all counts are 0": from the write to 0x0801 on
unfoldable pub reset_by : ℕ → List Counter → List Counter
reset_by w counters = pick (reset_on w) (clear_counters counters) counters

abbrev pub shared_clears : SharedWord → ℕ → List Counter → List Counter
shared_clears Control w counters = reset_by w counters
shared_clears q w counters = counters

-- a write to a register of the gates
unfoldable pub gates_write : GateWord → ℕ → List Gate → List Gate
gates_write Mode w gates = each_gate with_mode w gates
gates_write (Timeout g) w gates = set gates g (with_timeout (kept (Gates (Timeout g)) w) (gate_at gates g))
gates_write Prepare w gates = each_gate with_prepare w gates
gates_write Recover w gates = each_gate with_recover w gates

-- cause 3, then for 0x0A02 those of a request
unfoldable pub write_answer : Common → Register → ℕ → Answer
write_answer cm (Readout q) w = Err ReadOnly
write_answer cm (Shared q) w = shared_answer q w cm
write_answer cm r w = Ok tt

abbrev pub on_counters : Machine → List Counter → Machine
on_counters m x = with_state m (with_counters m.state x)

abbrev pub on_gates : Machine → List Gate → Machine
on_gates m x = with_state m (with_gates m.state x)

abbrev pub on_common : Machine → Common → Machine
on_common m x = with_state m (with_common m.state x)

-- what a write to a register does; a refused one leaves all
unfoldable pub write_at : Machine → Register → ℕ → Machine
write_at m (Readout q) w = m
write_at m (Setting q) w = with_state m (with_settings m.state (settings_write q w m.state.settings))
write_at m (Shared q) w =
    on_common (on_counters m (shared_clears q w m.state.counters)) (shared_write q w m.state.common)
write_at m (Gates q) w = on_gates m (gates_write q w m.state.gates)
write_at m (Watchdogs k) w = with_state m (with_watchdogs m.state (reset_watchdogs k w m.state.watchdogs))
write_at m (Input n) w =
    on_counters m (set m.state.counters n (with_input (counter_at m.state.counters n) (kept (Input n) w)))
write_at m (Group k) w = with_state m (with_groups m.state (set m.state.groups k (kept (Group k) w)))
write_at m (Word i) w = with_memory m (set m.memory i (kept (Word i) w))
