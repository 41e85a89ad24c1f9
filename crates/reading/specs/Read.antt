-- Document 01, "Writes and event tags", and the Manual's register tables: the word that a read gives.
use Rattle.std.specs.Prelude.{ℕ, ◌+◌, ◌*◌, ◌/◌, ◌%◌, eqb, ltb, ℤ, List, get_or, Result, Ok, Err}
use Rattle.std.specs.Option.{option_map_or}
use Rattle.bools.specs.Pick.{pick}
use Rattle.numbers.specs.Signed.{word_of}
use Rattle.words.specs.Word.{fields}
use Rattle.counters.specs.declared.counter.Counter.{Counter}
use Rattle.counters.specs.Counter.{counter_at, is_over, is_under, overflow_word}
use Rattle.gates.specs.declared.gate.Gate.{Gate}
use Rattle.gates.specs.Gate.{failed, gate_at, gate_bits, mode, outputs_of, prepare, recover, state_word}
use Rattle.lines.specs.RawCounts.{raw_at}
use Rattle.loader.specs.Loader.{busy}
use Rattle.loader.specs.Memory.{is_whole, word_at}
use Rattle.watchdogs.specs.Watchdog.{error_of, reset_of, watchdog_word}
use Rattle.causes.specs.declared.Cause.{Cause}
use Rattle.causes.specs.declared.Cause.TheVariants.{Memory, Address}
use Rattle.device.specs.declared.map.GateWord.{GateWord}
use Rattle.device.specs.declared.map.GateWord.TheVariants.{Mode, Timeout, Prepare, Recover}
use Rattle.device.specs.declared.map.ReadoutWord.{ReadoutWord}
use Rattle.device.specs.declared.map.ReadoutWord.TheVariants.{Module, Negative, Positive, GateErrors, WatchdogErrors, GateInputs, GateOutputs, Outputs}
use Rattle.device.specs.declared.map.ReadoutWord.TheVariants.{GateStates, TagLow, TagHigh, Code, LoaderState, LoaderCounter, QueueLength, Count, Raw, Threshold}
use Rattle.device.specs.declared.map.Register.{Register}
use Rattle.device.specs.declared.map.Register.TheVariants.{Readout, Setting, Shared, Gates, Watchdogs, Input, Group, Word}
use Rattle.device.specs.declared.map.SettingWord.{SettingWord}
use Rattle.device.specs.declared.map.SettingWord.TheVariants.{Mask, WatchdogTimeout, Selection}
use Rattle.device.specs.declared.map.SharedWord.{SharedWord}
use Rattle.device.specs.declared.map.SharedWord.TheVariants.{Control, Key, Enable, Reload}
use Rattle.device.specs.declared.state.Common.{Common}
use Rattle.device.specs.declared.state.Crate.{Crate}
use Rattle.device.specs.declared.state.Settings.{Settings}
use Rattle.interlocks.specs.Interlock.{interlocks, selected}
use Rattle.device.specs.Map.{decode_of}
use Rattle.device.specs.State.{Machine}

-- "the module IDs: 0x07 in slots 0 to 8, 0x03 in 9 and 10, 0x06 in 11"; two slots a register, the first in the low byte
abbrev pub module_id : ℕ → ℕ
module_id slot = pick (ltb slot 9) 0x07 (pick (ltb slot 11) 0x03 0x06)

unfoldable pub module_word : ℕ → ℕ
module_word k = fields 8 2 (λ j. module_id (2 * k + j))

-- word j of a 32-bit number, "low word first"
abbrev pub low_first : ℕ → ℕ → ℕ
low_first j n = pick (eqb (j % 2) 0) (n % 65536) (n / 65536)

-- the Manual's Tables 3.31 and 3.35: LOW before HIGH
abbrev pub half_of : ℕ → ℤ → ℕ
half_of j z = low_first j (word_of 32 z)

-- positive before negative
abbrev pub threshold_of : ℕ → Counter → ℤ
threshold_of j c = pick (ltb j 2) c.positive c.negative

unfoldable pub readout_word : Crate → ReadoutWord → ℕ
readout_word s (Module k) = module_word k
readout_word s (Negative k) = overflow_word is_under s.counters k
readout_word s (Positive k) = overflow_word is_over s.counters k
readout_word s GateErrors = gate_bits failed s.gates
readout_word s (WatchdogErrors k) = watchdog_word error_of s.watchdogs k
readout_word s GateInputs = s.status.gatelevels
readout_word s GateOutputs = outputs_of s.gates
readout_word s Outputs = interlocks s
readout_word s (GateStates k) = state_word s.gates k
readout_word s TagLow = s.status.events.low
readout_word s TagHigh = s.status.events.high
readout_word s Code = s.status.events.code
readout_word s LoaderState = pick (busy s.common.loader) 3 0
readout_word s LoaderCounter = s.status.events.handled
-- "the number of waiting requests, 0 to 16": the one at work waits no more
readout_word s QueueLength = s.common.queue.waiting
readout_word s (Count k) = half_of k (counter_at s.counters (k / 2)).count
readout_word s (Raw k) = low_first k (raw_at s.status.rawcounts (k / 2))
readout_word s (Threshold k) = half_of k (threshold_of (k % 4) (counter_at s.counters (k / 4)))

unfoldable pub setting_word : Settings → SettingWord → ℕ
setting_word s (Mask k) = get_or s.masks k 0
setting_word s WatchdogTimeout = s.timeout
setting_word s (Selection o k) = selected s.selections o k

unfoldable pub shared_word : Common → SharedWord → ℕ
shared_word cm Control = cm.control
shared_word cm Key = cm.key
shared_word cm Enable = cm.enable
shared_word cm Reload = cm.reload

unfoldable pub gate_word : List Gate → GateWord → ℕ
gate_word gates Mode = gate_bits mode gates
gate_word gates (Timeout g) = (gate_at gates g).timeout
gate_word gates Prepare = gate_bits prepare gates
gate_word gates Recover = gate_bits recover gates

unfoldable pub word_in : Machine → Register → ℕ
word_in m (Readout q) = readout_word m.state q
word_in m (Setting q) = setting_word m.state.settings q
word_in m (Shared q) = shared_word m.state.common q
word_in m (Gates q) = gate_word m.state.gates q
word_in m (Watchdogs k) = watchdog_word reset_of m.state.watchdogs k
word_in m (Input n) = (counter_at m.state.counters n).input
word_in m (Group k) = get_or m.state.groups k 0
word_in m (Word i) = word_at m.memory i

-- a read: cause 1, then 2
unfoldable pub read_of : Machine → ℕ → Result ℕ Cause
read_of m a =
    pick (is_whole m.memory) (option_map_or (λ (r : Register). Ok (word_in m r)) (decode_of a) (Err Address)) (Err Memory)

-- the word that is shown of a read: 0 of a refused one
abbrev pub word_shown : Result ℕ Cause → ℕ
word_shown (Ok w) = w
word_shown (Err _) = 0
