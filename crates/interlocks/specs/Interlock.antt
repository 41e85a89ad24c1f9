-- Document 01, "Watchdogs and interlocks", and the Manual's section 2.3.2 and Tables 3.26 to 3.29: the six outputs.
use Rattle.std.specs.Prelude.{ℕ, ◌-◌, Bool, not, ◌&&◌, List, [], ltb, get_or}
use Rattle.bools.specs.Pick.{pick}
use Rattle.words.specs.Word.{bit, pack}
use Rattle.lists.specs.Table.{any}
use Rattle.counters.specs.Counter.{is_over, is_under, overflow_word}
use Rattle.gates.specs.Gate.{failed, gate_bits}
use Rattle.lines.specs.Lines.{gate_count}
use Rattle.watchdogs.specs.declared.watchdog.Watchdog.{Watchdog}
use Rattle.watchdogs.specs.Watchdog.{error_of, watchdog_word}
use Rattle.device.specs.declared.state.Crate.{Crate}
use Rattle.device.specs.Map.{output_count, output_words}

-- gate inputs that were low at the last accepted tick, all of them at power-up: "Signals from gate inputs are pre-inverted"
abbrev pub low_gates : ℕ → ℕ
low_gates gatelevels = pack gate_count (λ g. not (bit gatelevels g))

-- what selection word k, from 0x10 on, chooses from: the gate errors, given as one word, watchdog errors, low gate inputs
abbrev pub other_signals : ℕ → List Watchdog → ℕ → ℕ → ℕ
other_signals errors watchdogs gatelevels k =
    pick (ltb k 0x11) errors (pick (ltb k 0x15) (watchdog_word error_of watchdogs (k - 0x11)) (low_gates gatelevels))

-- the signals that selection word k of an output chooses from, in address order: negative overflows, positive overflows, then those above
unfoldable pub signals : Crate → ℕ → ℕ
signals s k =
    pick (ltb k 0x08) (overflow_word is_under s.counters k)
    (pick (ltb k 0x10) (overflow_word is_over s.counters (k - 0x08)) (other_signals (gate_bits failed s.gates) s.watchdogs s.status.gatelevels k))

-- selection word k of output o
abbrev pub selected : List (List ℕ) → ℕ → ℕ → ℕ
selected selections o k = get_or (get_or selections o []) k 0

-- some signal is selected and present
abbrev pub meets : ℕ → ℕ → Bool
meets chosen present = any 16 (λ b. bit chosen b && bit present b)

-- the first w words alone make an output 0: one of them chooses a signal that is present
unfoldable pub trips_by : (ℕ → ℕ) → (ℕ → ℕ) → ℕ → Bool
trips_by chosen present w = any w (λ k. meets (chosen k) (present k))

-- the first w of the 22 selection words of output o, in address order, alone make it 0
unfoldable pub trips : Crate → ℕ → ℕ → Bool
trips s o w = trips_by (selected s.settings.selections o) (signals s) w

-- "Interlock o is 1 exactly when no selected overflow, gate error, watchdog error or low forwarded gate input exists."
abbrev pub interlock : Crate → ℕ → Bool
interlock s o = not (trips s o output_words)

-- register 0x0719
unfoldable pub interlocks : Crate → ℕ
interlocks s = pack output_count (interlock s)
