-- Document 01, "Gates": the states, one step of a gate, and of the twelve.
use Rattle.std.specs.Prelude.{ℕ, ◌+◌, ◌-◌, ◌*◌, Bool, true, false, not, ◌&&◌, ◌||◌, List, eqb, leb, get_or}
use Rattle.bools.specs.Pick.{pick}
use Rattle.words.specs.Word.{bit, fields, pack}
use Rattle.lists.specs.Table.{each}
use Rattle.gates.specs.declared.gate.Gate.{Gate}
use Rattle.gates.specs.declared.gate.GateState.{GateState}
use Rattle.gates.specs.declared.gate.GateState.TheVariants.{Idle, Prepare, Open, Waiting, Error, Recover, Direct}
use Rattle.lines.specs.Lines.{gate_count}

-- "State IDs are the Manual's": its Table 3.13
abbrev pub state_number : GateState → ℕ
state_number Idle = 0
state_number Prepare = 1
state_number Open = 2
state_number Waiting = 3
state_number Error = 4
state_number Recover = 5
state_number Direct = 6

abbrev pub gate0 : Gate
gate0 = record {
  state = Idle;
  timer = 0;
  timeout = 0;
  mode = false;
  prepare = false;
  recover = false;
  preparepulse = false;
  recoverpulse = false;
  lastprepare = false;
  output = false;
}

-- "Prepare and recover signals are high in a tick if their register bit is set or an event has pulsed them"
abbrev pub prepare_signal : Gate → Bool
prepare_signal g = g.prepare || g.preparepulse

abbrev pub recover_signal : Gate → Bool
recover_signal g = g.recover || g.recoverpulse

-- "IDLE 0: mode bit set, DIRECT. Else input high, ERROR. Else prepare high and low at the last tick, PREPARE .. Else IDLE."
abbrev pub from_idle : Bool → Bool → Bool → GateState
from_idle mode high rises = pick mode Direct (pick high Error (pick rises Prepare Idle))

-- "PREPARE 1: input high, GATE. Else timer at most 1, ERROR."
abbrev pub from_prepare : Bool → Bool → GateState
from_prepare high spent = pick high Open (pick spent Error Prepare)

-- "GATE 2: input low, WAITING."
abbrev pub from_open : Bool → GateState
from_open high = pick high Open Waiting

-- "WAITING 3: input high, ERROR. Else prepare low, IDLE."
abbrev pub from_waiting : Bool → Bool → GateState
from_waiting high prepare = pick high Error (pick prepare Waiting Idle)

-- "ERROR 4: recover high, RECOVER. RECOVER 5: recover low, IDLE."
abbrev pub from_error : Bool → GateState
from_error recover = pick recover Recover Error

abbrev pub from_recover : Bool → GateState
from_recover recover = pick recover Recover Idle

-- "DIRECT 6: mode bit clear, IDLE."
abbrev pub from_direct : Bool → GateState
from_direct mode = pick mode Direct Idle

-- the state after a tick at the input's level; "Where no condition holds the state stays"
abbrev pub next_state : GateState → Gate → Bool → GateState
next_state Idle g high = from_idle g.mode high (prepare_signal g && not g.lastprepare)
next_state Prepare g high = from_prepare high (leb g.timer 1)
next_state Open g high = from_open high
next_state Waiting g high = from_waiting high (prepare_signal g)
next_state Error g high = from_error (recover_signal g)
next_state Recover g high = from_recover (recover_signal g)
next_state Direct g high = from_direct g.mode

abbrev pub in_prepare : GateState → Bool
in_prepare state = eqb (state_number state) 1

-- the unit of a timeout, 131.072 µs in ticks
abbrev pub timeout_unit : ℕ
timeout_unit = 16384

-- "PREPARE with a timer of 16,384 times the gate's timeout", "Else timer less one": it stays outside PREPARE
abbrev pub timer_of : Bool → Bool → ℕ → ℕ → ℕ
timer_of was is timer timeout = pick is (pick was (timer - 1) (timeout_unit * timeout)) timer

-- "The output, by the new state, is high in GATE, the input's level in DIRECT, else low."
abbrev pub output_of : GateState → Bool → Bool
output_of Idle high = false
output_of Prepare high = false
output_of Open high = true
output_of Waiting high = false
output_of Error high = false
output_of Recover high = false
output_of Direct high = high

-- "The gate error bit is state 4."
abbrev pub is_error : GateState → Bool
is_error state = eqb (state_number state) 4

-- the gate in its new state; the pulses are dropped here, as nothing later in the tick looks at them
abbrev pub in_state : Gate → GateState → Bool → Gate
in_state g next high = record {
  state = next;
  timer = timer_of (in_prepare g.state) (in_prepare next) g.timer g.timeout;
  timeout = g.timeout;
  mode = g.mode;
  prepare = g.prepare;
  recover = g.recover;
  preparepulse = false;
  recoverpulse = false;
  lastprepare = prepare_signal g;
  output = output_of next high;
}

-- one step at the level of the gate's input
unfoldable pub gate_step : Bool → Gate → Gate
gate_step high g = in_state g (next_state g.state g high) high

-- the one place in which a gate's registers and pulses change
abbrev pub gate_with : Gate → ℕ → Bool → Bool → Bool → Bool → Bool → Gate
gate_with g timeout mode prepare recover preparepulse recoverpulse = record {
  state = g.state;
  timer = g.timer;
  timeout = timeout;
  mode = mode;
  prepare = prepare;
  recover = recover;
  preparepulse = preparepulse;
  recoverpulse = recoverpulse;
  lastprepare = g.lastprepare;
  output = g.output;
}

abbrev pub with_timeout : ℕ → Gate → Gate
with_timeout t g = gate_with g t g.mode g.prepare g.recover g.preparepulse g.recoverpulse

abbrev pub with_mode : Bool → Gate → Gate
with_mode b g = gate_with g g.timeout b g.prepare g.recover g.preparepulse g.recoverpulse

abbrev pub with_prepare : Bool → Gate → Gate
with_prepare b g = gate_with g g.timeout g.mode b g.recover g.preparepulse g.recoverpulse

abbrev pub with_recover : Bool → Gate → Gate
with_recover b g = gate_with g g.timeout g.mode g.prepare b g.preparepulse g.recoverpulse

-- an event pulses a signal; a second pulse adds nothing
abbrev pub with_prepare_pulse : Bool → Gate → Gate
with_prepare_pulse b g = gate_with g g.timeout g.mode g.prepare g.recover (g.preparepulse || b) g.recoverpulse

abbrev pub with_recover_pulse : Bool → Gate → Gate
with_recover_pulse b g = gate_with g g.timeout g.mode g.prepare g.recover g.preparepulse (g.recoverpulse || b)

-- all twelve gates, gate g by bit g of a word
unfoldable pub each_gate : (Bool → Gate → Gate) → ℕ → List Gate → List Gate
each_gate f w gates = each gate_count gate0 (λ i. f (bit w i)) gates

unfoldable pub gate_at : List Gate → ℕ → Gate
gate_at gates g = get_or gates g gate0

-- one bit of each gate as a word, gate 0 lowest
unfoldable pub gate_bits : (Gate → Bool) → List Gate → ℕ
gate_bits f gates = pack gate_count (λ g. f (gate_at gates g))

abbrev pub output : Gate → Bool
output g = g.output

abbrev pub failed : Gate → Bool
failed g = is_error g.state

abbrev pub mode : Gate → Bool
mode g = g.mode

abbrev pub prepare : Gate → Bool
prepare g = g.prepare

abbrev pub recover : Gate → Bool
recover g = g.recover

-- the outputs of the gate logic, gate 0 lowest: 12 to 15 are low
unfoldable pub outputs_of : List Gate → ℕ
outputs_of gates = gate_bits output gates

-- gates 4 k to 4 k + 3, four bits each: the Manual's Table 3.12
unfoldable pub state_word : List Gate → ℕ → ℕ
state_word gates k = fields 4 4 (λ j. state_number (gate_at gates (4 * k + j)).state)
