-- Document 01, "Gates", over so many ticks at once: when each gate stays in its state, and what the ticks then make of it.
use Rattle.std.specs.Prelude.{ℕ, zero, suc, ◌-◌, min, Bool, true, false, not, ◌&&◌, ◌||◌, List, ltb}
use Rattle.bools.specs.Pick.{pick}
use Rattle.words.specs.Word.{bit}
use Rattle.lists.specs.Table.{any, each}
use Rattle.lines.specs.Lines.{gate_count}
use Rattle.gates.specs.declared.gate.Gate.{Gate}
use Rattle.gates.specs.declared.gate.GateState.{GateState}
use Rattle.gates.specs.declared.gate.GateState.TheVariants.{Idle, Prepare, Open, Waiting, Error, Recover, Direct}
use Rattle.gates.specs.Gate.{gate0, gate_at, in_prepare, output_of}

-- "Else timer less one": in PREPARE, k ticks less; all else is as it was
unfoldable pub gate_after : ℕ → Gate → Gate
gate_after k g = record {
  state = g.state;
  timer = pick (in_prepare g.state) (g.timer - k) g.timer;
  timeout = g.timeout;
  mode = g.mode;
  prepare = g.prepare;
  recover = g.recover;
  preparepulse = g.preparepulse;
  recoverpulse = g.recoverpulse;
  lastprepare = g.lastprepare;
  output = g.output;
}

unfoldable pub leap_gates : ℕ → List Gate → List Gate
leap_gates k gates = each gate_count gate0 (λ i. gate_after k) gates

-- the state stays for k ticks at this level of the input, by the steps of document 01
abbrev pub stays : GateState → ℕ → Bool → Gate → Bool
stays Idle k high g = not g.mode && not high
stays Prepare k high g = ltb k g.timer && not high
stays Open k high g = high
stays Waiting k high g = g.prepare && not high
stays Error k high g = not g.recover
stays Recover k high g = g.recover
stays Direct k high g = g.mode

abbrev pub same : Bool → Bool → Bool
same true b = b
same false b = not b

-- no pulse waits, and prepare signal and output are those of the last tick
abbrev pub settled : Bool → Gate → Bool
settled high g =
    (same g.lastprepare g.prepare && same g.output (output_of g.state high)) && not (g.preparepulse || g.recoverpulse)

unfoldable pub steady : ℕ → Bool → Gate → Bool
steady k high g = settled high g && stays g.state k high g

-- every gate stays for k ticks at these levels
unfoldable pub steady_gates : ℕ → ℕ → List Gate → Bool
steady_gates k levels gates = not (any gate_count (λ g. not (steady k (bit levels g) (gate_at gates g))))

-- at most k ticks, and in PREPARE fewer than the timer has
abbrev pub sooner : Gate → ℕ → ℕ
sooner g k = pick (in_prepare g.state) (min (g.timer - 1) k) k

-- how many of so many ticks the timers of the first n gates allow
unfoldable pub horizon : ℕ → List Gate → ℕ → ℕ
horizon zero gates k = k
horizon (suc n) gates k = sooner (gate_at gates n) (horizon n gates k)
