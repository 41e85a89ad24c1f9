-- Worked cases of leaps, counted by hand from document 01; and a crate that meets what `leap_is` asks, with what it then says.
use Prim.Native.Nat.{ℕ, ◌^◌, ◌<◌}
use mathlib.Core.Bool.{Bool, true, false}
use mathlib.Core.List.{List, [], ◌∷◌, ◌++◌}
use mathlib.Core.Path.{◌≡◌, refl}
use lib.Dec.{lit<}
use lib.IntN.{ℤ, pos, negsuc}
use lib.ListN.{get_or, length}
use Prim.{tt}
use Rattle.numbers.specs.Signed.{word_of}
use Rattle.words.specs.Word.{bit_of}
use Rattle.lists.specs.Checks.{Row, right, row}
use Rattle.lists.specs.Table.{tabulate}
use Rattle.lists.proofs.Rows.{row_right}
use Rattle.lists.proofs.Tables.{get_d_tabulate, length_tabulate}
use Rattle.gates.specs.declared.gate.Gate.{Gate}
use Rattle.gates.specs.declared.gate.GateState.{GateState}
use Rattle.gates.specs.declared.gate.GateState.TheVariants.{Idle, Prepare, Open, Waiting, Error, Recover, Direct}
use Rattle.counters.specs.Counter.{counter0, with_count}
use Rattle.counters.specs.Leap.{count_after, counter_after, counter_leap, leap_counters}
use Rattle.gate_leaps.specs.Leap.{gate_after, horizon, leap_gates, steady, steady_gates}
use Rattle.lines.specs.Leap.{leap_phases, low_phases, phase_after, rises_in}
use Rattle.watchdogs.specs.Leap.{leap_watchdogs, watchdog_after}
use Rattle.watchdogs.specs.Watchdog.{watchdog_of}
use Rattle.registers.specs.Calls.{Call, after, tag, tick, write}
use Rattle.reading.specs.Read.{read_of, word_shown}
use Rattle.device.specs.State.{machine, memory0, power_up}
use Rattle.registers.proofs.Cases.{asked, counting}
use Rattle.registers.proofs.Computing as registers
use Rattle.leaps.specs.Leap.{Formed, leap_common, leap_of, quiet, stretch_of, ticks_of}
use Rattle.leaps.proofs.Theorems.{leap_is}

abbrev zeros : List ℕ
zeros = tabulate 9 (λ j. 0)

-- ---- test signals: 25,000 kHz rises each 5 ticks, 24,900 first at 6, 10 at 12,500; inputs and ground never

unfoldable pub signal_rows : List Row
signal_rows =
    row 0 (rises_in 4 zeros 63)
    ∷ row 1 (rises_in 5 zeros 63)
    ∷ row 13107 (rises_in 65535 zeros 63)
    ∷ row 0 (rises_in 5 zeros 62)
    ∷ row 1 (rises_in 6 zeros 62)
    ∷ row 24400 (phase_after 6 7 0)
    ∷ row 0 (rises_in 12499 zeros 55)
    ∷ row 1 (rises_in 12500 zeros 55)
    ∷ row 0 (rises_in 65535 zeros 54)
    ∷ row 0 (rises_in 65535 zeros 53)
    ∷ row 0 (phase_after 5 8 0)
    ∷ row 124990 (phase_after 12499 0 0)
    ∷ row 1 (bit_of (low_phases zeros))
    ∷ row 0 (bit_of (low_phases (tabulate 9 (λ j. 125000))))
    ∷ []

-- ---- counts: both ends, UP and DOWN together, RESET, a shut gate

abbrev counts : ℤ → Bool → Bool → ℕ → ℕ → ℕ
counts z hold opened ups downs = word_of 32 (counter_leap (with_count counter0 z) hold opened ups downs).count

unfoldable pub count_rows : List Row
count_rows =
    row 0x8000_0000 (counts (pos 2147483647) false true 1 0)
    ∷ row 0x7FFF_FFFF (counts (negsuc 2147483647) false true 0 1)
    ∷ row 7 (counts (pos 7) false true 13107 13107)
    ∷ row 0xFFFF_FFFF (counts (pos 7) false true 2 10)
    ∷ row 7 (counts (pos 7) false true 0 0)
    ∷ row 0 (counts (pos 7) true true 5 0)
    ∷ row 7 (counts (pos 7) false false 5 0)
    ∷ []

-- ---- watchdogs: 128 ticks are timeout 1; the top; an error once latched stays

abbrev value : ℕ → ℕ → ℕ
value k v = (watchdog_after k 65535 (watchdog_of v false false)).value

abbrev latched : ℕ → ℕ → ℕ → Bool → ℕ
latched k timeout v error = bit_of (watchdog_after k timeout (watchdog_of v error false)).error

unfoldable pub watchdog_rows : List Row
watchdog_rows =
    row 127 (value 127 0)
    ∷ row 8388480 (value 1 8388479)
    ∷ row 8388480 (value 65535 8388479)
    ∷ row 0 (latched 127 1 0 false)
    ∷ row 1 (latched 128 1 0 false)
    ∷ row 1 (latched 1 2 0 true)
    ∷ row 1 (latched 1 0 0 false)
    ∷ []

-- ---- gates: a gate in a state with a timer, mode, prepare and recover bits; prepare and output were so at the last tick

abbrev gate : GateState → ℕ → Bool → Bool → Bool → Bool → Gate
gate state timer mode prepare recover output = record {
  state = state;
  timer = timer;
  timeout = 1;
  mode = mode;
  prepare = prepare;
  recover = recover;
  preparepulse = false;
  recoverpulse = false;
  lastprepare = prepare;
  output = output;
}

abbrev holds : ℕ → Bool → Gate → ℕ
holds k high g = bit_of (steady k high g)

unfoldable pub gate_rows : List Row
gate_rows =
    -- IDLE: mode, input; PREPARE: a timer of 16,384 lets 16,383 low ticks pass, and the input none
    row 1 (holds 65535 false (gate Idle 0 false true false false))
    ∷ row 0 (holds 1 false (gate Idle 0 true false false false))
    ∷ row 0 (holds 1 true (gate Idle 0 false false false false))
    ∷ row 1 (holds 16383 false (gate Prepare 16384 false true false false))
    ∷ row 0 (holds 16384 false (gate Prepare 16384 false true false false))
    ∷ row 0 (holds 1 true (gate Prepare 16384 false true false false))
    ∷ row 1 (gate_after 16383 (gate Prepare 16384 false true false false)).timer
    ∷ row 16384 (gate_after 16383 (gate Waiting 16384 false true false false)).timer
    -- GATE, WAITING, ERROR, RECOVER, DIRECT
    ∷ row 1 (holds 65535 true (gate Open 0 false true false true))
    ∷ row 0 (holds 1 false (gate Open 0 false true false true))
    ∷ row 1 (holds 65535 false (gate Waiting 0 false true false false))
    ∷ row 0 (holds 1 false (gate Waiting 0 false false false false))
    ∷ row 0 (holds 1 true (gate Waiting 0 false true false false))
    ∷ row 1 (holds 65535 true (gate Error 0 false true false false))
    ∷ row 0 (holds 1 true (gate Error 0 false true true false))
    ∷ row 1 (holds 65535 true (gate Recover 0 false true true false))
    ∷ row 0 (holds 1 true (gate Recover 0 false true false false))
    ∷ row 1 (holds 65535 true (gate Direct 0 true false false true))
    ∷ row 0 (holds 1 false (gate Direct 0 true false false true))
    ∷ row 0 (holds 1 true (gate Direct 0 false false false true))
    -- what the timers allow
    ∷ row 4 (horizon 12 (gate Prepare 9 false true false false ∷ gate Prepare 5 false true false false ∷ []) 100)
    ∷ row 3 (horizon 12 (gate Prepare 9 false true false false ∷ gate Prepare 5 false true false false ∷ []) 3)
    ∷ row 100 (horizon 12 (gate Waiting 5 false true false false ∷ []) 100)
    ∷ []

-- ---- the crate: how many of so many ticks at these levels are made at once after a list, and what a register then reads

abbrev stretches : List Call → ℕ → ℕ → ℕ → ℕ
stretches l left inputs gatelevels = stretch_of (after l).state left inputs gatelevels

abbrev leapt : List Call → ℕ → ℕ → ℕ → ℕ
leapt l k gatelevels a = word_shown (read_of (machine (leap_of k (after l).state gatelevels) memory0) a)

unfoldable pub crate_rows : List Row
crate_rows =
    row 70000 (stretches [] 70000 0 0)
    ∷ row 4294967295 (stretches [] (2 ^ 33) 0 0)
    -- a rise, a gate that opens, a mode bit just set, a pulse that waits, a request that waits, the loader at work
    ∷ row 0 (stretches [] 9 1 0)
    ∷ row 9 (stretches (tick 1 0 ∷ []) 9 1 0)
    ∷ row 0 (stretches [] 9 0 1)
    ∷ row 0 (stretches (write 0x0802 1 ∷ []) 9 0 0)
    ∷ row 9 (stretches (write 0x0802 1 ∷ tick 0 0 ∷ []) 9 0 0)
    ∷ row 0 (stretches (write 0x0A01 1 ∷ tag 0x3001 ∷ []) 9 0 0)
    ∷ row 0 (stretches (asked 0 0) 9 0 0)
    ∷ row 0 (stretches (asked 0 0 ++ (tick 0 0 ∷ [])) 9 0 0)
    -- PREPARE with timeout 1: 16,383 of the ticks behind the first
    ∷ row 16383 (stretches (write 0x0804 1 ∷ write 0x0A03 1 ∷ tick 0 0 ∷ []) 20000 0 0)
    -- counter 0 on 25,000 kHz: one tick and 65,535 more are 13,107 rises; held by RESET; the gate's input is kept
    ∷ row 13107 (leapt (counting 63 ++ (tick 0 1 ∷ [])) 65535 1 0x1200)
    ∷ row 0 (leapt (counting 63 ++ (tick 0 1 ∷ write 0x0801 1 ∷ [])) 65535 1 0x1200)
    ∷ row 1 (leapt (counting 63 ++ (tick 0 1 ∷ [])) 65535 1 0x0717)
    -- watchdog timeout 2: clear after 255 ticks, latched after 256
    ∷ row 0 (leapt (write 0x0800 2 ∷ []) 255 0 0x0711)
    ∷ row 0xFFFF (leapt (write 0x0800 2 ∷ []) 256 0 0x0711)
    ∷ []

unfoldable pub leaps : List Row
leaps = signal_rows ++ count_rows ++ watchdog_rows ++ gate_rows ++ crate_rows

leaps_right : right leaps ≡ true
unfolding registers.computing leaps signal_rows count_rows watchdog_rows gate_rows crate_rows rises_in phase_after low_phases leap_phases counter_leap count_after counter_after
    leap_counters watchdog_after leap_watchdogs steady steady_gates gate_after leap_gates horizon quiet stretch_of leap_of leap_common
leaps_right = refl

-- the worked cases
pub leap_cases : (k : ℕ) → k < length leaps → (get_or leaps k (row 0 0)).computed ≡ (get_or leaps k (row 0 0)).expected
leap_cases = row_right leaps leaps_right

-- ---- the hypotheses of `leap_is` are met: by a crate at power-up, for a million ticks

formed : Formed power_up
unfolding power_up
formed = record {
  counters = record { counts = λ i h. rw (get_d_tabulate 128 (λ n. counter0) i counter0 h) (lit< tt) };
  rawcounts = length_tabulate 54 _;
}

power_up_quiet : quiet 1000000 power_up 0 0 ≡ true
unfolding registers.computing quiet low_phases steady_gates steady
power_up_quiet = refl

pub power_up_leaps : (memory : List ℕ) → ticks_of 1000000 power_up memory 0 0 ≡ leap_of 1000000 power_up 0
power_up_leaps memory = leap_is 1000000 power_up memory 0 0 (lit< tt) power_up_quiet formed
