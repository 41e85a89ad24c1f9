-- Worked cases of the definitions, section by section of document 01: gates, counters, registers, refusals, loader, watchdogs,
-- interlocks, traces; then the raw counts, the scans and the queue's length of document 02, requests 1, 3 and 5.
use Prim.Native.Nat.{ℕ, zero, suc, ◌+◌, ◌*◌, ◌/◌, ◌%◌, ◌^◌}
use mathlib.Core.Bool.{Bool, true, false}
use mathlib.Core.List.{List, [], ◌∷◌, ◌++◌}
use lib.Dec.{eqb, ltb}
use lib.IntN.{pos, negsuc}
use lib.ListN.{replicate, get_or}
use Rattle.std.specs.Option.{option_map_or}
use Rattle.numbers.specs.Signed.{word_of}
use Rattle.words.specs.Word.{bit_of}
use Rattle.lists.specs.Checks.{Row, row}
use Rattle.gates.specs.declared.gate.Gate.{Gate}
use Rattle.gates.specs.declared.gate.GateState.{GateState}
use Rattle.gates.specs.declared.gate.GateState.TheVariants.{Idle, Prepare, Open, Waiting, Error, Recover, Direct}
use Rattle.counters.specs.Counter.{counter0, counter_step, with_count}
use Rattle.gates.specs.Gate.{gate_step, state_number}
use Rattle.lines.specs.RawCounts.{raw_step}
use Rattle.device.specs.declared.map.Register.{Register}
use Rattle.causes.specs.Causes.{number_of}
use Rattle.registers.specs.Calls.{Call, tick, write, tag, download, answer, after, step, machine0, powered, powered_memory}
use Rattle.device.specs.Map.{decode_of, used_bits}
use Rattle.reading.specs.Read.{low_first, read_of, word_shown}
use Rattle.device.specs.State.{Machine, common0, machine, power_up}
use Rattle.interlocks.specs.Scan.{scan_of}
use Rattle.writing.specs.Write.{write_answer}
use Rattle.sheet.specs.Requests.{Stand, finished, stand_after, waits, works}
use Rattle.sheet.specs.Scans.{scan_at}
use Rattle.sheet.specs.Waiting.{requests_made, requests_taken}
use Rattle.trace.specs.declared.Report.{Report}
use Rattle.records.specs.declared.Stop.{Stop}
use Rattle.records.specs.declared.Stop.TheVariants.{End, Spent, Refused}
use Rattle.trace.specs.Run.{run_of}
use Rattle.causes.specs.Causes.{cause_number}
use Rattle.registers.proofs.Cases.{reads, reads_bit, answers, read_answers, often, pulses, counting, triggered, asked, asked_often}

-- ---- gates: a gate in a state with a timer, mode bit, prepare signal, last prepare signal and recover signal

abbrev pub gate_in : GateState → ℕ → Bool → Bool → Bool → Bool → Gate
gate_in state timer mode prepare last recover = record {
  state = state;
  timer = timer;
  timeout = 2;
  mode = mode;
  prepare = prepare;
  recover = recover;
  preparepulse = false;
  recoverpulse = false;
  lastprepare = last;
  output = false;
}

-- the state number, the timer and the output after a tick at the level of the gate's input
abbrev pub goes : Gate → Bool → ℕ
goes g high = state_number (gate_step high g).state

abbrev pub timer_after : Gate → Bool → ℕ
timer_after g high = (gate_step high g).timer

abbrev pub output_after : Gate → Bool → ℕ
output_after g high = bit_of (gate_step high g).output

unfoldable pub gate_rows : List Row
gate_rows =
    -- IDLE 0: mode bit before input, input before prepare, a rise of prepare
    row 6 (goes (gate_in Idle 0 true true false false) true)
    ∷ row 4 (goes (gate_in Idle 0 false true false false) true)
    ∷ row 1 (goes (gate_in Idle 0 false true false false) false)
    ∷ row 32768 (timer_after (gate_in Idle 0 false true false false) false)
    ∷ row 0 (goes (gate_in Idle 0 false true true false) false)
    ∷ row 0 (goes (gate_in Idle 0 false false false true) false)
    -- PREPARE 1: input before timer, timer at most 1, timer less one
    ∷ row 2 (goes (gate_in Prepare 1 true false false true) true)
    ∷ row 4 (goes (gate_in Prepare 1 false true true false) false)
    ∷ row 4 (goes (gate_in Prepare 0 false true true false) false)
    ∷ row 1 (goes (gate_in Prepare 2 true false false true) false)
    ∷ row 1 (timer_after (gate_in Prepare 2 false false false false) false)
    -- GATE 2
    ∷ row 2 (goes (gate_in Open 0 true true false true) true)
    ∷ row 3 (goes (gate_in Open 0 true false false true) false)
    -- WAITING 3: input before prepare
    ∷ row 4 (goes (gate_in Waiting 0 true false false true) true)
    ∷ row 0 (goes (gate_in Waiting 0 true false true true) false)
    ∷ row 3 (goes (gate_in Waiting 0 true true false true) false)
    -- ERROR 4, RECOVER 5, DIRECT 6
    ∷ row 5 (goes (gate_in Error 0 true true false true) true)
    ∷ row 4 (goes (gate_in Error 0 true true false false) false)
    ∷ row 5 (goes (gate_in Recover 0 true true false true) false)
    ∷ row 0 (goes (gate_in Recover 0 true true false false) true)
    ∷ row 6 (goes (gate_in Direct 0 true true false true) false)
    ∷ row 0 (goes (gate_in Direct 0 false true false true) true)
    -- the output by the new state: DIRECT has the input's level at once, GATE is high, WAITING low
    ∷ row 1 (output_after (gate_in Idle 0 true false false false) true)
    ∷ row 0 (output_after (gate_in Direct 0 true false false false) false)
    ∷ row 1 (output_after (gate_in Prepare 1 false false false false) true)
    ∷ row 0 (output_after (gate_in Open 0 false false false false) false)
    ∷ row 0 (output_after (gate_in Direct 0 false false false false) true)
    -- event pulses: one prepare pulse is one rise, kept through a refused tick, dropped by an accepted one
    ∷ row 1 (reads (write 0x0A01 1 ∷ tag 0x2001 ∷ tick 0 0 ∷ []) 0x071A)
    ∷ row 1 (reads (write 0x0A01 1 ∷ tag 0x2001 ∷ tick 0 0x1000 ∷ tick 0 0 ∷ []) 0x071A)
    ∷ row 0 (reads (write 0x0A01 1 ∷ write 0x0A03 1 ∷ tick 0 0 ∷ tick 0 0 ∷ tag 0x3001 ∷ tick 0 0 ∷ write 0x0A03 0 ∷ tick 0 0 ∷ []) 0x071A)
    ∷ row 0
    (reads (write 0x0A01 1 ∷ tick 0 1 ∷ tag 0x2001 ∷ tag 0x3001 ∷ tick 0 0 ∷ tag 0x2001 ∷ tick 0 0 ∷ tag 0x2001 ∷ tick 0 0 ∷ []) 0x071A)
    -- four gates a register; gate errors; gate inputs and outputs of the last tick
    ∷ row 0x4040 (reads (tick 0 0x0A00 ∷ []) 0x071C)
    ∷ row 0x0A00 (reads (tick 0 0x0A00 ∷ []) 0x0710)
    ∷ row 0x0A00 (reads (tick 0 0x0A00 ∷ []) 0x0717)
    ∷ row 0x0800 (reads (write 0x0802 0x0C00 ∷ tick 0 0x0A00 ∷ []) 0x0718)
    ∷ []

-- ---- counters

unfoldable pub counter_rows : List Row
counter_rows =
    -- the wrap at the lower end; a closed gate; AUTORESET clears before it counts; RESET holds
    row 0x7FFF_FFFF (word_of 32 (counter_step (with_count counter0 (negsuc 2147483647)) false false true false true).count)
    ∷ row 7 (word_of 32 (counter_step (with_count counter0 (pos 7)) false false false true false).count)
    ∷ row 1 (word_of 32 (counter_step (with_count counter0 (pos 7)) false true true true false).count)
    ∷ row 0 (word_of 32 (counter_step (with_count counter0 (pos 7)) true false true true false).count)
    -- counting down: low and high words; both overflow blocks at thresholds 0
    ∷ row 0xFFFF (reads (write 0x1011 0x0036 ∷ write 0x0802 1 ∷ tick 1 1 ∷ []) 0x1222)
    ∷ row 0xFFFF (reads (write 0x1011 0x0036 ∷ write 0x0802 1 ∷ tick 1 1 ∷ []) 0x1223)
    ∷ row 0x0002 (reads (write 0x1011 0x0036 ∷ write 0x0802 1 ∷ tick 1 1 ∷ []) 0x0701)
    ∷ row 0 (reads (write 0x1011 0x0036 ∷ write 0x0802 1 ∷ tick 1 1 ∷ []) 0x0709)
    -- a re-patched counter sees no rise of a line that was high already
    ∷ row 0 (reads (write 0x0802 1 ∷ tick 1 1 ∷ write 0x1000 0x0D80 ∷ tick 1 1 ∷ []) 0x1200)
    -- GATE 12 is never open
    ∷ row 0 (reads (write 0x1000 0xCD80 ∷ write 0x0802 0x0FFF ∷ tick 1 0x0FFF ∷ []) 0x1200)
    -- AUTORESET: the rise of the gate's output; re-patching to an open gate is none
    ∷ row 1 (reads (counting 0 ++ (write 0x0801 2 ∷ pulses 3) ++ (tick 0 0 ∷ tick 1 1 ∷ [])) 0x1200)
    ∷ row 3 (reads (counting 0 ++ pulses 2 ++ (write 0x1000 0x1D80 ∷ write 0x0802 3 ∷ tick 0 2 ∷ write 0x0801 2 ∷ tick 1 2 ∷ [])) 0x1200)
    -- RESET: at the write, held, and counting on from 0; command 0x4 once
    ∷ row 0 (reads (counting 0 ++ pulses 3 ++ (write 0x0801 1 ∷ [])) 0x1200)
    ∷ row 0 (reads (counting 0 ++ pulses 3 ++ (write 0x0801 1 ∷ tick 1 1 ∷ [])) 0x1200)
    ∷ row 2 (reads (counting 0 ++ pulses 3 ++ (write 0x0801 1 ∷ write 0x0801 0 ∷ pulses 2)) 0x1200)
    ∷ row 0 (reads (counting 0 ++ pulses 3 ++ (write 0x0A01 1 ∷ tag 0x4FFF ∷ [])) 0x1200)
    ∷ row 2 (reads (counting 0 ++ pulses 3 ++ (write 0x0A01 1 ∷ tag 0x4000 ∷ pulses 2)) 0x1200)
    -- RESET wins over AUTORESET and pulses
    ∷ row 0 (reads (counting 0 ++ (write 0x0801 3 ∷ pulses 2)) 0x1200)
    -- commands 0x0 and 0x6 to 0xF do nothing
    ∷ row 2 (reads (counting 0 ++ pulses 2 ++ (write 0x0A01 1 ∷ tag 0x0FFF ∷ tag 0x6FFF ∷ tag 0xFFFF ∷ [])) 0x1200)
    -- test signals: 1,000 kHz rises first at tick 125, 990 at 127, 10,000 and 9,900 at 13; ground never
    ∷ row 0 (reads (counting 59 ++ often 124 (tick 0 1)) 0x1200)
    ∷ row 1 (reads (counting 59 ++ often 125 (tick 0 1)) 0x1200)
    ∷ row 0 (reads (counting 58 ++ often 126 (tick 0 1)) 0x1200)
    ∷ row 1 (reads (counting 58 ++ often 127 (tick 0 1)) 0x1200)
    ∷ row 1 (reads (counting 61 ++ often 13 (tick 0 1)) 0x1200)
    ∷ row 1 (reads (counting 60 ++ often 13 (tick 0 1)) 0x1200)
    ∷ row 0 (reads (counting 54 ++ often 20 (tick 0 1)) 0x1200)
    ∷ []

-- ---- registers: the mask of each block, and the gaps of the map

abbrev pub stored_word : ℕ → ℕ → ℕ
stored_word a w = reads (write a w ∷ []) a

-- how many of these addresses are refused 2, for a read and for a write
abbrev pub unmapped : List ℕ → ℕ
unmapped [] = 0
unmapped (a ∷ as') = bit_of (eqb (read_answers [] a) 2) + bit_of (eqb (answers [] (write a 0)) 2) + unmapped as'

-- how many are read-only, and how many take a write
abbrev pub read_only : List ℕ → ℕ
read_only [] = 0
read_only (a ∷ as') = bit_of (eqb (read_answers [] a) 0) + bit_of (eqb (answers [] (write a 0)) 3) + read_only as'

abbrev pub writable : List ℕ → ℕ
writable [] = 0
writable (a ∷ as') = bit_of (eqb (read_answers [] a) 0) + bit_of (eqb (answers [] (write a 0)) 0) + writable as'

-- how many of the addresses below n are in the map, and 100,000 times how many of those are read-only
abbrev pub counts : Register → ℕ
counts r = bit_of (ltb 0 (used_bits r)) + 100_000 * bit_of (eqb (number_of (write_answer common0 r 0)) 3)

abbrev pub mapped : ℕ → ℕ → ℕ
mapped zero sum = sum
mapped (suc n) sum = mapped n (sum + option_map_or counts (decode_of n) 0)

unfoldable pub register_rows : List Row
register_rows =
    -- of all 65,536 addresses 17,621 are in the map, 915 of them read-only
    row 915_17621 (mapped 65536 0)
    -- used bits
    ∷ row 0x0FFF (stored_word 0x0630 0xFFFF)
    ∷ row 0x0FFF (stored_word 0x0635 0xFFFF)
    ∷ row 0xFFFF (stored_word 0x0800 0xFFFF)
    ∷ row 0x0003 (stored_word 0x0801 0xFFFF)
    ∷ row 0x0FFF (stored_word 0x0802 0xFFFF)
    ∷ row 0xFFFF (stored_word 0x080F 0xFFFF)
    ∷ row 0xFFFF (stored_word 0x0812 0xFFFF)
    ∷ row 0x003F (stored_word 0x0813 0xFFFF)
    ∷ row 0xFFFF (stored_word 0x0A00 0xFFFF)
    ∷ row 0x0001 (stored_word 0x0A01 0xFFFF)
    ∷ row 0x0FFF (stored_word 0x0A02 0xEFFF)
    ∷ row 0x1F1F (stored_word 0x0A02 0xFF1F)
    ∷ row 0x0FFF (stored_word 0x0A03 0xFFFF)
    ∷ row 0x0FFF (stored_word 0x0A04 0xFFFF)
    ∷ row 0xFFFF (stored_word 0x107F 0xFFFF)
    ∷ row 0xFFFF (stored_word 0x1100 0xFFFF)
    ∷ row 0xFFFF (stored_word 0x11AF 0xFFFF)
    ∷ row 0x0FFF (stored_word 0x1110 0xFFFF)
    ∷ row 0xFFFF (stored_word 0x1133 0xFFFF)
    ∷ row 0x003F (stored_word 0x1154 0xFFFF)
    ∷ row 0x0FFF (stored_word 0x11B5 0xFFFF)
    ∷ row 0xFFFF (stored_word 0x161F 0xFFFF)
    ∷ row 0xFFFF (stored_word 0x8000 0xFFFF)
    -- power-up words
    ∷ row 0x0707 (reads [] 0x0638)
    ∷ row 0x003F (reads [] 0x0719)
    ∷ row 0xFFFF (reads [] 0x0800)
    ∷ row 0xFDB6 (reads [] 0x1000)
    -- the ends of each gap of the map
    ∷ row 4 (unmapped (0x0000 ∷ 0x062F ∷ []))
    ∷ row 4 (unmapped (0x0636 ∷ 0x0637 ∷ []))
    ∷ row 4 (unmapped (0x063E ∷ 0x06FF ∷ []))
    ∷ row 4 (unmapped (0x0715 ∷ 0x0716 ∷ []))
    ∷ row 4 (unmapped (0x071D ∷ 0x07FF ∷ []))
    ∷ row 2 (unmapped (0x0803 ∷ []))
    ∷ row 4 (unmapped (0x0814 ∷ 0x08FF ∷ []))
    ∷ row 4 (unmapped (0x0906 ∷ 0x09FF ∷ []))
    ∷ row 4 (unmapped (0x0A05 ∷ 0x0FFF ∷ []))
    ∷ row 4 (unmapped (0x1080 ∷ 0x10FF ∷ []))
    ∷ row 20
    (unmapped (0x1116 ∷ 0x111F ∷ 0x1136 ∷ 0x113F ∷ 0x1156 ∷ 0x115F ∷ 0x1176 ∷ 0x117F ∷ 0x1196 ∷ 0x119F ∷ []))
    ∷ row 8 (unmapped (0x11B6 ∷ 0x11BF ∷ 0x11C0 ∷ 0x11FF ∷ []))
    ∷ row 4 (unmapped (0x136C ∷ 0x15FF ∷ []))
    ∷ row 4 (unmapped (0x1620 ∷ 0x17FF ∷ []))
    ∷ row 4 (unmapped (0x1A00 ∷ 0x7FFF ∷ []))
    ∷ row 4 (unmapped (0xC000 ∷ 0xFFFF ∷ []))
    -- and what stands beside them
    ∷ row 30
    (read_only (0x0638 ∷ 0x063D ∷ 0x0700 ∷ 0x0714 ∷ 0x0717 ∷ 0x071C ∷ 0x0900 ∷ 0x0904 ∷ 0x0905 ∷ 0x1200 ∷ 0x12FF ∷ 0x1300 ∷ 0x136B ∷ 0x1800 ∷ 0x19FF
    ∷ []))
    ∷ row 40
    (writable (0x0630 ∷ 0x0635 ∷ 0x0800 ∷ 0x0802 ∷ 0x0804 ∷ 0x0813 ∷ 0x0A00 ∷ 0x0A04 ∷ 0x1000 ∷ 0x107F ∷ 0x1100 ∷ 0x1115 ∷ 0x1120 ∷ 0x1135
    ∷ 0x11A0 ∷ 0x11B5 ∷ 0x1600 ∷ 0x161F ∷ 0x8000 ∷ 0xBFFF ∷ []))
    ∷ []

-- ---- refusals of the calls

abbrev pub short : List ℕ
short = 7 ∷ []

abbrev pub keyed : List Call
keyed = write 0x0A00 0xBEEF ∷ write 0x0A01 1 ∷ []

unfoldable pub refusal_rows : List Row
refusal_rows =
    -- 1 before all others: power-up, read, write, tag, tick, download
    row 1 (number_of (powered short).1)
    ∷ row 7 (get_or (powered_memory short) 0 0)
    ∷ row 1 (number_of (read_of (machine power_up short) 0xC000))
    ∷ row 1 (number_of (read_of (machine power_up short) 0x0800))
    ∷ row 7 (get_or (step (machine power_up short) (write 0x8000 9)).memory 0 0)
    ∷ row 1 (number_of (answer (machine power_up short) (write 0xC000 0)))
    ∷ row 1 (number_of (answer (machine power_up short) (tag 0)))
    ∷ row 1 (number_of (answer (machine power_up short) (tick (2 ^ 54) 0)))
    ∷ row 1 (number_of (answer (machine power_up short) (download 32 [])))
    -- 2, and 3
    ∷ row 2 (read_answers [] 0x0906)
    -- "number, word 0"
    ∷ row 0 (reads [] 0x0906)
    ∷ row 0 (word_shown (read_of (machine power_up short) 0x0800))
    ∷ row 2 (answers [] (write 0x0906 1))
    ∷ row 3 (answers [] (write 0x0905 1))
    ∷ row 3 (answers [] (write 0x1800 1))
    -- 4 before 5; 0x0A02 stays as it was, and with no rise of TRIGGER nothing is refused
    ∷ row 4 (answers (asked_often 16) (write 0x0A02 (triggered 32 0)))
    ∷ row 0 (reads (write 0x0A02 (triggered 32 0) ∷ []) 0x0A02)
    ∷ row 0 (answers [] (write 0x0A02 0x00FF))
    ∷ row 0 (answers (write 0x0A02 (triggered 0 0) ∷ []) (write 0x0A02 (triggered 32 0)))
    -- a tag: events off, wrong key, right key; refused 4 and 5 it leaves 0x0900 to 0x0902 with the tag
    ∷ row 0 (reads (tag 0x1234_5678 ∷ []) 0x0900)
    ∷ row 0x5678 (reads (keyed ++ (tag 0x1234_5678 ∷ [])) 0x0900)
    ∷ row 0x1234 (reads (keyed ++ (tag 0x1234_5678 ∷ [])) 0x0901)
    ∷ row 0 (reads (keyed ++ (tag 0x1234_5678 ∷ [])) 0x0902)
    ∷ row 0x5678 (reads (keyed ++ (tag 0xBEEF_5678 ∷ [])) 0x0902)
    ∷ row 0 (answers keyed (tag 0x1234_10FF))
    ∷ row 4 (answers keyed (tag 0xBEEF_1020))
    ∷ row 0x1020 (reads (keyed ++ (tag 0xBEEF_1020 ∷ [])) 0x0902)
    ∷ row 5 (answers (asked_often 16 ++ keyed) (tag 0xBEEF_1000))
    ∷ row 0x1000 (reads (asked_often 16 ++ keyed ++ (tag 0xBEEF_1000 ∷ [])) 0x0902)
    -- 6 on every missing line
    ∷ row 6 (answers [] (tick (2 ^ 54) 0))
    ∷ row 6 (answers [] (tick (2 ^ 63) 0))
    ∷ row 6 (answers [] (tick 0 0x1000))
    ∷ row 0 (answers [] (tick (2 ^ 53) 0x0800))
    -- 11 before 4
    ∷ row 11 (answers [] (download 32 (replicate 511 0)))
    ∷ row 4 (answers [] (download 32 (replicate 512 0)))
    ∷ row 0 (answers [] (download 31 (replicate 512 0)))
    ∷ []

-- ---- memory and loader

-- dataset 1: counter 0 has thresholds 0x0002_0001 and -1, counter 127 has 4 in each word
abbrev pub dataset_one : List ℕ
dataset_one = (1 ∷ 2 ∷ 0xFFFF ∷ 0xFFFF ∷ replicate 504 0) ++ replicate 4 4

abbrev pub reloading : List Call
reloading = download 1 dataset_one ∷ write 0x0A02 (triggered 1 0) ∷ []

unfoldable pub loader_rows : List Row
loader_rows =
    -- a request is taken in the first tick, counters 0 to 127 are handled in the next 128
    row 3 (reads (reloading ++ often 1 (tick 0 0)) 0x0903)
    ∷ row 0 (reads (reloading ++ often 1 (tick 0 0)) 0x1800)
    ∷ row 1 (reads (reloading ++ often 2 (tick 0 0)) 0x1800)
    ∷ row 2 (reads (reloading ++ often 2 (tick 0 0)) 0x1801)
    ∷ row 0xFFFF (reads (reloading ++ often 2 (tick 0 0)) 0x1803)
    ∷ row 3 (reads (reloading ++ often 128 (tick 0 0)) 0x0903)
    ∷ row 126 (reads (reloading ++ often 128 (tick 0 0)) 0x0904)
    ∷ row 0 (reads (reloading ++ often 128 (tick 0 0)) 0x19FC)
    ∷ row 0 (reads (reloading ++ often 129 (tick 0 0)) 0x0903)
    ∷ row 127 (reads (reloading ++ often 129 (tick 0 0)) 0x0904)
    ∷ row 4 (reads (reloading ++ often 129 (tick 0 0)) 0x19FC)
    -- 0x0904 stays through the taking tick of the next request
    ∷ row 127 (reads (reloading ++ often 129 (tick 0 0) ++ (write 0x0A02 0 ∷ write 0x0A02 (triggered 1 0) ∷ tick 0 0 ∷ [])) 0x0904)
    -- the memory as it is at the handling tick, and the group too
    ∷ row 9 (reads (reloading ++ (write 0x8200 9 ∷ []) ++ often 2 (tick 0 0)) 0x1800)
    ∷ row 0 (reads (reloading ++ (write 0x1600 1 ∷ []) ++ often 2 (tick 0 0)) 0x1800)
    ∷ row 1 (reads (reloading ++ (write 0x1600 0xFFF0 ∷ []) ++ often 2 (tick 0 0)) 0x1800)
    -- first in, first out: counter 0 has the thresholds of the later request only when that is handled
    ∷ row 1 (reads (reloading ++ (write 0x0A02 0 ∷ write 0x0A02 (triggered 0 0) ∷ []) ++ often 130 (tick 0 0)) 0x1800)
    ∷ row 0 (reads (reloading ++ (write 0x0A02 0 ∷ write 0x0A02 (triggered 0 0) ∷ []) ++ often 131 (tick 0 0)) 0x1800)
    -- a download leaves the words beside its dataset
    ∷ row 4 (reads (download 1 dataset_one ∷ []) 0x83FF)
    ∷ row 7 (reads (write 0x8400 7 ∷ download 1 dataset_one ∷ []) 0x8400)
    ∷ row 7 (reads (write 0x81FF 7 ∷ download 1 dataset_one ∷ []) 0x81FF)
    ∷ []

-- ---- the loader's bound

-- 2 for a finished request, 1 for one in work, 100 and the number ahead for one that waits
abbrev pub stand_number : Stand → ℕ
stand_number (waits k) = 100 + k
stand_number works = 1
stand_number finished = 2

-- the loader has just taken a request, and another waits: the third has one ahead
abbrev pub just_taken : List Call
just_taken = asked 0 0 ++ (tick 0 0 ∷ []) ++ asked 0 0

abbrev pub stands_after : ℕ → ℕ
stands_after n = stand_number (stand_after (after (just_taken ++ asked 1 0)) (often n (tick 0 0)) (waits 1))

-- with one ahead it is finished at tick 128 + 129 × 2, and not before
unfoldable pub bound_rows : List Row
bound_rows =
    row 1 (after just_taken).state.common.queue.waiting
    ∷ row 101 (stands_after 128)
    ∷ row 100 (stands_after 129)
    ∷ row 1 (stands_after 385)
    ∷ row 2 (stands_after 386)
    ∷ []

-- ---- watchdogs and interlocks

unfoldable pub output_rows : List Row
output_rows =
    -- timeout 1: rises 128 ticks apart are in time, 129 are not; the error is latched
    row 0 (reads_bit (write 0x0800 1 ∷ tick 1 0 ∷ often 127 (tick 0 0) ++ (tick 1 0 ∷ [])) 0x0711 0)
    ∷ row 1 (reads_bit (write 0x0800 1 ∷ tick 1 0 ∷ often 128 (tick 0 0) ++ (tick 1 0 ∷ [])) 0x0711 0)
    -- timeout 0 sets all 54; a reset bit acts as it falls
    ∷ row 0xFFFF (reads (write 0x0800 0 ∷ tick 1 0 ∷ []) 0x0713)
    ∷ row 0x003F (reads (write 0x0800 0 ∷ tick 1 0 ∷ []) 0x0714)
    ∷ row 0x003F (reads (write 0x0800 0 ∷ tick 1 0 ∷ write 0x0813 1 ∷ []) 0x0714)
    ∷ row 0x003E (reads (write 0x0800 0 ∷ tick 1 0 ∷ write 0x0813 1 ∷ write 0x0813 0 ∷ []) 0x0714)
    -- an output trips on each kind of selected signal, at once
    ∷ row 0x3E (reads (counting 0 ++ pulses 1 ++ (write 0x1108 1 ∷ [])) 0x0719)
    ∷ row 0x3F (reads (counting 0 ++ pulses 1 ++ (write 0x1108 2 ∷ [])) 0x0719)
    ∷ row 0x1F (reads (write 0x1011 0x0036 ∷ write 0x0802 1 ∷ tick 1 1 ∷ write 0x11A1 2 ∷ []) 0x0719)
    ∷ row 0x3D (reads (tick 0 0x0A00 ∷ write 0x1130 0x0200 ∷ []) 0x0719)
    ∷ row 0x3B (reads (write 0x0800 0 ∷ tick 0 0x0020 ∷ write 0x1154 0x0020 ∷ []) 0x0719)
    ∷ row 0x3B (reads (write 0x0800 0 ∷ tick 0 0 ∷ write 0x1151 0x8000 ∷ []) 0x0719)
    -- a forwarded gate trips while its input is low
    ∷ row 0x37 (reads (write 0x1175 4 ∷ []) 0x0719)
    ∷ row 0x3F (reads (write 0x1175 4 ∷ tick 0 4 ∷ []) 0x0719)
    ∷ row 0x37 (reads (write 0x1175 4 ∷ tick 0 4 ∷ tick 0 3 ∷ []) 0x0719)
    ∷ []

-- ---- traces

abbrev pub write_record : ℕ → ℕ → List ℕ
write_record a w = 2 ∷ 0 ∷ 4 ∷ a / 256 ∷ a % 256 ∷ w / 256 ∷ w % 256 ∷ []

-- a tick record of the lowest eight inputs
abbrev pub tick_record : ℕ → ℕ → ℕ → List ℕ
tick_record n inputs gates =
    1 ∷ 0 ∷ 11 ∷ n / 256 ∷ n % 256 ∷ 0 ∷ 0 ∷ 0 ∷ 0 ∷ 0 ∷ 0 ∷ inputs ∷ gates / 256 ∷ gates % 256 ∷ []

-- a refusal's number, 20 for END and 30 for SPENT
abbrev pub stop_mark : Stop → ℕ
stop_mark End = 20
stop_mark Spent = 30
stop_mark (Refused cause) = cause_number cause

-- the report of a run from power-up, as one number: stop, next offset, ticks, records and refusals, three digits each
abbrev pub digits : Report → ℕ
digits r = (((stop_mark r.stop * 1000 + r.next) * 1000 + r.ticks) * 1000 + r.records) * 1000 + r.refused

abbrev pub reports : List ℕ → ℕ → ℕ
reports t budget = digits (run_of t budget machine0).progress.report

unfoldable pub trace_rows : List Row
trace_rows =
    -- END, SPENT before a record that does not fit, and a repeat that just fits
    row 20_000_000_000_000 (reports [] 5)
    ∷ row 20_028_005_002_000 (reports (tick_record 2 1 0 ++ tick_record 3 0 0) 5)
    ∷ row 30_014_002_001_000 (reports (tick_record 2 1 0 ++ tick_record 3 0 0) 4)
    -- with no ticks left writes and refused ticks pass
    ∷ row 20_021_000_002_001 (reports (write_record 0x0801 1 ++ tick_record 9 0 0x1000) 0)
    -- 9 for a cut header of an unknown tag, 7, 8 for a cut payload of wrong length, 9, 10 before a bad level
    ∷ row 9_007_000_001_000 (reports (write_record 0x0801 1 ++ (0 ∷ 0 ∷ [])) 5)
    ∷ row 7_000_000_000_000 (reports (4 ∷ 0 ∷ 4 ∷ []) 5)
    ∷ row 7_000_000_000_000 (reports (0 ∷ 0 ∷ 4 ∷ []) 5)
    ∷ row 8_000_000_000_000 (reports (2 ∷ 0 ∷ 5 ∷ 0 ∷ []) 5)
    ∷ row 8_000_000_000_000 (reports (1 ∷ 0 ∷ 4 ∷ 0 ∷ 1 ∷ 0 ∷ 0 ∷ []) 5)
    ∷ row 9_000_000_000_000 (reports (3 ∷ 0 ∷ 4 ∷ 0 ∷ 0 ∷ 0 ∷ []) 5)
    ∷ row 10_014_001_001_000 (reports (tick_record 1 0 0 ++ tick_record 0 0 0x1000) 5)
    -- refused 2, 3, 4 and 6 counted once each, a tag passed over not
    ∷ row 20_042_000_005_004
    (reports
    (write_record 0x0906 0 ++ write_record 0x0700 0 ++ write_record 0x0A02 0x1020 ++ tick_record 300 0 0x1000 ++ (3 ∷ 0 ∷ 4 ∷ 0 ∷ 0 ∷ 0x10 ∷ 0 ∷ []))
    5)
    -- refused 5 and a refused tag count too, and the run goes on
    ∷ row 20_035_002_004_001
    (reports (write_record 0x0A01 1 ++ (3 ∷ 0 ∷ 4 ∷ 0 ∷ 0 ∷ 0x10 ∷ 0x20 ∷ []) ++ tick_record 2 0 0 ++ write_record 0x0A01 0) 5)
    ∷ row 20_014_000_002_001
    (digits (run_of (write_record 0x0A02 0x1000 ++ write_record 0x0801 1) 5 (after (asked_often 16))).progress.report)
    -- a memory of another length: the number and zeros
    ∷ row 1_000_000_000_000 (digits (run_of (tick_record 1 0 0) 5 (machine power_up short)).progress.report)
    ∷ []

-- ---- raw counts

unfoldable pub raw_rows : List Row
raw_rows =
    -- a rise counts one, a level that stays high no more; the last input; low word before high word; the wrap
    row 2 (reads (tick 1 0 ∷ tick 1 0 ∷ tick 0 0 ∷ tick 1 0 ∷ []) 0x1300)
    ∷ row 1 (reads (tick (2 ^ 53 + 2) 0 ∷ []) 0x136A)
    ∷ row 0 (reads (tick (2 ^ 53 + 2) 0 ∷ []) 0x136B)
    ∷ row 0 (reads (tick (2 ^ 53 + 2) 0 ∷ []) 0x1300)
    ∷ row 0x5678 (low_first 106 0x1234_5678)
    ∷ row 0x1234 (low_first 107 0x1234_5678)
    ∷ row 0xFFFF_FFFF (raw_step true 0xFFFF_FFFE)
    ∷ row 0 (raw_step true 0xFFFF_FFFF)
    ∷ row 0xFFFF_FFFF (raw_step false 0xFFFF_FFFF)
    -- neither a selection nor an open gate is needed; a counter that sees the same pulses under RESET stays at 0
    ∷ row 3 (reads (pulses 3) 0x1300)
    ∷ row 3 (reads (counting 0 ++ (write 0x0801 1 ∷ pulses 3)) 0x1300)
    ∷ row 0 (reads (counting 0 ++ (write 0x0801 1 ∷ pulses 3)) 0x1200)
    -- nothing clears: RESET, AUTORESET, command 0x4, a watchdog's reset, a write to it, which is refused 3
    ∷ row 3 (reads (counting 0 ++ pulses 3 ++ (write 0x0801 1 ∷ [])) 0x1300)
    ∷ row 4 (reads (counting 0 ++ (write 0x0801 2 ∷ pulses 3) ++ (tick 0 0 ∷ tick 1 1 ∷ [])) 0x1300)
    ∷ row 3 (reads (pulses 3 ++ (write 0x0A01 1 ∷ tag 0x4FFF ∷ [])) 0x1300)
    ∷ row 3 (reads (pulses 3 ++ (write 0x0810 1 ∷ write 0x0810 0 ∷ [])) 0x1300)
    ∷ row 3 (reads (pulses 3 ++ (write 0x1300 0 ∷ [])) 0x1300)
    ∷ row 3 (answers (pulses 3) (write 0x1300 0))
    ∷ row 2 (answers (pulses 3) (write 0x136C 0))
    -- a refused tick counts none, and its levels are not kept; a test signal has none
    ∷ row 0 (reads (tick 1 0x1000 ∷ []) 0x1300)
    ∷ row 1 (reads (tick 1 0 ∷ tick 0 0x1000 ∷ tick 1 0 ∷ []) 0x1300)
    ∷ row 0 (reads (counting 63 ++ often 5 (tick 0 1)) 0x136A)
    ∷ []

-- ---- the queue's length

unfoldable pub length_rows : List Row
length_rows =
    -- none waits at power-up; a request by a write or by a tag waits; 16 do, and no 17th
    row 0 (reads [] 0x0905)
    ∷ row 1 (reads (write 0x0A02 (triggered 0 0) ∷ []) 0x0905)
    ∷ row 2 (reads (asked 31 15 ++ asked 0 0) 0x0905)
    ∷ row 1 (reads (keyed ++ (tag 0xBEEF_1000 ∷ [])) 0x0905)
    ∷ row 15 (reads (asked_often 15) 0x0905)
    ∷ row 16 (reads (asked_often 16) 0x0905)
    ∷ row 16 (reads (asked_often 17) 0x0905)
    ∷ row 16 (reads (asked_often 16 ++ keyed ++ (tag 0xBEEF_1000 ∷ [])) 0x0905)
    -- what makes no request adds none: TRIGGER that stays, dataset 32, a wrong key, events off, another command
    ∷ row 1 (reads (write 0x0A02 (triggered 0 0) ∷ write 0x0A02 (triggered 1 0) ∷ []) 0x0905)
    ∷ row 0 (reads (write 0x0A02 (triggered 32 0) ∷ []) 0x0905)
    ∷ row 0 (reads (keyed ++ (tag 0xBEEE_1000 ∷ tag 0xBEEF_2000 ∷ tag 0xBEEF_1020 ∷ [])) 0x0905)
    ∷ row 0 (reads (tag 0x1000 ∷ []) 0x0905)
    -- a refused write leaves TRIGGER clear, so that the next one makes a request
    ∷ row 1 (reads (write 0x0A02 (triggered 32 0) ∷ write 0x0A02 (triggered 0 0) ∷ []) 0x0905)
    ∷ row 16 (reads (asked_often 16 ++ (write 0x0A02 (triggered 0 0) ∷ tick 0 0 ∷ write 0x0A02 (triggered 0 0) ∷ [])) 0x0905)
    -- the request at work waits no more, for all of its 128 ticks; a refused tick takes none
    ∷ row 16 (reads (asked_often 16 ++ (tick 0 0x1000 ∷ [])) 0x0905)
    ∷ row 15 (reads (asked_often 16 ++ often 1 (tick 0 0)) 0x0905)
    ∷ row 16 (reads (asked_often 16 ++ often 1 (tick 0 0) ++ asked 0 0) 0x0905)
    ∷ row 15 (reads (asked_often 16 ++ often 129 (tick 0 0)) 0x0905)
    ∷ row 14 (reads (asked_often 16 ++ often 130 (tick 0 0)) 0x0905)
    ∷ row 0 (reads (asked_often 1 ++ often 1 (tick 0 0)) 0x0905)
    -- nothing else takes one away: RESET, command 0x4, TRIGGER cleared, a write to it, which is refused 3
    ∷ row 1 (reads (asked 0 0 ++ keyed ++ (write 0x0801 1 ∷ tag 0xBEEF_4000 ∷ write 0x0A02 0 ∷ write 0x0905 0 ∷ [])) 0x0905)
    ∷ row 3 (answers (asked 0 0) (write 0x0905 0))
    -- the registers beside it read as they did while requests wait
    ∷ row 0 (reads (asked_often 16) 0x0903)
    ∷ row 0 (reads (asked_often 16) 0x0904)
    ∷ row 3 (reads (asked_often 16 ++ often 3 (tick 0 0)) 0x0903)
    ∷ row 1 (reads (asked_often 16 ++ often 3 (tick 0 0)) 0x0904)
    -- by the calls alone: made, and taken by the loader
    ∷ row 16 (requests_made (asked_often 17))
    ∷ row 1 (requests_made (write 0x0A02 (triggered 32 0) ∷ write 0x0A02 (triggered 0 0) ∷ []))
    ∷ row 1 (requests_made (write 0x0A02 (triggered 0 0) ∷ write 0x0A02 (triggered 1 0) ∷ []))
    ∷ row 17 (requests_made (asked_often 16 ++ often 1 (tick 0 0) ++ asked 0 0))
    ∷ row 1 (requests_taken (asked_often 16 ++ often 129 (tick 0 0)))
    ∷ row 2 (requests_taken (asked_often 16 ++ often 130 (tick 0 0)))
    ∷ row 1 (requests_taken (asked_often 1 ++ often 259 (tick 0 0)))
    ∷ row 0 (requests_taken (asked_often 1 ++ (tick 0 0x1000 ∷ [])))
    ∷ row 3 (requests_made (keyed ++ (tag 0xBEEF_1000 ∷ tag 0xBEEE_1000 ∷ tag 0xBEEF_1120 ∷ []) ++ asked 32 0 ++ asked 1 0 ++ asked 2 0))
    ∷ []

-- ---- scans

-- what a scan after a list gives of output o, as one number: a hundred for level 1, and the words read
abbrev pub scan_on : Machine → ℕ → ℕ
scan_on m o = 100 * bit_of (scan_at (scan_of m) o).level + (scan_at (scan_of m) o).words

abbrev pub scans : List Call → ℕ → ℕ
scans l o = scan_on (after l) o

-- counter n is negative
abbrev pub under : ℕ → List Call
under n = write (0x1000 + n) 0x0036 ∷ write 0x0802 1 ∷ tick 1 1 ∷ []

-- the number of a scan on so many words of memory, and what it gives of output o
abbrev pub scan_refused : ℕ → ℕ → ℕ
scan_refused words o = 1000 * number_of (scan_of (machine power_up (replicate words 0))) + scan_on (machine power_up (replicate words 0)) o

unfoldable pub scan_rows : List Row
scan_rows =
    -- nothing is selected: all 22 words, level 1
    row 122 (scans [] 0)
    ∷ row 122 (scans [] 5)
    -- the first word trips; a later word trips too; only the last word trips
    ∷ row 1 (scans (under 0 ++ (write 0x1100 1 ∷ [])) 0)
    ∷ row 1 (scans (under 0 ++ (write 0x1100 1 ∷ write 0x1115 2 ∷ [])) 0)
    ∷ row 22 (scans (under 0 ++ (write 0x1115 2 ∷ [])) 0)
    -- words of each kind of signal
    ∷ row 8 (scans (under 127 ++ (write 0x1107 0x8000 ∷ [])) 0)
    ∷ row 9 (scans (counting 0 ++ pulses 1 ++ (write 0x1108 1 ∷ [])) 0)
    ∷ row 16 (scans (write 0x107F 0x0D80 ∷ write 0x0802 1 ∷ pulses 1 ++ (write 0x110F 0x8000 ∷ [])) 0)
    ∷ row 17 (scans (tick 0 0x0A00 ∷ write 0x1110 0x0200 ∷ []) 0)
    ∷ row 18 (scans (write 0x0800 0 ∷ tick 0 0 ∷ write 0x1111 0x8000 ∷ []) 0)
    ∷ row 21 (scans (write 0x0800 0 ∷ tick 0 0x0020 ∷ write 0x1114 0x0020 ∷ []) 0)
    -- a forwarded gate: low at power-up, high, and still high after a refused tick
    ∷ row 22 (scans (write 0x1115 4 ∷ []) 0)
    ∷ row 122 (scans (write 0x1115 4 ∷ tick 0 4 ∷ []) 0)
    ∷ row 122 (scans (write 0x1115 4 ∷ tick 0 4 ∷ tick 0 0x1000 ∷ []) 0)
    -- two words past the first trip: the lower one counts
    ∷ row 9 (scans (counting 0 ++ pulses 1 ++ (write 0x0800 0 ∷ tick 0 1 ∷ write 0x1108 1 ∷ write 0x1111 0x8000 ∷ [])) 0)
    -- an earlier word selects what is absent; what is present is not selected; unused bits are dropped
    ∷ row 17 (scans (tick 0 0x0A00 ∷ write 0x1100 1 ∷ write 0x1110 0x0200 ∷ []) 0)
    ∷ row 122 (scans (under 0 ++ (write 0x1100 2 ∷ [])) 0)
    ∷ row 122 (scans (tick 0 0 ∷ write 0x1115 0xF000 ∷ []) 0)
    -- a counter that is under and over: the negative word is read first
    ∷ row 1
    (scans
    (download 0 (0xFFFF ∷ 0xFFFF ∷ 1 ∷ 0 ∷ replicate 508 0) ∷ write 0x0A02 (triggered 0 0) ∷ often 2 (tick 0 0)
    ++ (write 0x1100 1 ∷ write 0x1108 1 ∷ []))
    0)
    -- the words of another output do not count; output 5 has its own
    ∷ row 122 (scans (under 0 ++ (write 0x1120 1 ∷ [])) 0)
    ∷ row 1 (scans (under 0 ++ (write 0x1120 1 ∷ [])) 1)
    ∷ row 22 (scans (write 0x11B5 1 ∷ []) 5)
    -- overflows are not latched: RESET
    ∷ row 122 (scans (under 0 ++ (write 0x1100 1 ∷ write 0x0801 1 ∷ [])) 0)
    -- refused 1 on memories that are too short and too long; taken on one of 16,384
    ∷ row 1000 (scan_refused 0 0)
    ∷ row 1000 (scan_refused 16383 5)
    ∷ row 1000 (scan_refused 16385 5)
    ∷ row 122 (scan_refused 16384 5)
    ∷ []

unfoldable pub worked : List Row
worked = gate_rows ++ counter_rows ++ register_rows ++ refusal_rows ++ loader_rows ++ bound_rows ++ output_rows ++ trace_rows ++ raw_rows ++ length_rows
