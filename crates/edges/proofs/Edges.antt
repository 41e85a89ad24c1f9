-- The numbers of document 01, section by section, in rows that fail where a number is wrong by one, also where definition and code are wrong
-- alike: what is expected is written by hand from the paper, what a definition computes stands beside it. docs/TRACEABILITY.md, "Numbers of
-- document 01", names the row of each number; where `worked` or `starred_cases` has one, it is not written again.
use Prim.Native.Nat.{ℕ, zero, suc, ◌+◌, ◌-◌, ◌*◌, ◌^◌}
use mathlib.Core.List.{List, [], ◌∷◌, ◌++◌}
use lib.Dec.{eqb, ltb}
use lib.ListN.{get_or, length, replicate}
use Rattle.std.proofs.Common.{Ok, Err, Option, Some, None}
use Rattle.std.specs.Option.{option_map_or}
use Rattle.bools.specs.Pick.{pick}
use Rattle.words.specs.Word.{bit_of}
use Rattle.lists.specs.Checks.{Row, row}
use Rattle.lists.specs.Table.{tabulate}
use Rattle.device.specs.declared.map.GateWord.{GateWord}
use Rattle.device.specs.declared.map.GateWord.TheVariants.{Mode, Timeout, Prepare, Recover}
use Rattle.device.specs.declared.map.ReadoutWord.{ReadoutWord}
use Rattle.device.specs.declared.map.ReadoutWord.TheVariants.{Module, Negative, Positive, GateErrors, WatchdogErrors, GateInputs, GateOutputs, Outputs}
use Rattle.device.specs.declared.map.ReadoutWord.TheVariants.{GateStates, TagLow, TagHigh, Code, LoaderState, LoaderCounter, QueueLength, Count, Raw, Threshold}
use Rattle.device.specs.declared.map.Register.{Register}
use Rattle.device.specs.declared.map.Register.TheVariants.{Readout, Setting, Shared, Gates, Watchdogs, Input, Group, Word}
use Rattle.device.specs.declared.map.SettingWord.{SettingWord}
use Rattle.device.specs.declared.map.SettingWord.TheVariants.{Mask, WatchdogTimeout, Selection}
use Rattle.device.specs.declared.map.SharedWord.{SharedWord}
use Rattle.device.specs.declared.map.SharedWord.TheVariants.{Control, Key, Enable, Reload}
use Rattle.device.specs.Map.{decode_of}
use Rattle.device.specs.State.{machine, memory0, power_up, status0, with_rawcounts, with_status}
use Rattle.reading.specs.Read.{read_of, word_in, word_shown}
use Rattle.registers.specs.Calls.{Call, tick, write, tag, download, after, from, machine0}
use Rattle.registers.proofs.Cases.{reads, answers, often, pulses, counting, triggered}
use Rattle.leaps.specs.Leap.{leap_of, quiet}
use Rattle.records.specs.declared.Record.TheVariants.{Ticks, Write, Tag}
use Rattle.records.specs.Records.{Found, record_at}
use Rattle.sheet.specs.Lines.{lines_of}
use Rattle.sheet.specs.OwnPart.{own_part_of}
use Rattle.sheet.specs.Sheet.{Sheet, sheet0, sheet_after}
use Rattle.worked.proofs.Worked.{reports}

-- what a register reads after a list, k ticks more at the levels of its last tick, and a second list. The k ticks are made at once: that it
-- is the same where the crate is quiet is the theorem `leap_is`; where it is not, 65,536, which no register reads
abbrev pub onward : List Call → ℕ → ℕ → ℕ → List Call → ℕ → ℕ
onward l k inputs gatelevels more a =
    pick (quiet k (after l).state inputs gatelevels)
    (word_shown (read_of (from (machine (leap_of k (after l).state gatelevels) (after l).memory) more) a))
    65_536

-- ---- lines and test pulses

-- the rises that counter 0 has seen of a selection value after so many ticks, the first made by itself
abbrev pub rises_after : ℕ → ℕ → ℕ
rises_after u n = onward (counting u ++ (tick 0 1 ∷ [])) (n - 1) 0 1 [] 0x1200

unfoldable pub signal_rows : List Row
signal_rows =
    -- the first rise of each test signal, and none one tick before
    row 0 (rises_after 55 12_499)
    ∷ row 1 (rises_after 55 12_500)
    ∷ row 0 (rises_after 56 1262)
    ∷ row 1 (rises_after 56 1263)
    ∷ row 0 (rises_after 57 1249)
    ∷ row 1 (rises_after 57 1250)
    ∷ row 0 (rises_after 58 126)
    ∷ row 1 (rises_after 58 127)
    ∷ row 0 (rises_after 59 124)
    ∷ row 1 (rises_after 59 125)
    ∷ row 0 (rises_after 60 12)
    ∷ row 1 (rises_after 60 13)
    ∷ row 0 (rises_after 61 12)
    ∷ row 1 (rises_after 61 13)
    ∷ row 0 (rises_after 62 5)
    ∷ row 1 (rises_after 62 6)
    ∷ row 0 (rises_after 63 4)
    ∷ row 1 (rises_after 63 5)
    -- so they are tick by tick, where `worked` and `starred_cases` have no row
    ∷ row 0 (reads (counting 60 ++ often 12 (tick 0 1)) 0x1200)
    ∷ row 0 (reads (counting 61 ++ often 12 (tick 0 1)) 0x1200)
    -- 125,000 ticks are a millisecond: f kHz rise f times, the last time at its last tick. Ground never
    ∷ row 9 (rises_after 55 124_999)
    ∷ row 10 (rises_after 55 125_000)
    ∷ row 98 (rises_after 56 124_999)
    ∷ row 99 (rises_after 56 125_000)
    ∷ row 99 (rises_after 57 124_999)
    ∷ row 100 (rises_after 57 125_000)
    ∷ row 989 (rises_after 58 124_999)
    ∷ row 990 (rises_after 58 125_000)
    ∷ row 999 (rises_after 59 124_999)
    ∷ row 1000 (rises_after 59 125_000)
    ∷ row 9899 (rises_after 60 124_999)
    ∷ row 9900 (rises_after 60 125_000)
    ∷ row 9999 (rises_after 61 124_999)
    ∷ row 10_000 (rises_after 61 125_000)
    ∷ row 24_899 (rises_after 62 124_999)
    ∷ row 24_900 (rises_after 62 125_000)
    ∷ row 24_999 (rises_after 63 124_999)
    ∷ row 25_000 (rises_after 63 125_000)
    ∷ row 0 (rises_after 54 125_000)
    -- a phase is 0 at power-up: that of 99 kHz is 999,999 after 10,101 ticks, one short of the eighth rise
    ∷ row 7 (rises_after 56 10_101)
    ∷ row 8 (rises_after 56 10_102)
    -- selection value 53 is the last input
    ∷ row 1 (reads (counting 53 ++ (tick (2 ^ 53) 1 ∷ [])) 0x1200)
    ∷ []

-- ---- gates

-- gate 0 has just come into PREPARE with this timeout
abbrev pub preparing : ℕ → List Call
preparing timeout = write 0x0804 timeout ∷ write 0x0A03 1 ∷ tick 0 0 ∷ []

unfoldable pub gate_rows : List Row
gate_rows =
    -- timeout 1: 16,383 low ticks, state 1; 16,384, state 4
    row 1 (onward (preparing 1) 16_383 0 0 [] 0x071A)
    ∷ row 4 (onward (preparing 1) 16_383 0 0 (tick 0 0 ∷ []) 0x071A)
    -- timeout 65,535: a timer of 1,073,725,440
    ∷ row 1 (onward (preparing 65_535) 1_073_725_439 0 0 [] 0x071A)
    ∷ row 4 (onward (preparing 65_535) 1_073_725_439 0 0 (tick 0 0 ∷ []) 0x071A)
    -- 0x0804 is gate 0's timeout and 0x080F gate 11's: at timeout 0 the second low tick gives 4
    ∷ row 0x4441 (reads (write 0x0804 1 ∷ write 0x0A03 0x0FFF ∷ often 2 (tick 0 0)) 0x071A)
    ∷ row 0x4444 (reads (write 0x0804 1 ∷ write 0x0A03 0x0FFF ∷ often 2 (tick 0 0)) 0x071C)
    ∷ row 0x1444 (reads (write 0x080F 1 ∷ write 0x0A03 0x0FFF ∷ often 2 (tick 0 0)) 0x071C)
    ∷ row 0x4444 (reads (write 0x080F 1 ∷ write 0x0A03 0x0FFF ∷ often 2 (tick 0 0)) 0x071A)
    ∷ []

-- ---- counters

-- counter 127 has UP 43 in bits 5-0, DOWN 53 in 11-6, GATE 11 in 15-12, and all gates are in direct mode
abbrev pub last_counter : ℕ → ℕ → List Call
last_counter inputs gatelevels = write 0x107F 0xBD6B ∷ write 0x0802 0x0FFF ∷ tick inputs gatelevels ∷ []

-- counter 0 counts 25,000 kHz up and counter 1 counts it down, a rise in five ticks; after so many rises and a list
abbrev pub both_ways : ℕ → List Call → ℕ → ℕ
both_ways rises more a =
    onward (write 0x1000 0x0DBF ∷ write 0x1001 0x0FF6 ∷ write 0x0802 1 ∷ tick 0 1 ∷ []) (5 * rises - 1) 0 1 more a

unfoldable pub counter_rows : List Row
counter_rows =
    -- only UP counts up, only DOWN down, and only at GATE
    row 1 (reads (last_counter (2 ^ 43) 0x0800) 0x12FE)
    ∷ row 0xFFFF (reads (last_counter (2 ^ 53) 0x0800) 0x12FE)
    ∷ row 0xFFFF (reads (last_counter (2 ^ 53) 0x0800) 0x12FF)
    ∷ row 0 (reads (last_counter (2 ^ 43) 0x07FF) 0x12FE)
    ∷ row 0 (reads (last_counter (2 ^ 54 - (2 ^ 53 + 2 ^ 43 + 1)) 0x0800) 0x12FE)
    ∷ row 0x8000 (reads (last_counter (2 ^ 43) 0x0800) 0x070F)
    -- GATE 15 is never open, as GATE 12 (`worked`) is not
    ∷ row 0 (reads (write 0x1000 0xFD80 ∷ write 0x0802 0x0FFF ∷ tick 1 0x0FFF ∷ []) 0x1200)
    -- from the low word to the high word
    ∷ row 0xFFFF (both_ways 65_535 [] 0x1200)
    ∷ row 0 (both_ways 65_535 [] 0x1201)
    ∷ row 0 (both_ways 65_536 [] 0x1200)
    ∷ row 1 (both_ways 65_536 [] 0x1201)
    ∷ row 0 (both_ways 65_536 [] 0x1202)
    ∷ row 0xFFFF (both_ways 65_536 [] 0x1203)
    -- 2,147,483,647 and -2,147,483,647: one over, one under
    ∷ row 0xFFFF (both_ways 2_147_483_647 [] 0x1200)
    ∷ row 0x7FFF (both_ways 2_147_483_647 [] 0x1201)
    ∷ row 0x0001 (both_ways 2_147_483_647 [] 0x1202)
    ∷ row 0x8000 (both_ways 2_147_483_647 [] 0x1203)
    ∷ row 0x0001 (both_ways 2_147_483_647 [] 0x0708)
    ∷ row 0x0002 (both_ways 2_147_483_647 [] 0x0700)
    -- one more, tick by tick: both -2,147,483,648 and under
    ∷ row 0 (both_ways 2_147_483_647 (often 5 (tick 0 1)) 0x1200)
    ∷ row 0x8000 (both_ways 2_147_483_647 (often 5 (tick 0 1)) 0x1201)
    ∷ row 0x8000 (both_ways 2_147_483_647 (often 5 (tick 0 1)) 0x1203)
    ∷ row 0 (both_ways 2_147_483_647 (often 5 (tick 0 1)) 0x0708)
    ∷ row 0x0003 (both_ways 2_147_483_647 (often 5 (tick 0 1)) 0x0700)
    -- another: -2,147,483,647 and 2,147,483,647
    ∷ row 0x0001 (both_ways 2_147_483_648 (often 5 (tick 0 1)) 0x1200)
    ∷ row 0x8000 (both_ways 2_147_483_648 (often 5 (tick 0 1)) 0x1201)
    ∷ row 0xFFFF (both_ways 2_147_483_648 (often 5 (tick 0 1)) 0x1202)
    ∷ row 0x7FFF (both_ways 2_147_483_648 (often 5 (tick 0 1)) 0x1203)
    ∷ row 0x0002 (both_ways 2_147_483_648 (often 5 (tick 0 1)) 0x0708)
    -- and as far in one leap
    ∷ row 0x8000 (both_ways 2_147_483_648 [] 0x1201)
    ∷ row 0x7FFF (both_ways 2_147_483_649 [] 0x1203)
    ∷ []

-- ---- raw counts (document 02, request 1)

-- a tick at power-up but for the raw counts, all of which stand at n
abbrev pub raw_after : ℕ → ℕ → ℕ → ℕ
raw_after n inputs a =
    word_shown
    (read_of
    (from
    (machine (with_status power_up (with_rawcounts status0 (tabulate 54 (λ i. n)))) memory0)
    (tick inputs 0 ∷ []))
    a)

unfoldable pub raw_rows : List Row
raw_rows =
    -- from the low word to the high word, and from the last number to 0; of a line that does not rise, none
    row 0xFFFF (raw_after 65_534 1 0x1300)
    ∷ row 0 (raw_after 65_535 1 0x1300)
    ∷ row 1 (raw_after 65_535 1 0x1301)
    ∷ row 0xFFFF (raw_after 4_294_967_294 1 0x1300)
    ∷ row 0xFFFF (raw_after 4_294_967_294 1 0x1301)
    ∷ row 0 (raw_after 4_294_967_295 1 0x1300)
    ∷ row 0 (raw_after 4_294_967_295 1 0x1301)
    ∷ row 0 (raw_after 4_294_967_295 (2 ^ 53) 0x136A)
    ∷ row 0 (raw_after 4_294_967_295 (2 ^ 53) 0x136B)
    ∷ row 0xFFFF (raw_after 4_294_967_295 (2 ^ 53) 0x1368)
    ∷ row 0xFFFF (raw_after 4_294_967_295 (2 ^ 53) 0x1369)
    ∷ []

-- ---- threshold memory and loader

-- dataset 31 has 7 and 9 in its first and last word
abbrev pub last_dataset : List Call
last_dataset = download 31 (7 ∷ replicate 510 0 ++ (9 ∷ [])) ∷ []

-- dataset 2 has other words for each of counters 0, 1, 4 and 127, of which counters 1, 4 and 127 are in group 9; it is asked for group 9
abbrev pub group_nine : List Call
group_nine =
    download 2
    (5 ∷ 5 ∷ 5 ∷ 5 ∷ 0x0011 ∷ 0x0012 ∷ 0x0013 ∷ 0x0014 ∷ replicate 8 0 ++ (0x0041 ∷ replicate 491 0) ++ (0x0071 ∷ 0x0072 ∷ 0x0073 ∷ 0x0074 ∷ []))
    ∷ write 0x1600 0x0090
    ∷ write 0x1601 0x0009
    ∷ write 0x161F 0x9000
    ∷ write 0x0A02 (triggered 2 9)
    ∷ []

unfoldable pub loader_rows : List Row
loader_rows =
    -- dataset 31 is the 512 words from 512 × 31, the last ones
    row 7 (reads last_dataset 0xBE00)
    ∷ row 9 (reads last_dataset 0xBFFF)
    ∷ row 0 (reads last_dataset 0xBDFF)
    -- four words from 4 × n: positive low, high, negative low, high; four bits a counter from 0x1600 on
    ∷ row 0 (reads (group_nine ++ often 6 (tick 0 0)) 0x1800)
    ∷ row 0x0011 (reads (group_nine ++ often 6 (tick 0 0)) 0x1804)
    ∷ row 0x0012 (reads (group_nine ++ often 6 (tick 0 0)) 0x1805)
    ∷ row 0x0013 (reads (group_nine ++ often 6 (tick 0 0)) 0x1806)
    ∷ row 0x0014 (reads (group_nine ++ often 6 (tick 0 0)) 0x1807)
    ∷ row 0x0041 (reads (group_nine ++ often 6 (tick 0 0)) 0x1810)
    ∷ row 0x0074 (reads (group_nine ++ often 129 (tick 0 0)) 0x19FF)
    -- DATASET has eight bits and GROUP four: 128 is above 31, group 1 with dataset 31 is not
    ∷ row 4 (answers [] (write 0x0A02 0x1080))
    ∷ row 0 (answers [] (write 0x0A02 0x111F))
    ∷ row 0 (answers [] (write 0x0A02 0x1F1F))
    ∷ []

-- ---- writes and event tags: the map, power-up, commands

-- word k of a block of so many registers
abbrev pub in_block : ℕ → ℕ → ℕ → ℕ
in_block first words k = pick (ltb k words) (first + k) 0

-- the addresses by the Manual's tables, with its symbols; none is 0
abbrev pub readout_address : ReadoutWord → ℕ
readout_address (Module k) = in_block 0x0638 6 k  -- IOBP_ID
readout_address (Negative k) = in_block 0x0700 8 k  -- NEG_OVERFLOW
readout_address (Positive k) = in_block 0x0708 8 k  -- POS_OVERFLOW
readout_address GateErrors = 0x0710  -- GATE_ERROR
readout_address (WatchdogErrors k) = in_block 0x0711 4 k  -- WD_ERROR
readout_address GateInputs = 0x0717  -- GATE_IN
readout_address GateOutputs = 0x0718  -- GATE_OUT
readout_address Outputs = 0x0719  -- OUT_SIGNAL
readout_address (GateStates k) = in_block 0x071A 3 k  -- GATE_STATE
readout_address TagLow = 0x0900  -- TAG_LOW
readout_address TagHigh = 0x0901  -- TAG_HIGH
readout_address Code = 0x0902  -- CODE
readout_address LoaderState = 0x0903  -- THR_LOADER_STATE
readout_address LoaderCounter = 0x0904  -- THR_LOADER_ITER
readout_address QueueLength = 0x0905  -- THR_LOADER_ENQ_STATE
readout_address (Count k) = in_block 0x1200 256 k  -- CTR_READOUT
readout_address (Raw k) = in_block 0x1300 108 k  -- document 02, request 1
readout_address (Threshold k) = in_block 0x1800 512 k  -- THR

abbrev pub setting_address : SettingWord → ℕ
setting_address (Mask k) = in_block 0x0630 6 k  -- IOBP_MASK
setting_address WatchdogTimeout = 0x0800  -- WDOG_TIMEOUT
setting_address (Selection o k) = pick (ltb o 6) (in_block (0x1100 + 32 * o) 22 k) 0  -- OUT_SEL

abbrev pub shared_address : SharedWord → ℕ
shared_address Control = 0x0801  -- COUNTERS
shared_address Key = 0x0A00  -- KEY
shared_address Enable = 0x0A01  -- CTRL
shared_address Reload = 0x0A02  -- THR_RELOAD

abbrev pub gate_address : GateWord → ℕ
gate_address Mode = 0x0802  -- GATE_MODE
gate_address (Timeout g) = in_block 0x0804 12 g  -- GATE_TIMEOUT
gate_address Prepare = 0x0A03  -- GATE_PREP
gate_address Recover = 0x0A04  -- GATE_RECOVER

abbrev pub address_of : Register → ℕ
address_of (Readout q) = readout_address q
address_of (Setting q) = setting_address q
address_of (Shared q) = shared_address q
address_of (Gates q) = gate_address q
address_of (Watchdogs k) = in_block 0x0810 4 k  -- WD_RESET
address_of (Input n) = in_block 0x1000 128 n  -- IN_SEL
address_of (Group k) = in_block 0x1600 32 k  -- CTR_GROUPS
address_of (Word i) = in_block 0x8000 16_384 i  -- THR_RAM

-- where there is no register, 0
abbrev pub named : Option Register → ℕ
named o = option_map_or address_of o 0

-- how many of the addresses below n have the register that the Manual puts there
abbrev pub placed : ℕ → ℕ → ℕ
placed zero sum = sum
placed (suc n) sum = placed n (sum + bit_of (ltb 0 n) * bit_of (eqb (named (decode_of n)) n))

-- the words of all registers below address n at power-up, added up
abbrev pub summed : ℕ → ℕ → ℕ
summed zero sum = sum
summed (suc n) sum = summed n (sum + option_map_or (word_in machine0) (decode_of n) 0)

unfoldable pub map_rows : List Row
map_rows =
    -- the 1,237 registers below the threshold memory, each at its own address; the memory's ends
    row 1237 (placed 0x1A00 0)
    ∷ row 0x8000 (named (decode_of 0x8000))
    ∷ row 0xBFFF (named (decode_of 0xBFFF))
    ∷ []

unfoldable pub power_up_rows : List Row
power_up_rows =
    -- 128 input registers at 0xFDB6, 0x0800 at 65,535, 0x0719 at 0x003F, the module IDs, else 0
    row (128 * 0xFDB6 + 65_535 + 0x003F + (4 * 0x0707 + 0x0307 + 0x0603)) (summed 0x1A00 0)
    ∷ row 0xFDB6 (reads [] 0x107F)
    ∷ row 0x0707 (reads [] 0x0639)
    ∷ row 0x0707 (reads [] 0x063A)
    ∷ row 0x0707 (reads [] 0x063B)
    ∷ row 0 (reads [] 0xBFFF)
    -- the counters, of which no register past the last one tells
    ∷ row 128 (length power_up.counters)
    ∷ []

-- counter 0 stands at 2, gate 0 is in DIRECT, gate 1 in IDLE and gate 2 in ERROR; then a tag for each command that does nothing
abbrev pub ignored : List Call
ignored =
    counting 0 ++ (tick 0 5 ∷ pulses 2)
    ++ (write 0x0A01 1 ∷ tag 0x0006 ∷ tag 0x5006 ∷ tag 0x6006 ∷ tag 0x7006 ∷ tag 0x8006 ∷ tag 0x9006 ∷ tag 0xA006 ∷ tag 0xB006 ∷ tag 0xC006
    ∷ tag 0xD006 ∷ tag 0xE006 ∷ tag 0xF006 ∷ tick 0 1 ∷ [])

unfoldable pub tag_rows : List Row
tag_rows =
    -- commands 0x0 and 0x5 to 0xF do nothing; 0x1 to 0x4 do
    row 2 (reads ignored 0x1200)
    ∷ row 0x0406 (reads ignored 0x071A)
    ∷ row 0 (reads ignored 0x0903)
    ∷ row 3 (reads (ignored ++ (tag 0x1006 ∷ tick 0 1 ∷ [])) 0x0903)
    ∷ row 0x0416 (reads (ignored ++ (tag 0x2006 ∷ tick 0 1 ∷ [])) 0x071A)
    ∷ row 0x0506 (reads (ignored ++ (tag 0x3006 ∷ tick 0 1 ∷ [])) 0x071A)
    ∷ row 0 (reads (ignored ++ (tag 0x4006 ∷ tick 0 1 ∷ [])) 0x1200)
    -- the second reset word is for inputs 16 to 31
    ∷ row 0xFFFE (reads (write 0x0800 0 ∷ tick 0 0 ∷ write 0x0811 1 ∷ write 0x0811 0 ∷ []) 0x0712)
    ∷ row 0xFFFF (reads (write 0x0800 0 ∷ tick 0 0 ∷ write 0x0811 1 ∷ write 0x0811 0 ∷ []) 0x0711)
    ∷ []

-- ---- the one-counter sheet

-- counter 127's sheet after a download of dataset 31
abbrev pub last_sheet : Sheet
last_sheet = sheet_after 127 (own_part_of 127 (download 31 (replicate 508 0 ++ (0x0071 ∷ 0x0072 ∷ 0x0073 ∷ 0x0074 ∷ [])) ∷ []))

unfoldable pub sheet_rows : List Row
sheet_rows =
    -- inputs 0 to 53 and gates 0 to 11 can be own lines: UP 53, DOWN 54, GATE 11; UP 54, DOWN 53, GATE 12
    row 1 (bit_of ((lines_of 0xBDB5).inputs 53))
    ∷ row 0 (bit_of ((lines_of 0xBDB5).inputs 54))
    ∷ row 1 (bit_of ((lines_of 0xBDB5).gates 11))
    ∷ row 1 (bit_of ((lines_of 0xCD76).inputs 53))
    ∷ row 0 (bit_of ((lines_of 0xCD76).inputs 54))
    ∷ row 0 (bit_of ((lines_of 0xCD76).gates 12))
    -- 128 memory words: the last four are those of dataset 31
    ∷ row 128 (length sheet0.memory)
    ∷ row 128 (length last_sheet.memory)
    ∷ row 0 (get_or last_sheet.memory 123 0)
    ∷ row 0x0071 (get_or last_sheet.memory 124 0)
    ∷ row 0x0074 (get_or last_sheet.memory 127 0)
    ∷ []

-- ---- watchdogs

unfoldable pub watchdog_rows : List Row
watchdog_rows =
    -- 0x0800 at 65,535, from power-up: clear after 8,388,479 ticks, all 54 latched by one more
    row 0 (onward [] 8_388_479 0 0 [] 0x0711)
    ∷ row 0 (onward [] 8_388_478 0 0 (tick 0 0 ∷ []) 0x0711)
    ∷ row 0xFFFF (onward [] 8_388_479 0 0 (tick 0 0 ∷ []) 0x0711)
    ∷ row 0x003F (onward [] 8_388_479 0 0 (tick 0 0 ∷ []) 0x0714)
    ∷ row 0xFFFF (onward [] 8_388_480 0 0 [] 0x0711)
    -- a rise at tick 8,388,480 is in time for its own input alone
    ∷ row 0xFFFE (onward [] 8_388_479 0 0 (tick 1 0 ∷ []) 0x0711)
    -- at 65,534 all is 128 ticks sooner
    ∷ row 0 (onward (write 0x0800 65_534 ∷ []) 8_388_351 0 0 [] 0x0711)
    ∷ row 0xFFFF (onward (write 0x0800 65_534 ∷ []) 8_388_351 0 0 (tick 0 0 ∷ []) 0x0711)
    ∷ []

-- ---- traces

-- a record's repeat, levels, address and word, or tag, as one number; 0 for none
abbrev pub told : Found → ℕ
told (Err cause) = 0
told (Ok None) = 0
told (Ok (Some (Ticks n levels))) = (n * 2 ^ 56 + levels.inputs) * 2 ^ 16 + levels.gates
told (Ok (Some (Write a w))) = a * 2 ^ 16 + w
told (Ok (Some (Tag t))) = t

unfoldable pub trace_rows : List Row
trace_rows =
    -- 0x01, 11 bytes: two of the repeat, seven of inputs, two of gates; 0x02 and 0x03, 4 bytes; high byte first
    row 0x1234_20000000000001_0802 (told (record_at (1 ∷ 0 ∷ 11 ∷ 0x12 ∷ 0x34 ∷ 0x20 ∷ 0 ∷ 0 ∷ 0 ∷ 0 ∷ 0 ∷ 1 ∷ 8 ∷ 2 ∷ []) 0))
    ∷ row 0x1234_5678 (told (record_at (2 ∷ 0 ∷ 4 ∷ 0x12 ∷ 0x34 ∷ 0x56 ∷ 0x78 ∷ []) 0))
    ∷ row 0x1234_5678 (told (record_at (3 ∷ 0 ∷ 4 ∷ 0x12 ∷ 0x34 ∷ 0x56 ∷ 0x78 ∷ []) 0))
    -- 8: one byte less, one more, and the length's low byte first
    ∷ row 8_000_000_000_000 (reports (1 ∷ 0 ∷ 10 ∷ replicate 20 1) 5)
    ∷ row 8_000_000_000_000 (reports (1 ∷ 0 ∷ 12 ∷ replicate 20 1) 5)
    ∷ row 8_000_000_000_000 (reports (1 ∷ 11 ∷ 0 ∷ replicate 20 1) 5)
    ∷ row 8_000_000_000_000 (reports (2 ∷ 0 ∷ 3 ∷ replicate 20 1) 5)
    ∷ row 8_000_000_000_000 (reports (2 ∷ 0 ∷ 5 ∷ replicate 20 1) 5)
    ∷ row 8_000_000_000_000 (reports (3 ∷ 0 ∷ 3 ∷ replicate 20 1) 5)
    ∷ row 8_000_000_000_000 (reports (3 ∷ 0 ∷ 5 ∷ replicate 20 1) 5)
    -- 9: a payload short of one byte
    ∷ row 9_000_000_000_000 (reports (1 ∷ 0 ∷ 11 ∷ replicate 10 0) 5)
    ∷ row 9_000_000_000_000 (reports (2 ∷ 0 ∷ 4 ∷ replicate 3 0) 5)
    ∷ row 10_000_000_000_000 (reports (1 ∷ 0 ∷ 11 ∷ replicate 11 0) 5)
    ∷ row 20_007_000_001_001 (reports (2 ∷ 0 ∷ 4 ∷ replicate 4 0) 5)
    ∷ []
