-- Worked cases of the definitions that demand 3 rests on, by hand from document 01: own lines, own part, sheet, what a counter shows. So a
-- definition that is wrong on both sides of the theorem alike fails here.
use Prim.Native.Nat.{ℕ, zero, suc, ◌+◌, ◌*◌, ◌^◌}
use mathlib.Core.Bool.{Bool, true, false}
use mathlib.Core.List.{List, [], ◌∷◌, ◌++◌}
use mathlib.Core.Path.{◌≡◌, refl}
use lib.IntN.{ℤ, pos, negsuc}
use lib.ListN.{replicate}
use Rattle.bools.specs.Pick.{pick}
use Rattle.words.specs.Word.{pack}
use Rattle.counters.specs.Counter.{counter0, with_count, with_thresholds}
use Rattle.registers.specs.Calls.{Call, tick, write, tag, download}
use Rattle.sheet.specs.Follows.{follows_at}
use Rattle.sheet.specs.Lines.{own_lines}
use Rattle.sheet.specs.OwnPart.{Part, ticked, patched, stored, controlled, keyed, enabled, reloaded, timed, grouped, moded, prepared, recovered, tagged, downloaded, own_part_of}
use Rattle.sheet.specs.Sheet.{sheet_after, sheet_shows}
use Rattle.sheet.specs.Shows.{Shown, shown}
use Rattle.sheet.proofs.Computing.{computing}

-- ---- a table of cases: what the paper says, and what the definitions compute

pub record Case (A : Type 0) : Type 0 where
  pub expected : A
  pub computed : A

abbrev case : {A : Type 0} → A → A → Case A
case e c = record { expected = e; computed = c }

abbrev pub expected_in : {A : Type 0} → List (Case A) → List A
expected_in [] = []
expected_in (c ∷ cs) = c.expected ∷ expected_in cs

abbrev pub computed_in : {A : Type 0} → List (Case A) → List A
computed_in [] = []
computed_in (c ∷ cs) = c.computed ∷ computed_in cs

-- ---- own lines

-- counter 3 is patched: UP input 0, DOWN input 5, gate 2
abbrev patch : Call
patch = write 0x1003 0x2140

-- own inputs and own gates of counter 3 as words, gates from bit 54 on
abbrev lines_in3 : List Call → ℕ
lines_in3 l = pack 54 (own_lines 3 l).inputs + 2 ^ 54 * pack 12 (own_lines 3 l).gates

abbrev pub line_cases : List (Case ℕ)
line_cases =
    -- "the power-up word has none", also where a list writes it
    case 0 (lines_in3 [])
    ∷ case 0 (lines_in3 (write 0x1003 0xFDB6 ∷ []))
    -- UP, DOWN and GATE
    ∷ case (2 ^ 0 + 2 ^ 5 + 2 ^ 54 * 0x004) (lines_in3 (patch ∷ []))
    -- "of at least one word that the list writes": all words, also behind the last tick
    ∷ case (2 ^ 0 + 2 ^ 5 + 2 ^ 1 + 2 ^ 54 * 0x00C) (lines_in3 (patch ∷ tick 1 4 ∷ write 0x1003 0x3D81 ∷ []))
    -- "the inputs 0 to 53 and gates 0 to 11": the last of both; ground, test signals and GATE 12 to 15 are none
    ∷ case (2 ^ 53 + 2 ^ 54 * 0x800) (lines_in3 (write 0x1003 0xBD75 ∷ []))
    ∷ case 0 (lines_in3 (write 0x1003 0xCFF6 ∷ []))
    ∷ case 0 (lines_in3 (write 0x1003 0xDFF6 ∷ []))
    ∷ case 0 (lines_in3 (write 0x1003 0xEFF6 ∷ []))
    ∷ case 0 (lines_in3 (write 0x1003 0xFFF7 ∷ []))
    -- "to its input register": a neighbour's patch, the same word elsewhere, levels of lines and bits of gates bring none
    ∷ case 0 (lines_in3 (write 0x1004 0x2140 ∷ write 0x1002 0x2140 ∷ write 0x8003 0x2140 ∷ write 0x0802 0x0FFF ∷ tick 0x21 0x004 ∷ tag 0x2FFF ∷ []))
    ∷ []

-- ---- own part

-- the own part of counter 3, patched at the end of the list
abbrev part3 : List Call → List Part
part3 l = own_part_of 3 (l ++ (patch ∷ []))

abbrev behind : List Part → List Part
behind parts = parts ++ (patched 0x2140 ∷ [])

-- 512 words, of which counter 3 has 1, 2, 3 and 4
abbrev words : List ℕ
words = replicate 12 7 ++ (1 ∷ 2 ∷ 3 ∷ 4 ∷ replicate 496 7)

abbrev pub part_cases : List (Case (List Part))
part_cases =
    case [] (own_part_of 3 [])
    -- "of a tick, own lines' levels and whether cause 6 refuses it", also before the word is written
    ∷ case (behind (ticked false 0x21 0x004 ∷ [])) (part3 (tick 0x3F 0xFFF ∷ []))
    ∷ case (behind (ticked false 0x01 0x000 ∷ [])) (part3 (tick 0x01 0x001 ∷ []))
    ∷ case (behind (ticked true 0x20 0x004 ∷ [])) (part3 (tick (2 ^ 54 + 0x22) 0x006 ∷ []))
    ∷ case (behind (ticked true 0x00 0x004 ∷ [])) (part3 (tick 0 0x1004 ∷ []))
    ∷ case (ticked false 0 0 ∷ []) (own_part_of 3 (tick 0x3F 0xFFF ∷ []))
    -- "all of it for c's input register, c's memory words, the four registers named and own gates' timeouts"
    ∷ case (behind (patched 0xFDB6 ∷ [])) (part3 (write 0x1003 0xFDB6 ∷ []))
    ∷ case (behind (stored 0 9 ∷ stored 3 9 ∷ stored 5 9 ∷ stored 127 9 ∷ []))
    (part3 (write 0x800C 9 ∷ write 0x800F 9 ∷ write 0x820D 9 ∷ write 0xBE0F 9 ∷ []))
    ∷ case (behind (controlled 0xFFFE ∷ [])) (part3 (write 0x0801 0xFFFE ∷ []))
    ∷ case (behind (keyed 0xBEEF ∷ enabled 0xFFFF ∷ [])) (part3 (write 0x0A00 0xBEEF ∷ write 0x0A01 0xFFFF ∷ []))
    ∷ case (behind (reloaded 0x1020 ∷ reloaded 0xFFFF ∷ [])) (part3 (write 0x0A02 0x1020 ∷ write 0x0A02 0xFFFF ∷ []))
    ∷ case (behind (timed 2 7 ∷ [])) (part3 (write 0x0806 7 ∷ []))
    -- "c's four bits in its group register"
    ∷ case (behind (grouped 5 ∷ [])) (part3 (write 0x1600 0x5ABC ∷ []))
    -- "own gates' bits in 0x0802, 0x0A03, 0x0A04"
    ∷ case (behind (moded 0x004 ∷ moded 0x000 ∷ [])) (part3 (write 0x0802 0xFFFF ∷ write 0x0802 0xFFFB ∷ []))
    ∷ case (behind (prepared 0x004 ∷ recovered 0x000 ∷ [])) (part3 (write 0x0A03 0x0005 ∷ write 0x0A04 0x000B ∷ []))
    -- a gate is own for the whole list; with no own gate the bits are none, and the part stays (docs/DECISIONS.md, D-04)
    ∷ case (moded 0x000 ∷ prepared 0x000 ∷ recovered 0x000 ∷ []) (own_part_of 3 (write 0x0802 0x0FFF ∷ write 0x0A03 0x0FFF ∷ write 0x0A04 0x0FFF ∷ []))
    -- "a write elsewhere drops out": neighbours' registers, words and gates, what no counter sees, read-only and no address of the map
    ∷ case (behind []) (part3 (write 0x1002 0x2140 ∷ write 0x1004 0x2140 ∷ write 0x1601 0x5ABC ∷ write 0x0805 7 ∷ write 0x0807 7 ∷ []))
    ∷ case (behind []) (part3 (write 0x800B 9 ∷ write 0x8010 9 ∷ write 0x820B 9 ∷ write 0xBE10 9 ∷ []))
    ∷ case (behind []) (part3 (write 0x0630 1 ∷ write 0x0800 0 ∷ write 0x0810 1 ∷ write 0x1108 8 ∷ write 0x1115 4 ∷ []))
    ∷ case (behind []) (part3 (write 0x0700 1 ∷ write 0x1206 1 ∷ write 0x180C 1 ∷ write 0x0803 1 ∷ write 0x0905 1 ∷ write 0x0906 1 ∷ write 0xC000 1
    ∷ []))
    ∷ case (grouped 0 ∷ []) (own_part_of 3 (write 0x0806 7 ∷ write 0x1600 0x0FFF ∷ []))
    -- "of a tag, all but the bits of other gates in commands 0x2 and 0x3"
    ∷ case (behind (tagged 0xBEEF_2004 ∷ tagged 0xBEEF_3000 ∷ [])) (part3 (tag 0xBEEF_2FFF ∷ tag 0xBEEF_3FFB ∷ []))
    ∷ case (behind (tagged 0xBEEF_1FFF ∷ tagged 0xBEEF_4FFF ∷ tagged 0xBEEF_0FFF ∷ tagged 0xBEEF_FFFF ∷ []))
    (part3 (tag 0xBEEF_1FFF ∷ tag 0xBEEF_4FFF ∷ tag 0xBEEF_0FFF ∷ tag 0xBEEF_FFFF ∷ []))
    -- "of a download, dataset, length and, if that is 512, c's four words"
    ∷ case (behind (downloaded 31 512 (1 ∷ 2 ∷ 3 ∷ 4 ∷ []) ∷ [])) (part3 (download 31 words ∷ []))
    ∷ case (behind (downloaded 32 512 (1 ∷ 2 ∷ 3 ∷ 4 ∷ []) ∷ [])) (part3 (download 32 words ∷ []))
    ∷ case (behind (downloaded 0 511 [] ∷ downloaded 0 0 [] ∷ [])) (part3 (download 0 (replicate 511 7) ∷ download 0 [] ∷ []))
    ∷ []

-- ---- the sheet

abbrev values : ℤ → ℤ → ℤ → Bool → Bool → Shown
values count positive negative over under = record { count = count; positive = positive; negative = negative; over = over; under = under }

-- count, thresholds and both overflow bits, each its own
abbrev pub shown_cases : List (Case Shown)
shown_cases =
    case (values (pos 6) (pos 5) (negsuc 0) true false) (shown (with_count (with_thresholds counter0 (pos 5) (negsuc 0)) (pos 6)) true false)
    ∷ case (values (negsuc 1) (pos 5) (negsuc 0) false true) (shown (with_count (with_thresholds counter0 (pos 5) (negsuc 0)) (negsuc 1)) false true)
    ∷ []

-- what counter 3 shows in its sheet after these parts
abbrev sheet3 : List Part → Shown
sheet3 parts = sheet_shows (sheet_after 3 parts)

-- at thresholds 0
abbrev counted : ℕ → Shown
counted zero = values (pos 0) (pos 0) (pos 0) false false
counted (suc n) = values (pos (suc n)) (pos 0) (pos 0) true false

-- UP input 0, DOWN input 5, gate 2 in direct mode; n rises of UP, of DOWN, with the gate high; n ticks with all low
abbrev counting : List Part
counting = patched 0x2140 ∷ moded 0x004 ∷ []

abbrev ups : ℕ → List Part
ups zero = []
ups (suc n) = ticked false 0x01 0x004 ∷ ticked false 0x00 0x004 ∷ ups n

abbrev downs : ℕ → List Part
downs zero = []
downs (suc n) = ticked false 0x20 0x004 ∷ ticked false 0x00 0x004 ∷ downs n

abbrev idle : ℕ → List Part
idle n = replicate n (ticked false 0 0)

-- gate 2 goes to ERROR, as its input is high in IDLE; its prepare bit is set
abbrev failing : List Part
failing = patched 0x2140 ∷ prepared 0x004 ∷ ticked false 0 0x004 ∷ []

-- thresholds 5 and -1 in dataset 0, asked for: the loader takes the request in the first tick and handles counter 3 in the fifth
abbrev loading : List Part
loading = stored 0 5 ∷ stored 2 0xFFFF ∷ stored 3 0xFFFF ∷ reloaded 0x1000 ∷ []

abbrev pub sheet_cases : List (Case Shown)
sheet_cases =
    case (counted 0) (sheet3 [])
    -- UP, DOWN, both, the gate low
    ∷ case (counted 3) (sheet3 (counting ++ ups 3))
    ∷ case (values (negsuc 1) (pos 0) (pos 0) false true) (sheet3 (counting ++ downs 2))
    ∷ case (counted 0) (sheet3 (counting ++ (ticked false 0x21 0x004 ∷ [])))
    ∷ case (counted 0) (sheet3 (counting ++ (ticked false 0x01 0x000 ∷ [])))
    -- "a false rise when a counter is re-patched": to a line that is high there is none, and the next one counts
    ∷ case (counted 0) (sheet3 (moded 0x004 ∷ ticked false 0x01 0x004 ∷ patched 0x2140 ∷ ticked false 0x01 0x004 ∷ []))
    ∷ case (counted 1) (sheet3 (moded 0x004 ∷ ticked false 0x01 0x004 ∷ patched 0x2140 ∷ ticked false 0x01 0x004 ∷ ticked false 0 4 ∷ ups 1))
    -- "A refused call leaves it as it was": levels of a refused tick are not kept
    ∷ case (counted 1) (sheet3 (counting ++ (ticked true 0x01 0x004 ∷ ticked false 0x01 0x004 ∷ [])))
    ∷ case (counted 1) (sheet3 (counting ++ (ticked false 0x01 0x004 ∷ ticked true 0x00 0x004 ∷ ticked false 0x01 0x004 ∷ [])))
    -- a gate that becomes own late has gone its way before: PREPARE, GATE, and then the counter counts under it
    ∷ case (counted 1) (sheet3 (prepared 0x004 ∷ ticked false 0 0x000 ∷ ticked false 0 0x004 ∷ patched 0x2140 ∷ ticked false 0x01 0x004 ∷ []))
    -- "GATE 12 to 15 is never open"
    ∷ case (counted 0) (sheet3 (patched 0xC140 ∷ moded 0xFFF ∷ ticked false 0x01 0xFFF ∷ []))
    ∷ case (counted 0) (sheet3 (patched 0xF140 ∷ moded 0xFFF ∷ ticked false 0x01 0xFFF ∷ []))
    -- RESET at the write, and held; AUTORESET clears and then counts
    ∷ case (counted 0) (sheet3 (counting ++ ups 2 ++ (controlled 0x0001 ∷ [])))
    ∷ case (counted 0) (sheet3 (counting ++ (controlled 0x0001 ∷ ups 2)))
    ∷ case (counted 1) (sheet3 (counting ++ ups 2 ++ (controlled 0x0002 ∷ ticked false 0 0 ∷ ups 1)))
    -- command 0x4: with the right key, a wrong one, events off
    ∷ case (counted 0) (sheet3 (counting ++ ups 2 ++ (keyed 0xBEEF ∷ enabled 1 ∷ tagged 0xBEEF_4000 ∷ [])))
    ∷ case (counted 2) (sheet3 (counting ++ ups 2 ++ (keyed 0xBEEF ∷ enabled 1 ∷ tagged 0xBEEE_4000 ∷ [])))
    ∷ case (counted 2) (sheet3 (counting ++ ups 2 ++ (keyed 0xBEEF ∷ enabled 0 ∷ tagged 0xBEEF_4000 ∷ [])))
    -- a prepare pulse of an own gate opens it as its bit does
    ∷ case (counted 1)
    (sheet3 (patched 0x2140 ∷ enabled 1 ∷ tagged 0x2004 ∷ ticked false 0 0x000 ∷ ticked false 0 0x004 ∷ ticked false 0x01 0x004 ∷ []))
    -- test phases: 25,000 kHz rises first at tick 5
    ∷ case (counted 0) (sheet3 (patched 0x2DBF ∷ moded 0x004 ∷ replicate 4 (ticked false 0 0x004)))
    ∷ case (counted 1) (sheet3 (patched 0x2DBF ∷ moded 0x004 ∷ replicate 5 (ticked false 0 0x004)))
    -- an own gate's timeout and timer: with timeout 0 the first low tick in PREPARE ends in ERROR, with timeout 1 the gate still opens
    ∷ case (counted 0) (sheet3 (patched 0x2140 ∷ prepared 0x004 ∷ idle 2 ++ (ticked false 0x01 0x004 ∷ [])))
    ∷ case (counted 1) (sheet3 (patched 0x2140 ∷ timed 2 1 ∷ prepared 0x004 ∷ idle 2 ++ (ticked false 0x01 0x004 ∷ [])))
    -- last prepare signal: held high through RECOVER it is no rise, dropped and set again it is; recover by its bit and by a pulse
    ∷ case (counted 0) (sheet3 (failing ++ (recovered 0x004 ∷ idle 1 ++ (recovered 0x000 ∷ idle 2 ++ (ticked false 0x01 0x004 ∷ [])))))
    ∷ case (counted 1)
    (sheet3 (failing ++ (recovered 0x004 ∷ idle 1 ++ (recovered 0x000 ∷ prepared 0x000 ∷ idle 1 ++ (prepared 0x004 ∷ idle 1 ++ (ticked false 0x01 0x004 ∷ []))))))
    ∷ case (counted 1)
    (sheet3 (failing ++ (enabled 1 ∷ tagged 0x3004 ∷ prepared 0x000 ∷ idle 2 ++ (prepared 0x004 ∷ idle 1 ++ (ticked false 0x01 0x004 ∷ [])))))
    -- mode cleared: DIRECT goes to IDLE, where a high input is an error
    ∷ case (counted 1) (sheet3 (counting ++ (ticked false 0x01 0x004 ∷ moded 0x000 ∷ ticked false 0x00 0x004 ∷ ticked false 0x01 0x004 ∷ [])))
    -- thresholds: in the fifth tick, not in the fourth; "Equal is neither"
    ∷ case (counted 0) (sheet3 (loading ++ idle 4))
    ∷ case (values (pos 0) (pos 5) (negsuc 0) false false) (sheet3 (loading ++ idle 5))
    ∷ case (values (pos 5) (pos 5) (negsuc 0) false false) (sheet3 (loading ++ counting ++ ups 5))
    ∷ case (values (pos 6) (pos 5) (negsuc 0) true false) (sheet3 (loading ++ counting ++ ups 6))
    ∷ case (values (negsuc 0) (pos 5) (negsuc 0) false false) (sheet3 (loading ++ counting ++ downs 1 ++ idle 3))
    ∷ case (values (negsuc 1) (pos 5) (negsuc 0) false true) (sheet3 (loading ++ counting ++ downs 2 ++ idle 1))
    -- "as it is then": a word stored at the fourth tick is taken in the fifth
    ∷ case (values (pos 0) (pos 9) (negsuc 0) false false) (sheet3 (loading ++ idle 4 ++ (stored 0 9 ∷ idle 1)))
    -- "A counter whose group equals the request's"
    ∷ case (counted 0) (sheet3 (grouped 1 ∷ loading ++ idle 5))
    ∷ case (values (pos 0) (pos 5) (pos 0) false false) (sheet3 (grouped 1 ∷ stored 0 5 ∷ reloaded 0x1100 ∷ idle 5))
    -- "Reload requests of neighbours are in the own part, since the queue is shared": one of group 1 before ours takes 129 ticks
    ∷ case (counted 0) (sheet3 (stored 0 5 ∷ reloaded 0x1100 ∷ reloaded 0x0000 ∷ reloaded 0x1000 ∷ idle 133))
    ∷ case (values (pos 0) (pos 5) (pos 0) false false) (sheet3 (stored 0 5 ∷ reloaded 0x1100 ∷ reloaded 0x0000 ∷ reloaded 0x1000 ∷ idle 134))
    -- dataset 31 has own words 124 to 127
    ∷ case (values (pos 0) (pos 5) (pos 0) false false) (sheet3 (stored 124 5 ∷ reloaded 0x101F ∷ idle 5))
    -- a download of 512 words, of 511, and into dataset 32
    ∷ case (values (pos 0) (pos 7) (pos 0) false false) (sheet3 (downloaded 0 512 (7 ∷ 0 ∷ 0 ∷ 0 ∷ []) ∷ reloaded 0x1000 ∷ idle 5))
    ∷ case (counted 0) (sheet3 (downloaded 0 511 (7 ∷ 0 ∷ 0 ∷ 0 ∷ []) ∷ reloaded 0x1000 ∷ idle 5))
    ∷ case (counted 0) (sheet3 (downloaded 32 512 (7 ∷ 0 ∷ 0 ∷ 0 ∷ []) ∷ reloaded 0x1000 ∷ idle 5))
    ∷ []

-- the requests that wait in the sheet: "its own queue decides refusal 5", and 4 is decided without it
abbrev requests : ℕ → List Part
requests zero = []
requests (suc n) = tagged 0x1000 ∷ requests n

abbrev waiting3 : List Part → ℕ
waiting3 parts = (sheet_after 3 (enabled 1 ∷ parts)).common.queue.waiting

abbrev pub queue_cases : List (Case ℕ)
queue_cases =
    case 16 (waiting3 (requests 16))
    ∷ case 16 (waiting3 (requests 17))
    ∷ case 15 (waiting3 (requests 16 ++ idle 1))
    ∷ case 16 (waiting3 (requests 16 ++ idle 1 ++ requests 1))
    ∷ case 0 (waiting3 (tagged 0x1020 ∷ reloaded 0x1020 ∷ []))
    ∷ case 1 (waiting3 (tagged 0x101F ∷ []))
    -- TRIGGER set where it is set is no request; a refused write leaves it clear
    ∷ case 1 (waiting3 (reloaded 0x1000 ∷ reloaded 0x1001 ∷ []))
    ∷ case 1 (waiting3 (reloaded 0x1020 ∷ reloaded 0x1000 ∷ []))
    -- also one that a full queue refuses
    ∷ case 16 (waiting3 (requests 16 ++ (reloaded 0x1000 ∷ []) ++ idle 1 ++ (reloaded 0x1000 ∷ [])))
    ∷ []

-- ---- side effects of writes

-- of these addresses, one or two of each kind of register, those that follow a write
abbrev looked : List ℕ
looked =
    0x0630 ∷ 0x0638 ∷ 0x0700 ∷ 0x0707 ∷ 0x0708 ∷ 0x070F ∷ 0x0710 ∷ 0x0711 ∷ 0x0712 ∷ 0x0714 ∷ 0x0717 ∷ 0x0718 ∷ 0x0719 ∷ 0x071A ∷ 0x0800 ∷ 0x0801
    ∷ 0x0802 ∷ 0x0804 ∷ 0x0810 ∷ 0x0900 ∷ 0x0901 ∷ 0x0902 ∷ 0x0903 ∷ 0x0904 ∷ 0x0905 ∷ 0x0906 ∷ 0x0A00 ∷ 0x0A01 ∷ 0x0A02 ∷ 0x0A03 ∷ 0x0A04
    ∷ 0x1000 ∷ 0x1100 ∷ 0x1200 ∷ 0x12FF ∷ 0x1300 ∷ 0x1600 ∷ 0x1800 ∷ 0x8000 ∷ 0xC000 ∷ []

abbrev following : ℕ → List ℕ → List ℕ
following a [] = []
following a (b ∷ bs) = pick (follows_at a b) (b ∷ following a bs) (following a bs)

abbrev pub follow_cases : List (Case (List ℕ))
follow_cases =
    -- 0x0801: overflow bits, interlocks and counts
    case (0x0700 ∷ 0x0707 ∷ 0x0708 ∷ 0x070F ∷ 0x0719 ∷ 0x1200 ∷ 0x12FF ∷ []) (following 0x0801 looked)
    -- 0x0810 on: the errors of its own word, and interlocks
    ∷ case (0x0711 ∷ 0x0719 ∷ []) (following 0x0810 looked)
    ∷ case (0x0712 ∷ 0x0719 ∷ []) (following 0x0811 looked)
    ∷ case (0x0714 ∷ 0x0719 ∷ []) (following 0x0813 looked)
    -- selection words: interlocks
    ∷ case (0x0719 ∷ []) (following 0x1100 looked)
    ∷ case (0x0719 ∷ []) (following 0x11B5 looked)
    -- 0x0A02: the queue's length
    ∷ case (0x0905 ∷ []) (following 0x0A02 looked)
    -- and no other write
    ∷ case [] (following 0x0630 looked)
    ∷ case [] (following 0x0700 looked)
    ∷ case [] (following 0x0800 looked)
    ∷ case [] (following 0x0802 looked)
    ∷ case [] (following 0x0804 looked)
    ∷ case [] (following 0x0905 looked)
    ∷ case [] (following 0x0A00 looked)
    ∷ case [] (following 0x0A01 looked)
    ∷ case [] (following 0x0A03 looked)
    ∷ case [] (following 0x0A04 looked)
    ∷ case [] (following 0x1000 looked)
    ∷ case [] (following 0x1600 looked)
    ∷ case [] (following 0x8000 looked)
    ∷ case [] (following 0xC000 looked)
    ∷ []

-- ---- the tables are right
own_lines_right : computed_in line_cases ≡ expected_in line_cases
unfolding computing
own_lines_right = refl

own_parts_right : computed_in part_cases ≡ expected_in part_cases
unfolding computing
own_parts_right = refl

shown_right : computed_in shown_cases ≡ expected_in shown_cases
unfolding computing
shown_right = refl

sheets_right : computed_in sheet_cases ≡ expected_in sheet_cases
unfolding computing
sheets_right = refl

queues_right : computed_in queue_cases ≡ expected_in queue_cases
unfolding computing
queues_right = refl

follows_right : computed_in follow_cases ≡ expected_in follow_cases
unfolding computing
follows_right = refl
