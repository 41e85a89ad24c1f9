-- Worked rows of the settled part, by hand from document 01 and from what `repeats` is to drop (specs/Settled.antt): what neighbours do in shared registers is dropped, what counter 5 is given stays.
use Prim.Native.Nat.{ℕ, ◌+◌, ◌-◌, ◌*◌, ◌^◌}
use mathlib.Core.List.{List, [], ◌∷◌, ◌++◌}
use lib.ListN.{length, replicate}
use Rattle.lists.specs.Checks.{Row, row}
use Rattle.registers.specs.Calls.{Call, tick, write, tag, download}
use Rattle.sheet.specs.OwnPart.{own_part_of}
use Rattle.sheet.specs.Settled.{settled_part_of}

-- Counter 5 counts input 3 under gate 2, which is in DIRECT with its prepare bit set; it is in group 3; events are on, with a key; a tick.
abbrev pub base : List Call
base =
    write 0x1005 0x2D83 ∷ write 0x0802 0x0004 ∷ write 0x0A03 0x0004 ∷ write 0x1601 0x0030 ∷ write 0x0A00 0xBEEF ∷ write 0x0A01 0x0001
    ∷ tick (2 ^ 3) 0x0004 ∷ []

-- ten for each part of a list in c's own part, one for each in its settled part
abbrev pub parts : List Call → ℕ
parts l = 10 * length (own_part_of 5 l) + length (settled_part_of 5 l)

-- the same of calls that are made after `base`: 10 is a part that is dropped, 11 one that stays
abbrev pub more : List Call → ℕ
more l = parts (base ++ l) - parts base

-- a dataset with one word that is not 0
abbrev pub one_word : ℕ → ℕ → List ℕ
one_word before behind = replicate before 0 ++ (1 ∷ replicate behind 0)

-- two lists that differ for neighbours alone, who write shared registers, pulse their gates, download, and are refused a tick and a request
abbrev pub alone : List Call
alone = base ++ (tag 0xBEEF_3004 ∷ tick 0 0 ∷ [])

abbrev pub crowded : List Call
crowded =
    base
    ++ (write 0x0802 0x0FFF ∷ write 0x0A03 0x000C ∷ write 0x0A04 0x0FFB ∷ write 0x1601 0x4231 ∷ write 0x1006 0x3D83 ∷ tag 0xBEEF_2FFB
    ∷ download 31 (one_word 19 492) ∷ tag 0xBEEF_3004 ∷ tag 0xBEEF_3006 ∷ tick (2 ^ 54) 0 ∷ tag 0xBEEF_1020 ∷ tick (2 ^ 4) 0x0008
    ∷ write 0x0802 0x0004 ∷ [])

unfoldable pub shared_rows : List Row
shared_rows =
    row 77 (parts base)
    -- bits of other gates in 0x0802, 0x0A03 and 0x0A04; ours cleared or set
    ∷ row 10 (more (write 0x0802 0x0FFF ∷ []))
    ∷ row 11 (more (write 0x0802 0x0FFB ∷ []))
    ∷ row 10 (more (write 0x0A03 0x000C ∷ []))
    ∷ row 11 (more (write 0x0A03 0x0008 ∷ []))
    ∷ row 10 (more (write 0x0A04 0x0FFB ∷ []))
    ∷ row 11 (more (write 0x0A04 0x0004 ∷ []))
    -- groups of counters 4, 6 and 7; ours; back in our group it is no repeat of what stood before
    ∷ row 10 (more (write 0x1601 0x4231 ∷ []))
    ∷ row 11 (more (write 0x1601 0x0020 ∷ []))
    ∷ row 22 (more (write 0x1601 0x0020 ∷ write 0x1601 0x0030 ∷ []))
    -- pulses of other gates; ours, a second one before the tick, also behind a refused tick, one after it; prepare is not recover
    ∷ row 20 (more (tag 0xBEEF_2FFB ∷ tag 0xBEEF_3FFB ∷ []))
    ∷ row 21 (more (tag 0xBEEF_2004 ∷ tag 0xBEEF_2006 ∷ []))
    ∷ row 31 (more (tag 0xBEEF_3004 ∷ tick 0 0x1000 ∷ tag 0xBEEF_3004 ∷ []))
    ∷ row 33 (more (tag 0xBEEF_2004 ∷ tick 0 0 ∷ tag 0xBEEF_2004 ∷ []))
    ∷ row 22 (more (tag 0xBEEF_2004 ∷ tag 0xBEEF_3004 ∷ []))
    -- tags with a wrong key, with events off, of commands that do nothing; command 0x4, with RESET clear and set
    ∷ row 10 (more (tag 0xBEEE_4000 ∷ []))
    ∷ row 21 (more (write 0x0A01 0x0000 ∷ tag 0xBEEF_4000 ∷ []))
    ∷ row 30 (more (tag 0xBEEF_0004 ∷ tag 0xBEEF_5004 ∷ tag 0xBEEF_F004 ∷ []))
    ∷ row 11 (more (tag 0xBEEF_4000 ∷ []))
    ∷ row 21 (more (write 0x0801 0x0001 ∷ tag 0xBEEF_4000 ∷ []))
    -- requests by tag, dataset 31 and, refused 4, dataset 32; by register, also 0x0A02 as it stands
    ∷ row 21 (more (tag 0xBEEF_101F ∷ tag 0xBEEF_1020 ∷ []))
    ∷ row 33 (more (write 0x0A02 0x0000 ∷ write 0x0A02 0x1000 ∷ write 0x0A02 0x1000 ∷ []))
    -- ticks: refused 6 for an input and for a gate, one more at the same levels
    ∷ row 20 (more (tick (2 ^ 54) 0x0004 ∷ tick (2 ^ 3) 0x1004 ∷ []))
    ∷ row 11 (more (tick (2 ^ 3) 0x0004 ∷ []))
    -- downloads: refused 11 and 4, words of counters 4 and 6, our first and our last
    ∷ row 20 (more (download 0 (one_word 20 490) ∷ download 32 (one_word 20 491) ∷ []))
    ∷ row 20 (more (download 31 (one_word 19 492) ∷ download 31 (one_word 24 487) ∷ []))
    ∷ row 11 (more (download 31 (one_word 20 491) ∷ []))
    ∷ row 21 (more (download 31 (one_word 23 488) ∷ download 31 (one_word 23 488) ∷ []))
    -- memory words, one of counter 6 among them
    ∷ row 21 (more (write 0x8014 0x0007 ∷ write 0x8014 0x0007 ∷ write 0x8018 0x0007 ∷ []))
    -- RESET, once and again; unused bits; key and events as they are; an own gate's timeout as it is and another, and gate 3's
    ∷ row 21 (more (write 0x0801 0x0001 ∷ write 0x0801 0xFFFD ∷ []))
    ∷ row 30 (more (write 0x0801 0x0000 ∷ write 0x0A00 0xBEEF ∷ write 0x0A01 0xFFFF ∷ []))
    ∷ row 11 (more (write 0x0A00 0xBEEE ∷ []))
    ∷ row 21 (more (write 0x0806 0x0000 ∷ write 0x0806 0x0001 ∷ write 0x0807 0x0001 ∷ []))
    -- the input register as it is, a neighbour's, and ours moved and moved back
    ∷ row 10 (more (write 0x1005 0x2D83 ∷ write 0x1006 0x2D83 ∷ []))
    ∷ row 22 (more (write 0x1005 0x3D83 ∷ write 0x1005 0x2D83 ∷ []))
    -- the two lists above: 9 parts, and 19 of which 9 stay
    ∷ row 99 (parts alone)
    ∷ row 199 (parts crowded)
    ∷ []
