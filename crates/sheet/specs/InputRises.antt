-- Document 02, request 1: the raw count of an input, said of a list of calls alone.
use Rattle.std.specs.Prelude.{ℕ, ◌+◌, ◌%◌, ◌^◌, Bool, false, not, ◌&&◌, List, [], ◌∷◌}
use Rattle.bools.specs.Pick.{pick}
use Rattle.words.specs.Word.{bit, bit_of}
use Rattle.registers.specs.Calls.{Call, tick, write, tag, download}
use Rattle.lines.specs.Lines.{bad_levels}

-- an input's levels in the accepted ticks. Of the rest of a list only that is looked at whether a tick is refused: no write, no tag, no
-- download, no level of another line that exists
unfoldable pub levels_of : ℕ → List Call → List Bool
levels_of i [] = []
levels_of i (tick inputs gates ∷ l) = pick (bad_levels inputs gates) (levels_of i l) (bit inputs i ∷ levels_of i l)
levels_of i (write a w ∷ l) = levels_of i l
levels_of i (tag t ∷ l) = levels_of i l
levels_of i (download d words ∷ l) = levels_of i l

-- how often a line rises: "when it is high now and was low at the last tick"
unfoldable pub rises_in : Bool → List Bool → ℕ
rises_in before [] = 0
rises_in before (now ∷ l) = bit_of (now && not before) + rises_in now l

-- "at power-up all were low"; "a 32-bit count of its rises, wrapping"
abbrev pub raw_count : ℕ → List Call → ℕ
raw_count i l = rises_in false (levels_of i l) % 2 ^ 32
