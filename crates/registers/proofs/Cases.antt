-- What the tables of worked cases are made of: lists of calls, and what is read or answered after them.
use Prim.Native.Nat.{ℕ, zero, suc, ◌+◌, ◌*◌}
use mathlib.Core.List.{List, [], ◌∷◌, ◌++◌}
use lib.ListN.{replicate}
use Rattle.words.specs.Word.{bit, bit_of}
use Rattle.causes.specs.Causes.{number_of}
use Rattle.registers.specs.Calls.{Call, tick, write, answer, after}
use Rattle.reading.specs.Read.{read_of}
pub use Rattle.reading.specs.Read.{word_shown}

-- the word at an address after a list, and a bit of it
abbrev pub reads : List Call → ℕ → ℕ
reads l a = word_shown (read_of (after l) a)

abbrev pub reads_bit : List Call → ℕ → ℕ → ℕ
reads_bit l a i = bit_of (bit (reads l a) i)

-- the number of a call after a list
abbrev pub answers : List Call → Call → ℕ
answers l x = number_of (answer (after l) x)

-- the number of a read after a list
abbrev pub read_answers : List Call → ℕ → ℕ
read_answers l a = number_of (read_of (after l) a)

-- a call made n times
abbrev pub often : ℕ → Call → List Call
often n x = replicate n x

-- input 0 pulses n times with gate 0 high
abbrev pub pulses : ℕ → List Call
pulses zero = []
pulses (suc n) = tick 1 1 ∷ tick 0 1 ∷ pulses n

-- counter 0 counts the selection `up` under gate 0, which is in direct mode
abbrev pub counting : ℕ → List Call
counting up = write 0x1000 (0x0D80 + up) ∷ write 0x0802 1 ∷ []

-- register 0x0A02 with TRIGGER, and the write that sets and clears it again
abbrev pub triggered : ℕ → ℕ → ℕ
triggered dataset group = 0x1000 + 256 * group + dataset

abbrev pub asked : ℕ → ℕ → List Call
asked dataset group = write 0x0A02 (triggered dataset group) ∷ write 0x0A02 0 ∷ []

abbrev pub asked_often : ℕ → List Call
asked_often zero = []
asked_often (suc n) = asked 0 0 ++ asked_often n
