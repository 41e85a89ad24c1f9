-- The answers where every number fits, and the order in which the fields are put.
use Prim.Native.Nat.{ℕ, ◌<◌}
use native.Mathlib.Omega.{arith}
use mathlib.Core.Path.{◌≡◌}
use borrow.Author.Tests.{lt-ltb}
use Rattle.words.specs.Word.{put_of}
use Rattle.patching.specs.Patching.{counter_count, gate_values, group_count, grouped, group_word_of, input_word_of, patched, selection_values}

pub made : (up down gate : ℕ) → up < selection_values → down < selection_values → gate < gate_values → input_word_of up down gate ≡ patched up down gate
unfolding input_word_of
made up down gate u d g = rw (lt-ltb up selection_values u, lt-ltb down selection_values d, lt-ltb gate gate_values g)

pub placed : (word counter group : ℕ) → counter < counter_count → group < group_count → group_word_of word counter group ≡ grouped word counter group
unfolding group_word_of
placed word counter group c g = rw (lt-ltb counter counter_count c, lt-ltb group group_count g)

-- the three fields put in from the highest down: the word is the same
pub selected : (up down gate : ℕ) → put_of (put_of (put_of 0 12 4 gate) 6 6 down) 0 6 up ≡ patched up down gate
selected up down gate = omega arith
