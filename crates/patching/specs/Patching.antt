-- The words that patch a counter: document 01, "Counters" and "Writes and event tags", and the Manual's tables of the bits of these registers.
use Rattle.std.specs.Prelude.{ℕ, ◌*◌, ◌%◌, Bool, ◌&&◌, ltb, Option, Some, None}
use Rattle.bools.specs.Pick.{pick}
use Rattle.words.specs.Word.{put_of}

-- the answer where no word is as asked: above every word of 16 bits
abbrev pub no_word : ℕ
no_word = 0x10000

-- ---- an input register, 0x1000 + n

-- the Manual, Table 3.25: the values of a selection are 0 to 63
abbrev pub selection_values : ℕ
selection_values = 64

-- "GATE 12 to 15 is never open": values of the field, of which 12 to 15 are no gate
abbrev pub gate_values : ℕ
gate_values = 16

abbrev pub is_patch : ℕ → ℕ → ℕ → Bool
is_patch up down gate = ltb up selection_values && (ltb down selection_values && ltb gate gate_values)

-- the Manual, Table 3.24: UP_SEL in bits 5-0, DOWN_SEL in 11-6, GATE_SEL in 15-12; document 01, "Counters", says the same
abbrev pub patched : ℕ → ℕ → ℕ → ℕ
patched up down gate = put_of (put_of (put_of 0 0 6 up) 6 6 down) 12 4 gate

unfoldable pub input_word_of : ℕ → ℕ → ℕ → ℕ
input_word_of up down gate = pick (is_patch up down gate) (patched up down gate) no_word

-- the same as the code has it: none where there is no word
unfoldable pub input_answer : ℕ → ℕ → ℕ → Option ℕ
input_answer up down gate = pick (is_patch up down gate) (Some (patched up down gate)) None

-- ---- a group register, 0x1600 + n div 4

-- the Manual: "a pool of 128 up/down counter modules"
abbrev pub counter_count : ℕ
counter_count = 128

-- the Manual, 3.2.12: "Group numbers are four bits wide (0 to 15)"
abbrev pub group_count : ℕ
group_count = 16

abbrev pub is_grouping : ℕ → ℕ → Bool
is_grouping counter group = ltb counter counter_count && ltb group group_count

-- the Manual, Table 3.33: register N has counter 4 N in bits 3-0, 4 N + 1 in 7-4, 4 N + 2 in 11-8, 4 N + 3 in 15-12
abbrev pub group_place : ℕ → ℕ
group_place counter = counter % 4

-- "four bits a counter", "each other counter's nibble is unchanged"
abbrev pub grouped : ℕ → ℕ → ℕ → ℕ
grouped word counter group = put_of word (4 * group_place counter) 4 group

unfoldable pub group_word_of : ℕ → ℕ → ℕ → ℕ
group_word_of word counter group = pick (is_grouping counter group) (grouped word counter group) no_word

unfoldable pub group_answer : ℕ → ℕ → ℕ → Option ℕ
group_answer word counter group = pick (is_grouping counter group) (Some (grouped word counter group)) None
