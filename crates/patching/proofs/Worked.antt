-- Worked cases of the words that patch a counter.
use mathlib.Core.Path.{◌≡◌, refl}
use Rattle.patching.specs.Patching.{group_word_of, input_word_of}

-- document 01's example trace: UP input 0, DOWN ground, gate 0
example_word : input_word_of 0 54 0 ≡ 0x0D80
unfolding input_word_of
example_word = refl

-- "at power-up 0xFDB6 (both ground, no gate)"
power_up_word : input_word_of 54 54 15 ≡ 0xFDB6
unfolding input_word_of
power_up_word = refl

-- each field alone, and the largest values
up_alone : input_word_of 63 0 0 ≡ 0x003F
unfolding input_word_of
up_alone = refl

down_alone : input_word_of 0 63 0 ≡ 0x0FC0
unfolding input_word_of
down_alone = refl

gate_alone : input_word_of 0 0 15 ≡ 0xF000
unfolding input_word_of
gate_alone = refl

-- one past the largest
no_up : input_word_of 64 0 0 ≡ 0x10000
unfolding input_word_of
no_up = refl

no_down : input_word_of 0 64 0 ≡ 0x10000
unfolding input_word_of
no_down = refl

no_gate : input_word_of 0 0 16 ≡ 0x10000
unfolding input_word_of
no_gate = refl

-- a group for each place of a register, and that of counter 127
group_first : group_word_of 0x4321 0 15 ≡ 0x432F
unfolding group_word_of
group_first = refl

group_second : group_word_of 0x4321 1 15 ≡ 0x43F1
unfolding group_word_of
group_second = refl

group_third : group_word_of 0x4321 22 0 ≡ 0x4021
unfolding group_word_of
group_third = refl

group_last : group_word_of 0x4321 127 5 ≡ 0x5321
unfolding group_word_of
group_last = refl

-- one past the largest
no_counter : group_word_of 0x4321 128 0 ≡ 0x10000
unfolding group_word_of
no_counter = refl

no_group : group_word_of 0x4321 0 16 ≡ 0x10000
unfolding group_word_of
no_group = refl
