-- What holds of the words that patch a counter, each proved by citing the law of `words` that does the work.
use Prim.Native.Nat.{ℕ, ◌+◌, ◌*◌, ◌/◌, ◌^◌, ◌<◌}
use native.Mathlib.Nat.{mod-eq_of_lt}
use native.Mathlib.Omega.{arith}
use mathlib.Core.Bool.{false}
use mathlib.Core.Logic.{inl}
use mathlib.Core.Path.{◌≡◌, refl, ◌∙◌}
use lib.Dec.{lit<}
use Rattle.std.specs.Prelude.{Option, Some, None, unwrap_or}
use Rattle.bools.proofs.Tests.{pick_ap}
use Rattle.words.specs.Word.{field_of, nibble, put_of}
use Rattle.words.proofs.Fields.{put_lt}
use Rattle.words.proofs.Theorems.{other_nibble, put_then_other, put_then_same}
use Rattle.patching.specs.Patching.{counter_count, gate_values, group_answer, group_count, group_place, group_word_of, grouped, input_answer, input_word_of, is_grouping, is_patch, no_word, patched, selection_values}
use Rattle.patching.proofs.input_word.Reads as input_word_reads
use Rattle.patching.proofs.group_word.Reads as group_word_reads
use Rattle.patching.proofs.Made.{made, placed}

-- "UP in bits 5-0, DOWN in 11-6, GATE in 15-12": they are the selections and the gate that were asked for
pub input_up : (up down gate : ℕ) → up < selection_values → down < selection_values → gate < gate_values → field_of (input_word_of up down gate) 0 6 ≡ up
input_up up down gate u d g =
    rw (made up down gate u d g)
    (put_then_other (put_of (put_of 0 0 6 up) 6 6 down) 12 4 gate 0 6 (inl (lit< tt))
    ∙ put_then_other (put_of 0 0 6 up) 6 6 down 0 6 (inl (lit< tt))
    ∙ put_then_same 0 0 6 up
    ∙ mod-eq_of_lt u)

pub input_down : (up down gate : ℕ) → up < selection_values → down < selection_values → gate < gate_values → field_of (input_word_of up down gate) 6 6 ≡ down
input_down up down gate u d g =
    rw (made up down gate u d g)
    (put_then_other (put_of (put_of 0 0 6 up) 6 6 down) 12 4 gate 6 6 (inl (lit< tt)) ∙ put_then_same (put_of 0 0 6 up) 6 6 down ∙ mod-eq_of_lt d)

pub input_gate : (up down gate : ℕ) → up < selection_values → down < selection_values → gate < gate_values → field_of (input_word_of up down gate) 12 4 ≡ gate
input_gate up down gate u d g = rw (made up down gate u d g) (put_then_same (put_of (put_of 0 0 6 up) 6 6 down) 12 4 gate ∙ mod-eq_of_lt g)

-- it is a word of 16 bits
pub input_is_word : (up down gate : ℕ) → up < selection_values → down < selection_values → gate < gate_values → input_word_of up down gate < 2 ^ 16
input_is_word up down gate u d g =
    rw (made up down gate u d g)
    (put_lt 16 12 4 (put_of (put_of 0 0 6 up) 6 6 down) gate
    (put_lt 16 6 6 (put_of 0 0 6 up) down (put_lt 16 0 6 0 up (lit< tt) (lit< tt)) (lit< tt))
    (lit< tt))

-- as a number
pub input_number : (up down gate : ℕ) → up < selection_values → down < selection_values → gate < gate_values → input_word_of up down gate ≡ gate * 2 ^ 12 + down * 2 ^ 6 + up
input_number up down gate u d g = made up down gate u d g ∙ omega arith

-- every word of 16 bits is the word of its own fields: no patching is out of reach
pub input_of_fields : (w : ℕ) → w < 2 ^ 16 → input_word_of (field_of w 0 6) (field_of w 6 6) (field_of w 12 4) ≡ w
input_of_fields w h = input_number (field_of w 0 6) (field_of w 6 6) (field_of w 12 4) (omega arith) (omega arith) (omega arith) ∙ omega arith

-- where one of the three does not fit its field there is no word
pub input_none : (up down gate : ℕ) → is_patch up down gate ≡ false → input_word_of up down gate ≡ no_word
unfolding input_word_of
input_none up down gate e = rw e

-- the counter's own four bits are the group that was asked for
pub group_own : (word counter group : ℕ) → counter < counter_count → group < group_count → nibble (group_word_of word counter group) (group_place counter) ≡ group
unfolding nibble
group_own word counter group c g = rw (placed word counter group c g) (put_then_same word (4 * group_place counter) 4 group ∙ mod-eq_of_lt g)

-- "each other counter's nibble is unchanged"
pub group_others : (word counter group k : ℕ) → counter < counter_count → group < group_count → (k ≡ group_place counter → ⊥) → nibble (group_word_of word counter group) k ≡ nibble word k
group_others word counter group k c g e = rw (placed word counter group c g) (other_nibble word (group_place counter) group k e)

-- so another counter of the same register keeps its group
pub group_neighbour : (word counter group other : ℕ) → counter < counter_count → group < group_count → other / 4 ≡ counter / 4 → (other ≡ counter → ⊥) →
    nibble (group_word_of word counter group) (group_place other) ≡ nibble word (group_place other)
group_neighbour word counter group other c g same e = group_others word counter group (group_place other) c g (λ p. e (omega arith))

-- the made word of a word of 16 bits is one too
pub group_is_word : (word counter group : ℕ) → word < 2 ^ 16 → counter < counter_count → group < group_count → group_word_of word counter group < 2 ^ 16
group_is_word word counter group w c g =
    rw (placed word counter group c g) (put_lt 16 (4 * group_place counter) 4 word group w (omega arith))

-- where there is no such counter or group there is no word
pub group_none : (word counter group : ℕ) → is_grouping counter group ≡ false → group_word_of word counter group ≡ no_word
unfolding group_word_of
group_none word counter group e = rw e

-- what the functions answer is that word, and none where there is none
pub input_answered : (up down gate : ℕ) → unwrap_or (input_answer up down gate) no_word ≡ input_word_of up down gate
unfolding input_answer input_word_of
input_answered up down gate = pick_ap (λ (r : Option ℕ). unwrap_or r no_word) (is_patch up down gate) (Some (patched up down gate)) None

pub group_answered : (word counter group : ℕ) → unwrap_or (group_answer word counter group) no_word ≡ group_word_of word counter group
unfolding group_answer group_word_of
group_answered word counter group = pick_ap (λ (r : Option ℕ). unwrap_or r no_word) (is_grouping counter group) (Some (grouped word counter group)) None

-- what a caller learns from `input_word` and `group_word` is that they answer so: a holds the arguments
pub input_word_contract : input_word_reads.Learnt ≡ (λ κs a r s. r ≡ input_answer a.0 a.1.0 a.1.1.0)
input_word_contract = refl

pub group_word_contract : group_word_reads.Learnt ≡ (λ κs a r s. r ≡ group_answer a.0 a.1.0 a.1.1.0)
group_word_contract = refl
