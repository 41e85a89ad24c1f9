-- Sliding sums of document 02, CR 4, for programs in C and Rust: the state in three lent words, the sum in one.
use Rattle.std.specs.Prelude.{ℕ, ◌&&◌, List, [], ◌∷◌, eqb, ℤ, pos, get_or, length}
use Rattle.std.specs.Result.{result_unwrap_or}
use Rattle.bools.specs.Pick.{pick}
use Rattle.numbers.specs.Signed.{signed, word_of}
use Rattle.sums.specs.declared.Sliding.{Sliding}
use Rattle.sums.specs.Sums.{SampleOutcome, StartOutcome, number_of, sample_of, sliding, start_of, state_left}
use Rattle.lent.specs.Lent.{bad_buffer}

-- window, place, and the sum as a word of 64 bits in two's complement
abbrev pub state_words : ℕ
state_words = 3

abbrev pub words_of : Sliding → List ℕ
words_of s = s.window ∷ s.place ∷ word_of 64 s.sum ∷ []

unfoldable pub state_in : List ℕ → Sliding
state_in words = sliding (get_or words 0 0) (get_or words 1 0) (signed 64 (get_or words 2 0))

-- what a start gives back, and what it leaves in the state and the ring that it was lent
pub record LentStart : Type 0 where
  pub status : ℕ
  pub state : List ℕ
  pub ring : List ℤ

abbrev pub lent_start : ℕ → List ℕ → List ℤ → LentStart
lent_start status state ring = record { status = status; state = state; ring = ring }

abbrev pub lent_start_by : StartOutcome → LentStart
lent_start_by x = lent_start (number_of x.answer) (words_of (state_left x.answer)) x.ring

-- nothing is done where the state has the wrong length
unfoldable pub sum_start_of : List ℕ → List ℤ → ℕ → LentStart
sum_start_of state ring window = pick (eqb (length state) state_words) (lent_start_by (start_of window ring)) (lent_start bad_buffer state ring)

abbrev pub sum_words : ℕ
sum_words = 1

-- what a sample gives back, and what it leaves in the state, the ring and the sum that it was lent
pub record LentSample : Type 0 where
  pub status : ℕ
  pub state : List ℕ
  pub ring : List ℤ
  pub sum : List ℤ

abbrev pub lent_sample : ℕ → List ℕ → List ℤ → List ℤ → LentSample
lent_sample status state ring sum = record { status = status; state = state; ring = ring; sum = sum }

abbrev pub lent_sample_by : SampleOutcome → LentSample
lent_sample_by x = lent_sample (number_of x.answer) (words_of x.state) x.ring (result_unwrap_or x.answer (pos 0) ∷ [])

-- nothing is done where the state or the sum has the wrong length
unfoldable pub sum_sample_of : List ℕ → List ℤ → ℤ → List ℤ → LentSample
sum_sample_of state ring sample sum =
    pick (eqb (length state) state_words && eqb (length sum) sum_words) (lent_sample_by (sample_of (state_in state) ring sample)) (lent_sample bad_buffer state ring sum)
