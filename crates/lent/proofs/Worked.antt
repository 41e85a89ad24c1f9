-- Worked cases of sliding sums in lent words.
use Prim.Native.Nat.{ℕ, ◌-◌}
use mathlib.Core.List.{List, [], ◌∷◌}
use mathlib.Core.Path.{◌≡◌, refl}
use lib.IntN.{ℤ, pos, negsuc}
use Rattle.sums.specs.Sums.{is_ready, sample_of, sliding, start_of}
use Rattle.lent.specs.Fed.{LentSlid, LentWent, words}
use Rattle.lent.specs.Sums.{lent_sample, lent_start, state_in, sum_sample_of, sum_start_of, words_of}

abbrev minus : ℕ → ℤ
minus n = negsuc (n - 1)

-- a sum of -1, and the smallest
of_minus_one : words_of (sliding 3 2 (minus 1)) ≡ 3 ∷ 2 ∷ 18446744073709551615 ∷ []
of_minus_one = refl

smallest_in : state_in (3 ∷ 2 ∷ 9223372036854775808 ∷ []) ≡ sliding 3 2 (minus 9223372036854775808)
unfolding state_in
smallest_in = refl

-- starts: taken, refused 14, and a state of two and of four words
ring : List ℤ
ring = pos 7 ∷ minus 8 ∷ pos 9 ∷ []

begins : sum_start_of (1 ∷ 1 ∷ 1 ∷ []) ring 2 ≡ lent_start 0 (2 ∷ 0 ∷ 0 ∷ []) (pos 0 ∷ pos 0 ∷ pos 9 ∷ [])
unfolding ring sum_start_of start_of is_ready
begins = refl

no_window_lem : sum_start_of (1 ∷ 1 ∷ 1 ∷ []) ring 0 ≡ lent_start 14 (0 ∷ 0 ∷ 0 ∷ []) ring
unfolding ring sum_start_of start_of is_ready
no_window_lem = refl

two_words : sum_start_of (1 ∷ 1 ∷ []) ring 2 ≡ lent_start 255 (1 ∷ 1 ∷ []) ring
unfolding sum_start_of
two_words = refl

four_words : sum_start_of (1 ∷ 1 ∷ 1 ∷ 1 ∷ []) ring 0 ≡ lent_start 255 (1 ∷ 1 ∷ 1 ∷ 1 ∷ []) ring
unfolding sum_start_of
four_words = refl

-- samples: taken, refused 14 at a place past the window, and a sum of no and of two words
samples : sum_sample_of (2 ∷ 1 ∷ 18446744073709551615 ∷ []) ring (pos 5) (pos 1 ∷ []) ≡
    lent_sample 0 (2 ∷ 0 ∷ 12 ∷ []) (pos 7 ∷ pos 5 ∷ pos 9 ∷ []) (pos 12 ∷ [])
unfolding ring sum_sample_of state_in sample_of is_ready
samples = refl

past_the_window : sum_sample_of (2 ∷ 2 ∷ 18446744073709551615 ∷ []) ring (pos 5) (pos 1 ∷ []) ≡
    lent_sample 14 (2 ∷ 2 ∷ 18446744073709551615 ∷ []) ring (pos 0 ∷ [])
unfolding ring sum_sample_of state_in sample_of is_ready
past_the_window = refl

no_sum : sum_sample_of (2 ∷ 2 ∷ 0 ∷ []) ring (pos 5) [] ≡ lent_sample 255 (2 ∷ 2 ∷ 0 ∷ []) ring []
unfolding sum_sample_of
no_sum = refl

two_sums : sum_sample_of (2 ∷ 0 ∷ 0 ∷ []) ring (pos 5) (pos 1 ∷ pos 1 ∷ []) ≡ lent_sample 255 (2 ∷ 0 ∷ 0 ∷ []) ring (pos 1 ∷ pos 1 ∷ [])
unfolding sum_sample_of
two_sums = refl

-- the calls that `lent_sum_fresh` asks for
calls : LentSlid 2 (pos 5 ∷ []) (words (2 ∷ 1 ∷ 5 ∷ []) (pos 5 ∷ pos 0 ∷ pos 9 ∷ []))
unfolding LentSlid LentWent ring sum_start_of sum_sample_of state_in start_of sample_of is_ready
calls = (
  1 ∷ 1 ∷ 1 ∷ [],
  ring,
  lent_start 0 (2 ∷ 0 ∷ 0 ∷ []) (pos 0 ∷ pos 0 ∷ pos 9 ∷ []),
  refl,
  refl,
  refl,
  (pos 1 ∷ [], lent_sample 0 (2 ∷ 1 ∷ 5 ∷ []) (pos 5 ∷ pos 0 ∷ pos 9 ∷ []) (pos 5 ∷ []), refl, refl, refl),
)
