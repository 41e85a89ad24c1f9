-- Worked cases of sliding sums, written out by hand from document 02, CR 4; those of the longest windows are in starred_cases/proofs/Sums.antt.
use Rattle.std.proofs.Common.{◌≡◌, ℕ, ◌-◌, List, [], ◌∷◌, ℤ, pos, negsuc, refl, ap, ◌∙◌, arith, Ok, Err}
use lib.Signed.{mag}
use Rattle.sums.specs.Fed.{Slid, Went, begin, fed, feed}
use Rattle.sums.specs.Fresh.{Samples, fresh_sum, last_of, total}
use Rattle.sums.specs.Fresh.Samples.{more, none}
use Rattle.sums.specs.Sums.{start_outcome, is_ready, no_window, refusal, sample_of, sliding, start_of, sample_outcome, number_of, state_left}
use Rattle.sums.proofs.Runs.{fresh_sum_lem}

abbrev minus : ℕ → ℤ
minus n = negsuc (n - 1)

-- ---- starts

-- a ring of three words, and of four
abbrev three : List ℤ
three = pos 7 ∷ minus 8 ∷ pos 9 ∷ []

abbrev four : List ℤ
four = pos 7 ∷ minus 8 ∷ pos 9 ∷ minus 1 ∷ []

-- a ring just as long as the window, a word longer, a word short; windows of 1 and of 0
exactly : start_of 3 three ≡ start_outcome (Ok (sliding 3 0 (pos 0))) (pos 0 ∷ pos 0 ∷ pos 0 ∷ [])
unfolding start_of is_ready
exactly = refl

longer : start_of 3 four ≡ start_outcome (Ok (sliding 3 0 (pos 0))) (pos 0 ∷ pos 0 ∷ pos 0 ∷ minus 1 ∷ [])
unfolding start_of is_ready
longer = refl

one_short : start_of 4 three ≡ start_outcome (Err refusal) three
unfolding start_of is_ready
one_short = refl

-- the number of a refusal, and the state that a refused start leaves
told : (number_of (start_of 4 three).answer ≡ 14) × (state_left (start_of 4 three).answer ≡ sliding 0 0 (pos 0))
unfolding start_of is_ready
told = (refl, refl)

of_one : start_of 1 three ≡ start_outcome (Ok (sliding 1 0 (pos 0))) (pos 0 ∷ minus 8 ∷ pos 9 ∷ [])
unfolding start_of is_ready
of_one = refl

of_none : start_of 0 three ≡ start_outcome (Err refusal) three
unfolding start_of is_ready
of_none = refl

-- ---- samples

-- a window of 3: the first sample, the third, the fourth, which takes the first one's word; the word past the window stays
first : sample_of (sliding 3 0 (pos 0)) (pos 0 ∷ pos 0 ∷ pos 0 ∷ minus 1 ∷ []) (pos 10) ≡
    sample_outcome (Ok (pos 10)) (sliding 3 1 (pos 10)) (pos 10 ∷ pos 0 ∷ pos 0 ∷ minus 1 ∷ [])
unfolding sample_of is_ready
first = refl

third : sample_of (sliding 3 2 (pos 30)) (pos 10 ∷ pos 20 ∷ pos 0 ∷ minus 1 ∷ []) (minus 35) ≡
    sample_outcome (Ok (minus 5)) (sliding 3 0 (minus 5)) (pos 10 ∷ pos 20 ∷ minus 35 ∷ minus 1 ∷ [])
unfolding sample_of is_ready
third = refl

fourth : sample_of (sliding 3 0 (minus 5)) (pos 10 ∷ pos 20 ∷ minus 35 ∷ minus 1 ∷ []) (pos 40) ≡
    sample_outcome (Ok (pos 25)) (sliding 3 1 (pos 25)) (pos 40 ∷ pos 20 ∷ minus 35 ∷ minus 1 ∷ [])
unfolding sample_of is_ready
fourth = refl

-- a window of 1: the sum is the sample
alone : sample_of (sliding 1 0 (pos 5)) (pos 5 ∷ minus 8 ∷ []) (minus 3) ≡ sample_outcome (Ok (minus 3)) (sliding 1 0 (minus 3)) (minus 3 ∷ minus 8 ∷ [])
unfolding sample_of is_ready
alone = refl

-- the place at the window, the last place; a ring a word short; the state of a refused start
at_the_window : sample_of (sliding 3 3 (pos 9)) four (pos 1) ≡ sample_outcome (Err refusal) (sliding 3 3 (pos 9)) four
unfolding sample_of is_ready
at_the_window = refl

below_the_window : sample_of (sliding 3 2 (pos 9)) three (pos 1) ≡ sample_outcome (Ok (pos 1)) (sliding 3 0 (pos 1)) (pos 7 ∷ minus 8 ∷ pos 1 ∷ [])
unfolding sample_of is_ready
below_the_window = refl

ring_short : sample_of (sliding 4 0 (pos 9)) three (pos 1) ≡ sample_outcome (Err refusal) (sliding 4 0 (pos 9)) three
unfolding sample_of is_ready
ring_short = refl

after_refused : sample_of no_window three (pos 1) ≡ sample_outcome (Err refusal) no_window three
unfolding sample_of is_ready
after_refused = refl

-- states and rings that no start gave: a sum past the largest number of 64 bits, one past the smallest, the smallest number taken off
past_the_top : sample_of (sliding 2 0 (pos 9223372036854775807)) (pos 0 ∷ pos 0 ∷ []) (pos 1) ≡
    sample_outcome (Ok (minus 9223372036854775808)) (sliding 2 1 (minus 9223372036854775808)) (pos 1 ∷ pos 0 ∷ [])
unfolding sample_of is_ready
past_the_top = refl

past_the_bottom : sample_of (sliding 2 1 (minus 9223372036854775808)) (pos 0 ∷ pos 0 ∷ []) (minus 2147483648) ≡
    sample_outcome (Ok (pos 9223372034707292160)) (sliding 2 0 (pos 9223372034707292160)) (pos 0 ∷ minus 2147483648 ∷ [])
unfolding sample_of is_ready
past_the_bottom = refl

smallest_off : sample_of (sliding 1 0 (pos 0)) (minus 9223372036854775808 ∷ []) (pos 0) ≡
    sample_outcome (Ok (minus 9223372036854775808)) (sliding 1 0 (minus 9223372036854775808)) (pos 0 ∷ [])
unfolding sample_of is_ready
smallest_off = refl

-- ---- sums added up afresh

fresh : fresh_sum 3 (pos 10 ∷ pos 20 ∷ minus 35 ∷ pos 40 ∷ []) ≡ pos 25
unfolding fresh_sum last_of total
fresh = refl

fresh_fewer : fresh_sum 3 (pos 10 ∷ pos 20 ∷ []) ≡ pos 30
unfolding fresh_sum last_of total
fresh_fewer = refl

fresh_one : fresh_sum 1 (pos 10 ∷ pos 20 ∷ []) ≡ pos 20
unfolding fresh_sum last_of total
fresh_one = refl

fresh_none : fresh_sum 3 [] ≡ pos 0
unfolding fresh_sum last_of total
fresh_none = refl

-- ---- a start and samples

run : feed (begin 3 four) (pos 10 ∷ pos 20 ∷ minus 35 ∷ pos 40 ∷ []) ≡ fed (sliding 3 1 (pos 25)) (pos 40 ∷ pos 20 ∷ minus 35 ∷ minus 1 ∷ [])
unfolding feed begin start_of sample_of is_ready
run = refl

-- ---- what the theorems ask for is met, and by no more: samples of 32 bits; a start and samples; the calls of the code that make them

both_ends : Samples (minus 2147483648 ∷ pos 2147483647 ∷ [])
both_ends = more {x = minus 2147483648} (omega arith) (more {x = pos 2147483647} (omega arith) none)

too_wide : (x : ℤ) → mag x ≡ 2147483648 → Samples (x ∷ []) → ⊥
too_wide x e (more h none) = omega arith

samples : Samples (pos 10 ∷ pos 20 ∷ minus 35 ∷ pos 40 ∷ [])
samples = more {x = pos 10} (omega arith) (more {x = pos 20} (omega arith) (more {x = minus 35} (omega arith) (more {x = pos 40} (omega arith) none)))

fed_afresh : (sample_of (feed (begin 3 four) (pos 10 ∷ pos 20 ∷ minus 35 ∷ [])).state (feed (begin 3 four) (pos 10 ∷ pos 20 ∷ minus 35 ∷ [])).ring (pos 40)).answer ≡ Ok (pos 25)
unfolding start_of is_ready
fed_afresh = (fresh_sum_lem 3 four (pos 10 ∷ pos 20 ∷ minus 35 ∷ []) (pos 40) refl samples).0 ∙ ap (λ (z : ℤ). Ok z) fresh

calls : Slid 3 (pos 10 ∷ []) (fed (sliding 3 1 (pos 10)) (pos 10 ∷ pos 0 ∷ pos 0 ∷ minus 1 ∷ []))
unfolding Slid Went start_of sample_of is_ready
calls =
    let ring : List ℤ = pos 0 ∷ pos 0 ∷ pos 0 ∷ minus 1 ∷ [] in
    let left : List ℤ = pos 10 ∷ pos 0 ∷ pos 0 ∷ minus 1 ∷ [] in (
      four,
      sliding 3 0 (pos 0),
      ring,
      refl,
      (Ok (pos 10), sliding 3 1 (pos 10), left, refl, refl),
    )
