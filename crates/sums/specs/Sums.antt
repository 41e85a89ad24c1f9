-- Document 02, CR 4: "32-bit samples of the count are fed in and the sum over the last W is given".
use Rattle.std.specs.Prelude.{ℕ, ◌+◌, ◌%◌, Bool, ◌&&◌, List, ◌++◌, length, drop, replicate, ℤ, pos, ◌+ℤ◌, ◌-ℤ◌, nat_le, nat_lt, slice_index_or, slice_set, Result}
use Rattle.std.specs.declared.result.Result.TheVariants.{Ok, Err}
use Rattle.std.specs.Result.{result_unwrap_or}
use Rattle.bools.specs.Pick.{pick}
use Rattle.numbers.specs.Signed.{wrapped}
use Rattle.causes.specs.declared.Cause.{Cause}
use Rattle.causes.specs.declared.Cause.TheVariants as causes
use Rattle.causes.specs.Causes.{cause_number}
use Rattle.sums.specs.declared.BadSum.{BadSum}
use Rattle.sums.specs.declared.Sliding.{Sliding}

abbrev pub sliding : ℕ → ℕ → ℤ → Sliding
sliding window place sum = record { window = window; place = place; sum = sum }

-- "W from 1 to 65,536"
abbrev pub largest_window : ℕ
largest_window = 65536

-- "Checks, at the start and at each sample: W outside its range, the ring shorter than W, or a state whose place in the ring is not below W, 14."
abbrev pub cause_of : BadSum → Cause
cause_of _ = causes.BadSum

abbrev pub bad_sum : ℕ
bad_sum = cause_number causes.BadSum

abbrev pub refusal : BadSum
refusal = record {}

-- the number of an answer: 0 or that of its refusal
abbrev pub number_of : {A : Type 0} → Result A BadSum → ℕ
number_of (Ok _) = 0
number_of (Err _) = bad_sum

unfoldable pub is_ready : ℕ → ℕ → ℕ → Bool
is_ready window place words = (nat_le 1 window && nat_le window largest_window) && (nat_le window words && nat_lt place window)

-- what a start answers and leaves: the state or its refusal, and the ring
pub record StartOutcome : Type 0 where
  pub answer : Result Sliding BadSum
  pub ring : List ℤ

abbrev pub start_outcome : Result Sliding BadSum → List ℤ → StartOutcome
start_outcome answer ring = record { answer = answer; ring = ring }

-- "with earlier samples as zero": the first W words are cleared; "words past W stay"
abbrev pub cleared : ℕ → List ℤ → List ℤ
cleared window ring = replicate window (pos 0) ++ drop window ring

-- a start has the place 0
unfoldable pub start_of : ℕ → List ℤ → StartOutcome
start_of window ring =
    pick (is_ready window 0 (length ring)) (start_outcome (Ok (sliding window 0 (pos 0))) (cleared window ring)) (start_outcome (Err refusal) ring)

-- where a refused start has to leave a state, one on which every sample is refused
abbrev pub no_window : Sliding
no_window = sliding 0 0 (pos 0)

abbrev pub state_left : Result Sliding BadSum → Sliding
state_left answer = result_unwrap_or answer no_window

-- what a sample answers and leaves: the sum or its refusal, the state, the ring
pub record SampleOutcome : Type 0 where
  pub answer : Result ℤ BadSum
  pub state : Sliding
  pub ring : List ℤ

abbrev pub sample_outcome : Result ℤ BadSum → Sliding → List ℤ → SampleOutcome
sample_outcome answer state ring = record { answer = answer; state = state; ring = ring }

-- the new sample in, the oldest out, whatever state and ring are: "elsewhere sums wrap at 64 bits"
abbrev pub next_sum : ℤ → ℤ → ℤ → ℤ
next_sum sum sample oldest = wrapped 64 ((sum +ℤ sample) -ℤ oldest)

abbrev pub next_sum_by : Sliding → List ℤ → ℤ → ℤ
next_sum_by s ring sample = next_sum s.sum sample (slice_index_or ring s.place (pos 0))

-- the sample takes the oldest one's word, and the place moves on
abbrev pub sample_taken : Sliding → List ℤ → ℤ → SampleOutcome
sample_taken s ring sample =
    sample_outcome (Ok (next_sum_by s ring sample)) (sliding s.window ((s.place + 1) % s.window) (next_sum_by s ring sample)) (slice_set ring s.place sample)

-- "A refused start or sample touches nothing": state and ring stay as they were
unfoldable pub sample_of : Sliding → List ℤ → ℤ → SampleOutcome
sample_of s ring sample =
    pick (is_ready s.window s.place (length ring)) (sample_taken s ring sample) (sample_outcome (Err refusal) s ring)
