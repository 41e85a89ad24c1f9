-- Document 02, CR 4: what holds of sliding sums, by the definitions and of the code.
use Rattle.std.proofs.Common.{◌≡◌, ℕ, ◌^◌, ◌<◌, ◌≤◌, ◌≢◌, List, [], ◌∷◌, ◌++◌, length, get_or, ℤ, pos, refl, Ok, Err}
use Rattle.std.specs.Prelude.{IsErr, IsOk, Result}
use lib.Signed.{mag}
use Rattle.sums.specs.declared.BadSum.{BadSum}
use Rattle.sums.specs.declared.Sliding.{Sliding}
use Rattle.sums.specs.Fed.{Begun, Fed, Slid, Taken, begin, feed}
use Rattle.sums.specs.Fresh.{Samples, fresh_sum}
use Rattle.sums.specs.Sums.{no_window, refusal, sample_of, start_of, state_left, sample_outcome}
use Rattle.sums.proofs.Sliding.start.Reads as start_reads
use Rattle.sums.proofs.Sliding.sample.Reads as sample_reads
use Rattle.sums.proofs.Runs.{code_fresh, fresh_sum_lem}
use Rattle.sums.proofs.Words.{none_after, past_sample, past_start, ranged, ranged_start, reads_one, same_length, start_length, writes_one}

-- ---- by the definitions

-- "After any run of samples since one start .. the sum equals one added up afresh": after a start that is not refused, and any samples of 32 bits, one
-- more is not refused, and its sum, which the state keeps, is that of the last W, this one included, as integers
pub sum_fresh : (window : ℕ) (ring samples : List ℤ) (x : ℤ) → IsOk (start_of window ring).answer → Samples (samples ++ (x ∷ [])) →
    let f : Fed = feed (begin window ring) samples in
    ((sample_of f.state f.ring x).answer ≡ Ok (fresh_sum window (samples ++ (x ∷ []))))
    × ((sample_of f.state f.ring x).state.sum ≡ fresh_sum window (samples ++ (x ∷ [])))
sum_fresh = fresh_sum_lem

-- after a start that is refused every sample is, whatever the ring
pub none_fed : (window : ℕ) (ring : List ℤ) → IsErr (start_of window ring).answer → (other : List ℤ) (x : ℤ) →
    sample_of (state_left (start_of window ring).answer) other x ≡ sample_outcome (Err refusal) no_window other
none_fed = none_after

-- of every state and ring: a sample looks at one word of the ring, that at the place, and at the ring's length
pub one_read : (s : Sliding) (ring other : List ℤ) (x : ℤ) → length ring ≡ length other → get_or ring s.place (pos 0) ≡ get_or other s.place (pos 0) →
    ((sample_of s ring x).answer ≡ (sample_of s other x).answer) × ((sample_of s ring x).state ≡ (sample_of s other x).state)
one_read s ring other x = reads_one s ring x other

-- it changes no other, and the ring keeps its length
pub one_written : (s : Sliding) (ring : List ℤ) (x : ℤ) →
    (length (sample_of s ring x).ring ≡ length ring) × ((i : ℕ) → i ≢ s.place → get_or (sample_of s ring x).ring i (pos 0) ≡ get_or ring i (pos 0))
one_written s ring x = (same_length s ring x, writes_one s ring x)

-- "words past W stay"
pub past_stays : (window : ℕ) (ring : List ℤ) →
    (length (start_of window ring).ring ≡ length ring) × ((i : ℕ) → window ≤ i → get_or (start_of window ring).ring i (pos 0) ≡ get_or ring i (pos 0))
past_stays window ring = (start_length window ring, past_start window ring)

pub past_stays_fed : (s : Sliding) (ring : List ℤ) (x : ℤ) (i : ℕ) → s.window ≤ i → get_or (sample_of s ring x).ring i (pos 0) ≡ get_or ring i (pos 0)
past_stays_fed = past_sample

-- the sum of a start's state is of 64 bits, and a state whose sum is of 64 bits is followed by one
pub start_ranged : (window : ℕ) (ring : List ℤ) → mag (state_left (start_of window ring).answer).sum < 2 ^ 63
start_ranged = ranged_start

pub sum_ranged : (s : Sliding) (ring : List ℤ) (x : ℤ) → mag s.sum < 2 ^ 63 → mag (sample_of s ring x).state.sum < 2 ^ 63
sum_ranged = ranged

-- ---- of the code

-- what a caller learns from `start` and from `sample` is the statement of specs/Fed.antt: a holds the arguments, s what the lent ones are at the end
pub start_contract : start_reads.Learnt ≡ (λ κs a r s. Begun a.0 a.1.0.now r s.1.0.now)
start_contract = refl

pub sample_contract : sample_reads.Learnt ≡ (λ κs a r s. Taken a.0.now a.1.0.now a.1.1.0 r s.0.now s.1.0.now)
sample_contract = refl

-- after a call of `start` that was not refused and calls of `sample`, each given the state and the ring that the last one left, the next `sample` is not
-- refused and returns the sum of the last W, which its state keeps
pub code_sum_fresh : (window : ℕ) (samples : List ℤ) (x : ℤ) (f : Fed) (r : Result ℤ BadSum) (after : Sliding) (left : List ℤ) → Slid window samples f →
    Taken f.state f.ring x r after left → Samples (samples ++ (x ∷ [])) →
    (r ≡ Ok (fresh_sum window (samples ++ (x ∷ [])))) × (after.sum ≡ fresh_sum window (samples ++ (x ∷ [])))
code_sum_fresh = code_fresh
