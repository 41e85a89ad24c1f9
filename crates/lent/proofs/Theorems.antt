-- Document 02, CR 4, for programs in C and Rust: what holds of sliding sums whose state is in lent words.
use Prim.Native.Nat.{ℕ, ◌^◌, ◌<◌}
use mathlib.Core.List.{List, [], ◌∷◌, ◌++◌}
use mathlib.Core.Path.{◌≡◌, refl}
use lib.IntN.{ℤ, pos}
use lib.ListN.{length}
use lib.Signed.{mag}
use Rattle.sums.specs.declared.Sliding.{Sliding}
use Rattle.sums.specs.Fresh.{Samples, fresh_sum}
use Rattle.sums.specs.Sums.{bad_sum, sample_of, start_of}
use Rattle.lent.specs.Fed.{LentSlid, Words}
use Rattle.lent.specs.Sums.{lent_sample, lent_sample_by, lent_start, lent_start_by, state_words, sum_sample_of, sum_start_of, sum_words, words_of}
use Rattle.lent.proofs.sum_start.Reads as sum_start_reads
use Rattle.lent.proofs.sum_sample.Reads as sum_sample_reads
use Rattle.lent.proofs.Runs.{lent_fresh, refused_leaves, sample_is, start_is}

-- a start that is lent three words is the start, its state as words
pub lent_start_lem : (state : List ℕ) (ring : List ℤ) (window : ℕ) → length state ≡ state_words → sum_start_of state ring window ≡ lent_start_by (start_of window ring)
lent_start_lem = start_is

-- a sample on the words of a state is the sample on the state, its state and its sum as words
pub lent_sample_lem : (s : Sliding) (ring : List ℤ) (x : ℤ) (sum : List ℤ) → mag s.sum < 2 ^ 63 → length sum ≡ sum_words →
    sum_sample_of (words_of s) ring x sum ≡ lent_sample_by (sample_of s ring x)
lent_sample_lem = sample_is

-- "A refused .. sample touches nothing": of three words of 64 bits, whatever they are; the sum is 0
pub lent_refused : (a b c : ℕ) (ring : List ℤ) (x : ℤ) (sum : List ℤ) → c < 2 ^ 64 → length sum ≡ sum_words →
    (sum_sample_of (a ∷ b ∷ c ∷ []) ring x sum).status ≡ bad_sum → sum_sample_of (a ∷ b ∷ c ∷ []) ring x sum ≡ lent_sample bad_sum (a ∷ b ∷ c ∷ []) ring (pos 0 ∷ [])
lent_refused = refused_leaves

-- what a caller learns from `sum_start` and `sum_sample` is what specs/Fed.antt takes of them: a holds the arguments, s what the lent ones are at the end
pub sum_start_contract : sum_start_reads.Learnt ≡ (λ κs a r s. lent_start r s.0.now s.1.0.now ≡ sum_start_of a.0.now a.1.0.now a.1.1.0)
sum_start_contract = refl

pub sum_sample_contract : sum_sample_reads.Learnt ≡
    (λ κs a r s. lent_sample r s.0.now s.1.0.now s.1.1.1.0.now ≡ sum_sample_of a.0.now a.1.0.now a.1.1.0 a.1.1.1.0.now)
sum_sample_contract = refl

-- after a call of `sum_start` that was not refused and calls of `sum_sample`, each lent the words that the last one left, the next one is not refused and
-- gives the sum of the last W samples, as integers, added up afresh
pub lent_sum_fresh : (window : ℕ) (samples : List ℤ) (x : ℤ) (w : Words) (sum : List ℤ) → LentSlid window samples w → length sum ≡ sum_words → Samples (samples ++ (x ∷ [])) →
    ((sum_sample_of w.state w.ring x sum).status ≡ 0) × ((sum_sample_of w.state w.ring x sum).sum ≡ fresh_sum window (samples ++ (x ∷ [])) ∷ [])
lent_sum_fresh = lent_fresh
