-- Document 02, CR 4: a run of samples since one start, of the functions that are lent words, by their contracts alone.
use Rattle.std.specs.Prelude.{ℕ, List, [], ◌∷◌, ◌≡◌, ℤ, length}
use Rattle.lent.specs.Sums.{LentSample, LentStart, state_words, sum_sample_of, sum_start_of, sum_words}

-- lent words and the ring
pub record Words : Type 0 where
  pub state : List ℕ
  pub ring : List ℤ

abbrev pub words : List ℕ → List ℤ → Words
words state ring = record { state = state; ring = ring }

-- each of these samples was taken by a `sum_sample` that was lent the words as the last one left them, and one word for the sum
unfoldable pub LentWent : Words → List ℤ → Words → Type 0
LentWent v [] w = w ≡ v
LentWent v (x ∷ xs) w =
    (sum : List ℤ) × (r : LentSample) × (length sum ≡ sum_words) × (r ≡ sum_sample_of v.state v.ring x sum) × LentWent (words r.state r.ring) xs w

-- a `sum_start` with this window that was lent three words and not refused, and then these samples, left w
unfoldable pub LentSlid : ℕ → List ℤ → Words → Type 0
LentSlid window samples w =
    (state : List ℕ) × (ring : List ℤ) × (r : LentStart) × (length state ≡ state_words) × (r ≡ sum_start_of state ring window) × (r.status ≡ 0)
    × LentWent (words r.state r.ring) samples w
