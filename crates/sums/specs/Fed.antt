-- Document 02, CR 4: "any run of samples since one start, each call given the state the last one returned, on a ring that nothing else changes":
-- by the definitions, and of the code by the contracts of `start` and `sample` alone.
use Rattle.std.specs.Prelude.{◌≡◌, ℕ, List, [], ◌∷◌, ℤ, Result}
use Rattle.std.specs.declared.result.Result.TheVariants.{Ok}
use Rattle.sums.specs.declared.BadSum.{BadSum}
use Rattle.sums.specs.declared.Sliding.{Sliding}
use Rattle.sums.specs.Sums.{sample_of, sample_outcome, start_of, start_outcome, state_left}

-- a state and its ring
pub record Fed : Type 0 where
  pub state : Sliding
  pub ring : List ℤ

abbrev pub fed : Sliding → List ℤ → Fed
fed state ring = record { state = state; ring = ring }

-- after a start on a lent ring
unfoldable pub begin : ℕ → List ℤ → Fed
begin window ring = fed (state_left (start_of window ring).answer) (start_of window ring).ring

-- after samples, in order
unfoldable pub feed : Fed → List ℤ → Fed
feed f [] = f
feed f (x ∷ xs) = feed (fed (sample_of f.state f.ring x).state (sample_of f.state f.ring x).ring) xs

-- Each of the next two is the contract of its function: proofs/Theorems.antt.

-- a `start` on a ring returned r and left this ring
abbrev pub Begun : ℕ → List ℤ → Result Sliding BadSum → List ℤ → Type 0
Begun window ring r left = start_outcome r left ≡ start_of window ring

-- a `sample` on a state and its ring returned r and left this state and this ring
abbrev pub Taken : Sliding → List ℤ → ℤ → Result ℤ BadSum → Sliding → List ℤ → Type 0
Taken s ring x r after left = sample_outcome r after left ≡ sample_of s ring x

-- the calls of samples, one after the other, went from f to g
unfoldable pub Went : Fed → List ℤ → Fed → Type 0
Went f [] g = g ≡ f
Went f (x ∷ xs) g = (r : Result ℤ BadSum) × (after : Sliding) × (left : List ℤ) × Taken f.state f.ring x r after left × Went (fed after left) xs g

-- a start with this window that was not refused, and then these samples, left g
unfoldable pub Slid : ℕ → List ℤ → Fed → Type 0
Slid window samples g =
    (ring : List ℤ) × (s : Sliding) × (left : List ℤ) × Begun window ring (Ok s) left × Went (fed s left) samples g
