-- Document 02, CR 2: "joining equal neighbours into the longest repeats that fit", over the elements and the largest repeat.
use Rattle.std.specs.Prelude.{ℕ, ◌+◌, ◌<◌, ◌≤◌, Bool, true, ◌&&◌, List, [], ◌∷◌, ◌++◌, ◌≡◌, ltb, replicate}
use Rattle.bools.specs.Pick.{pick}

-- an element and how often it stands
pub record Repeat (A : Type 0) : Type 0 where
  pub times : ℕ
  pub element : A

abbrev pub repeat : {A : Type 0} → ℕ → A → Repeat A
repeat n x = record { times = n; element = x }

-- a test that tells equal elements from others
pub record Tells {A : Type 0} (same : A → A → Bool) : Type 0 where
  pub equal : (x y : A) → same x y ≡ true → x ≡ y
  pub itself : (x : A) → same x x ≡ true

module _ {A : Type 0} (same : A → A → Bool) (limit : ℕ) where
  -- x stands n times so far: it goes on while the next is equal and the repeat is below the limit
  unfoldable pub joined_from : A → ℕ → List A → List (Repeat A)
  joined_from x n [] = repeat n x ∷ []
  joined_from x n (y ∷ ys) = pick (same x y && ltb n limit) (joined_from x (n + 1) ys) (repeat n x ∷ joined_from y 1 ys)

  -- the longest repeats first
  unfoldable pub joined : List A → List (Repeat A)
  joined [] = []
  joined (x ∷ xs) = joined_from x 1 xs

-- the elements of repeats, in order
unfoldable pub expand : {A : Type 0} → List (Repeat A) → List A
expand [] = []
expand (r ∷ rs) = replicate r.times r.element ++ expand rs

-- each repeat is from 1 to the limit
pub data Fit {A : Type 0} (limit : ℕ) : List (Repeat A) → Type 0 where
  none : Fit limit []
  more : {r : Repeat A} {rs : List (Repeat A)} → 1 ≤ r.times → r.times ≤ limit → Fit limit rs → Fit limit (r ∷ rs)

-- where two lists of repeats first differ the second has the longer one
pub data NoLongerFirst {A : Type 0} : List (Repeat A) → List (Repeat A) → Type 0 where
  ended : NoLongerFirst [] []
  shorter : {r q : Repeat A} {rs qs : List (Repeat A)} → r.times < q.times → NoLongerFirst (r ∷ rs) (q ∷ qs)
  equal : {r : Repeat A} {rs qs : List (Repeat A)} → NoLongerFirst rs qs → NoLongerFirst (r ∷ rs) (r ∷ qs)
