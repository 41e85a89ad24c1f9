-- Which frames are the same, and the repeat that goes on over frames.
use Prim.Native.Nat.{ℕ, zero, suc, ◌+◌, ◌≤◌, min}
use native.Mathlib.Nat.{add-zero}
use native.Mathlib.Omega.{arith}
use mathlib.Core.Bool.{true, false}
use mathlib.Core.List.{List, [], ◌∷◌, map}
use mathlib.Core.Path.{◌≡◌, refl}
use borrow.Author.Tests.{eqb-true, eq-eqb, le-ltb, lt-ltb}
use lib.Dec.{eqb, ltb}
use lib.ListN.{drop, length, length-map, take}
use Rattle.std.proofs.Math.Nat.{min_comm}
use Rattle.std.proofs.lemmas.Bool.{and_parts}
use Rattle.std.proofs.lemmas.List.{take_min}
use Rattle.std.specs.List.{prefix_len}
use Rattle.bools.proofs.Tests.{cases}
use Rattle.captures.specs.Captures.{frame_at, same_frame}
use Rattle.captures.specs.Nine.{frames_in, records_in}
use Rattle.captures.specs.Repeats.{Repeat, Tells, joined, joined_from, repeat}
use Rattle.captures.specs.Written.{Frame, frame, largest_repeat}
use Rattle.captures.proofs.Fewest.{joined_few}

-- frames are told apart by their levels
pub frames_told : Tells same_frame
unfolding same_frame
frames_told = record {
  equal = λ x y e. λ i. frame (eqb-true x.inputs y.inputs (and_parts _ _ e).0 i) (eqb-true x.gates y.gates (and_parts (eqb x.inputs y.inputs) _ e).1 i);
  itself = λ x. rw (eq-eqb x.inputs x.inputs refl, eq-eqb x.gates x.gates refl);
}

-- the repeats of these arrays, with x standing n times before them
abbrev pub going : Frame → ℕ → List (List ℕ) → List (Repeat Frame)
going x n arrays = joined_from same_frame largest_repeat x n (frames_in arrays)

pub records_none : (arrays : List (List ℕ)) → length arrays ≡ 0 → records_in arrays ≡ []
unfolding joined frames_in
records_none [] e = refl
records_none (array ∷ arrays) e = absurd (omega (arith, e))

-- no more than frames
pub few_records : (arrays : List (List ℕ)) → length (records_in arrays) ≤ length arrays
unfolding frames_in
few_records arrays = let j = joined_few same_frame largest_repeat (map (λ a. frame_at a 0) arrays) in rw length-map at j

-- the first frame stands once
pub going_first : (x : Frame) (array : List ℕ) (rest : List (List ℕ)) {arrays : List (List ℕ)} → arrays ≡ array ∷ rest → x ≡ frame_at array 0 →
    records_in arrays ≡ going x 1 rest
unfolding joined frames_in
going_first x array rest s e = rw (s, e) refl

-- how many of the frames are x, among the first m
abbrev pub standing : Frame → ℕ → List (List ℕ) → ℕ
standing x m arrays = prefix_len (λ (array : List ℕ). same_frame x (frame_at array 0)) (take m arrays)

-- the frames within reach
pub near : (m : ℕ) (arrays : List (List ℕ)) {n : ℕ} → n ≡ min (length arrays) m → take n arrays ≡ take m arrays
near m arrays e = rw (e, min_comm, take_min)

-- x stands n times, and once more for each frame behind it that is the same, as far as a repeat goes
pub going_all : (x : Frame) (m n : ℕ) (arrays : List (List ℕ)) → n + m ≡ largest_repeat →
    going x n arrays ≡ repeat (n + standing x m arrays) x ∷ records_in (drop (standing x m arrays) arrays)
unfolding joined joined_from frames_in
going_all x zero n [] e = rw add-zero
going_all x zero n (array ∷ arrays) e =
    let l : ltb n largest_repeat ≡ false = le-ltb n largest_repeat (omega (arith, e)) in
    cases (same_frame x (frame_at array 0)) (λ s. rw (s, l, add-zero)) (λ s. rw (s, add-zero))
going_all x (suc m) n [] e = rw add-zero
going_all x (suc m) n (array ∷ arrays) e =
    let l : ltb n largest_repeat ≡ true = lt-ltb n largest_repeat (omega (arith, e)) in
    cases (same_frame x (frame_at array 0))
    (λ s.
    let k : ℕ = standing x m arrays in
    let d : 1 + k ≡ suc k = omega arith in
    let c : n + suc k ≡ n + 1 + k = omega arith in
    rw (s, l, d, c) (going_all x m (n + 1) arrays (omega (arith, e))))
    (λ s. rw (s, add-zero))
