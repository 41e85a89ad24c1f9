-- A capture as arrays of nine bytes: their frames are the capture's.
use Prim.Native.Nat.{ℕ, zero, suc, ◌+◌, ◌*◌, ◌/◌, ◌≤◌, ◌<◌}
use native.Mathlib.Nat.{add_assoc, add-zero}
use native.Mathlib.Numerals.{add-one}
use native.Mathlib.Omega.{arith}
use mathlib.Core.List.{List, [], ◌∷◌}
use mathlib.Core.Path.{◌≡◌, refl, ap, ◌∙◌}
use lib.ListN.{length, drop, take, drop_of_length-le, get_or}
use lib.Seq.{drop-cons, drop-drop}
use Rattle.std.proofs.lemmas.Simd.{get_or-chunk}
use Rattle.std.specs.Simd.{first_chunks}
use Rattle.lists.proofs.Tables.{get_d_tabulate, length_tabulate}
use Rattle.records.specs.Records.{number_at}
use Rattle.captures.specs.Captures.{frame_at, frames_of}
use Rattle.captures.specs.Nine.{frames_in}
use Rattle.captures.specs.Written.{Frame, frame}

module _ (capture : List ℕ) where
  pub frames_length : length (frames_of capture) ≡ length capture / 9
  unfolding frames_of
  frames_length = length_tabulate (length capture / 9) (frame_at capture)

  -- the frames from i on
  abbrev pub rest : ℕ → List Frame
  rest i = drop i (frames_of capture)

  pub rest_more : (i : ℕ) → i < length capture / 9 → rest i ≡ frame_at capture i ∷ rest (i + 1)
  rest_more i h =
      let l : i < length (frames_of capture) = omega (arith, frames_length) in
      let e : get_or (frames_of capture) i (frame_at capture i) ≡ frame_at capture i =
      unfold frames_of in (get_d_tabulate (length capture / 9) (frame_at capture) i (frame_at capture i) h) in
      drop-cons (frames_of capture) i (frame_at capture i) l ∙ rw (e, add-one)

  pub rest_none : (i : ℕ) → length capture / 9 ≤ i → rest i ≡ []
  rest_none i h = let l : length (frames_of capture) ≤ i = omega (arith, frames_length) in drop_of_length-le (frames_of capture) l

  -- ---- nine bytes of it

  number_in : (a at n : ℕ) → at + n ≤ 9 → number_at (take 9 (drop a capture)) at n ≡ number_at capture (a + at) n
  unfolding number_at
  number_in a at zero h = refl
  number_in a at (suc n) h =
      rw (number_in a at n (omega arith), get_or-chunk a 9 capture (at + n) 0 (omega arith), add_assoc a at n)

  array_frame : (i : ℕ) → frame_at (take 9 (drop (9 * i) capture)) 0 ≡ frame_at capture i
  unfolding frame_at
  array_frame i =
      let a : number_at (take 9 (drop (9 * i) capture)) 0 7 ≡ number_at capture (9 * i) 7 = number_in (9 * i) 0 7 (omega arith) ∙ rw add-zero in
      let b : number_at (take 9 (drop (9 * i) capture)) 7 2 ≡ number_at capture (9 * i + 7) 2 = number_in (9 * i) 7 2 (omega arith) in
      λ j. frame (a j) (b j)

  arrays_from : (k i : ℕ) → i + k ≡ length capture / 9 → frames_in (first_chunks 9 k (drop (9 * i) capture)) ≡ rest i
  unfolding frames_in
  arrays_from zero i e = rw (rest_none i (omega arith))
  arrays_from (suc k) i e =
      let d : drop 9 (drop (9 * i) capture) ≡ drop (9 * (i + 1)) capture = drop-drop 9 (9 * i) capture ∙ ap (λ (n : ℕ). drop n capture) (omega arith) in
      rw (rest_more i (omega arith), array_frame i, d) (ap (λ (xs : List Frame). frame_at capture i ∷ xs) (arrays_from k (i + 1) (omega arith)))

  pub arrays_frames : frames_in (first_chunks 9 (length capture / 9) capture) ≡ frames_of capture
  arrays_frames = arrays_from (length capture / 9) 0 (omega arith)
