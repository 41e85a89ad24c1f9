-- The checks of a conversion in their order, each by what the code learns there.
use Prim.Native.Nat.{ℕ, ◌/◌, ◌%◌, ◌≤◌, ◌<◌}
use native.Mathlib.Omega.{arith}
use mathlib.Core.Bool.{Bool, true, false}
use mathlib.Core.List.{List, ◌++◌}
use mathlib.Core.Path.{◌≡◌, refl, sym, ap, ◌∙◌}
use borrow.Author.Tests.{eqb-true, eqb-false, eq-eqb, ne_eqb, lt-ltb, le-ltb}
use lib.Dec.{eqb}
use lib.ListN.{length, drop}
use Rattle.std.specs.Simd.{first_chunks}
use Rattle.std.proofs.Common.{◌≢◌, Ok, Err}
use Rattle.bools.specs.Pick.{pick}
use Rattle.captures.specs.declared.Refusal.{Refusal}
use Rattle.captures.specs.declared.Refusal.TheVariants.{NotFrames, BadLevel, NoRoom}
use Rattle.captures.specs.Captures.{conversion, conversion_of, first_bad, frames_of, has_bad, records_of, refusal, same_frame, trace_of}
use Rattle.captures.specs.Nine.{bytes_in, frames_in, trace_in}
use Rattle.captures.specs.Repeats.{joined}
use Rattle.captures.specs.Written.{Frame, largest_repeat, written}
use Rattle.captures.proofs.Arrays.{arrays_frames}

-- ---- whole frames: r tells whether the n bytes past them are none

module _ {n m : ℕ} {r : Bool} (e : n ≡ m) (t : r ≡ eqb n 0) where
  pub some_left : r ≡ false → m ≢ 0
  some_left h z = eqb-false n 0 (sym t ∙ h) (e ∙ z)

  pub none_left : r ≡ true → m ≡ 0
  none_left h = sym e ∙ eqb-true n 0 (sym t ∙ h)

-- ---- a length or a bad level, told by a test

refused_by : (b : Bool) (frame bytes : ℕ) (why : Refusal) → Err why ≡ pick b (Err (BadLevel frame)) (Ok bytes) → (b ≡ true) × (why ≡ BadLevel frame)
refused_by true frame bytes why e = (refl, cc)
refused_by false frame bytes why e = absurd cc

sized_by : (b : Bool) (frame bytes : ℕ) (n : ℕ) → Ok n ≡ pick b (Err (BadLevel frame)) (Ok bytes) → (b ≡ false) × (n ≡ bytes)
sized_by true frame bytes n e = absurd cc
sized_by false frame bytes n e = (refl, cc)

-- ---- what is answered and left

module _ (capture out : List ℕ) where
  pub ragged_told : length capture % 9 ≢ 0 → refusal NotFrames out ≡ conversion_of capture out
  unfolding conversion_of
  ragged_told h = rw (ne_eqb (length capture % 9) 0 h)

  module _ (whole : length capture % 9 ≡ 0) (arrays : List (List ℕ)) (split : arrays ≡ first_chunks 9 (length capture / 9) capture) where
    same_frames : frames_in arrays ≡ frames_of capture
    same_frames = ap frames_in split ∙ arrays_frames capture

    same_trace : trace_in arrays ≡ trace_of capture
    unfolding trace_of records_of
    same_trace = ap (λ (xs : List Frame). written (joined same_frame largest_repeat xs)) same_frames

    pub bad_told : (why : Refusal) → Err why ≡ bytes_in arrays → refusal why out ≡ conversion_of capture out
    unfolding conversion_of
    bad_told why e =
        let f = refused_by (has_bad (frames_in arrays)) (first_bad (frames_in arrays)) (length (trace_in arrays)) why e in
        rw (f.1, eq-eqb (length capture % 9) 0 whole, ← same_frames, f.0)

    module _ (bytes : ℕ) (sized : Ok bytes ≡ bytes_in arrays) where
      good : has_bad (frames_of capture) ≡ false
      good = rw same_frames at (sized_by (has_bad (frames_in arrays)) (first_bad (frames_in arrays)) (length (trace_in arrays)) bytes sized).0

      pub size : bytes ≡ length (trace_in arrays)
      size = (sized_by (has_bad (frames_in arrays)) (first_bad (frames_in arrays)) (length (trace_in arrays)) bytes sized).1

      pub no_room_told : length out < bytes → refusal NoRoom out ≡ conversion_of capture out
      unfolding conversion_of
      no_room_told h =
          let short : length out < length (trace_of capture) = omega (arith, size, ap length same_trace) in
          rw (eq-eqb (length capture % 9) 0 whole, good, lt-ltb _ _ short)

      pub done_told : bytes ≤ length out → (left : List ℕ) → left ≡ trace_in arrays ++ drop (length (trace_in arrays)) out →
          conversion (Ok bytes) left ≡ conversion_of capture out
      unfolding conversion_of
      done_told h left e =
          let room : length (trace_of capture) ≤ length out = omega (arith, size, ap length same_trace) in
          rw (eq-eqb (length capture % 9) 0 whole, good, le-ltb _ _ room, e, size, same_trace)
