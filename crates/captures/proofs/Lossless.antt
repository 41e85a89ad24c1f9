-- The frames of a capture of whole frames are the capture: no byte is lost or read twice.
use Prim.Native.Nat.{ℕ, zero, suc, ◌+◌, ◌*◌, ◌/◌, ◌%◌, ◌≤◌, ◌<◌}
use native.Mathlib.Omega.{arith}
use mathlib.Core.List.{List, ◌++◌, append_assoc}
use mathlib.Core.Path.{◌≡◌, refl, sym, ap, ◌∙◌}
use lib.ListN.{length, drop, drop_of_length-le, get_or, length-drop, take, take-append-drop}
use lib.Seq.{drop-drop, get_or-drop, take-suc}
use Rattle.records.specs.Records.{gate_bytes, input_bytes, number_at}
use Rattle.captures.specs.Captures.{frame_at, frame_bytes, frames_of}
use Rattle.captures.specs.Written.{bytes, captured, level_bytes}
use Rattle.captures.proofs.Arrays.{rest, rest_more, rest_none}

module _ (t : List ℕ) (fits : (i : ℕ) → get_or t i 0 < 256) where
  -- the bytes of a number that is read are those it is read from
  bytes_number : (n at : ℕ) → at + n ≤ length t → bytes n (number_at t at n) ≡ take n (drop at t)
  unfolding bytes number_at
  bytes_number zero at h = refl
  bytes_number (suc n) at h =
      let v = number_at t at n in
      let b = get_or t (at + n) 0 in
      let d : (v * 256 + b) / 256 ≡ v = omega (arith, fits (at + n)) in
      let m : (v * 256 + b) % 256 ≡ b = omega (arith, fits (at + n)) in
      let l : n < length (drop at t) = rw length-drop (omega arith) in
      rw (d, m, bytes_number n at (omega arith), take-suc (drop at t) n 0 l, get_or-drop at t n 0)

  -- the first n bytes from a place on, and what is behind them
  cut : (n at : ℕ) → take n (drop at t) ++ drop (at + n) t ≡ drop at t
  cut n at = ap (λ (ys : List ℕ). take n (drop at t) ++ ys) (sym (drop-drop n at t)) ∙ take-append-drop n (drop at t)

  frame_cut : (i : ℕ) → i < length t / frame_bytes → level_bytes (frame_at t i) ++ drop (frame_bytes * (i + 1)) t ≡ drop (frame_bytes * i) t
  unfolding level_bytes frame_at
  frame_cut i h =
      let at : ℕ = frame_bytes * i in
      let e : frame_bytes * (i + 1) ≡ at + input_bytes + gate_bytes = omega arith in
      rw (
        bytes_number input_bytes at (omega arith),
        bytes_number gate_bytes (at + input_bytes) (omega arith),
        e,
        append_assoc,
        cut gate_bytes (at + input_bytes),
      )
      (cut input_bytes at)

  captured_from : (k i : ℕ) → i + k ≡ length t / frame_bytes → length t % frame_bytes ≡ 0 → captured (rest t i) ≡ drop (frame_bytes * i) t
  unfolding captured
  captured_from zero i e whole =
      let l : length t ≤ frame_bytes * i = omega arith in
      rw (rest_none t i (omega arith), drop_of_length-le t l)
  captured_from (suc k) i e whole =
      rw (rest_more t i (omega arith), captured_from k (i + 1) (omega arith) whole) (frame_cut i (omega arith))

  pub captured_frames : length t % frame_bytes ≡ 0 → captured (frames_of t) ≡ t
  captured_frames whole = captured_from (length t / frame_bytes) 0 (omega arith) whole
