-- Laws of the look at frames before they are written: the first bad level by its place, and the trace's length by the number of records.
use Prim.Native.Nat.{ℕ, ◌*◌}
use mathlib.Core.Bool.{Bool, true, false, cond}
use mathlib.Core.List.{List, [], ◌∷◌}
use mathlib.Core.Path.{◌≡◌, refl, sym, ap, ◌∙◌}
use lib.Dec.{ltb}
use lib.ListN.{length, length-map}
use Rattle.std.proofs.Common.{Ok, Err, Some, None, Option}
use Rattle.std.specs.List.{position_or_len}
use Rattle.bools.proofs.Tests.{cases}
use Rattle.captures.specs.declared.Refusal.TheVariants.{BadLevel}
use Rattle.captures.specs.Captures.{first_bad, frame_at, has_bad, is_bad}
use Rattle.captures.specs.Nine.{bytes_in, frames_in, records_in, trace_in}
use Rattle.captures.proofs.Written.{length_written}

-- a frame with a bad level, by its bytes
abbrev pub bad : List ℕ → Bool
bad array = is_bad (frame_at array 0)

length_frames : (arrays : List (List ℕ)) → length (frames_in arrays) ≡ length arrays
unfolding frames_in
length_frames arrays = rw length-map

bad_place : (arrays : List (List ℕ)) → position_or_len bad arrays ≡ first_bad (frames_in arrays)
unfolding first_bad frames_in
bad_place [] = refl
bad_place (array ∷ arrays) = cases (bad array) (λ e. rw e) (λ e. rw (e, bad_place arrays))

module _ (arrays : List (List ℕ)) where
  -- what a search for a bad frame finds
  abbrev pub found_bad : Option ℕ
  found_bad = cond (ltb (position_or_len bad arrays) (length arrays)) (Some (position_or_len bad arrays)) None

  some_bad : ltb (position_or_len bad arrays) (length arrays) ≡ has_bad (frames_in arrays)
  some_bad = rw (bad_place arrays, length_frames arrays)

  pub bad_told : (r : Option ℕ) (n : ℕ) → r ≡ found_bad → r ≡ Some n → Err (BadLevel n) ≡ bytes_in arrays
  bad_told r n q is =
      cases (ltb (position_or_len bad arrays) (length arrays))
      (λ e.
      let s : Some n ≡ Some (position_or_len bad arrays) = sym is ∙ q ∙ rw e in
      let m : n ≡ first_bad (frames_in arrays) = cc s ∙ bad_place arrays in
      let h : has_bad (frames_in arrays) ≡ true = sym some_bad ∙ e in
      rw (h, m))
      (λ e.
      let s : Some n ≡ None = sym is ∙ q ∙ rw e in
      absurd (cc s))

  pub bytes_told : (r : Option ℕ) (n : ℕ) → r ≡ found_bad → r ≡ None → n ≡ length (records_in arrays) → Ok (14 * n) ≡ bytes_in arrays
  bytes_told r n q is l =
      cases (ltb (position_or_len bad arrays) (length arrays))
      (λ e.
      let s : None ≡ Some (position_or_len bad arrays) = sym is ∙ q ∙ rw e in
      absurd (cc s))
      (λ e.
      let h : has_bad (frames_in arrays) ≡ false = sym some_bad ∙ e in
      let size : 14 * n ≡ length (trace_in arrays) = ap (λ (k : ℕ). 14 * k) l ∙ sym (length_written (records_in arrays)) in
      rw (h, size))
