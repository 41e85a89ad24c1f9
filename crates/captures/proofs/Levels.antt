-- Frames with levels of lines that exist: their numbers fit the bytes of a record.
use Prim.Native.Nat.{ℕ, zero, suc, ◌^◌, ◌≤◌, ◌<◌}
use native.Mathlib.Nat.{not-suc-le-zero}
use native.Mathlib.Omega.{arith}
use mathlib.Core.Bool.{false}
use mathlib.Core.List.{List, [], ◌∷◌, ◌++◌}
use mathlib.Core.Path.{◌≡◌, sym, subst}
use borrow.Author.Tests.{leb-false, ltb-false}
use lib.Dec.{leb}
use lib.ListN.{length, replicate}
use Rattle.bools.proofs.Tests.{cases}
use Rattle.std.proofs.lemmas.Bool.{or_parts}
use Rattle.lines.specs.Lines.{bad_levels, gate_count, input_count}
use Rattle.records.specs.Records.{repeat_bytes}
use Rattle.captures.specs.Captures.{first_bad, frames_of, has_bad, is_bad, records_of, same_frame}
use Rattle.captures.specs.Repeats.{Fit, more as fit_more, Repeat, expand, joined}
use Rattle.captures.specs.Written.{Frame, largest_repeat}
use Rattle.captures.proofs.Fewest.{expand_joined, fit_joined}
use Rattle.captures.proofs.Joins.{frames_told}
use Rattle.captures.proofs.Written.{Narrow}

pub data Levels : List Frame → Type 0 where
  none : Levels []
  more : {x : Frame} {xs : List Frame} → is_bad x ≡ false → Levels xs → Levels (x ∷ xs)

levels_by : (xs : List Frame) → length xs ≤ first_bad xs → Levels xs
unfolding first_bad
levels_by [] h = none
levels_by (x ∷ xs) h =
    cases (is_bad x)
    (λ e. absurd (not-suc-le-zero (rw e at h)))
    (λ e. more e (levels_by xs (omega (arith, rw e at h))))

pub levels : (xs : List Frame) → has_bad xs ≡ false → Levels xs
levels xs good = levels_by xs (ltb-false (first_bad xs) (length xs) good)

levels_behind : (n : ℕ) (x : Frame) (xs : List Frame) → Levels (replicate n x ++ xs) → Levels xs
levels_behind zero x xs l = l
levels_behind (suc n) x xs (more e l) = levels_behind n x xs l

level_of : (n : ℕ) (x : Frame) (xs : List Frame) → 1 ≤ n → Levels (replicate n x ++ xs) → is_bad x ≡ false
level_of zero x xs h l = absurd (not-suc-le-zero h)
level_of (suc n) x xs h (more e l) = e

-- repeats that can be written, with levels of lines that exist
pub data Good : List (Repeat Frame) → Type 0 where
  good_none : Good []
  good_more : {r : Repeat Frame} {rs : List (Repeat Frame)} → Narrow repeat_bytes r → is_bad r.element ≡ false → Good rs → Good (r ∷ rs)

module _ (limit : ℕ) (fits : limit < 256 ^ repeat_bytes) where
  narrow : (r : Repeat Frame) → 1 ≤ r.times → r.times ≤ limit → is_bad r.element ≡ false → Narrow repeat_bytes r
  unfolding bad_levels
  narrow r h k e =
      let i : r.element.inputs < 2 ^ input_count = leb-false (2 ^ input_count) r.element.inputs (or_parts _ _ e).0 in
      let g : r.element.gates < 2 ^ gate_count = leb-false (2 ^ gate_count) r.element.gates (or_parts (leb (2 ^ input_count) r.element.inputs) _ e).1 in
      record { some = h; times = omega arith; inputs = omega (arith, i); gates = omega (arith, g) }

  pub good_of : (rs : List (Repeat Frame)) → Fit limit rs → Levels (expand rs) → Good rs
  unfolding expand
  good_of [] f l = good_none
  good_of (r ∷ rs) (fit_more h k f) l =
      let e = level_of r.times r.element (expand rs) h l in
      good_more (narrow r h k e) e (good_of rs f (levels_behind r.times r.element (expand rs) l))

  -- what is joined of good frames can be written
  pub good_joined : 1 ≤ limit → (xs : List Frame) → has_bad xs ≡ false → Good (joined same_frame limit xs)
  good_joined least xs good =
      good_of (joined same_frame limit xs) (fit_joined same_frame frames_told limit least xs)
      (subst Levels (sym (expand_joined same_frame frames_told limit xs)) (levels xs good))

pub good_records : (capture : List ℕ) → has_bad (frames_of capture) ≡ false → Good (records_of capture)
unfolding records_of
good_records capture good = good_joined largest_repeat (omega arith) (omega arith) (frames_of capture) good
