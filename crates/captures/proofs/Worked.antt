-- Worked cases of conversions, written out by hand from document 02, CR 2.
use Prim.Native.Nat.{ℕ, ◌+◌, ◌^◌, ◌<◌}
use native.Mathlib.Omega.{arith}
use mathlib.Core.Bool.{true}
use mathlib.Core.List.{List, [], ◌∷◌, ◌++◌}
use mathlib.Core.Option.{none, some}
use mathlib.Core.Path.{◌≡◌, refl, ap, ◌∙◌}
use lib.ListN.{get_or, length, replicate}
use Rattle.lists.specs.Checks.{Row, right, row}
use Rattle.lists.specs.Table.{tabulate, table_from}
use Rattle.lists.proofs.Rows.{row_right}
use Rattle.lines.specs.Lines.{bad_levels}
use Rattle.records.specs.Records.{levels_at, next_at, number_at, payload_at, record_at, repeat_bytes, ticks_at}
use Rattle.captures.specs.Captures.{Conversion, conversion_of, first_bad, frame_at, frame_told, frames_of, length_told, records_of, same_frame, status_of, trace_of}
use Rattle.captures.specs.ReadBack.{before, repeats_by, repeats_from, repeats_in}
use Rattle.captures.specs.Repeats.{expand, Repeat, repeat, joined, joined_from}
use Rattle.captures.specs.Written.{Frame, bytes, captured, frame, largest_repeat, level_bytes, tick_record, written}
use Rattle.captures.proofs.Fewest.{full_first, one_repeat}
use Rattle.captures.proofs.Joins.{frames_told}

-- frames: all low; input 0 and gate 0; input 0 alone; every line high; input 54; gate 12
abbrev low : List ℕ
low = 0 ∷ 0 ∷ 0 ∷ 0 ∷ 0 ∷ 0 ∷ 0 ∷ 0 ∷ 0 ∷ []

abbrev pulse : List ℕ
pulse = 0 ∷ 0 ∷ 0 ∷ 0 ∷ 0 ∷ 0 ∷ 1 ∷ 0 ∷ 1 ∷ []

abbrev shut : List ℕ
shut = 0 ∷ 0 ∷ 0 ∷ 0 ∷ 0 ∷ 0 ∷ 1 ∷ 0 ∷ 0 ∷ []

abbrev high : List ℕ
high = 0x3F ∷ 0xFF ∷ 0xFF ∷ 0xFF ∷ 0xFF ∷ 0xFF ∷ 0xFF ∷ 0x0F ∷ 0xFF ∷ []

abbrev input54 : List ℕ
input54 = 0x40 ∷ 0 ∷ 0 ∷ 0 ∷ 0 ∷ 0 ∷ 0 ∷ 0 ∷ 0 ∷ []

abbrev gate12 : List ℕ
gate12 = 0 ∷ 0 ∷ 0 ∷ 0 ∷ 0 ∷ 0 ∷ 0 ∷ 0x10 ∷ 0 ∷ []

-- an output of so many bytes that stand nowhere else
abbrev room : ℕ → List ℕ
room n = replicate n 0xAA

-- everything that a conversion gives, against what is expected, number by number
abbrev gives : List ℕ → List ℕ → ℕ → ℕ → ℕ → List ℕ → List Row
gives capture out number length₀ frame left =
    let x : Conversion = conversion_of capture out in
    row number (status_of x.answer) ∷ row length₀ (length_told x.answer) ∷ row frame (frame_told x.answer) ∷ row (length left) (length x.out)
    ∷ tabulate (length left) (λ i. row (get_or left i 0x100) (get_or x.out i 0x200))

-- an empty capture is good, whatever the output
unfoldable pub empty_rows : List Row
empty_rows = gives [] [] 0 0 0 [] ++ gives [] (room 3) 0 0 0 (room 3)

-- one frame; bytes past the trace stay; output exactly long enough, one byte short, empty
unfoldable pub one_rows : List Row
one_rows =
    gives pulse (room 14) 0 14 0 (1 ∷ 0 ∷ 11 ∷ 0 ∷ 1 ∷ pulse)
    ++ (gives pulse (room 16) 0 14 0 ((1 ∷ 0 ∷ 11 ∷ 0 ∷ 1 ∷ pulse) ++ room 2)
    ++ (gives pulse (room 13) 13 0 0 (room 13)
    ++ gives pulse [] 13 0 0 []))

-- equal neighbours are joined, frames that differ by a gate are not, and equal frames apart are not
unfoldable pub joined_rows : List Row
joined_rows =
    gives (low ++ (low ++ low)) (room 15) 0 14 0 ((1 ∷ 0 ∷ 11 ∷ 0 ∷ 3 ∷ low) ++ room 1)
    ++ (gives (pulse ++ (pulse ++ shut)) (room 28) 0 28 0 ((1 ∷ 0 ∷ 11 ∷ 0 ∷ 2 ∷ pulse) ++ (1 ∷ 0 ∷ 11 ∷ 0 ∷ 1 ∷ shut))
    ++ (gives (pulse ++ (pulse ++ shut)) (room 27) 13 0 0 (room 27)
    ++ gives (high ++ (low ++ high)) (room 42) 0 42 0
    ((1 ∷ 0 ∷ 11 ∷ 0 ∷ 1 ∷ high) ++ ((1 ∷ 0 ∷ 11 ∷ 0 ∷ 1 ∷ low) ++ (1 ∷ 0 ∷ 11 ∷ 0 ∷ 1 ∷ high)))))

-- 8 and 10 bytes, levels that would be refused among them; a bad level in the last frame beside too short an output; the first of two
unfoldable pub refused_rows : List Row
refused_rows =
    gives (replicate 8 0) (room 14) 12 0 0 (room 14)
    ++ (gives (replicate 10 0xFF) [] 12 0 0 []
    ++ (gives (low ++ (pulse ++ input54)) [] 6 0 2 []
    ++ (gives (low ++ gate12) (room 28) 6 0 1 (room 28)
    ++ gives (gate12 ++ input54) (room 28) 6 0 0 (room 28))))

unfoldable pub conversions : List Row
conversions = empty_rows ++ (one_rows ++ (joined_rows ++ refused_rows))

conversions_right : right conversions ≡ true
unfolding conversions empty_rows one_rows joined_rows refused_rows conversion_of frames_of frame_at same_frame first_bad bad_levels records_of trace_of joined joined_from
    tabulate table_from number_at written tick_record level_bytes bytes
conversions_right = refl

-- the worked cases
pub conversion_cases : (k : ℕ) → k < length conversions → (get_or conversions k (row 0 0)).computed ≡ (get_or conversions k (row 0 0)).expected
conversion_cases = row_right conversions conversions_right

-- ---- 65,535, 65,536 and 131,071 equal frames

abbrev joined_frames : List Frame → List (Repeat Frame)
joined_frames = joined same_frame largest_repeat

module _ (x : Frame) where
  pub equal_65535 : joined_frames (replicate 65535 x) ≡ repeat 65535 x ∷ []
  equal_65535 = one_repeat same_frame frames_told 65535 65535 x (omega arith) (omega arith)

  pub equal_65536 : joined_frames (replicate 65536 x) ≡ repeat 65535 x ∷ repeat 1 x ∷ []
  equal_65536 =
      full_first same_frame frames_told 65535 1 x (omega arith) (omega arith)
      ∙ ap (λ (rs : List (Repeat Frame)). repeat 65535 x ∷ rs) (one_repeat same_frame frames_told 65535 1 x (omega arith) (omega arith))

  pub equal_131071 : joined_frames (replicate 131071 x) ≡ repeat 65535 x ∷ repeat 65535 x ∷ repeat 1 x ∷ []
  equal_131071 =
      full_first same_frame frames_told 65535 65536 x (omega arith) (omega arith)
      ∙ ap (λ (rs : List (Repeat Frame)). repeat 65535 x ∷ rs) equal_65536

-- ---- what is read back, and the frames of repeats

-- two records of tick, read to the end
reads_ticks : repeats_in ((1 ∷ 0 ∷ 11 ∷ 0 ∷ 2 ∷ pulse) ++ (1 ∷ 0 ∷ 11 ∷ 0 ∷ 1 ∷ shut)) ≡ some (repeat 2 (frame 1 1) ∷ repeat 1 (frame 1 0) ∷ [])
unfolding repeats_in repeats_from repeats_by before record_at payload_at ticks_at levels_at next_at number_at
reads_ticks = refl

-- a write, a repeat of 0, a record that is cut: no trace of ticks
reads_write : repeats_in (2 ∷ 0 ∷ 4 ∷ 8 ∷ 0 ∷ 0 ∷ 7 ∷ []) ≡ none
unfolding repeats_in repeats_from repeats_by before record_at payload_at ticks_at levels_at next_at number_at
reads_write = refl

reads_nothing : repeats_in (1 ∷ 0 ∷ 11 ∷ 0 ∷ 0 ∷ pulse) ≡ none
unfolding repeats_in repeats_from repeats_by before record_at payload_at ticks_at levels_at next_at number_at
reads_nothing = refl

reads_cut : repeats_in (1 ∷ 0 ∷ 11 ∷ 0 ∷ 1 ∷ 0 ∷ []) ≡ none
unfolding repeats_in repeats_from repeats_by before record_at payload_at ticks_at levels_at next_at number_at
reads_cut = refl

expands : expand (repeat 2 (frame 1 1) ∷ repeat 1 (frame 1 0) ∷ []) ≡ frame 1 1 ∷ frame 1 1 ∷ frame 1 0 ∷ []
unfolding expand
expands = refl

captures_back : captured (frame 1 1 ∷ frame 1 0 ∷ []) ≡ pulse ++ shut
unfolding captured level_bytes bytes
captures_back = refl

-- the largest repeat is the largest number of its bytes
largest_fits : largest_repeat + 1 ≡ 256 ^ repeat_bytes
largest_fits = refl
