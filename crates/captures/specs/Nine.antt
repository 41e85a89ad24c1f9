-- Frames as the code holds them: nine bytes each, and of these the first eight as one number, and the last.
use Rattle.std.specs.Prelude.{ℕ, ◌+◌, ◌*◌, ◌/◌, ◌%◌, List, Result, Ok, Err, length, map}
use Rattle.bools.specs.Pick.{pick}
use Rattle.captures.specs.declared.Refusal.{Refusal}
use Rattle.captures.specs.declared.Refusal.TheVariants.{BadLevel}
use Rattle.captures.specs.declared.frames.Nine.{Nine}
use Rattle.captures.specs.declared.frames.Repeat.{Repeat as RepeatOfNine}
use Rattle.captures.specs.declared.frames.Repeats.{Repeats}
use Rattle.captures.specs.Captures.{first_bad, frame_at, has_bad, same_frame}
use Rattle.captures.specs.Repeats.{Repeat, joined, repeat}
use Rattle.captures.specs.Written.{Frame, frame, largest_repeat, written}

unfoldable pub frame_of : Nine → Frame
frame_of x = frame (x.head / 256) (x.head % 256 * 256 + x.last)

abbrev pub repeat_of : RepeatOfNine → Repeat Frame
repeat_of r = repeat r.times (frame_of r.frame)

-- the frames of arrays of nine bytes
unfoldable pub frames_in : List (List ℕ) → List Frame
frames_in arrays = map (λ array. frame_at array 0) arrays

-- the repeats that they become, and the trace
abbrev pub records_in : List (List ℕ) → List (Repeat Frame)
records_in arrays = joined same_frame largest_repeat (frames_in arrays)

abbrev pub trace_in : List (List ℕ) → List ℕ
trace_in arrays = written (records_in arrays)

-- how long the trace is; or the first frame with a bad level
abbrev pub bytes_in : List (List ℕ) → Result ℕ Refusal
bytes_in arrays = pick (has_bad (frames_in arrays)) (Err (BadLevel (first_bad (frames_in arrays)))) (Ok (length (trace_in arrays)))

-- the repeats that are still to come
abbrev pub records_left : Repeats → List (Repeat Frame)
records_left s = records_in s.frames.now
