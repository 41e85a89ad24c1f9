-- Document 02, CR 2: a capture is "nine-byte frames, one a tick, in the byte order of tag 0x01: 7 bytes of inputs, 2 of gates".
use Rattle.std.specs.Prelude.{ℕ, ◌+◌, ◌*◌, ◌/◌, ◌%◌, Bool, ◌&&◌, List, [], ◌∷◌, ◌++◌, eqb, ltb, length, drop, Result, Ok, Err}
use Rattle.bools.specs.Pick.{pick}
use Rattle.lists.specs.Table.{tabulate}
use Rattle.lines.specs.Lines.{bad_levels}
use Rattle.records.specs.Records.{gate_bytes, input_bytes, number_at}
use Rattle.causes.specs.declared.Cause.{Cause}
use Rattle.causes.specs.declared.Cause.TheVariants as causes
use Rattle.causes.specs.Causes.{cause_number}
use Rattle.captures.specs.declared.Refusal.{Refusal}
use Rattle.captures.specs.declared.Refusal.TheVariants.{NotFrames, BadLevel, NoRoom}
use Rattle.captures.specs.Repeats.{Repeat, joined}
use Rattle.captures.specs.Written.{Frame, frame, largest_repeat, written}

abbrev pub frame_bytes : ℕ
frame_bytes = input_bytes + gate_bytes

-- frame i, the first being 0
unfoldable pub frame_at : List ℕ → ℕ → Frame
frame_at capture i = frame (number_at capture (frame_bytes * i) input_bytes) (number_at capture (frame_bytes * i + input_bytes) gate_bytes)

unfoldable pub frames_of : List ℕ → List Frame
frames_of capture = tabulate (length capture / frame_bytes) (frame_at capture)

unfoldable pub same_frame : Frame → Frame → Bool
same_frame x y = eqb x.inputs y.inputs && eqb x.gates y.gates

-- "Bad line levels are refused as in a tick."
abbrev pub is_bad : Frame → Bool
is_bad x = bad_levels x.inputs x.gates

-- the place of the first frame with a bad level, the number of frames where none has one
unfoldable pub first_bad : List Frame → ℕ
first_bad [] = 0
first_bad (x ∷ xs) = pick (is_bad x) 0 (1 + first_bad xs)

abbrev pub has_bad : List Frame → Bool
has_bad xs = ltb (first_bad xs) (length xs)

unfoldable pub records_of : List ℕ → List (Repeat Frame)
records_of capture = joined same_frame largest_repeat (frames_of capture)

unfoldable pub trace_of : List ℕ → List ℕ
trace_of capture = written (records_of capture)

-- what a conversion answers, "the trace's length in bytes" or why it is refused, and leaves: the output
pub record Conversion : Type 0 where
  pub answer : Result ℕ Refusal
  pub out : List ℕ

abbrev pub conversion : Result ℕ Refusal → List ℕ → Conversion
conversion answer out = record { answer = answer; out = out }

-- "not a multiple of nine, 12"; "a bad level, 6", which is cause 6 of document 01; "output too short, 13"
abbrev pub cause_of : Refusal → Cause
cause_of NotFrames = causes.NotFrames
cause_of (BadLevel frame) = causes.Level
cause_of NoRoom = causes.NoRoom

-- "A refusal returns its number"
abbrev pub number_of : Refusal → ℕ
number_of why = cause_number (cause_of why)

-- ".. and leaves the output as it was."
abbrev pub refusal : Refusal → List ℕ → Conversion
refusal why out = conversion (Err why) out

-- "Bytes past the trace stay."
abbrev pub conversion_to : List ℕ → List ℕ → Conversion
conversion_to trace out = conversion (Ok (length trace)) (trace ++ drop (length trace) out)

-- "Checks: capture length not a multiple of nine, 12, first; a bad level, 6; output too short, 13, last."
unfoldable pub conversion_of : List ℕ → List ℕ → Conversion
conversion_of capture out =
    pick (eqb (length capture % frame_bytes) 0)
    (pick (has_bad (frames_of capture)) (refusal (BadLevel (first_bad (frames_of capture))) out)
    (pick (ltb (length out) (length (trace_of capture))) (refusal NoRoom out) (conversion_to (trace_of capture) out)))
    (refusal NotFrames out)

-- an answer in numbers: of the refusal, 0 where there is none; the length, 0 where it is refused; of refusal 6 the frame, else 0
abbrev pub status_of : Result ℕ Refusal → ℕ
status_of (Ok bytes) = 0
status_of (Err why) = number_of why

abbrev pub length_told : Result ℕ Refusal → ℕ
length_told (Ok bytes) = bytes
length_told (Err why) = 0

abbrev pub frame_in : Refusal → ℕ
frame_in NotFrames = 0
frame_in (BadLevel frame) = frame
frame_in NoRoom = 0

abbrev pub frame_told : Result ℕ Refusal → ℕ
frame_told (Ok bytes) = 0
frame_told (Err why) = frame_in why
