-- Document 02, CR 2: "A converter writes tick records": the bytes of a record and of a trace of tick records.
use Rattle.std.specs.Prelude.{ℕ, zero, suc, ◌+◌, ◌/◌, ◌%◌, List, [], ◌∷◌, ◌++◌, Some, Ok}
use Rattle.lines.specs.declared.levels.Levels.{Levels}
use Rattle.records.specs.declared.Record.TheVariants.{Ticks}
use Rattle.records.specs.Records.{Found, gate_bytes, header_bytes, input_bytes, repeat_bytes, tick_bytes}
use Rattle.captures.specs.Repeats.{Repeat}

-- the levels of a tick
abbrev pub Frame : Type 0
Frame = Levels

abbrev pub frame : ℕ → ℕ → Frame
frame inputs gates = record { inputs = inputs; gates = gates }

-- "the longest repeats that fit two bytes": one less than 256 ^ repeat_bytes
abbrev pub largest_repeat : ℕ
largest_repeat = 65535

-- n bytes of a number, "high byte first"
unfoldable pub bytes : ℕ → ℕ → List ℕ
bytes zero v = []
bytes (suc n) v = bytes n (v / 256) ++ (v % 256 ∷ [])

-- the levels, in the order of tag 0x01: inputs, gates
unfoldable pub level_bytes : Frame → List ℕ
level_bytes x = bytes input_bytes x.inputs ++ bytes gate_bytes x.gates

-- the capture of these frames
unfoldable pub captured : List Frame → List ℕ
captured [] = []
captured (x ∷ xs) = level_bytes x ++ captured xs

-- "A record is a tag byte, a two-byte length, a payload": a repeat of so many bytes, the levels
unfoldable pub tick_record : ℕ → ℕ → Repeat Frame → List ℕ
tick_record tag width r = tag ∷ (bytes 2 (tick_bytes width) ++ (bytes width r.times ++ level_bytes r.element))

-- "Tag 0x01, 11 bytes", with the header
abbrev pub record_length : ℕ
record_length = header_bytes + tick_bytes repeat_bytes

abbrev pub record_bytes : Repeat Frame → List ℕ
record_bytes r = tick_record 1 repeat_bytes r

unfoldable pub written : List (Repeat Frame) → List ℕ
written [] = []
written (r ∷ rs) = record_bytes r ++ written rs

-- the record that a repeat is to the reader of traces
abbrev pub record_of : Repeat Frame → Found
record_of r = Ok (Some (Ticks r.times r.element))
