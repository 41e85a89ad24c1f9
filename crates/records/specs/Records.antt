-- Document 01, "Trace and printing program": the records of a trace.
use Rattle.std.specs.Prelude.{ℕ, zero, suc, ◌+◌, ◌-◌, ◌*◌, Bool, ◌&&◌, List, Option, Some, None, Result, Ok, Err, eqb, leb, ltb, get_or, length}
use Rattle.bools.specs.Pick.{pick}
use Rattle.lines.specs.declared.levels.Levels.{Levels}
use Rattle.records.specs.declared.Record.{Record}
use Rattle.records.specs.declared.Record.TheVariants.{Ticks, Write, Tag}
use Rattle.causes.specs.declared.Cause.{Cause}
use Rattle.causes.specs.declared.Cause.TheVariants.{UnknownTag, WrongLength, Cut, NoRepeat}

-- the number of n bytes from a place on, "high byte first"
unfoldable pub number_at : List ℕ → ℕ → ℕ → ℕ
number_at t at zero = 0
number_at t at (suc n) = number_at t at n * 256 + get_or t (at + n) 0

-- "A record is a tag byte, a two-byte length, a payload"
abbrev pub tag_at : List ℕ → ℕ → ℕ
tag_at t at = get_or t at 0

abbrev pub length_at : List ℕ → ℕ → ℕ
length_at t at = number_at t (at + 1) 2

abbrev pub header_bytes : ℕ
header_bytes = 3

unfoldable pub next_at : List ℕ → ℕ → ℕ
next_at t at = at + header_bytes + length_at t at

-- "Tag 0x01, 11 bytes: repeat, 7 bytes of inputs (input 0 lowest bit), 2 of gates": the repeat's width in bytes is a parameter
abbrev pub repeat_bytes : ℕ
repeat_bytes = 2

abbrev pub input_bytes : ℕ
input_bytes = 7

abbrev pub gate_bytes : ℕ
gate_bytes = 2

abbrev pub tick_bytes : ℕ → ℕ
tick_bytes width = width + (input_bytes + gate_bytes)

unfoldable pub levels_at : List ℕ → ℕ → Levels
levels_at t at = record { inputs = number_at t at input_bytes; gates = number_at t (at + input_bytes) gate_bytes }

-- what stands at an offset: a record, none at the end of the trace, or the cause that stops a run before it
abbrev pub Found : Type 0
Found = Result (Option Record) Cause

-- cause 10: "repeat 0"
unfoldable pub ticks_at : ℕ → List ℕ → ℕ → Found
ticks_at width t at =
    pick (eqb (number_at t at width) 0) (Err NoRepeat) (Ok (Some (Ticks (number_at t at width) (levels_at t (at + width)))))

-- "0x02, 4 bytes: address, word. 0x03, 4 bytes: an event tag."
unfoldable pub payload_at : ℕ → List ℕ → ℕ → Found
payload_at tag t at =
    pick (eqb tag 1) (ticks_at repeat_bytes t at)
    (pick (eqb tag 2) (Ok (Some (Write (number_at t at 2) (number_at t (at + 2) 2)))) (Ok (Some (Tag (number_at t at 4)))))

abbrev pub is_known : ℕ → Bool
is_known tag = leb 1 tag && leb tag 3

abbrev pub payload_bytes : ℕ → ℕ
payload_bytes tag = pick (eqb tag 1) (tick_bytes repeat_bytes) 4

-- what a record takes in a trace
abbrev pub bytes_taken : Record → ℕ
bytes_taken (Ticks n levels) = header_bytes + payload_bytes 1
bytes_taken (Write a w) = header_bytes + payload_bytes 2
bytes_taken (Tag e) = header_bytes + payload_bytes 3

-- "In a record: header cut, 7, 8, payload cut, 10"
unfoldable pub record_at : List ℕ → ℕ → Found
record_at t at =
    let left : ℕ = length t - at in
    pick (eqb left 0) (Ok None)
    (pick (ltb left header_bytes) (Err Cut)
    (pick (is_known (tag_at t at))
    (pick (eqb (length_at t at) (payload_bytes (tag_at t at)))
    (pick (ltb left (header_bytes + length_at t at)) (Err Cut) (payload_at (tag_at t at) t (at + header_bytes)))
    (Err WrongLength))
    (Err UnknownTag)))
