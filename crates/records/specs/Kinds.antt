-- Document 01, "Trace and printing program": the kinds of records.
use Rattle.std.specs.Prelude.{ℕ, List, Some, Result, Ok, Err, ltb, length}
use Rattle.bools.specs.Pick.{pick}
use Rattle.causes.specs.declared.Cause.{Cause}
use Rattle.causes.specs.declared.Cause.TheVariants.{Cut}
use Rattle.records.specs.declared.Record.{Record}
use Rattle.records.specs.declared.kind.Kind.{Kind}
use Rattle.records.specs.declared.kind.Kind.TheVariants.{Ticks, Write, Tag}
use Rattle.records.specs.Records.{Found, payload_at, payload_bytes}

-- its tag byte
abbrev pub kind_tag : Kind → ℕ
kind_tag Ticks = 1
kind_tag Write = 2
kind_tag Tag = 3

-- a record that is there
abbrev pub found : Result Record Cause → Found
found (Ok x) = Ok (Some x)
found (Err cause) = Err cause

-- a payload that may be cut
abbrev pub payload_read : Kind → List ℕ → Found
payload_read kind t = pick (ltb (length t) (payload_bytes (kind_tag kind))) (Err Cut) (payload_at (kind_tag kind) t 0)
