-- Document 02, CR 2: "Reading the result back gives the frames": what a trace of tick records holds, by the reader that runs use.
use Rattle.std.specs.Prelude.{ℕ, zero, suc, ◌+◌, List, [], ◌∷◌, Some, None, Ok, Err, length}
use Rattle.std.proofs.Math.Option.{Option, some, none}
use Rattle.records.specs.declared.Record.TheVariants.{Ticks, Write, Tag}
use Rattle.records.specs.Records.{Found, next_at, record_at}
use Rattle.captures.specs.Repeats.{Repeat, repeat}
use Rattle.captures.specs.Written.{Frame}

-- a repeat before those that follow it
unfoldable pub before : Repeat Frame → Option (List (Repeat Frame)) → Option (List (Repeat Frame))
before r none = none
before r (some rs) = some (r ∷ rs)

-- by a record and what follows it: where none stands the trace is read to its end, and where a cause stands it is malformed
unfoldable pub repeats_by : Found → Option (List (Repeat Frame)) → Option (List (Repeat Frame))
repeats_by (Err cause) rest = none
repeats_by (Ok None) rest = some []
repeats_by (Ok (Some (Ticks n levels))) rest = before (repeat n levels) rest
repeats_by (Ok (Some (Write a w))) rest = none
repeats_by (Ok (Some (Tag e))) rest = none

unfoldable pub repeats_from : ℕ → List ℕ → ℕ → Option (List (Repeat Frame))
repeats_from zero t at = none
repeats_from (suc fuel) t at = repeats_by (record_at t at) (repeats_from fuel t (next_at t at))

-- the repeats of a trace, none where it is malformed or has a record that is no tick record; a record is longer than one byte, so the
-- trace's length and one turn more are enough
unfoldable pub repeats_in : List ℕ → Option (List (Repeat Frame))
repeats_in t = repeats_from (length t + 1) t 0
