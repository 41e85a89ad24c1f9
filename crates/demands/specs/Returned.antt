-- Document 01, "The one-counter sheet": lists of calls, of the code. What holds of crates and memories that went through the library's
-- functions, and of all that these returned, by the contracts of the functions alone.
use Rattle.std.specs.Prelude.{ℕ, true, false, List, [], ◌∷◌, ◌≡◌, Result}
use Rattle.loader.specs.Memory.{is_whole}
use Rattle.causes.specs.declared.Cause.{Cause}
use Rattle.device.specs.declared.state.Crate.{Crate}
use Rattle.causes.specs.Causes.{Answer, number_of}
use Rattle.device.specs.State.{Machine, machine}
use Rattle.interlocks.specs.declared.scan.OutputScan.{OutputScan}
use Rattle.interlocks.specs.Scan.{scan_of}
use Rattle.reading.specs.Read.{read_of}
use Rattle.records.specs.declared.Stop.{Stop}
use Rattle.records.specs.Stops.{stop_number}
use Rattle.registers.specs.Calls.{Call, answer, powered, powered_memory, step}
use Rattle.trace.specs.declared.Report.{Report}
use Rattle.trace.specs.Run.{progress_of, run, run_of}
use Rattle.demands.specs.Seen.{Act, calling, reading, scanning, tracing, Seen, answered, told, scanned, reported}

-- Each of the next seven is the contract of its functions: proofs/Contracts.antt.

-- `power_up` on a memory returned crate and answer r and left this memory
abbrev pub Powered : List ℕ → Crate × Answer → List ℕ → Type 0
Powered memory r left = (r ≡ powered memory) × (left ≡ powered_memory memory)

-- a call of `tick`, `write`, `tag` or `download` on crate and memory m returned a and left n
abbrev pub Returned : Machine → Call → Answer → Machine → Type 0
Returned m x a n = (a ≡ answer m x) × (n ≡ step m x)

-- a `read` of address a returned q; crate and memory were lent to be read
abbrev pub Looked : Machine → ℕ → Result ℕ Cause → Type 0
Looked m a q = q ≡ read_of m a

-- a `scan` returned q; crate and memory were lent to be read
abbrev pub Scanned : Machine → Result (List OutputScan) Cause → Type 0
Scanned m q = q ≡ scan_of m

-- a `run` of trace t on crate and memory m returned this report and left crate s and this memory
abbrev pub Ran : Machine → List ℕ → ℕ → Crate → Report → List ℕ → Type 0
Ran m t budget s report memory = run (progress_of s report false) memory ≡ run_of t budget m

-- `number` of an answer, of a read's or a scan's too, and `u16::from` of a stop returned k
abbrev pub Numbered : {A : Type 0} → Result A Cause → ℕ → Type 0
Numbered a k = k ≡ number_of a

abbrev pub StopNumbered : Stop → ℕ → Type 0
StopNumbered stop k = k ≡ stop_number stop

-- An act on crate and memory m returned what was seen, and left n.
unfoldable pub Acted : Machine → Act → Seen → Machine → Type 0
Acted m (calling x) seen n = (a : Answer) × (k : ℕ) × Returned m x a n × Numbered a k × (seen ≡ answered a k)
Acted m (reading a) seen n = (q : Result ℕ Cause) × (k : ℕ) × Looked m a q × Numbered q k × (seen ≡ told q k) × (n ≡ m)
Acted m scanning seen n = (q : Result (List OutputScan) Cause) × (k : ℕ) × Scanned m q × Numbered q k × (seen ≡ scanned q k) × (n ≡ m)
Acted m (tracing t budget) seen n =
    (s : Crate) × (report : Report) × (memory : List ℕ) × (k : ℕ) × Ran m t budget s report memory × StopNumbered report.stop k
    × (seen ≡ reported report k) × (n ≡ machine s memory)

-- "Each call gets both as the last one left them, and only its calls change them": all of l, one after the other
unfoldable pub Went : Machine → List Act → List Seen → Machine → Type 0
Went m [] seen n = (seen ≡ []) × (n ≡ m)
Went m (x ∷ l) seen n = (first : Seen) × (rest : List Seen) × (next : Machine) × Acted m x first next × (seen ≡ first ∷ rest) × Went next l rest n

-- "A list .. starts at power-up and runs on one crate and one memory of 16,384 words": `power_up` and all of l showed `seen` and left crate
-- and memory n
unfoldable pub Saw : List Act → List Seen → Machine → Type 0
Saw l seen n =
    (memory : List ℕ) × (is_whole memory ≡ true) × (r : Crate × Answer) × (left : List ℕ) × (k : ℕ) × (rest : List Seen)
    × Powered memory r left × Numbered r.1 k × (seen ≡ answered r.1 k ∷ rest) × Went (machine r.0 left) l rest n

-- crate and memory n after `power_up` and all of l, whatever was seen
abbrev pub Rehearsed : List Act → Machine → Type 0
Rehearsed l n = (seen : List Seen) × Saw l seen n
