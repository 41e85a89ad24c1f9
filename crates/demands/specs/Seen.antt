-- Demand 2 on one page: all that is to be seen of a list of calls, reads, scans and trace runs.
use Rattle.std.specs.Prelude.{ℕ, List, [], ◌∷◌, ◌++◌, Result, Ok}
use Rattle.causes.specs.declared.Cause.{Cause}
use Rattle.causes.specs.Causes.{Answer, number_of}
use Rattle.device.specs.State.{Machine}
use Rattle.interlocks.specs.declared.scan.OutputScan.{OutputScan}
use Rattle.interlocks.specs.Scan.{scan_of}
use Rattle.reading.specs.Read.{read_of}
use Rattle.records.specs.Stops.{stop_number}
use Rattle.registers.specs.Calls.{Call, answer, from, machine0}
use Rattle.trace.specs.declared.Report.{Report}
use Rattle.trace.specs.Passed.{calls_in, passed_in}
use Rattle.trace.specs.Run.{run_of}

-- what is done with a crate: a call, a read of an address, a scan, or the run of a trace with a budget
pub data Act : Type 0 where
  calling : Call → Act
  reading : ℕ → Act
  scanning : Act
  tracing : List ℕ → ℕ → Act

-- what it shows: an answer, a read's with its word, a scan's with levels and words read, a run's report; each with its number, of 01's table or, of
-- a run, `stop_number` of its stop
pub data Seen : Type 0 where
  answered : Answer → ℕ → Seen
  told : Result ℕ Cause → ℕ → Seen
  scanned : Result (List OutputScan) Cause → ℕ → Seen
  reported : Report → ℕ → Seen

-- what an act is to show on crate and memory m: the answer of 01's conditions, the word that the Manual, completed by 01, defines, and
-- "stop cause, offset of the next record, ticks, records passed (refused ones included), records refused"
abbrev pub numbered : Report → Seen
numbered r = reported r (stop_number r.stop)

unfoldable pub showing : Machine → Act → Seen
showing m (calling x) = answered (answer m x) (number_of (answer m x))
showing m (reading a) = told (read_of m a) (number_of (read_of m a))
showing m scanning = scanned (scan_of m) (number_of (scan_of m))
showing m (tracing t budget) = numbered (run_of t budget m).progress.report

-- "a trace run stands in it for the calls of the records it passes"; reads and scans change nothing and stand for none
unfoldable pub calls_by : Machine → Act → List Call
calls_by m (calling x) = x ∷ []
calls_by m (reading a) = []
calls_by m scanning = []
calls_by m (tracing t budget) = calls_in (passed_in t budget m)

-- "Each call gets both as the last one left them, and only its calls change them"
abbrev pub leaving : Machine → Act → Machine
leaving m x = from m (calls_by m x)

-- the list of calls that acts stand for
unfoldable pub list_from : Machine → List Act → List Call
list_from m [] = []
list_from m (x ∷ l) = calls_by m x ++ list_from (leaving m x) l

-- "A list, for demand 2 too, starts at power-up"
unfoldable pub list_of : List Act → List Call
list_of l = list_from machine0 l

-- calls made one by one
abbrev pub callings : List Call → List Act
callings [] = []
callings (x ∷ l) = calling x ∷ callings l

-- all that is to be seen, one after the other
unfoldable pub seen_from : Machine → List Act → List Seen
seen_from m [] = []
seen_from m (x ∷ l) = showing m x ∷ seen_from (leaving m x) l

-- from power-up on, which is accepted
unfoldable pub seen_of : List Act → List Seen
seen_of l = answered (Ok tt) 0 ∷ seen_from machine0 l
