-- Document 01, "Trace and printing program": the run of a trace with a budget of ticks, and its report.
use Rattle.std.specs.Prelude.{ℕ, zero, suc, ◌+◌, ◌-◌, Bool, true, false, List, [], ◌∷◌, Some, None, Ok, Err, ltb, length}
use Rattle.bools.specs.Pick.{pick}
use Rattle.words.specs.Word.{bit_of}
use Rattle.lists.specs.Table.{tabulate}
use Rattle.device.specs.declared.state.Crate.{Crate}
use Rattle.loader.specs.Memory.{is_whole}
use Rattle.registers.specs.Calls.{Call, tick, write, tag, from, is_refused}
use Rattle.device.specs.State.{Machine, machine}
use Rattle.lines.specs.Lines.{bad_levels}
use Rattle.records.specs.declared.Record.TheVariants.{Ticks, Write, Tag}
use Rattle.trace.specs.declared.Report.{Report}
use Rattle.records.specs.declared.Stop.{Stop}
use Rattle.records.specs.declared.Stop.TheVariants.{End, Spent, Refused}
use Rattle.causes.specs.declared.Cause.TheVariants.{Memory}
use Rattle.records.specs.Records.{Found, next_at, record_at}

-- "stop cause, offset of the next record, ticks, records passed (refused ones included), records refused"
abbrev pub report_of : Stop → ℕ → ℕ → ℕ → ℕ → Report
report_of stop next ticks records refused = record { stop = stop; next = next; ticks = ticks; records = records; refused = refused }

-- the crate and the report so far, and whether the run goes on
pub record Progress : Type 0 where
  pub state : Crate
  pub report : Report
  pub going : Bool

abbrev pub progress_of : Crate → Report → Bool → Progress
progress_of s r going = record { state = s; report = r; going = going }

-- a run on its way, with its memory
pub record Run : Type 0 where
  pub progress : Progress
  pub memory : List ℕ

abbrev pub run : Progress → List ℕ → Run
run p memory = record { progress = p; memory = memory }

abbrev pub run_on : Machine → Report → Bool → Run
run_on m r going = run (progress_of m.state r going) m.memory

abbrev pub machine_of : Run → Machine
machine_of r = machine r.progress.state r.memory

-- "A run stops": crate and memory stay, and so do next offset, ticks, records and refusals
abbrev pub stopped : Report → Stop → Report
stopped r stop = report_of stop r.next r.ticks r.records r.refused

abbrev pub stops_by : Stop → Run → Run
stops_by stop r = run_on (machine_of r) (stopped r.progress.report stop) false

-- a record is passed: its calls are made, so many ticks are used, and a refusal "counts once"
abbrev pub passed : List ℕ → Report → ℕ → Bool → Report
passed t r ticks refused = report_of r.stop (next_at t r.next) (r.ticks + ticks) (r.records + 1) (r.refused + bit_of refused)

unfoldable pub passes : List ℕ → Run → List Call → ℕ → Bool → Run
passes t r calls ticks refused = run_on (from (machine_of r) calls) (passed t r.progress.report ticks refused) true

abbrev pub one : Call → List Call
one x = x ∷ []

unfoldable pub repeated : ℕ → Call → List Call
repeated n x = tabulate n (λ k. x)

-- a tick record: "then 6, then the budget": it stops the run "before a tick record whose repeat exceeds the ticks left"
unfoldable pub ticks_in : List ℕ → ℕ → Run → ℕ → ℕ → ℕ → Run
ticks_in t budget r n inputs gates =
    pick (bad_levels inputs gates) (passes t r (one (tick inputs gates)) 0 true)
    (pick (ltb (budget - r.progress.report.ticks) n) (stops_by Spent r) (passes t r (repeated n (tick inputs gates)) n false))

-- "A call refused by 2 to 6 counts once and the run goes on, using no ticks": the memory is whole, and a record is no download
unfoldable pub call_in : List ℕ → Run → Call → Run
call_in t r x = passes t r (one x) 0 (is_refused (machine_of r) x)

unfoldable pub by_record : List ℕ → ℕ → Found → Run → Run
by_record t budget (Err cause) r = stops_by (Refused cause) r
by_record t budget (Ok None) r = stops_by End r
by_record t budget (Ok (Some (Ticks n levels))) r = ticks_in t budget r n levels.inputs levels.gates
by_record t budget (Ok (Some (Write a w))) r = call_in t r (write a w)
by_record t budget (Ok (Some (Tag e))) r = call_in t r (tag e)

unfoldable pub once_of : List ℕ → ℕ → Run → Run
once_of t budget r = by_record t budget (record_at t r.progress.report.next) r

-- record by record until it stops; `pick` chooses between functions, so that only the branch taken is computed
unfoldable pub run_from : ℕ → List ℕ → ℕ → Run → Run
run_from zero t budget r = r
run_from (suc fuel) t budget r =
    pick {A = Run → Run} r.progress.going (λ (q : Run). run_from fuel t budget (once_of t budget q)) (λ (q : Run). q) r

abbrev pub begun : Machine → Run
begun m = run_on m (report_of End 0 0 0 0) true

-- a record is longer than one byte, so the trace's length and one turn more are enough.
-- "a run the number and zeros in the rest of its report" where the memory is not 16,384 words
unfoldable pub run_of : List ℕ → ℕ → Machine → Run
run_of t budget m = pick (is_whole m.memory) (run_from (length t + 1) t budget (begun m)) (stops_by (Refused Memory) (begun m))
