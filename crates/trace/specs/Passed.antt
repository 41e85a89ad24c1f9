-- Document 01, "The one-counter sheet": "a trace run stands in it for the calls of the records it passes".
use Rattle.std.specs.Prelude.{ℕ, zero, suc, ◌+◌, List, [], ◌∷◌, ◌++◌, Some, None, Ok, Err, length}
use Rattle.bools.specs.Pick.{pick}
use Rattle.loader.specs.Memory.{is_whole}
use Rattle.registers.specs.Calls.{Call, tick, write, tag}
use Rattle.device.specs.State.{Machine}
use Rattle.lines.specs.Lines.{bad_levels}
use Rattle.records.specs.declared.Record.TheVariants.{Ticks, Write, Tag}
use Rattle.records.specs.Records.{Found, record_at}
use Rattle.trace.specs.Run.{Run, begun, once_of, one, repeated}

-- the calls of a record: a repeat n is n ticks, a refused tick record one refused tick
unfoldable pub calls_of : Found → List Call
calls_of (Err cause) = []
calls_of (Ok None) = []
calls_of (Ok (Some (Ticks n levels))) =
    pick (bad_levels levels.inputs levels.gates) (one (tick levels.inputs levels.gates)) (repeated n (tick levels.inputs levels.gates))
calls_of (Ok (Some (Write a w))) = one (write a w)
calls_of (Ok (Some (Tag e))) = one (tag e)

unfoldable pub calls_in : List Found → List Call
calls_in [] = []
calls_in (r ∷ rs) = calls_of r ++ calls_in rs

-- the records that a run passes: those after which it goes on
unfoldable pub passed_from : ℕ → List ℕ → ℕ → Run → List Found
passed_from zero t budget r = []
passed_from (suc fuel) t budget r =
    let next : Run = once_of t budget r in
    pick {A = Run → List Found} next.progress.going
    (λ (q : Run). record_at t r.progress.report.next ∷ passed_from fuel t budget q)
    (λ (q : Run). [])
    next

unfoldable pub passed_in : List ℕ → ℕ → Machine → List Found
passed_in t budget m = pick (is_whole m.memory) (passed_from (length t + 1) t budget (begun m)) []
