-- The next offset of a run is what the records that it passed take: 14 bytes for a tick record, 7 for a write or a tag.
use Prim.Native.Nat.{ℕ, zero, suc, ◌+◌}
use native.Mathlib.Nat.{add-zero}
use native.Mathlib.Omega.{arith}
use mathlib.Core.Bool.{true, false}
use mathlib.Core.List.{List}
use mathlib.Core.Path.{◌≡◌, sym}
use lib.ListN.{length}
use Rattle.device.specs.State.{Machine}
use Rattle.records.specs.Records.{next_at, payload_at, record_at, ticks_at}
use Rattle.trace.specs.Passed.{passed_from, passed_in}
use Rattle.trace.specs.Run.{Run, begun, by_record, call_in, once_of, passes, run_from, run_of, ticks_in}
use Rattle.trace.proofs.Halts.{turn}
use Rattle.trace.proofs.Listed.{halted_stays}
use Rattle.demands.specs.Conditions.{bytes_in, bytes_of}

module _ (t : List ℕ) (budget : ℕ) where
  -- a run goes on behind what the record takes, or has halted before it
  moved : (r : Run) → (once_of t budget r).progress.going ≡ true →
      (once_of t budget r).progress.report.next ≡ r.progress.report.next + bytes_of (record_at t r.progress.report.next)
  unfolding once_of record_at payload_at ticks_at by_record call_in ticks_in passes next_at
  moved r g = grind arith

  stayed : (r : Run) → (once_of t budget r).progress.going ≡ false → (once_of t budget r).progress.report.next ≡ r.progress.report.next
  unfolding once_of record_at payload_at ticks_at by_record call_in ticks_in passes next_at
  stayed r g = grind arith

  next_from : (fuel : ℕ) (r : Run) → r.progress.going ≡ true →
      (run_from fuel t budget r).progress.report.next ≡ r.progress.report.next + bytes_in (passed_from fuel t budget r)
  unfolding run_from passed_from
  next_from zero r e = sym (add-zero _)
  next_from (suc fuel) r e =
      grind (arith, turn t budget fuel r e, next_from fuel (once_of t budget r), moved r, stayed r, halted_stays t budget fuel (once_of t budget r))

  -- the next offset of a run
  pub run_next : (m : Machine) → (run_of t budget m).progress.report.next ≡ bytes_in (passed_in t budget m)
  unfolding run_of passed_in
  run_next m = grind (arith, next_from (length t + 1) (begun m))
