-- Demand 1, of the records of a run: each meets the first of its checks that holds, and the run ends before the record that stops it, by the
-- cause that is reported.
use Prim.Native.Nat.{ℕ, zero, suc, ◌+◌, ◌-◌}
use native.Mathlib.Omega.{arith}
use mathlib.Core.Bool.{true, false, not, true≢false}
use mathlib.Core.List.{List}
use mathlib.Core.Path.{◌≡◌, refl, sym, ap, ◌∙◌}
use lib.ListN.{length}
use Rattle.causes.specs.Causes.{is_done}
use Rattle.device.specs.State.{Machine}
use Rattle.registers.specs.Calls.{Call}
use Rattle.loader.specs.Memory.{is_whole}
use Rattle.records.specs.Records.{Found, levels_at, payload_at, record_at, ticks_at}
use Rattle.sheet.proofs.Theorems.{run_halts, run_stops}
use Rattle.trace.specs.Passed.{calls_of}
use Rattle.trace.specs.Run.{Run, begun, by_record, call_in, machine_of, once_of, one, passes, run_from, run_of, ticks_in}
use Rattle.trace.proofs.Halts.{turn}
use Rattle.trace.proofs.Listed.{halted_stays}
use Rattle.demands.specs.Conditions.{Fate, stopped, refused_tick, passed_on, Goes, halts, goes_on, cause_of, checks, conditions_of, fate_of, gone_by, next_run}
use Rattle.demands.specs.Seen.{calling}
use Rattle.demands.proofs.Ends.{answers}

module _ (t : List ℕ) (budget : ℕ) where
  abbrev place : Run → ℕ
  place r = r.progress.report.next

  abbrev ticks_left : Run → ℕ
  ticks_left r = budget - r.progress.report.ticks

  abbrev next : Run → Found
  next r = record_at t (place r)

  abbrev fate : Run → Fate
  fate r = fate_of t (place r) (ticks_left r)

  -- a write or a tag: refused where a condition holds
  called : (r : Run) (x : Call) → call_in t r x ≡ passes t r (one x) 0 (not (is_done (cause_of (machine_of r) (calling x))))
  unfolding call_in conditions_of
  called r x = grind (arith, answers)

  -- the record at the run's offset
  pub once : (r : Run) → once_of t budget r ≡ gone_by t r (next r) (fate r)
  unfolding once_of record_at payload_at ticks_at levels_at by_record ticks_in checks gone_by calls_of
  once r = grind (arith, called)

  -- a run that has halted, and whose next record makes of it what it is
  halted_by : (r : Run) (x : Found) (f : Fate) → r ≡ gone_by t r x f → r.progress.going ≡ false → stopped r.progress.report.stop ≡ f
  unfolding gone_by passes
  halted_by r x f e g = grind arith

  pub run_cause : (m : Machine) → is_whole m.memory ≡ true →
      stopped (run_of t budget m).progress.report.stop
      ≡ fate_of t (run_of t budget m).progress.report.next (budget - (run_of t budget m).progress.report.ticks)
  run_cause m whole = halted_by (run_of t budget m) _ _ (sym (run_stops t budget m whole) ∙ once (run_of t budget m)) (run_halts t budget m)

  -- a run that goes, with turns enough to halt, goes record by record
  goes_from : (fuel : ℕ) (r : Run) → r.progress.going ≡ true → (run_from fuel t budget r).progress.going ≡ false → Goes t budget (run_from fuel t budget r) r
  unfolding run_from gone_by passes
  goes_from zero r e h = absurd (true≢false (sym e ∙ h))
  goes_from (suc fuel) r e h = by (goes_from fuel (next_run t budget r)) (fate r) refl
    where
      Rest : Type 0
      Rest =
          (next_run t budget r).progress.going ≡ true → (run_from fuel t budget (next_run t budget r)).progress.going ≡ false →
          Goes t budget (run_from fuel t budget (next_run t budget r)) (next_run t budget r)

      next_turn : run_from (suc fuel) t budget r ≡ run_from fuel t budget (next_run t budget r)
      next_turn = sym (turn t budget fuel r e) ∙ ap (run_from fuel t budget) (once r)

      on : Rest → (next_run t budget r).progress.going ≡ true → Goes t budget (run_from (suc fuel) t budget r) r
      on rest g = goes_on r g (rw next_turn (rest g (rw next_turn at h)))

      by : Rest → (f : Fate) → fate r ≡ f → Goes t budget (run_from (suc fuel) t budget r) r
      by rest (stopped stop) f = halts r stop f (next_turn ∙ halted_stays t budget fuel (next_run t budget r) (rw f))
      by rest refused_tick f = on rest (rw f)
      by rest passed_on f = on rest (rw f)

  -- so does every run on a memory of 16,384 words, from its beginning
  pub run_goes : (m : Machine) → is_whole m.memory ≡ true → Goes t budget (run_of t budget m) (begun m)
  unfolding run_of
  run_goes m whole =
      rw whole (goes_from (length t + 1) (begun m) refl (rw whole at (run_halts t budget m)))
