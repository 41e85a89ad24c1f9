-- Every run stops: a record has three bytes at least, so the trace's length and one turn more are enough.
use Prim.Native.Nat.{ℕ, zero, suc, ◌+◌, ◌-◌, ◌<◌, ◌≤◌}
use native.Mathlib.Nat.{not-suc-le-zero}
use native.Mathlib.Omega.{arith}
use mathlib.Core.Bool.{Bool, true, false, false≢true, true≢false}
use mathlib.Core.List.{List}
use mathlib.Core.Path.{◌≡◌, refl, sym, ap, subst, ◌∙◌}
use lib.Dec.{ltb}
use lib.ListN.{length}
use Rattle.std.proofs.Common.{Some, None, Ok, Err}
use Rattle.bools.proofs.Tests.{cases, pick_elim}
use Rattle.loader.specs.Memory.{is_whole}
use Rattle.registers.proofs.Whole.{WholeMemory}
use Rattle.registers.specs.Calls.{Call, tick, write, tag}
use Rattle.device.specs.State.{Machine}
use Rattle.lines.specs.declared.levels.Levels.{Levels}
use Rattle.lines.specs.Lines.{bad_levels}
use Rattle.records.specs.declared.Record.TheVariants.{Ticks, Write, Tag}
use Rattle.records.specs.declared.Stop.{Stop}
use Rattle.records.specs.declared.Stop.TheVariants.{End, Spent, Refused}
use Rattle.records.specs.Records.{Found, next_at, record_at}
use Rattle.trace.specs.Run.{Run, begun, by_record, call_in, once_of, one, passes, repeated, report_of, run_from, run_of, stops_by, ticks_in}
use Rattle.trace.specs.Sound.{Sound}
use Rattle.trace.proofs.Listed.{halted_stays, run_on_lem}
use Rattle.trace.proofs.Steps.{Within, once_sound, record_whole, run_begins}

abbrev pub place : Run → ℕ
place r = r.progress.report.next

-- after r, either the run stops at q or q stands further on in the trace
record Further (t : List ℕ) (r q : Run) : Type 0 where
  further : q.progress.going ≡ true → (place r < place q) × (place q ≤ length t)

module _ (t : List ℕ) (budget : ℕ) where
  stop_further : (r : Run) (stop : Stop) → Further t r (stops_by stop r)
  stop_further r stop = record { further = λ e. absurd (false≢true e) }

  pass_further : (r : Run) → next_at t (place r) ≤ length t → (calls : List Call) (ticks : ℕ) (b : Bool) → Further t r (passes t r calls ticks b)
  unfolding passes next_at
  pass_further r h calls ticks b = record { further = λ e. (omega arith, h) }

  ticks_further : (r : Run) → next_at t (place r) ≤ length t → (n inputs gates : ℕ) → Further t r (ticks_in t budget r n inputs gates)
  unfolding ticks_in
  ticks_further r h n inputs gates =
      pick_elim (Further t r) (bad_levels inputs gates) (λ e. pass_further r h (one (tick inputs gates)) 0 true)
      (λ e. pick_elim (Further t r) (ltb (budget - r.progress.report.ticks) n) (λ e. stop_further r Spent)
      (λ e. pass_further r h (repeated n (tick inputs gates)) n false))

  record_further : (r : Run) (x : Found) → Within t (place r) x → Further t r (by_record t budget x r)
  unfolding by_record call_in
  record_further r (Err cause) w = stop_further r (Refused cause)
  record_further r (Ok None) w = stop_further r End
  record_further r (Ok (Some (Ticks n levels))) w = ticks_further r w.1 n levels.inputs levels.gates
  record_further r (Ok (Some (Write a v))) w = pass_further r w.1 (one (write a v)) 0 _
  record_further r (Ok (Some (Tag e))) w = pass_further r w.1 (one (tag e)) 0 _

  once_further : (r : Run) → Further t r (once_of t budget r)
  unfolding once_of
  once_further r = record_further r (record_at t (place r)) (record_whole t (place r)).fits

  -- one turn more
  pub turn : (fuel : ℕ) (r : Run) → r.progress.going ≡ true → run_from fuel t budget (once_of t budget r) ≡ run_from (suc fuel) t budget r
  turn fuel r e =
      let d : suc fuel - 1 ≡ fuel = omega arith in
      let p : 0 < suc fuel = omega arith in rw d at (run_on_lem t budget (suc fuel) r e p)

  -- more turns than bytes left
  halts_from : (fuel : ℕ) (r : Run) → r.progress.going ≡ true → length t - place r < fuel → (run_from fuel t budget r).progress.going ≡ false
  halts_from zero r e h = absurd (not-suc-le-zero h)
  halts_from (suc fuel) r e h =
      ap (λ (q : Run). q.progress.going) (sym (turn fuel r e))
      ∙ cases (once_of t budget r).progress.going
      (λ g. halts_from fuel (once_of t budget r) g (omega (arith, ((once_further r).further g).0, ((once_further r).further g).1)))
      (λ g. ap (λ (q : Run). q.progress.going) (halted_stays t budget fuel (once_of t budget r) g) ∙ g)

  -- turns past the bytes left make nothing more of a run
  enough : (fuel more : ℕ) (r : Run) → r.progress.going ≡ true → length t - place r < fuel → length t - place r < more →
      run_from fuel t budget r ≡ run_from more t budget r
  enough zero more r e h l = absurd (not-suc-le-zero h)
  enough (suc fuel) zero r e h l = absurd (not-suc-le-zero l)
  enough (suc fuel) (suc more) r e h l =
      sym (turn fuel r e)
      ∙ cases (once_of t budget r).progress.going
      (λ g.
      let f = (once_further r).further g in
      enough fuel more (once_of t budget r) g (omega (arith, f.0, f.1)) (omega (arith, f.0, f.1)))
      (λ g. halted_stays t budget fuel (once_of t budget r) g ∙ sym (halted_stays t budget more (once_of t budget r) g))
      ∙ turn more r e

  -- the turns that a run can still have: one for each byte left, and one more
  abbrev pub ended : Run → Run
  ended r = run_from (length t + 1 - place r) t budget r

  pub begun_ended : (m : Machine) → WholeMemory m.memory → ended (begun m) ≡ run_of t budget m
  begun_ended m h = let e : length t + 1 - 0 ≡ length t + 1 = omega arith in rw e (run_begins t budget m h)

  -- a record makes no other end of a run: of one that goes on, and then further on in the trace; and of one that stops
  pub goes_on : (r : Run) → r.progress.going ≡ true → place r ≤ length t → (once_of t budget r).progress.going ≡ true →
      (ended (once_of t budget r) ≡ ended r) × (length t - place (once_of t budget r) < length t - place r)
  goes_on r e h g =
      let f = (once_further r).further g in
      let s : length t + 1 - place r ≡ suc (length t - place r) = omega arith in (
        enough (length t + 1 - place (once_of t budget r)) (length t - place r) (once_of t budget r) g (omega (arith, f.1)) (omega (arith, f.0, f.1))
            ∙ rw s (turn (length t - place r) r e),
        omega (arith, f.0, f.1),
      )

  pub stops_here : (r : Run) → r.progress.going ≡ true → place r ≤ length t → (once_of t budget r).progress.going ≡ false → once_of t budget r ≡ ended r
  stops_here r e h g =
      let s : length t + 1 - place r ≡ suc (length t - place r) = omega arith in
      sym (halted_stays t budget (length t - place r) (once_of t budget r) g) ∙ rw s (turn (length t - place r) r e)

  pub run_halts : (m : Machine) → (run_of t budget m).progress.going ≡ false
  unfolding run_of
  run_halts m =
      cases (is_whole m.memory)
      (λ e. rw e (halts_from (length t + 1) (begun m) refl (omega arith)))
      (λ e. rw e)

  -- the numbers of a run stay sound: within the trace, one record at most for each offset, within the budget
  sound_from : (fuel : ℕ) (r : Run) → Sound t budget r.progress.report → Sound t budget (run_from fuel t budget r).progress.report
  unfolding run_from
  sound_from zero r s = s
  sound_from (suc fuel) r s =
      cases r.progress.going
      (λ e. subst (λ (q : Run). Sound t budget q.progress.report) (turn fuel r e) (sound_from fuel (once_of t budget r) (once_sound t budget r s)))
      (λ e. subst (λ (q : Run). Sound t budget q.progress.report) (sym (halted_stays t budget (suc fuel) r e)) s)

  pub run_sound : (m : Machine) → Sound t budget (run_of t budget m).progress.report
  unfolding run_of
  run_sound m =
      cases (is_whole m.memory)
      (λ e. rw e (sound_from (length t + 1) (begun m) start))
      (λ e. rw e start)
    where
      start : {stop : Stop} → Sound t budget (report_of stop 0 0 0 0)
      start = record { place = omega arith; passes = omega arith; refusals = omega arith; spent = omega arith }

  -- ---- a run stops where the next record stops it

  -- where record x stops the run r, it stops what is left again, by the same cause
  record Again (x : Found) (r q : Run) : Type 0 where
    again : q.progress.going ≡ false → (place q ≡ place r) × (by_record t budget x q ≡ q)

  pass_again : (x : Found) (r : Run) (calls : List Call) (ticks : ℕ) (b : Bool) → Again x r (passes t r calls ticks b)
  unfolding passes
  pass_again x r calls ticks b = record { again = λ e. absurd (true≢false e) }

  spent_again : (r : Run) (n inputs gates : ℕ) → bad_levels inputs gates ≡ false → ltb (budget - r.progress.report.ticks) n ≡ true →
      ticks_in t budget (stops_by Spent r) n inputs gates ≡ stops_by Spent r
  unfolding ticks_in
  spent_again r n inputs gates good long = rw (good, long)

  ticks_again : (r : Run) (n : ℕ) (levels : Levels) → Again (Ok (Some (Ticks n levels))) r (ticks_in t budget r n levels.inputs levels.gates)
  unfolding ticks_in by_record
  ticks_again r n levels =
      let x : Found = Ok (Some (Ticks n levels)) in
      pick_elim (Again x r) (bad_levels levels.inputs levels.gates)
      (λ e. pass_again x r (one (tick levels.inputs levels.gates)) 0 true)
      (λ good.
      pick_elim (Again x r) (ltb (budget - r.progress.report.ticks) n)
      (λ long. record { again = λ e. (refl, spent_again r n levels.inputs levels.gates good long) })
      (λ e. pass_again x r (repeated n (tick levels.inputs levels.gates)) n false))

  record_again : (x : Found) (r : Run) → Again x r (by_record t budget x r)
  unfolding by_record call_in
  record_again (Err cause) r = record { again = λ e. (refl, refl) }
  record_again (Ok None) r = record { again = λ e. (refl, refl) }
  record_again (Ok (Some (Ticks n levels))) r = ticks_again r n levels
  record_again (Ok (Some (Write a v))) r = pass_again (Ok (Some (Write a v))) r (one (write a v)) 0 _
  record_again (Ok (Some (Tag e))) r = pass_again (Ok (Some (Tag e))) r (one (tag e)) 0 _

  once_again : (r : Run) → (once_of t budget r).progress.going ≡ false → once_of t budget (once_of t budget r) ≡ once_of t budget r
  unfolding once_of
  once_again r e =
      let h = (record_again (record_at t (place r)) r).again e in
      ap (λ (at : ℕ). by_record t budget (record_at t at) (by_record t budget (record_at t (place r)) r)) h.0 ∙ h.1

  stops_from : (fuel : ℕ) (r : Run) → r.progress.going ≡ true → length t - place r < fuel → once_of t budget (run_from fuel t budget r) ≡ run_from fuel t budget r
  stops_from zero r e h = absurd (not-suc-le-zero h)
  stops_from (suc fuel) r e h =
      subst (λ (q : Run). once_of t budget q ≡ q) (turn fuel r e)
      (cases (once_of t budget r).progress.going
      (λ g. stops_from fuel (once_of t budget r) g (omega (arith, ((once_further r).further g).0, ((once_further r).further g).1)))
      (λ g. subst (λ (q : Run). once_of t budget q ≡ q) (sym (halted_stays t budget fuel (once_of t budget r) g)) (once_again r g)))

  -- the record at the next offset stops the run that is handed back, by the cause that is reported
  pub run_stops : (m : Machine) → is_whole m.memory ≡ true → once_of t budget (run_of t budget m) ≡ run_of t budget m
  unfolding run_of
  run_stops m e = rw e (stops_from (length t + 1) (begun m) refl (omega arith))
