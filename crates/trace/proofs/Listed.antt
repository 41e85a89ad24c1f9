-- A run is the list of the calls of the records that it passes: its crate and memory are those after the list, and its ticks, records and
-- refusals are the counts over it.
use Prim.Native.Nat.{ℕ, zero, suc, ◌+◌, ◌-◌, ◌<◌}
use native.Mathlib.Nat.{add_assoc, add-zero, not-suc-le-zero}
use native.Mathlib.Omega.{arith}
use mathlib.Core.Bool.{Bool, true, false}
use mathlib.Core.List.{List, [], ◌∷◌, ◌++◌}
use mathlib.Core.Path.{◌≡◌, refl, sym, ap, ◌∙◌}
use borrow.Author.Tests.{eqb-true}
use lib.Dec.{ltb}
use lib.ListN.{length}
use Rattle.std.proofs.Common.{Some, None, Ok, Err}
use Rattle.bools.specs.Pick.{pick}
use Rattle.bools.proofs.Tests.{cases}
use Rattle.loader.specs.Memory.{is_whole}
use Rattle.registers.specs.Calls.{Call, tick, write, tag, accepted_ticks, answer, call_answer, from, is_refused, refusals}
use Rattle.device.specs.State.{Machine}
use Rattle.lines.specs.declared.levels.Levels.{Levels}
use Rattle.lines.specs.Lines.{bad_levels}
use Rattle.registers.proofs.Whole.{WholeMemory, full_from}
use Rattle.registers.proofs.Lists.{from_append, refusals_append, refusals_repeated, ticks_append, ticks_repeated}
use Rattle.records.specs.declared.Record.TheVariants.{Ticks, Write, Tag}
use Rattle.records.specs.declared.Stop.{Stop}
use Rattle.records.specs.declared.Stop.TheVariants.{End, Spent, Refused}
use Rattle.causes.specs.declared.Cause.TheVariants.{Memory}
use Rattle.trace.specs.Passed.{calls_in, calls_of, passed_from, passed_in}
use Rattle.records.specs.Records.{Found, record_at}
use Rattle.trace.specs.Run.{Run, begun, by_record, call_in, machine_of, once_of, passes, repeated, run_from, run_of, stops_by, ticks_in}

-- what `n` records with these calls make of a run
pub record Passes (r q : Run) (n : ℕ) (calls : List Call) : Type 0 where
  pub state : machine_of q ≡ from (machine_of r) calls
  pub records : q.progress.report.records ≡ r.progress.report.records + n
  pub ticks : q.progress.report.ticks ≡ r.progress.report.ticks + accepted_ticks calls
  pub refused : q.progress.report.refused ≡ r.progress.report.refused + refusals (machine_of r) calls

passes_none : (r : Run) → Passes r r 0 []
unfolding from accepted_ticks refusals
passes_none r = record { state = refl; records = sym (add-zero _); ticks = sym (add-zero _); refused = sym (add-zero _) }

passes_stop : (r : Run) (stop : Stop) → Passes r (stops_by stop r) 0 []
unfolding from accepted_ticks refusals
passes_stop r stop = record { state = refl; records = sym (add-zero _); ticks = sym (add-zero _); refused = sym (add-zero _) }

passes_both : {r q s : Run} {n k : ℕ} {calls more : List Call} → Passes r q n calls → Passes q s k more → Passes r s (n + k) (calls ++ more)
passes_both {r} {q} {s} {n} {k} {calls} {more} a b = record {
  state = b.state ∙ ap (λ (m : Machine). from m more) a.state ∙ sym (from_append (machine_of r) calls more);
  records = b.records ∙ rw a.records (add_assoc _ n k);
  ticks = b.ticks ∙ rw (a.ticks, ticks_append calls more) (add_assoc _ (accepted_ticks calls) (accepted_ticks more));
  refused =
      b.refused
      ∙ rw (a.refused, a.state, refusals_append (machine_of r) calls more)
      (add_assoc _ (refusals (machine_of r) calls) (refusals (from (machine_of r) calls) more));
}

-- one record: the run passes it by its calls, or it stops and nothing changes but the stop
pub data Turn (r q : Run) (calls : List Call) : Type 0 where
  going : q.progress.going ≡ true → Passes r q 1 calls → Turn r q calls
  halted : q.progress.going ≡ false → Passes r q 0 [] → Turn r q calls

module _ (t : List ℕ) (budget : ℕ) where
  call_turn : (r : Run) (x : Call) → accepted_ticks (x ∷ []) ≡ 0 → Turn r (call_in t r x) (x ∷ [])
  unfolding call_in passes refusals
  call_turn r x e = going refl (record {
    state = refl;
    records = refl;
    ticks = rw e;
    refused = rw add-zero;
  })

  stop_turn : (r : Run) (calls : List Call) (stop : Stop) → Turn r (stops_by stop r) calls
  stop_turn r calls stop = halted refl (passes_stop r stop)

  tick_refused : (inputs gates : ℕ) (m : Machine) → bad_levels inputs gates ≡ true → is_refused m (tick inputs gates) ≡ true
  unfolding answer call_answer
  tick_refused inputs gates m bad = cases (is_whole m.memory) (λ e. rw (e, bad)) (λ e. rw e)

  ticks_turn : (r : Run) → WholeMemory r.memory → (n : ℕ) (levels : Levels) → Turn r (ticks_in t budget r n levels.inputs levels.gates) (calls_of (Ok (Some (Ticks n levels))))
  unfolding ticks_in calls_of passes repeated
  ticks_turn r h n levels =
      let inputs = levels.inputs in
      let gates = levels.gates in
      cases (bad_levels inputs gates)
      (λ bad.
      rw bad
      (going refl (record {
        state = refl;
        records = refl;
        ticks = unfold accepted_ticks in (rw bad);
        refused = unfold refusals in (rw (tick_refused inputs gates (machine_of r) bad));
      })))
      (λ good.
      rw good
      (cases (ltb (budget - r.progress.report.ticks) n)
      (λ e. rw e (stop_turn r _ Spent))
      (λ e.
      rw e
      (going refl (record {
        state = refl;
        records = refl;
        ticks = rw (ticks_repeated inputs gates good n);
        refused = rw (refusals_repeated inputs gates good n (machine_of r) h);
      })))))

  record_turn : (r : Run) → WholeMemory r.memory → (x : Found) → Turn r (by_record t budget x r) (calls_of x)
  unfolding by_record calls_of
  record_turn r h (Err cause) = stop_turn r _ (Refused cause)
  record_turn r h (Ok None) = stop_turn r _ End
  record_turn r h (Ok (Some (Ticks n levels))) = ticks_turn r h n levels
  record_turn r h (Ok (Some (Write a w))) = call_turn r (write a w) (unfold accepted_ticks in refl)
  record_turn r h (Ok (Some (Tag e))) = call_turn r (tag e) (unfold accepted_ticks in refl)

  whole_after : (r q : Run) {n : ℕ} {calls : List Call} → WholeMemory r.memory → Passes r q n calls → WholeMemory q.memory
  whole_after r q {n} {calls} h p = ap (λ (m : Machine). length m.memory) p.state ∙ full_from (machine_of r) h calls

  -- one turn of a run; the equation goes into the test alone, as a rewrite would go into the run itself
  run_by : (fuel : ℕ) (r : Run) {b : Bool} → r.progress.going ≡ b →
      run_from (suc fuel) t budget r ≡ pick {A = Run → Run} b (λ (q : Run). run_from fuel t budget (once_of t budget q)) (λ (q : Run). q) r
  unfolding run_from
  run_by fuel r e =
      ap (λ (b : Bool). pick {A = Run → Run} b (λ (q : Run). run_from fuel t budget (once_of t budget q)) (λ (q : Run). q) r) e

  pub run_on_lem : (fuel : ℕ) (r : Run) → r.progress.going ≡ true → 0 < fuel →
      run_from (fuel - 1) t budget (once_of t budget r) ≡ run_from fuel t budget r
  run_on_lem zero r e h = absurd (not-suc-le-zero h)
  run_on_lem (suc fuel) r e h = let d : suc fuel - 1 ≡ fuel = omega arith in rw d (sym (run_by fuel r e))

  pub halted_stays : (fuel : ℕ) (q : Run) → q.progress.going ≡ false → run_from fuel t budget q ≡ q
  unfolding run_from
  halted_stays zero q e = refl
  halted_stays (suc fuel) q e = run_by fuel q e

  -- the records passed after one that leads to q
  abbrev behind : ℕ → Found → Run → List Found
  behind fuel x q = pick {A = Run → List Found} q.progress.going (λ (q : Run). x ∷ passed_from fuel t budget q) (λ (q : Run). []) q

  behind_by : (fuel : ℕ) (x : Found) (q : Run) {b : Bool} → q.progress.going ≡ b →
      behind fuel x q ≡ pick {A = Run → List Found} b (λ (q : Run). x ∷ passed_from fuel t budget q) (λ (q : Run). []) q
  behind_by fuel x q e =
      ap (λ (b : Bool). pick {A = Run → List Found} b (λ (q : Run). x ∷ passed_from fuel t budget q) (λ (q : Run). []) q) e

  abbrev Along : ℕ → Run → Type 0
  Along fuel r = Passes r (run_from fuel t budget r) (length (passed_from fuel t budget r)) (calls_in (passed_from fuel t budget r))

  turned : (fuel : ℕ) → ((q : Run) → WholeMemory q.memory → q.progress.going ≡ true → Along fuel q) →
      (r : Run) → WholeMemory r.memory → (x : Found) (q : Run) → Turn r q (calls_of x) →
      Passes r (run_from fuel t budget q) (length (behind fuel x q)) (calls_in (behind fuel x q))
  unfolding calls_in
  turned fuel more r h x q (going f p) = rw (behind_by fuel x q f) (counted (passes_both p (more q (whole_after r q h p) f)))
    where
      counted : {s : Run} {n : ℕ} {calls : List Call} → Passes r s (1 + n) calls → Passes r s (suc n) calls
      counted {s} {n} {calls} p = let e : 1 + n ≡ suc n = omega arith in rw e at p
  turned fuel more r h x q (halted f p) = rw (behind_by fuel x q f, halted_stays fuel q f) p

  -- a run from one that goes on
  along : (fuel : ℕ) (r : Run) → WholeMemory r.memory → r.progress.going ≡ true → Along fuel r
  unfolding run_from passed_from calls_in
  along zero r h e = passes_none r
  along (suc fuel) r h e =
      rw (run_by fuel r e)
      (turned fuel (along fuel) r h (record_at t r.progress.report.next) (once_of t budget r)
      (unfold once_of in (record_turn r h (record_at t r.progress.report.next))))

  pub run_is_list : (m : Machine) → Passes (begun m) (run_of t budget m) (length (passed_in t budget m)) (calls_in (passed_in t budget m))
  unfolding run_of passed_in calls_in
  run_is_list m =
      cases (is_whole m.memory)
      (λ e. rw e (along (length t + 1) (begun m) (eqb-true _ _ e) refl))
      (λ e. rw e (passes_stop (begun m) (Refused Memory)))
