-- Laws of records and of one step of a run.
use Prim.{Unit, tt}
use Prim.Native.Nat.{ℕ, zero, suc, ◌+◌, ◌-◌, ◌<◌, ◌≤◌}
use native.Mathlib.Nat.{not-suc-le-zero}
use native.Mathlib.Omega.{arith}
use mathlib.Core.Bool.{Bool, true, false, not}
use mathlib.Core.List.{List}
use mathlib.Core.Path.{◌≡◌, refl, sym, ap, subst, ◌∙◌}
use borrow.Author.Tests.{eqb-true, eqb-false, ltb-false}
use lib.Dec.{eqb, ltb, lit≤}
use lib.ListN.{length}
use mir.Val.{bool_byte}
use Rattle.words.specs.Word.{bit_of}
use Rattle.std.specs.Bool.{then_some}
use Rattle.std.specs.Prelude.{Option, is_none, is_ok, is_some, unwrap_or}
use Rattle.std.proofs.Common.{Some, None, Ok, Err}
use Rattle.bools.proofs.Tests.{cases, pick_elim}
use Rattle.lists.specs.Table.{table_from, tabulate}
use Rattle.loader.specs.Memory.{is_whole}
use Rattle.registers.proofs.Whole.{WholeMemory, is_whole_lem}
use Rattle.registers.specs.Calls.{Call, tick, write, tag, answer, called, from, is_refused, step}
use Rattle.device.specs.declared.state.Crate.{Crate}
use Rattle.causes.specs.Causes.{Answer, is_done}
use Rattle.device.specs.State.{Machine, machine}
use Rattle.lines.specs.Lines.{bad_levels}
use Rattle.records.specs.declared.Record.{Record}
use Rattle.records.specs.declared.Record.TheVariants.{Ticks, Write, Tag}
use Rattle.trace.specs.declared.Report.{Report}
use Rattle.records.specs.Records.{Found, bytes_taken, header_bytes, is_known, length_at, next_at, number_at, payload_at, payload_bytes, record_at, repeat_bytes, tag_at, ticks_at}
use Rattle.records.specs.declared.Stop.{Stop}
use Rattle.records.specs.declared.Stop.TheVariants.{End, Spent, Refused}
use Rattle.trace.specs.Run.{Run, begun, by_record, call_in, machine_of, once_of, one, passed, passes, progress_of, repeated, report_of, run, run_from, run_of, run_on, stopped, stops_by, ticks_in}
use Rattle.trace.specs.Sound.{Sound}
use Rattle.trace.specs.Turns.{made}

-- a refusal counts once at most
pub once_at_most : (b : Bool) → bit_of b ≤ 1
once_at_most true = lit≤ tt
once_at_most false = lit≤ tt

not_not : (b : Bool) → not (not b) ≡ b
not_not true = refl
not_not false = refl

byte_is : (b : Bool) → bool_byte b ≡ bit_of b
byte_is true = refl
byte_is false = refl

-- ---- the same call again and again

same_from : (n i j : ℕ) (x : Call) → table_from i n (λ k. x) ≡ table_from j n (λ k. x)
unfolding table_from
same_from zero i j x = refl
same_from (suc n) i j x = rw (same_from n (suc i) (suc j) x)

pub calls_none : (m : Machine) (x : Call) → from m (repeated 0 x) ≡ m
unfolding from repeated tabulate table_from
calls_none m x = refl

pub calls_less : (n : ℕ) (m : Machine) (x : Call) → 0 < n → from (step m x) (repeated (n - 1) x) ≡ from m (repeated n x)
unfolding from repeated tabulate table_from
calls_less zero m x h = absurd (not-suc-le-zero h)
calls_less (suc n) m x h =
    let d : suc n - 1 ≡ n = omega arith in rw (d, same_from n 0 1 x)

-- a tick refused by its levels changes nothing
pub tick_refused : (inputs gates : ℕ) (m : Machine) → bad_levels inputs gates ≡ true → step m (tick inputs gates) ≡ m
unfolding step called
tick_refused inputs gates m bad = cases (is_whole m.memory) (λ e. rw (e, bad)) (λ e. rw e)

-- a call as its contract says it: what a record of it passes
no_ticks : (a : Answer) → unwrap_or {T = ℕ} (then_some (is_ok a) 0) 0 ≡ zero
no_ticks (Ok _) = refl
no_ticks (Err _) = refl

none_refused : (a : Answer) → is_none {T = ℕ} (then_some (is_ok a) 0) ≡ not (is_done a)
none_refused (Ok _) = refl
none_refused (Err _) = refl

pub call_made : (t : List ℕ) (r : Run) (x : Call) {s : Crate} {memory : List ℕ} {b : Bool} → machine s memory ≡ step (machine_of r) x →
    b ≡ is_ok (answer (machine_of r) x) → run (made t r.progress.report (Ok (then_some b 0)) s) memory ≡ call_in t r x
unfolding call_in passes from
call_made t r x e h =
    rw (h, no_ticks (answer (machine_of r) x), none_refused (answer (machine_of r) x)) (ap (λ (m : Machine). run_on m (passed t r.progress.report 0 (is_refused (machine_of r) x)) true) e)

-- ---- records that stand whole

-- a record that a run may pass ends within the trace
abbrev pub Within : List ℕ → ℕ → Found → Type 0
Within t at (Err cause) = Unit {0}
Within t at (Ok None) = Unit {0}
Within t at (Ok (Some x)) = (at + bytes_taken x ≡ next_at t at) × (next_at t at ≤ length t)

-- a record of its own, so that the arguments of `pick_elim` are found
pub record Whole (t : List ℕ) (at : ℕ) (x : Found) : Type 0 where
  pub fits : Within t at x

module _ (t : List ℕ) (at : ℕ) where
  ticks_whole : (width place : ℕ) → at + (header_bytes + payload_bytes 1) ≡ next_at t at → next_at t at ≤ length t → Whole t at (ticks_at width t place)
  unfolding ticks_at
  ticks_whole width place s h =
      pick_elim (Whole t at) (eqb (number_at t place width) 0) (λ e. record { fits = tt }) (λ e. record { fits = (s, h) })

  payload_whole : (kind place : ℕ) → at + (header_bytes + payload_bytes kind) ≡ next_at t at → next_at t at ≤ length t → Whole t at (payload_at kind t place)
  unfolding payload_at
  payload_whole kind place s h =
      pick_elim (Whole t at) (eqb kind 1) (λ e. ticks_whole repeat_bytes place (rw e at s) h)
      (λ e. pick_elim (Whole t at) (eqb kind 2) (λ f. record { fits = (rw e at s, h) }) (λ f. record { fits = (rw e at s, h) }))

  -- what a record takes leads to the next
  taken : eqb (length_at t at) (payload_bytes (tag_at t at)) ≡ true → at + (header_bytes + payload_bytes (tag_at t at)) ≡ next_at t at
  unfolding next_at
  taken e = omega (arith, eqb-true (length_at t at) (payload_bytes (tag_at t at)) e)

  behind : eqb (length t - at) 0 ≡ false → ltb (length t - at) (header_bytes + length_at t at) ≡ false → next_at t at ≤ length t
  unfolding next_at
  behind e h = omega (arith, eqb-false (length t - at) 0 e, ltb-false (length t - at) (header_bytes + length_at t at) h)

  pub record_whole : Whole t at (record_at t at)
  unfolding record_at
  record_whole =
      pick_elim (Whole t at) (eqb (length t - at) 0) (λ e. record { fits = tt }) (λ some.
      pick_elim (Whole t at) (ltb (length t - at) header_bytes) (λ e. record { fits = tt }) (λ e.
      pick_elim (Whole t at) (is_known (tag_at t at)) (λ e.
      pick_elim (Whole t at) (eqb (length_at t at) (payload_bytes (tag_at t at))) (λ size.
      pick_elim (Whole t at) (ltb (length t - at) (header_bytes + length_at t at)) (λ e. record { fits = tt })
      (λ cut. payload_whole (tag_at t at) (at + header_bytes) (taken size) (behind some cut)))
      (λ e. record { fits = tt }))
      (λ e. record { fits = tt })))

  pub whole_at : {x y : Found} → y ≡ record_at t at → y ≡ x → Within t at x
  whole_at e h = subst (Within t at) (sym e ∙ h) record_whole.fits

-- one record more keeps the numbers sound
pub passed_sound : (t : List ℕ) (budget : ℕ) (r : Report) → Sound t budget r → next_at t r.next ≤ length t → (ticks : ℕ) (b : Bool) → r.ticks + ticks ≤ budget → Sound t budget (passed t r ticks b)
unfolding next_at
passed_sound t budget r s h ticks b l = record {
  place = h;
  passes = omega (arith, s.passes);
  refusals = omega (arith, s.refusals, once_at_most b);
  spent = l;
}

stopped_sound : (t : List ℕ) (budget : ℕ) (r : Report) → Sound t budget r → (stop : Stop) → Sound t budget (stopped r stop)
stopped_sound t budget r s stop = record { place = s.place; passes = s.passes; refusals = s.refusals; spent = s.spent }

-- a record of its own, as `Whole`
pub record Kept (t : List ℕ) (budget : ℕ) (r : Run) : Type 0 where
  pub sound : Sound t budget r.progress.report

module _ (t : List ℕ) (budget : ℕ) (r : Run) (s : Sound t budget r.progress.report) where
  abbrev report : Report
  report = r.progress.report

  stop_kept : (stop : Stop) → Kept t budget (stops_by stop r)
  stop_kept stop = record { sound = stopped_sound t budget report s stop }

  pass_kept : next_at t report.next ≤ length t → (calls : List Call) (ticks : ℕ) (b : Bool) → report.ticks + ticks ≤ budget → Kept t budget (passes t r calls ticks b)
  unfolding passes
  pass_kept h calls ticks b l = record { sound = passed_sound t budget report s h ticks b l }

  ticks_kept : next_at t report.next ≤ length t → (n inputs gates : ℕ) → Kept t budget (ticks_in t budget r n inputs gates)
  unfolding ticks_in
  ticks_kept h n inputs gates =
      pick_elim (Kept t budget) (bad_levels inputs gates) (λ e. pass_kept h (one (tick inputs gates)) 0 true (omega (arith, s.spent)))
      (λ e. pick_elim (Kept t budget) (ltb (budget - report.ticks) n) (λ e. stop_kept Spent)
      (λ e. pass_kept h (repeated n (tick inputs gates)) n false (omega (arith, s.spent, ltb-false (budget - report.ticks) n e))))

  pub record_kept : (x : Found) → Within t report.next x → Kept t budget (by_record t budget x r)
  unfolding by_record call_in
  record_kept (Err cause) w = stop_kept (Refused cause)
  record_kept (Ok None) w = stop_kept End
  record_kept (Ok (Some (Ticks n levels))) w = ticks_kept w.1 n levels.inputs levels.gates
  record_kept (Ok (Some (Write a v))) w = pass_kept w.1 (one (write a v)) 0 _ (omega (arith, s.spent))
  record_kept (Ok (Some (Tag e))) w = pass_kept w.1 (one (tag e)) 0 _ (omega (arith, s.spent))

  pub once_sound : Sound t budget (once_of t budget r).progress.report
  unfolding once_of
  once_sound = (record_kept (record_at t report.next) (record_whole t report.next).fits).sound

-- a record that is passed, as its bytes and a refusal are counted
module _ (t : List ℕ) (r : Report) {x : Record} (known : record_at t r.next ≡ Ok (Some x)) where
  pub counted : (used : Option ℕ) {bytes ticks bit : ℕ} (b : Bool) → bytes ≡ bytes_taken x → ticks ≡ unwrap_or used 0 → is_some used ≡ not b → bit ≡ bool_byte b →
      report_of r.stop (r.next + bytes) (r.ticks + ticks) (r.records + 1) (r.refused + bit) ≡ passed t r (unwrap_or used 0) (is_none used)
  counted used b e f g h = rw (e, f, g, h, not_not b, byte_is b, (whole_at t r.next refl known).0)

  pub counted_sound : (budget : ℕ) (used : Option ℕ) (s : Crate) (memory : List ℕ) {q : Crate} {left : List ℕ} → Sound t budget r →
      run (made t r (Ok used) q) left ≡ by_record t budget (Ok (Some x)) (run (progress_of s r true) memory) → Sound t budget (passed t r (unwrap_or used 0) (is_none used))
  counted_sound budget used s memory sound e =
      subst (λ (u : Run). Sound t budget u.progress.report) (sym e)
      (record_kept t budget (run (progress_of s r true) memory) sound (Ok (Some x)) (whole_at t r.next refl known)).sound

-- a run begins with a whole memory
pub run_begins : (t : List ℕ) (budget : ℕ) (m : Machine) → WholeMemory m.memory → run_from (length t + 1) t budget (begun m) ≡ run_of t budget m
unfolding run_of
run_begins t budget m h = rw (is_whole_lem m.memory h)
