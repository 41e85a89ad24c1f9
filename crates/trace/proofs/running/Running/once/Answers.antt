-- `once` meets its contract: a record is passed as its bytes and a refusal are counted (`counted`), and the numbers stay sound (`counted_sound`).
use native.Mathlib.Omega.{arith}
use mathlib.Core.Bool.{true}
use mathlib.Core.Path.{refl, sym, ap, ◌∙◌}
use Rattle.std.proofs.Common.{Ok}
use Rattle.trace.specs.declared.Report.{Report}
use Rattle.trace.specs.Run.{once_of, progress_of, run}
use Rattle.trace.proofs.Steps.{counted, counted_sound}
use Rattle.trace.proofs.running.Running.once.Goals as goal

pub overflow_add-self-2 : goal.overflow_add-self-2
overflow_add-self-2 c =
    let r = c.args.self.now in
    let known = sym c.record_at.ensures ∙ c.in_ok-record.was ∙ ap Ok c.in-Some.is in
    let sound = counted_sound r.trace.now r.report known r.budget c.in_ok-ticks.ticks c.args.state.now c.args.mem.now r.sound (rw c.in_ok-ticks.was at c.run_record.ensures) in
    omega (arith, sound.spent)

pub invariant_of-self : goal.invariant_of-self
invariant_of-self c =
    let r = c.args.self.now in
    let known = sym c.record_at.ensures ∙ c.in_ok-record.was ∙ ap Ok c.in-Some.is in
    let sound = counted_sound r.trace.now r.report known r.budget c.in_ok-ticks.ticks c.args.state.now c.args.mem.now r.sound (rw c.in_ok-ticks.was at c.run_record.ensures) in
    record { sound = rw (counted r.trace.now r.report known c.in_ok-ticks.ticks c.is_none.result c.bytes.ensures c.unwrap_or.ensures c.is_none.ensures c.from.ensures) sound }

pub returns : goal.returns
unfolding once_of
returns c =
    let r = c.args.self.now in
    let known = sym c.record_at.ensures ∙ c.in_ok-record.was ∙ ap Ok c.in-Some.is in (
      ap (λ (q : Report). run (progress_of c.run_record.new.state q true) c.run_record.new.mem) (counted r.trace.now r.report known c.in_ok-ticks.ticks c.is_none.result c.bytes.ensures c.unwrap_or.ensures c.is_none.ensures c.from.ensures)
          ∙ (rw c.in_ok-ticks.was at c.run_record.ensures)
          ∙ rw known,
      record { trace = refl; budget = refl },
    )
