-- `run` meets its contract: what the turns left make of the run is the same at each turn (`goes_on`), and a run that stops has none left (`stops_here`).
use Prim.Native.Nat.{ℕ, ◌-◌, ◌<◌, ◌≤◌}
use mathlib.Core.Bool.{true, false}
use mathlib.Core.List.{List}
use mathlib.Core.Path.{◌≡◌, refl, sym, ap, subst, ◌∙◌}
use borrow.Author.Tests.{ne_eqb}
use lib.ListN.{length}
use Rattle.device.specs.State.{machine}
use Rattle.causes.specs.declared.Cause.TheVariants.{Memory}
use Rattle.records.specs.declared.Stop.TheVariants.{Refused}
use Rattle.trace.specs.declared.Report.{Report}
use Rattle.trace.specs.Run.{Run, once_of, progress_of, run, run_of, stopped}
use Rattle.trace.proofs.Halts.{begun_ended, ended, goes_on, place, stops_here}
use Rattle.trace.proofs.running.run.Goals as goal

pub returns-in_default : goal.returns-in_default
unfolding run_of
returns-in_default c =
    let a = c.args in
    rw (ne_eqb (length a.mem.now) 16384 c.in_default.ensures.cases)
    (ap (λ (r : Report). run (progress_of a.state.now (stopped r (Refused Memory)) false) a.mem.now) c.new-running.ensures.0)

pub loop-stop-init : goal.loop-stop-init
loop-stop-init c =
    let a = c.args in
    let begun = c.new-running.ensures in
    let whole = c.in-Some.ensures.cases in
    record {
      trace = begun.1;
      budget = begun.2;
      same =
          rw whole.same
          (ap (λ (r : Report). ended a.trace.now a.budget (run (progress_of a.state.now r true) a.mem.now)) begun.0
          ∙ begun_ended a.trace.now a.budget (machine a.state.now a.mem.now) whole.long);
    }

-- the next offset is within the trace
within : {t u : List ℕ} {at : ℕ} → u ≡ t → at ≤ length u → at ≤ length t
within e h = rw (← e) h

pub returns-in-Err : goal.returns-in-Err
returns-in-Err c =
    let t = c.args.trace.now in
    let budget = c.args.budget in
    let l = c.loop-stop in
    let i = l.invariant in
    let r : Run = run (progress_of l.state l.running.report true) l.mem in
    let turn : run (progress_of c.once.new.state (stopped c.once.new.self.report c.in-Err.stop) false) c.once.new.mem ≡ once_of t budget r =
    rw (c.in-Err.is, i.trace, i.budget) at c.once.ensures.0 in
    turn ∙ stops_here t budget r refl (within i.trace l.running.sound.place) (ap (λ (q : Run). q.progress.going) (sym turn)) ∙ i.same

pub loop-stop-smaller : goal.loop-stop-smaller
loop-stop-smaller c =
    let t = c.args.trace.now in
    let budget = c.args.budget in
    let l = c.loop-stop in
    let i = l.invariant in
    let r : Run = run (progress_of l.state l.running.report true) l.mem in
    let turn : run (progress_of c.once.new.state c.once.new.self.report true) c.once.new.mem ≡ once_of t budget r =
    rw (c.in_default-once.is, i.trace, i.budget) at c.once.ensures.0 in
    subst (λ (q : Run). length t - place q < length t - place r) (sym turn)
    (goes_on t budget r refl (within i.trace l.running.sound.place) (ap (λ (q : Run). q.progress.going) (sym turn))).1

pub loop-stop-preserved : goal.loop-stop-preserved
loop-stop-preserved c =
    let t = c.args.trace.now in
    let budget = c.args.budget in
    let l = c.loop-stop in
    let i = l.invariant in
    let r : Run = run (progress_of l.state l.running.report true) l.mem in
    let turn : run (progress_of c.once.new.state c.once.new.self.report true) c.once.new.mem ≡ once_of t budget r =
    rw (c.in_default-once.is, i.trace, i.budget) at c.once.ensures.0 in
    record {
      trace = c.once.ensures.1.trace ∙ i.trace;
      budget = c.once.ensures.1.budget ∙ i.budget;
      same =
          ap (λ (q : Run). ended t budget q) turn
          ∙ (goes_on t budget r refl (within i.trace l.running.sound.place) (ap (λ (q : Run). q.progress.going) (sym turn))).0
          ∙ i.same;
    }
