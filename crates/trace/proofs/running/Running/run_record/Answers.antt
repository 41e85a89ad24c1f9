-- `run_record` meets its contract: what a call of a record ensures (`call_made`).
use mathlib.Core.Bool.{true}
use mathlib.Core.Path.{ap, ◌∙◌}
use Rattle.std.specs.Result.{is_ok}
use Rattle.registers.specs.Calls.{write, tag}
use Rattle.trace.specs.Run.{Run, by_record, progress_of, run}
use Rattle.trace.proofs.Steps.{call_made}
use Rattle.trace.proofs.running.Running.run_record.Goals as goal
use Rattle.trace.proofs.running.Running.run_record.Goals.{in-Write, in-Tag}

pub returns : goal.returns
unfolding by_record
returns c =
    let a = c.args in
    let r : Run = run (progress_of a.state.now a.self.now.report true) a.mem.now in
    elim c.match-record.branch [
      | in-Write w ↦
          rw (w.in-Write.is, w.state-is, w.mem-is, c.then_some.ensures)
          (call_made a.self.now.trace.now r (write w.in-Write.address w.in-Write.word) w.write-answer.ensures.1
          (c.is_ok.ensures.value ∙ ap is_ok (w.answer-is ∙ w.write-answer.ensures.0)))
      | in-Tag w ↦
          rw (w.in-Tag.is, w.state-is, w.mem-is, c.then_some.ensures)
          (call_made a.self.now.trace.now r (tag w.in-Tag.tag) w.tag-answer.ensures.1
          (c.is_ok.ensures.value ∙ ap is_ok (w.answer-is ∙ w.tag-answer.ensures.0)))
    ]
