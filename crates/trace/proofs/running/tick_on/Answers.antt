-- `tick_on` meets its contract: what the ticks left make of the crate is the same at each turn, after a tick (`calls_less`) and after a leap (`SameEnd`).
use native.Mathlib.Omega.{arith}
use mathlib.Core.Path.{◌≡◌, sym, ◌∙◌}
use Rattle.trace.proofs.Steps.{calls_less, calls_none}
use Rattle.trace.proofs.running.tick_on.Goals as goal
use Rattle.trace.proofs.running.tick_on.Goals.{then-state-levels+then-left-ge-WORTH, else-state-levels}

pub loop-left-preserved : goal.loop-left-preserved
loop-left-preserved c =
    let l = c.loop-left in
    rw (c.tick-answer.ensures.1, calls_less l.left _ _ (omega arith)) l.invariant

pub loop-left-preserved-then-is_none : goal.loop-left-preserved-then-is_none
loop-left-preserved-then-is_none c =
    let l = c.loop-left in
    let a = c.args in
    c.leap_on-left-then-is_none.ensures.1.same a.mem.now (omega arith) c.requires
    ∙ rw (c.tick-answer.ensures.1, calls_less l.left _ _ (omega arith)) l.invariant

pub returns : goal.returns
returns c =
    let l = c.loop-left in
    let a = c.args in
    let e : l.left ≡ 0 = omega arith in
    sym (calls_none _ _)
    ∙ (rw e at l.invariant)
    ∙ elim c.if-state-levels.branch [
      | then-state-levels+then-left-ge-WORTH w ↦
          rw (w.state-is, w.left-is)
          (w.leap_on-left.ensures.1.same a.mem.now (omega arith) c.requires)
      | else-state-levels w ↦ rw (w.state-is, w.left-is)
    ]
