-- `next` meets what `Repeats` says of it: what it returns, with the repeats that are left, are those that were left before.
use native.Mathlib.Omega.{arith}
use mathlib.Core.Path.{refl, ap, ◌∙◌}
use lib.ListN.{length}
use Rattle.captures.specs.Nine.{frame_of}
use Rattle.captures.proofs.Joins.{going_all, going_first, records_none}
use Rattle.captures.proofs.frames.RepeatsIterator.next.Goals as goal

pub returns-in_err-first-clause-steps : goal.returns-in_err-first-clause-steps
returns-in_err-first-clause-steps c =
    let e = records_none c.args.self.now.frames.now c.in_err-first.ensures.cases in
    rw c.from_residual.ensures (e, e)

pub returns-clause-steps : goal.returns-clause-steps
returns-clause-steps c =
    let f = c.in_ok-first in
    let x = frame_of c.from-frame.result in
    going_first x f.first.now f.behind.now f.ensures.cases.0 c.from-frame.ensures
    ∙ going_all x 65534 1 f.behind.now (omega arith)
    ∙ rw (c.split_at.ensures.back, c.joined-more.ensures.joined) refl

pub returns-clause-goes : goal.returns-clause-goes
returns-clause-goes c =
    let e = ap length (returns-clause-steps c) in
    record { on = λ f. (tt, tt, omega (arith, e)); keeps = tt; rests = λ f. tt }
