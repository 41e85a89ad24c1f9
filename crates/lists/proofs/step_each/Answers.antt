use Rattle.std.proofs.Common.{◌≡◌, ◌≢◌, refl, length, ◌<◌, arith, get_or, get_or-set_other, get_or-set_same, below_more}
use Rattle.lists.proofs.Made.{each_is}
use Rattle.lists.proofs.Sweep.{get_d_any}
use Rattle.lists.proofs.step_each.Goals as goal

pub loop-i-init : goal.loop-i-init
loop-i-init g c = ((λ d k l. absurd (omega arith)), (λ d k l. refl))

pub loop-i-preserved : goal.loop-i-preserved
loop-i-preserved g c = (
  (λ d.
      below_more _ _
      (λ k h. let ne : k ≢ c.loop-i.i = omega arith in rw get_or-set_other (c.loop-i.invariant.0 d k h))
      (let lt : c.loop-i.i < length c.loop-i.xs = omega arith in
      let same : get_or c.loop-i.xs c.loop-i.i d ≡ get_or c.args.xs.now c.loop-i.i d = c.loop-i.invariant.1 d _ (omega arith) in
      let read : get_or c.loop-i.xs c.loop-i.i c.index-xs-i.result ≡ get_or c.loop-i.xs c.loop-i.i d = get_d_any _ _ _ _ lt in
      rw (get_or-set_same, ← same, ← read) c.step.ensures)),
  (λ d k h. let ne : k ≢ c.loop-i.i = omega arith in rw get_or-set_other (c.loop-i.invariant.1 d k (omega arith))),
)

pub returns-clause-each : goal.returns-clause-each
returns-clause-each g c f h d = each_is _ d f _ _ refl (omega arith) (λ k l. h k _ _ l (c.loop-i.invariant.0 d k (omega arith)))

pub returns-clause-called : goal.returns-clause-called
returns-clause-called g c d i h = c.loop-i.invariant.0 d i (omega arith)
