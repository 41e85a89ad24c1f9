-- `write_trace` meets its contract: the bytes so far, with the repeats still to come, are the trace (`Wrote`).
use Prim.Native.Nat.{◌+◌, ◌*◌, ◌≤◌}
use native.Mathlib.Omega.{arith}
use mathlib.Core.Path.{◌≡◌, sym, ap}
use borrow.Rule.Slice.PartMut.{Post-is}
use lib.ListN.{length}
use Rattle.std.proofs.Common.{inl}
use Rattle.std.specs.Iterator.Adapters.{enumerate_count}
use Rattle.captures.specs.Nine.{records_in}
use Rattle.captures.proofs.Joins.{few_records}
use Rattle.captures.proofs.Wrote.{wrote_all, wrote_at, wrote_by, wrote_few, wrote_more, wrote_none, wrote_room}
use Rattle.captures.proofs.traces.write_trace.Goals as goal

pub loop-record-init : goal.loop-record-init
loop-record-init c =
    let t = c.args.frames.now in
    let e = c.enumerate-record-items.ensures in
    rw (c.into_iter-record-iterator.ensures.into_iter_gives, e.source, e.count, c.of.ensures)
    ((tt, tt, inl (omega (arith, few_records t, c.well_formed.0.1))), tt, wrote_none (records_in t) c.requires)

pub overflow_mul-at : goal.overflow_mul-at
overflow_mul-at c =
    let s = c.in-Some.ensures.steps in
    let w = wrote_by s.0 c.loop-record.invariant.2 in
    omega (arith, s.1, wrote_room w, c.loop-record.auto.out)

pub overflow_add-at : goal.overflow_add-at
overflow_add-at c =
    let s = c.in-Some.ensures.steps in
    let w = wrote_by s.0 c.loop-record.invariant.2 in
    omega (arith, s.1, wrote_room w, c.loop-record.auto.out)

pub slice_bounds-put-end : goal.slice_bounds-put-end
slice_bounds-put-end c =
    let s = c.in-Some.ensures.steps in
    let w = wrote_by s.0 c.loop-record.invariant.2 in
    let r : 14 * c.in-Some.record + 14 ≤ length c.loop-record.out = omega (arith, s.1, wrote_room w) in
    r

pub loop-record-preserved : goal.loop-record-preserved
loop-record-preserved c =
    let s = c.in-Some.ensures.steps in
    let at = 14 * c.in-Some.record in
    let w = wrote_at (ap (λ n. 14 * n) (sym s.1)) (wrote_by s.0 c.loop-record.invariant.2) in
    let m = wrote_more w _ (rw (c.put.ensures, Post-is at (at + 14) c.loop-record.out (omega arith))) in
    let e : at + 14 ≡ 14 * enumerate_count c.next.new.self = omega (arith, s.1, s.2) in
    let n = wrote_at e m in
    ((tt, tt, inl (omega (arith, wrote_few (enumerate_count c.next.new.self) n))), tt, n)

pub returns : goal.returns
returns c = wrote_all (wrote_by c.in-None.ensures.steps.0.0 c.loop-record.invariant.2)
