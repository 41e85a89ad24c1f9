-- `convert` meets its contract: each way out by the check that it has come to (`proofs/Checks`).
use Rattle.std.proofs.lemmas.Result.{err_from_is_err_and}
use Rattle.captures.proofs.Checks.{bad_told, done_told, no_room_told, none_left, ragged_told, some_left}
use Rattle.captures.proofs.convert.Goals as goal

pub returns-then-not-is_empty : goal.returns-then-not-is_empty
returns-then-not-is_empty c =
    ragged_told c.args.capture.now c.args.out.now (some_left c.as_chunks.ensures.back_len c.is_empty.ensures c.if-not-is_empty.true)

pub returns-in_err-bytes : goal.returns-in_err-bytes
returns-in_err-bytes c =
    let p = err_from_is_err_and c.from_residual.result c.from_residual.ensures.1 in
    rw (p.1, p.2)
    (bad_told c.args.capture.now c.args.out.now (none_left c.as_chunks.ensures.back_len c.is_empty.ensures c.if-not-is_empty.false)
    c.as_chunks.result.0.now c.as_chunks.ensures.front _ c.in_err-bytes.ensures)

pub returns-then-out-bytes : goal.returns-then-out-bytes
returns-then-out-bytes c =
    no_room_told c.args.capture.now c.args.out.now (none_left c.as_chunks.ensures.back_len c.is_empty.ensures c.if-not-is_empty.false)
    c.as_chunks.result.0.now c.as_chunks.ensures.front _ c.in_ok-bytes.ensures c.if-out-bytes.true

pub returns : goal.returns
returns c =
    done_told c.args.capture.now c.args.out.now (none_left c.as_chunks.ensures.back_len c.is_empty.ensures c.if-not-is_empty.false)
    c.as_chunks.result.0.now c.as_chunks.ensures.front _ c.in_ok-bytes.ensures c.if-out-bytes.false _ c.write_trace.ensures
