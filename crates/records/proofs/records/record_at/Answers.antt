-- `record_at` meets its contract behind a whole header of a known kind (`header_read`).
use native.Mathlib.Omega.{arith}
use mathlib.Core.Path.{sym, ap, ◌∙◌}
use borrow.Author.Tests.{eq-eqb, ne_eqb}
use Rattle.std.proofs.lemmas.Result.{err_from_is_err_and}
use Rattle.records.specs.Kinds.{found}
use Rattle.records.proofs.Behind.{header_read}
use Rattle.records.proofs.records.record_at.Goals as goal

pub returns-then-from_be_bytes-payload_bytes : goal.returns-then-from_be_bytes-payload_bytes
returns-then-from_be_bytes-payload_bytes c =
    let kind = c.in_ok-kind-in-Some-len3-up in
    rw (
      ← (header_read kind.kind c.args.t.now c.args.at c.in-Some-len3-up.ensures.lookup.0.2 (omega arith) kind.ensures),
      ← c.from_be_bytes.ensures,
      ← c.payload_bytes.ensures,
      ne_eqb _ _ c.if-from_be_bytes-payload_bytes.true,
    )

pub returns-in_ok-read-in-Some-len3-up : goal.returns-in_ok-read-in-Some-len3-up
returns-in_ok-read-in-Some-len3-up c =
    let kind = c.in_ok-kind-in-Some-len3-up in
    let size = sym c.from_be_bytes.ensures ∙ c.if-from_be_bytes-payload_bytes.false ∙ c.payload_bytes.ensures in
    sym (ap found c.in_ok-read-in-Some-len3-up.was)
    ∙ c.read.ensures
    ∙ (rw (eq-eqb _ _ size) at (header_read kind.kind c.args.t.now c.args.at c.in-Some-len3-up.ensures.lookup.0.2 (omega arith) kind.ensures))

pub returns-in_err-read-in-Some-len3-up : goal.returns-in_err-read-in-Some-len3-up
returns-in_err-read-in-Some-len3-up c =
    let kind = c.in_ok-kind-in-Some-len3-up in
    let size = sym c.from_be_bytes.ensures ∙ c.if-from_be_bytes-payload_bytes.false ∙ c.payload_bytes.ensures in
    let told = c.from_residual-in_err-read-in-Some-len3-up in
    let p = err_from_is_err_and told.result told.ensures.1 in
    rw (p.1, p.2)
    (sym (ap found c.in_err-read-in-Some-len3-up.was)
    ∙ c.read.ensures
    ∙ (rw (eq-eqb _ _ size) at (header_read kind.kind c.args.t.now c.args.at c.in-Some-len3-up.ensures.lookup.0.2 (omega arith) kind.ensures)))
