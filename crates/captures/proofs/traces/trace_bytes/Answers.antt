-- `trace_bytes` meets its contract: the first bad level by its place, and the records counted.
use native.Mathlib.Omega.{arith}
use mathlib.Core.Path.{◌≡◌, refl}
use lib.ListN.{length}
use Rattle.std.proofs.Common.{inl, rules, tests}
use Rattle.std.proofs.lemmas.Iterator.{YieldsList-from_slice}
use Rattle.std.proofs.lemmas.Iterator.Consumers.{YieldsList-from_first, count_from_yields_List}
use Rattle.std.proofs.lemmas.Iterator.Search.{position_from_yields_List}
use Rattle.captures.specs.Nine.{records_in, records_left, repeat_of}
use Rattle.captures.proofs.Joins.{few_records}
use Rattle.captures.proofs.Sizes.{bad, bad_told, bytes_told}
use Rattle.captures.proofs.traces.trace_bytes.Goals as goal

pub returns-in-Some : goal.returns-in-Some
returns-in-Some c =
    let t = c.args.frames.now in
    bad_told t c.position.result c.in-Some.frame
    (position_from_yields_List bad _ _ _ c.position.ensures.ran (YieldsList-from_slice t c.iter.ensures.rest) (λ x b q k. search (rules, tests)))
    c.in-Some.is

-- a slice has fewer than 2 ^ 63 bytes, so 14 for each nine of them fit a word
pub count-requires-clause-fits : goal.count-requires-clause-fits
count-requires-clause-fits c = inl (rw c.of.ensures (omega (arith, few_records c.args.frames.now, c.well_formed.0.1)))

pub overflow_mul-result : goal.overflow_mul-result
overflow_mul-result c =
    let n : c.count.result ≡ length (records_in c.args.frames.now) =
    count_from_yields_List c.of.result c.count.result c.count.ensures.ran (YieldsList-from_first repeat_of records_left (records_in c.args.frames.now) (rw c.of.ensures refl)) in
    omega (arith, n, few_records c.args.frames.now, c.well_formed.0.1)

pub returns : goal.returns
returns c =
    let t = c.args.frames.now in
    bytes_told t c.position.result c.count.result
    (position_from_yields_List bad _ _ _ c.position.ensures.ran (YieldsList-from_slice t c.iter.ensures.rest) (λ x b q k. search (rules, tests)))
    c.in_default.is
    (count_from_yields_List c.of.result c.count.result c.count.ensures.ran (YieldsList-from_first repeat_of records_left (records_in t) (rw c.of.ensures refl)))
