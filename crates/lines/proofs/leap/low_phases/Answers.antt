-- `low_phases` meets its contract: each phase is below 125,000 (`low_all`).
use mathlib.Core.Bool.{true, false}
use mathlib.Core.Path.{◌≡◌}
use borrow.Author.Rules.{rules}
use lib.Dec.{ltb}
use Rattle.std.proofs.lemmas.Iterator.{YieldsList-from_slice, cases_from_all}
use Rattle.lines.proofs.Leaps.{low_all}
use Rattle.lines.proofs.leap.low_phases.Goals as goal

pub returns : goal.returns
returns c =
    let a = c.args in
    low_all a.phases.now c.all.result c.told-phases
    (cases_from_all _ _ _ (λ p. ltb p 125000 ≡ true) (λ p. ltb p 125000 ≡ false) c.all.ensures.ran (YieldsList-from_slice a.phases.now (cc)) (λ x q k. search rules) (λ x q k. search rules))
