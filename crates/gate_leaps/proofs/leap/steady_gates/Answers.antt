-- `steady_gates` meets its contract: each gate stays at the level of its number (`steady_all`).
use mathlib.Core.Bool.{true, false}
use mathlib.Core.Path.{◌≡◌}
use borrow.Author.Rules.{rules}
use Rattle.std.proofs.lemmas.Iterator.{YieldsList-from_slice, cases_from_all}
use Rattle.std.proofs.lemmas.Iterator.Consumers.{YieldsList-from_enumerate, YieldsList-at}
use Rattle.gate_leaps.proofs.Leaps.{stays_at, steady_all}
use Rattle.gate_leaps.proofs.leap.steady_gates.Goals as goal

pub returns : goal.returns
returns c =
    let a = c.args in
    steady_all a.k a.levels a.gates.now c.all.result c.told-gates
    (cases_from_all _ _ _ (λ p. stays_at a.k a.levels p ≡ true) (λ p. stays_at a.k a.levels p ≡ false) c.all.ensures.ran
    (YieldsList-from_enumerate (YieldsList-at c.enumerate.ensures.source (YieldsList-from_slice a.gates.now (cc))) (cc))
    (λ x q k. search rules) (λ x q k. search rules))
