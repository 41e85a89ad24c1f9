-- `horizon` meets its contract: one gate's timer after the other (`fold_horizon`).
use mathlib.Core.Path.{◌∙◌}
use borrow.Author.Rules.{rules}
use Rattle.std.proofs.lemmas.Iterator.{YieldsList-from_slice}
use Rattle.std.proofs.lemmas.Iterator.Consumers.{fold_from_yields_List}
use Rattle.gate_leaps.specs.Leap.{sooner}
use Rattle.gate_leaps.proofs.Leaps.{fold_horizon}
use Rattle.gate_leaps.proofs.leap.horizon.Goals as goal

pub returns : goal.returns
returns c =
    let a = c.args in
    fold_from_yields_List _ (λ most g. sooner g most) a.k c.fold.result c.fold.ensures.ran (YieldsList-from_slice a.gates.now (cc)) (λ most x next q k. search (rules, k))
    ∙ fold_horizon a.gates.now a.k c.told-gates
