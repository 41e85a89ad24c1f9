-- `change_gates` meets its contract, by what the closure makes of each gate.
use borrow.Author.Rules.{rules}
use Rattle.words.specs.Word.{bit}
use Rattle.gates.specs.Gate.{each_gate, gate0}
use Rattle.gates.proofs.gate.change_gates.Goals as goal

pub returns : goal.returns
unfolding each_gate
returns g c = λ f k. let stepped = c.step_each.ensures.each (λ i x. f (bit c.args.w i) x) (λ i x next h p. search (rules, k, p)) gate0 in search (rules, stepped)
