-- `gate_bits` meets its contract, by what the closure gives of each gate.
use borrow.Author.Rules.{rules}
use Rattle.gates.specs.Gate.{gate_at, gate_bits}
use Rattle.gates.proofs.gate.gate_bits.Goals as goal

pub returns : goal.returns
unfolding gate_bits gate_at
returns g c = λ f k. c.from_bits.ensures _ (λ i b h p. search (rules, k, p))
