-- `state_word` meets its contract: each field is a state's number, and past the list that of `gate0`.
use Prim.Native.Nat.{◌+◌, ◌*◌, ◌≤◌, ◌<◌}
use native.Mathlib.Omega.{arith}
use borrow.Author.Rules.{rules}
use borrow.Author.Tests.{ltb-false, ltb-true}
use lib.Dec.{ltb}
use lib.ListN.{get_or-eq_default, length}
use Rattle.bools.proofs.Tests.{cases}
use Rattle.gates.specs.Gate.{gate_at, gate0, state_word}
use Rattle.gates.proofs.gate.state_word.Goals as goal

pub returns : goal.returns
unfolding state_word gate_at
returns c =
    let a = c.args in
    c.from_fields.ensures _
    (λ i v h p.
    let g = 4 * a.k + i in
    cases (ltb g 12)
    (λ e. let l : g < 12 = ltb-true g 12 e in search (rules, p))
    (λ e. let l : length a.gates.now ≤ g = omega (arith, ltb-false g 12 e, c.told-gates) in rw (get_or-eq_default a.gates.now gate0 l) (search rules)))
