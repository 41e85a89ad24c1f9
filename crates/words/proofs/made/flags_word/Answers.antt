-- `flags_word` meets its contract: bit b is the flag of element 16 k + b, and past the last element that of `d`, which is not set.
use Prim.Native.Nat.{ℕ, zero, suc, ◌+◌, ◌*◌, ◌≤◌, ◌<◌}
use native.Mathlib.Nat.{not-suc-le-zero, le_of_suc-le-suc}
use borrow.Author.Rules.{rules}
use borrow.Author.Tests.{ltb-false, ltb-true}
use lib.Dec.{ltb}
use lib.ListN.{get_or, get_or-eq_default, length}
use mathlib.Core.List.{List, [], ◌∷◌}
use mathlib.Core.Path.{◌≡◌, refl}
use Rattle.bools.proofs.Tests.{cases}
use Rattle.words.proofs.made.flags_word.Goals as goal

-- within a list the default does not matter
read_with : {A : Type 0} (xs : List A) (i : ℕ) (d e : A) → i < length xs → get_or xs i d ≡ get_or xs i e
read_with [] i d e h = absurd (not-suc-le-zero h)
read_with (x ∷ xs) zero d e h = refl
read_with (x ∷ xs) (suc i) d e h = read_with xs i d e (le_of_suc-le-suc h)

pub returns : goal.returns
returns g c = λ f d flags none.
    let a = c.args in
    c.from_bits.ensures _
    (λ b t h p.
    let n = 16 * a.k + b in
    cases (ltb n (length a.xs.now))
    (λ e.
    let l : n < length a.xs.now = ltb-true n _ e in
    let read : (x : g.row.T.Denot) → get_or a.xs.now n d ≡ get_or a.xs.now n x = λ x. read_with a.xs.now n d x l in
    search (rules, flags, read))
    (λ e. let l : length a.xs.now ≤ n = ltb-false n _ e in rw (get_or-eq_default a.xs.now d l, none) (search rules)))
