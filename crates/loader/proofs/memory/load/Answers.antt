-- `load` meets its contract: the part's words are the memory's from `base` on (`loaded_part`), and past the memory they are 0 (`loaded_past`).
use Prim.Native.Nat.{ℕ, ◌+◌, ◌-◌, ◌*◌, ◌≤◌, ◌<◌}
use native.Mathlib.Nat.{add_assoc}
use native.Mathlib.Omega.{arith}
use mathlib.Core.List.{List}
use mathlib.Core.Path.{◌≡◌, sym, ◌∙◌}
use borrow.Author.Tests.{ltb-true}
use lib.IntN.{pos}
use lib.ListN.{length, get_or, take, drop, get_or-eq_default}
use lib.Seq.{get_or-take, get_or-drop}
use Rattle.counters.specs.declared.counter.Counter.{Counter}
use Rattle.counters.specs.Counter.{with_thresholds}
use Rattle.loader.specs.Memory.{loaded, word_at}
use Rattle.loader.proofs.memory.load.Goals as goal

-- word i of the part from base is word base + i of the whole
part_at : (m : List ℕ) (base n i : ℕ) → i < n → get_or (take n (drop base m)) i 0 ≡ get_or m (base + i) 0
part_at m base n i h = rw (get_or-take n (drop base m) i 0 h, get_or-drop)

loaded_part : (m : List ℕ) (base n at : ℕ) (c : Counter) → at + 3 < n → loaded (take n (drop base m)) at c ≡ loaded m (base + at) c
unfolding loaded word_at
loaded_part m base n at c h =
    rw (part_at m base n at (omega arith), part_at m base n (at + 1) (omega arith), part_at m base n (at + 2) (omega arith), part_at m base n (at + 3) h, add_assoc base at 1, add_assoc base at 2, add_assoc base at 3)

loaded_past : (m : List ℕ) (at : ℕ) (c : Counter) → length m ≤ at → loaded m at c ≡ with_thresholds c (pos 0) (pos 0)
unfolding loaded word_at
loaded_past m at c h =
    let z : (i : ℕ) → at ≤ i → get_or m i 0 ≡ 0 = λ i l. get_or-eq_default m 0 (omega arith) in
    rw (z at (omega arith), z (at + 1) (omega arith), z (at + 2) (omega arith), z (at + 3) (omega arith))

pub returns-in_default : goal.returns-in_default
returns-in_default c =
    let a = c.args in
    let l : 31 < a.dataset = ltb-true 31 a.dataset c.in_default.ensures in
    c.with_thresholds.ensures ∙ sym (loaded_past a.mem.now (512 * a.dataset + 4 * a.n.number) a.c (omega (arith, c.told-mem, l)))

pub returns : goal.returns
returns c =
    let a = c.args in
    let base = 512 * c.in-Some.dataset.number in
    c.load_from.ensures ∙ rw (c.part.ensures.0, c.part.ensures.1, sym c.in-Some.ensures.1) (loaded_part a.mem.now base (base + 512 - base) (4 * a.n.number) a.c (omega arith))
