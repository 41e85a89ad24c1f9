-- What power-up leaves on a memory of 16,384 words.
use Prim.Native.Nat.{ℕ}
use mathlib.Core.List.{List}
use mathlib.Core.Path.{◌≡◌}
use borrow.Author.Tests.{eq-eqb}
use lib.ListN.{length}
use Rattle.device.specs.declared.state.Crate.{Crate}
use Rattle.causes.specs.Causes.{Answer}
use Rattle.device.specs.State.{machine, memory0}
use Rattle.registers.specs.Calls.{machine0, powered, powered_memory}
use Rattle.loader.specs.Memory.{memory_words}

-- `words` is the memory lent, `start` the memory powered up
pub powered_up : (words start : List ℕ) (o : Crate × Answer) → length words ≡ memory_words → (o ≡ powered words) × (start ≡ powered_memory words) →
    machine o.0 start ≡ machine0
unfolding powered powered_memory
powered_up words start o long p =
    let ps = p.1 in
    let m : start ≡ memory0 = rw eq-eqb at ps in
    rw (p.0, m)
