-- What is left of so many ticks at the same levels, once a stretch of them is made.
use Rattle.std.specs.Prelude.{ℕ, false, List, ◌≡◌, length}
use Rattle.device.specs.declared.state.Crate.{Crate}
use Rattle.registers.specs.Calls.{from, tick}
use Rattle.device.specs.State.{machine}
use Rattle.lines.specs.Lines.{bad_levels}
use Rattle.trace.specs.Run.{repeated}
use Rattle.loader.specs.Memory.{memory_words}

-- k ticks from the one crate end where n do from the other, on every memory, unless they are refused
pub record SameEnd (inputs gates : ℕ) (s : Crate) (n : ℕ) (t : Crate) (k : ℕ) : Type 0 where
  pub same : (memory : List ℕ) → length memory ≡ memory_words → bad_levels inputs gates ≡ false →
      from (machine t memory) (repeated k (tick inputs gates)) ≡ from (machine s memory) (repeated n (tick inputs gates))
