-- Document 01, "Slips to expect": worked cases that a definition with the slip does not meet. The must-fail edit idle_crate is refused by them.
use mathlib.Core.Bool.{true}
use mathlib.Core.List.{List, [], ◌∷◌}
use mathlib.Core.Path.{◌≡◌, refl}
use lib.ListN.{replicate}
use Rattle.lists.specs.Checks.{Row, row, right}
use Rattle.registers.specs.Calls.{tick, write, download}
use Rattle.registers.proofs.Cases.{reads, often, triggered}
use Rattle.registers.proofs.Computing.{computing}

unfoldable pub slips : List Row
slips =
    -- a counter patched to a line that is high already has seen no rise
    row 0 (reads (write 0x0802 1 ∷ tick 1 1 ∷ write 0x1000 0x0D80 ∷ tick 1 1 ∷ []) 0x1200)
    -- a forwarded gate trips its output while the gate's input is low, and not while it is high
    ∷ row 0x3E (reads (write 0x1115 1 ∷ []) 0x0719)
    ∷ row 0x3F (reads (write 0x1115 1 ∷ tick 0 1 ∷ []) 0x0719)
    -- a reload reads the memory as it is when the counter is handled
    ∷ row 9
    (reads (download 1 (1 ∷ replicate 511 0) ∷ write 0x0A02 (triggered 1 0) ∷ write 0x8200 9 ∷ often 2 (tick 0 0)) 0x1800)
    ∷ []

pub slips_right : right slips ≡ true
unfolding computing slips
slips_right = refl
