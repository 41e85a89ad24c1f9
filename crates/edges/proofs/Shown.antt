-- Demand 3, "its count, thresholds and both overflow bits": what counter 3 shows in the crate, by its own reads, each value its own. What its
-- sheet shows is worked in `sheet/proofs/OwnCases.antt`.
use Prim.Native.Nat.{ℕ, zero, suc}
use mathlib.Core.Bool.{Bool, true, false}
use mathlib.Core.List.{List, [], ◌∷◌, ◌++◌}
use mathlib.Core.Path.{◌≡◌, refl}
use lib.IntN.{ℤ, pos, negsuc}
use Rattle.registers.specs.Calls.{Call, tick, write, after}
use Rattle.sheet.specs.Shows.{Shown, shows}
use Rattle.edges.proofs.Computing.{computing}

abbrev values : ℤ → ℤ → ℤ → Bool → Bool → Shown
values count positive negative over under = record { count = count; positive = positive; negative = negative; over = over; under = under }

-- thresholds 5 and -1 in dataset 0, asked for; UP input 0, DOWN input 5, gate 2 in direct mode
abbrev patched : List Call
patched =
    write 0x800C 5 ∷ write 0x800E 0xFFFF ∷ write 0x800F 0xFFFF ∷ write 0x0A02 0x1000 ∷ write 0x1003 0x2140 ∷ write 0x0802 0x0004 ∷ []

-- n rises of these inputs with the gate high
abbrev rises : ℕ → ℕ → List Call
rises inputs zero = []
rises inputs (suc n) = tick inputs 0x004 ∷ tick 0x00 0x004 ∷ rises inputs n

pub shown_over : shows 3 (after (patched ++ rises 0x01 6)) ≡ values (pos 6) (pos 5) (negsuc 0) true false
unfolding computing shows
shown_over = refl

pub shown_under : shows 3 (after (patched ++ rises 0x20 3)) ≡ values (negsuc 2) (pos 5) (negsuc 0) false true
unfolding computing shows
shown_under = refl
