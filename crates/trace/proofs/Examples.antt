-- What the theorems about runs say of a report can be met with nothing to spare.
use Prim.Native.Nat.{ℕ}
use mathlib.Core.List.{List, [], ◌∷◌}
use lib.Dec.{lit≤}
use Rattle.records.specs.declared.Stop.TheVariants.{End}
use Rattle.trace.specs.Run.{report_of}
use Rattle.trace.specs.Sound.{Sound}

-- a write, which is refused, and one tick
abbrev refused_and_tick : List ℕ
refused_and_tick = 2 ∷ 0 ∷ 4 ∷ 7 ∷ 0 ∷ 0 ∷ 0 ∷ 1 ∷ 0 ∷ 11 ∷ 0 ∷ 1 ∷ 0 ∷ 0 ∷ 0 ∷ 0 ∷ 0 ∷ 0 ∷ 1 ∷ 0 ∷ 1 ∷ []

-- `Sound`: at the end of the trace with the budget spent
pub sound_met : Sound refused_and_tick 1 (report_of End 21 1 2 1)
sound_met = record { place = lit≤ tt; passes = lit≤ tt; refusals = lit≤ tt; spent = lit≤ tt }
