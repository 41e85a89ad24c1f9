-- A sheet fed with what `own` makes of a call: a call that drops out leaves it as it was.
use Prim.Native.Nat.{ℕ}
use mathlib.Core.List.{List}
use mathlib.Core.Path.{◌≡◌, refl}
use Rattle.std.proofs.Common.{Option, Some, None}
use Rattle.sheet.specs.OwnPart.{Part, added}
use Rattle.sheet.specs.Sheet.{Sheet, sheet_from, sheet_step}

abbrev pub sheet_step_by : ℕ → Sheet → Option Part → Sheet
sheet_step_by c s None = s
sheet_step_by c s (Some p) = sheet_step c s p

pub from_added : (c : ℕ) (s : Sheet) (o : Option Part) (parts : List Part) → sheet_from c s (added o parts) ≡ sheet_from c (sheet_step_by c s o) parts
unfolding sheet_from added
from_added c s None parts = refl
from_added c s (Some p) parts = refl
