-- The worked rows of the settled part hold: one computed test, and one law that gives each row.
use Prim.Native.Nat.{ℕ, ◌<◌}
use mathlib.Core.Bool.{true}
use mathlib.Core.Path.{◌≡◌, refl}
use lib.ListN.{get_or, length}
use Rattle.lists.specs.Checks.{right, row}
use Rattle.lists.proofs.Rows.{row_right}
use Rattle.sheet.specs.Settled.{settled_part_of}
use Rattle.sheet.proofs.Computing.{computing}
use Rattle.sheet.proofs.SharedRows.{alone, crowded, shared_rows}

shared_right : right shared_rows ≡ true
unfolding computing shared_rows
shared_right = refl

-- the worked rows
pub shared_cases : (k : ℕ) → k < length shared_rows → (get_or shared_rows k (row 0 0)).computed ≡ (get_or shared_rows k (row 0 0)).expected
shared_cases = row_right shared_rows shared_right

-- two lists as `alike_settled` asks for them, one of which has ten parts more
pub shared_alike : settled_part_of 5 alone ≡ settled_part_of 5 crowded
unfolding computing
shared_alike = refl
