-- The table of starred checks holds: one computed test, and one law that gives each row. The example prints as document 01 says.
use Prim.Native.Nat.{ℕ, ◌<◌}
use mathlib.Core.Bool.{true}
use mathlib.Core.Path.{◌≡◌, refl}
use lib.ListN.{length, get_or}
use Rattle.lists.specs.Checks.{row, right}
use Rattle.lists.proofs.Rows.{row_right}
use Rattle.starred_cases.proofs.Computing.{computing}
use Rattle.printing.specs.Printed.{program_prints}
use Rattle.starred_cases.specs.Example.{example, example_text}
use Rattle.starred_cases.specs.Starred.{starred}

starred_right : right starred ≡ true
unfolding computing starred
starred_right = refl

-- all nine starred checks
pub starred_checks : (k : ℕ) → k < length starred → (get_or starred k (row 0 0)).computed ≡ (get_or starred k (row 0 0)).expected
starred_checks = row_right starred starred_right

-- the example trace prints document 01's four lines
pub example_prints : program_prints example ≡ example_text
unfolding computing example example_text
example_prints = refl
