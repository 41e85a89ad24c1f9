-- The numbers of stops, as library/mirvacula.h has them for programs in C. The must-fail edit spent_253_in_both is refused here.
use mathlib.Core.Bool.{true}
use mathlib.Core.List.{List, [], ◌∷◌}
use mathlib.Core.Path.{◌≡◌, refl}
use Rattle.lists.specs.Checks.{Row, row, right}
use Rattle.causes.specs.declared.Cause.TheVariants.{Memory, UnknownTag, WrongLength, Cut, NoRepeat}
use Rattle.records.specs.declared.Stop.TheVariants.{End, Spent, Refused}
use Rattle.records.specs.Stops.{stop_number}

unfoldable pub figures : List Row
figures =
    -- END, SPENT, then document 01's causes
    row 0 (stop_number End)
    ∷ row 254 (stop_number Spent)
    ∷ row 1 (stop_number (Refused Memory))
    ∷ row 7 (stop_number (Refused UnknownTag))
    ∷ row 8 (stop_number (Refused WrongLength))
    ∷ row 9 (stop_number (Refused Cut))
    ∷ row 10 (stop_number (Refused NoRepeat))
    ∷ []

pub figures_right : right figures ≡ true
unfolding figures
figures_right = refl
