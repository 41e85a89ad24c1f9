-- The library's own numbers, as library/mirvacula.h has them for programs in C. Those of stops are in
-- records/proofs/Figures.antt.
use mathlib.Core.Bool.{true}
use mathlib.Core.List.{List, [], ◌∷◌}
use mathlib.Core.Path.{◌≡◌, refl}
use lib.ListN.{get_or}
use Rattle.lists.specs.Checks.{Row, row, right}
use Rattle.lent.specs.Lent.{bad_buffer}
use Rattle.mirvacula.specs.Converting.{answer_words}
use Rattle.registers.specs.Calls.{machine0}
use Rattle.registers.proofs.Computing.{computing}
use Rattle.mirvacula.specs.Exported.{image_of, image_start, image_words, report_words, scan_words}

unfoldable pub figures : List Row
figures =
    -- a lent buffer of the wrong length
    row 255 bad_buffer
    -- a report, an image from 0x0600 to 0x19FF, a scan, an answer
    ∷ row 5 report_words
    ∷ row 0x0600 image_start
    ∷ row 5120 image_words
    ∷ row 12 scan_words
    ∷ row 2 answer_words
    -- "word 0" where no register is, at 0x0636, and the module IDs of 0x0638 behind it
    ∷ row 0 (get_or (image_of machine0) 0x36 9)
    ∷ row 0x0707 (get_or (image_of machine0) 0x38 9)
    ∷ []

pub figures_right : right figures ≡ true
unfolding computing figures image_of
figures_right = refl
