-- `count_after` meets its contract: in the bits of the number (`count_code`).
use mathlib.Core.Path.{◌∙◌}
use mir.Syntax.{w32}
use mir.ValLaws.{to_z-of_z}
use Rattle.counters.proofs.Leaps.{count_code}
use Rattle.counters.proofs.leap.count_after.Goals as goal

pub returns : goal.returns
returns c =
    let a = c.args in
    to_z-of_z w32 c.cast_signed.result (record { sfits = c.cast_signed.type_inv })
    ∙ (rw (c.cast_unsigned.ensures, to_z-of_z w32 a.z c.ranges.z) at c.cast_signed.ensures)
    ∙ count_code a.z a.ups a.downs c.ranges.z c.ranges.downs.fits
