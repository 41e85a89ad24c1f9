-- `Field::of` meets its contract: the masked quotient is the field (`and_mask`), which is no larger than the word.
use Prim.Native.Nat.{◌/◌, ◌^◌}
use lib.Bits.{and_mask}
use Rattle.words.proofs.Fields.{field_lt}
use Rattle.words.proofs.field.Field.of.Goals as goal

pub returns : goal.returns
returns c =
    let a = c.args in rw (c.from.ensures, c.ones.ensures, and_mask (a.w / 2 ^ a.self.at) a.self.width)

pub overflow_cast-result-2 : goal.overflow_cast-result-2
overflow_cast-result-2 c =
    let a = c.args in
    rw (returns c) (record { fits = field_lt 16 a.w a.self.at a.self.width c.ranges.w.fits })
