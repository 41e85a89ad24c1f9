-- `Field::put` meets its contract: the three parts share no bit (`put_is`), and the word stays below 2 ^ 16 (`put_lt`).
use native.Mathlib.Omega.{arith}
use lib.Bits.{and_mask}
use Rattle.words.proofs.Fields.{put_is, put_lt}
use Rattle.words.proofs.field.Field.put.Goals as goal

pub returns : goal.returns
returns c =
    let a = c.args in
    rw (c.from-x.ensures, c.from.ensures, c.ones-2.ensures, c.ones.ensures, and_mask a.v a.self.width, and_mask a.w a.self.at)
    (put_is 32 a.self.at a.self.width a.w a.v (omega arith) (omega arith))

pub overflow_cast-result-2 : goal.overflow_cast-result-2
overflow_cast-result-2 c =
    let a = c.args in
    rw (returns c) (record { fits = put_lt 16 a.self.at a.self.width a.w a.v (omega arith) (omega arith) })
