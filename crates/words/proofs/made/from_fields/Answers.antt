-- `from_fields` meets its contract: the loop puts one field above the others a turn (`fields_more`).
use Prim.Native.Nat.{◌+◌, ◌*◌, ◌≤◌, ◌<◌, ◌^◌}
use native.Mathlib.Nat.{mul-le-mul_left, mul-zero, mul_comm}
use native.Mathlib.Omega.{arith}
use mathlib.Core.Path.{◌≡◌, refl, sym}
use lib.Dec.{lit<}
use Rattle.words.proofs.Gather.{above_lt, fields_more, fields_none, or_above}
use Rattle.words.proofs.made.from_fields.Goals as goal

pub loop-i-init : goal.loop-i-init
loop-i-init g c = record {
  room = rw mul-zero (lit< tt);
  is = λ f k. sym (fields_none c.args.width f);
}

pub loop-i-preserved : goal.loop-i-preserved
loop-i-preserved g c =
    let a = c.args in
    let l = c.loop-i in
    let small : c.part.result < 2 ^ a.width = c.requires.small l.i c.part.result (omega arith) c.part.ensures in
    let most : a.width * (l.i + 1) ≤ a.width * a.n = mul-le-mul_left a.width (omega arith) in
    let room : a.width * l.i + a.width ≤ 16 = omega (arith, most, mul_comm a.n a.width, c.requires.room.1) in
    let more = or_above a.width (a.width * l.i) l.w c.part.result small l.invariant.room room in
    let place : a.width * l.i + a.width ≡ a.width * (l.i + 1) = omega arith in
    record {
      room = rw (more, ← place) (above_lt a.width (a.width * l.i) l.w c.part.result small l.invariant.room room);
      is = λ f k.
          rw (more, fields_more a.width f l.i, k l.i c.part.result (omega arith) c.part.ensures, l.invariant.is f k) refl;
    }
