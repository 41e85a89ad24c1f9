-- `put` meets its contract: tag and length, repeat, levels, part by part (`Filled`).
use native.Mathlib.Omega.{arith}
use Prim.Native.Nat.{ℕ, ◌/◌, ◌%◌}
use mathlib.Core.List.{List, ◌∷◌}
use mathlib.Core.Path.{refl, ap, ◌∙◌}
use lib.ListN.{length}
use Rattle.captures.specs.Nine.{frame_of}
use Rattle.captures.specs.Written.{bytes, tick_record}
use Rattle.captures.proofs.Nines.{nine_bytes}
use Rattle.captures.proofs.Places.{fill_first, fill_last, fill_more}
use Rattle.captures.proofs.frames.Repeat.put.Goals as goal

pub returns : goal.returns
unfolding frame_of tick_record bytes
returns c =
    let times = c.args.self.times in
    let x = c.args.self.frame in
    let a = c.copy_from_slice.ensures.after in
    let b = c.copy_from_slice-2.ensures.after ∙ c.to_be_bytes.ensures in
    let d = c.copy_from_slice-3.ensures.after ∙ c.to_be_bytes-2.ensures in
    let first = fill_first c.args.place.now c.copy_from_slice.new.self 3 (ap length a) c.requires (omega arith) in
    let second = fill_more first c.copy_from_slice-2.new.self 2 (ap length b) (omega arith) in
    let third = fill_more second c.copy_from_slice-3.new.self 8 (ap length d) (omega arith) in
    fill_last third x.last refl
    ∙ rw (a, b, d) (ap (λ (xs : List ℕ). 1 ∷ 0 ∷ 11 ∷ times / 256 % 256 ∷ times % 256 ∷ xs) (nine_bytes x.head x.last (omega arith)))
