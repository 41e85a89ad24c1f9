-- With the words that are left and the line's end put on it, the line has all.
use Prim.Native.Nat.{◌-◌}
use mathlib.Core.List.{◌++◌}
use mathlib.Core.Path.{◌≡◌}
use Rattle.std.specs.Prelude.{codes}
use Rattle.device.specs.State.{machine}
use Rattle.pages.specs.Page.{written, cut}
use Rattle.printing.specs.Printed.{words_from}
use Rattle.printing.proofs.program.put_block.Given as goal

abbrev pub invariant-loop-a : goal.invariant-loop-a
invariant-loop-a l =
    let words = words_from (machine l.state l.mem) in
    cut (written l.line ++ (words (l.a-end - l.a) l.a ++ codes "\n")) ≡ cut (written l.initial.line ++ (words 8 l.address ++ codes "\n"))
