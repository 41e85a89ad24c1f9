-- `new` meets its contract: its memory has 16,384 words, so power-up is done.
use mathlib.Core.Path.{◌≡◌}
use Rattle.std.proofs.Common.{rules}
use Rattle.device.specs.State.{machine}
use Rattle.registers.specs.Calls.{machine0}
use Rattle.machine.proofs.Powered.{powered_up}
use Rattle.machine.proofs.Machine.new.Goals as goal

pub returns : goal.returns
returns c =
    let m : machine c.power_up-answer.result.0 c.power_up-answer.new.mem ≡ machine0 = powered_up _ _ _ (search rules) c.power_up-answer.ensures in
    m
