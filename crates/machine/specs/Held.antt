-- A crate with its memory, as the definitions of calls and runs see them.
use Rattle.device.specs.State.{Machine, machine}
use Rattle.machine.specs.declared.Machine.{Machine as Held}

abbrev pub held : Held → Machine
held m = machine m.state m.mem
