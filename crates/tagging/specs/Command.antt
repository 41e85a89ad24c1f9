-- The commands of the Manual's Table 3.37, by their number in a tag's code.
use Rattle.std.specs.Prelude.{ℕ, Option, Some, None, eqb}
use Rattle.bools.specs.Pick.{pick}
use Rattle.loader.specs.Loader.{request_for}
use Rattle.tagging.specs.declared.events.Command.{Command}
use Rattle.tagging.specs.declared.events.Command.TheVariants.{Reload, Prepare, Recover, Clear}
use Rattle.tagging.specs.Tag.{command_of}
use Rattle.writing.specs.Write.{dataset_in, group_in}

-- 0x1 reload, 0x2 prepare, 0x3 recover, 0x4 reset, each with what the code says besides; "Commands 0x0 and 0x5 to 0xF do nothing"
abbrev pub command_in : ℕ → Option Command
command_in code =
    pick (eqb (command_of code) 1) (Some (Reload (request_for (dataset_in code) (group_in code))))
    (pick (eqb (command_of code) 2) (Some (Prepare code))
    (pick (eqb (command_of code) 3) (Some (Recover code)) (pick (eqb (command_of code) 4) (Some Clear) None)))
