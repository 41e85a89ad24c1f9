-- `rehearse` meets its contract: power-up, the run and what is printed of it.
use mathlib.Core.Path.{◌∙◌}
use Rattle.printing.proofs.Prints.{prints_from}
use Rattle.printing.proofs.program.rehearse.Goals as goal

pub returns-clause-text : goal.returns-clause-text
returns-clause-text c = c.printed.ensures.text ∙ prints_from _ _ _ _ _ _ c.min.ensures c.new-machine.ensures c.run-report.ensures
