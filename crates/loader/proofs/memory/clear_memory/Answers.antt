-- `clear_memory` meets its contract: every word is the clone of 0 that it is.
use mathlib.Core.Path.{sym, ◌∙◌}
use borrow.Author.Rules.{rules}
use Rattle.lists.proofs.Tables.{tabulate_fill}
use Rattle.loader.proofs.memory.clear_memory.Goals as goal

pub returns : goal.returns
returns c = c.fill.ensures.after (λ y e. search (rules, e)) ∙ sym (tabulate_fill _ 0)
