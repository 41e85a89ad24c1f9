-- `meet` meets its contract, by `meets_is`.
use mathlib.Core.Path.{sym}
use borrow.Author.Rules.{rules}
use Rattle.interlocks.proofs.Meeting.{meets_is}
use Rattle.interlocks.proofs.signals.meet.Goals as goal

pub returns : goal.returns
returns c = sym (meets_is c.args.chosen c.args.present (search rules) (search rules))
