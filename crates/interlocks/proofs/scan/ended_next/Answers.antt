-- `ended_next` meets its contract: the word of each output is read (`from_fn_is`).
use borrow.Author.Rules.{rules}
use Rattle.lists.proofs.Made.{from_fn_is}
use Rattle.interlocks.specs.Together.{ended_next}
use Rattle.interlocks.proofs.scan.ended_next.Goals as goal

pub returns : goal.returns
unfolding ended_next
returns c = from_fn_is _ _ _ _ 6 (λ o y q h m. search rules) c.from_fn.ensures.items
