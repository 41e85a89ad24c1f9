-- `words_next` meets its contract: each output has its word (`from_fn_is`).
use borrow.Author.Rules.{rules}
use Rattle.lists.proofs.Made.{from_fn_is}
use Rattle.interlocks.specs.Together.{words_next}
use Rattle.interlocks.proofs.scan.words_next.Goals as goal

pub returns : goal.returns
unfolding words_next
returns c = from_fn_is _ _ _ _ 6 (λ o y q h m. search rules) c.from_fn.ensures.items
