-- `shift` meets its contract: each place takes the request behind it (`from_fn_is`).
use borrow.Author.Rules.{rules}
use Rattle.lists.proofs.Made.{from_fn_is}
use Rattle.loader.specs.Loader.{shifted}
use Rattle.loader.proofs.loader.shift.Goals as goal

pub returns : goal.returns
unfolding shifted
returns c = from_fn_is _ _ _ _ 16 (λ i y q h m. search rules) c.from_fn.ensures.items
