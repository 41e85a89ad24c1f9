-- `rises_in` meets its contract: one selection value at each place (`from_fn_is`).
use borrow.Author.Rules.{rules}
use Rattle.lists.proofs.Made.{from_fn_is}
use Rattle.lines.proofs.leap.rises_in.Goals as goal

pub returns : goal.returns
returns c = from_fn_is _ _ _ _ 64 (λ i y q h m. search rules) c.from_fn.ensures.items
