-- `joined` meets its contract: the chain over the frames within reach.
use mathlib.Core.List.{List}
use mathlib.Core.Path.{ap, ◌∙◌}
use Prim.Native.Nat.{ℕ, min}
use lib.ListN.{length, take}
use Rattle.std.proofs.Common.{rules, tests}
use Rattle.std.proofs.lemmas.Iterator.{YieldsList-from_slice}
use Rattle.std.proofs.lemmas.Iterator.Consumers.{count_from_yields_List}
use Rattle.std.proofs.lemmas.Iterator.Search.{YieldsList-from_take_while}
use Rattle.std.proofs.lemmas.List.Folds.{length-prefix_len}
use Rattle.std.specs.Slice.Iter.{iter_rest}
use Rattle.captures.specs.Captures.{frame_at, same_frame}
use Rattle.captures.specs.Nine.{frame_of}
use Rattle.captures.proofs.Joins.{near}
use Rattle.captures.proofs.frames.Nine.joined.Goals as goal

pub returns-clause-joined : goal.returns-clause-joined
returns-clause-joined c =
    let t : List (List ℕ) = take 65534 c.args.behind.now in
    let reach = c.min-reach.ensures ∙ ap (min (length c.args.behind.now)) c.from.ensures in
    count_from_yields_List c.take_while.result c.count.result c.count.ensures.ran
    (YieldsList-from_take_while _ (λ (array : List ℕ). same_frame (frame_of c.args.self) (frame_at array 0))
    (YieldsList-from_slice t (ap iter_rest c.take_while.ensures.source ∙ c.iter.ensures.rest ∙ near 65534 c.args.behind.now reach))
    c.take_while.ensures.closure c.take_while.ensures.done (λ x b q k. search (rules, tests)))
    ∙ length-prefix_len _ t
