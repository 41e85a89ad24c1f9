-- Document 01, "With k waiting requests ahead, an accepted one is finished within 128 + 129 × (k + 1) accepted ticks": the theorem `finishes`
-- put to a request with one ahead. It speaks of 386 ticks, and of no fewer: `worked`, bound_rows, has the request unfinished after 385.
use mathlib.Core.Path.{◌≡◌, refl}
use lib.Dec.{lit≤}
use Prim.{tt}
use Rattle.std.proofs.Common.{Some}
use Rattle.loader.specs.Loader.{request_for}
use Rattle.registers.specs.Calls.{Call, tick, write, accepted_ticks, after, step}
use Rattle.registers.proofs.Cases.{often, triggered}
use Rattle.sheet.specs.Requests.{finished, request_made, stand_after, waits}
use Rattle.sheet.proofs.Theorems.{finishes}
use Rattle.worked.proofs.Worked.{just_taken}
use Rattle.edges.proofs.Computing.{computing}

abbrev asking : Call
asking = write 0x0A02 (triggered 1 0)

asked : request_made (after just_taken) asking ≡ Some (request_for 1 0)
unfolding computing request_made
asked = refl

pub bound : stand_after (step (after just_taken) asking) (often 386 (tick 0 0)) (waits 1) ≡ finished
unfolding computing accepted_ticks
bound = finishes just_taken asking (request_for 1 0) asked (often 386 (tick 0 0)) (lit≤ tt)
