-- `outputs` meets its contract: an output that has not ended is 1 (`ended_level`).
use mathlib.Core.Path.{◌≡◌}
use lib.ListN.{get_or}
use borrow.Author.Rules.{rules}
use Rattle.std.proofs.Common.{None}
use Rattle.std.specs.Option.{is_none}
use Rattle.lists.proofs.Tables.{get_d_tabulate}
use Rattle.interlocks.specs.Interlock.{interlock, interlocks}
use Rattle.interlocks.specs.Together.{ended_at}
use Rattle.interlocks.proofs.Scanning.{ended_level}
use Rattle.interlocks.proofs.scan.outputs.Goals as goal

pub returns : goal.returns
unfolding interlocks
returns c =
    let s = c.args.s.now in
    c.from_bits.ensures (interlock s) (λ o b h p.
    let level : is_none (get_or c.ended-ended.result o None) ≡ interlock s o = rw (c.ended-ended.ensures, get_d_tabulate 6 (ended_at s) o None h) (ended_level s o) in
    search (rules, p, level))
