-- `scan_outputs` meets its contract: level and words read of each output, by what `ended` keeps of it (`ended_level`, `ended_words`).
use Prim.Native.Nat.{ℕ}
use mathlib.Core.List.{List}
use mathlib.Core.Path.{◌∙◌}
use borrow.Author.Rules.{rules}
use lib.ListN.{get_or}
use Rattle.std.proofs.Common.{Option, None}
use Rattle.std.specs.Option.{is_none, unwrap_or}
use Rattle.lists.proofs.Made.{from_fn_is}
use Rattle.lists.proofs.Tables.{get_d_tabulate, tabulate_ext}
use Rattle.device.specs.Map.{output_words}
use Rattle.interlocks.specs.declared.scan.OutputScan.{OutputScan}
use Rattle.interlocks.specs.Together.{ended_at}
use Rattle.interlocks.proofs.Scanning.{ended_level, ended_words}
use Rattle.interlocks.proofs.scan.scan_outputs.Goals as goal

abbrev scan_in : List (Option ℕ) → ℕ → OutputScan
scan_in ended o = record { level = is_none (get_or ended o None); words = unwrap_or (get_or ended o None) output_words }

pub returns : goal.returns
returns c =
    let s = c.args.s.now in
    from_fn_is _ _ (scan_in c.ended-ended.result) _ 6 (λ o y q h m. search rules) c.from_fn.ensures.items
    ∙ tabulate_ext 6 _ _ (λ o h.
    rw (c.ended-ended.ensures, get_d_tabulate 6 (ended_at s) o None h)
    (λ i. record { level = ended_level s o i; words = ended_words s o i }))
