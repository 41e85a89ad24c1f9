-- What holds of a run's numbers on the way, so that no number of the report can overflow.
use Rattle.std.specs.Prelude.{ℕ, ◌≤◌, List, length}
use Rattle.trace.specs.declared.Report.{Report}

pub record Sound (t : List ℕ) (budget : ℕ) (r : Report) : Type 0 where
  pub place : r.next ≤ length t
  pub passes : r.records ≤ r.next
  pub refusals : r.refused ≤ r.records
  pub spent : r.ticks ≤ budget
