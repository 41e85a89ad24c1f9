-- A run on its way as the code holds it, before a record and after it.
use Rattle.std.specs.Prelude.{true, false, ◌≡◌, ℕ, List, Option, Result, Ok, Err, is_none, unwrap_or}
use Rattle.device.specs.declared.state.Crate.{Crate}
use Rattle.records.specs.declared.Stop.{Stop}
use Rattle.trace.specs.declared.Report.{Report}
use Rattle.trace.specs.declared.running.Running.{Running}
use Rattle.trace.specs.Run.{Progress, passed, progress_of, stopped}

-- trace and budget stay as they are
pub record SameTrace (r q : Running) : Type 0 where
  pub trace : q.trace.now ≡ r.trace.now
  pub budget : q.budget ≡ r.budget

-- what a record made of a run: it is passed with the ticks that it used, none where its call was refused, or the run is stopped before it
abbrev pub made : List ℕ → Report → Result (Option ℕ) Stop → Crate → Progress
made t r (Ok ticks) s = progress_of s (passed t r (unwrap_or ticks 0) (is_none ticks)) true
made t r (Err stop) s = progress_of s (stopped r stop) false

-- a run that was asked for one record more: it goes on, or it is stopped before the record
abbrev pub turned : Result Unit Stop → Crate → Report → Progress
turned (Ok _) s r = progress_of s r true
turned (Err stop) s r = progress_of s (stopped r stop) false
