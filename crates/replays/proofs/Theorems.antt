-- Document 02, CR 2: a converted capture runs as its frames' ticks one by one.
use Prim.Native.Nat.{ℕ, ◌≤◌}
use mathlib.Core.Bool.{true, false}
use mathlib.Core.List.{List, map}
use mathlib.Core.Path.{◌≡◌, sym, ap, subst, ◌∙◌}
use lib.ListN.{length, take}
use Rattle.std.proofs.Common.{Ok}
use Rattle.loader.specs.Memory.{is_whole}
use Rattle.device.specs.declared.state.Crate.{Crate}
use Rattle.device.specs.State.{Machine, machine}
use Rattle.registers.specs.Calls.{from}
use Rattle.records.specs.declared.Stop.TheVariants.{End}
use Rattle.trace.specs.declared.Report.{Report}
use Rattle.trace.specs.Run.{machine_of, progress_of, report_of, run, run_of, run_on}
use Rattle.captures.specs.Captures.{frames_of, has_bad, records_of, trace_of}
use Rattle.captures.specs.Repeats.{expand}
use Rattle.captures.specs.Returned.{Made}
use Rattle.captures.specs.Written.{Frame}
use Rattle.captures.proofs.Done.{made_done}
use Rattle.captures.proofs.Levels.{good_records}
use Rattle.captures.proofs.Theorems.{converted_back}
use Rattle.demands.specs.Returned.{Ran, Went}
use Rattle.demands.specs.Seen.{Seen, callings}
use Rattle.demands.proofs.Acts.{one_by_one, went}
use Rattle.replays.specs.Replayed.{tick_of, capture_ticks}
use Rattle.replays.proofs.Passing.{run_written}

-- from every crate, on a memory of 16,384 words (any other is refused 1), with budget enough
module _ (capture : List ℕ) (budget : ℕ) (room : length (frames_of capture) ≤ budget) (m : Machine) (whole : is_whole m.memory ≡ true) where
  -- the trace runs as the frames' ticks one by one, to its end: crate, memory and report
  pub trace_runs : has_bad (frames_of capture) ≡ false →
      run_of (trace_of capture) budget m
      ≡ run_on (from m (capture_ticks capture)) (report_of End (length (trace_of capture)) (length (frames_of capture)) (length (records_of capture)) 0) false
  unfolding trace_of capture_ticks
  trace_runs good =
      let back = (converted_back capture good).1 in
      let h : length (expand (records_of capture)) ≤ budget = subst (λ (xs : List Frame). length xs ≤ budget) (sym back) room in
      run_written budget (records_of capture) (good_records capture good) h m whole
      ∙ ap (λ (xs : List Frame). run_on (from m (map tick_of xs)) (report_of End (length (trace_of capture)) (length xs) (length (records_of capture)) 0) false) back

  -- of the code: `run` returned this report and left crate s and this memory, on the bytes that `convert` wrote
  module _ (out left : List ℕ) (bytes : ℕ) (made : Made capture out (Ok bytes) left)
      (s : Crate) (report : Report) (memory : List ℕ) (ran : Ran m (take bytes left) budget s report memory) where
    pub convert_runs : run (progress_of s report false) memory ≡ run_on (from m (capture_ticks capture)) (report_of End bytes (length (frames_of capture)) (length (records_of capture)) 0) false
    convert_runs =
        let d = made_done capture bytes left out made in
        ran
        ∙ ap (λ (t : List ℕ). run_of t budget m) d.trace
        ∙ trace_runs d.good
        ∙ ap (λ (n : ℕ). run_on (from m (capture_ticks capture)) (report_of End n (length (frames_of capture)) (length (records_of capture)) 0) false) (sym d.size)

    -- crate and memory are those that calls of `tick`, frame by frame, leave, whatever they show
    pub convert_ticks : (seen : List Seen) (n : Machine) → Went m (callings (capture_ticks capture)) seen n → machine s memory ≡ n
    convert_ticks seen n w =
        ap machine_of convert_runs ∙ sym ((went m (callings (capture_ticks capture)) seen n w).1 ∙ ap (from m) (one_by_one m (capture_ticks capture)))
