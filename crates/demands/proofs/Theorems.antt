-- The three demands, a page each, of what the library's functions return: full statements, a line or two of plain words each, proved by citing
-- the file that does the work. What is asked of the functions (`Acted`, `Saw`, `Rehearsed`) is their contracts and no more (Contracts.antt).
use Prim.Native.Nat.{ℕ, suc, ◌+◌, ◌-◌, ◌*◌, ◌/◌, ◌<◌, ◌≤◌}
use native.Mathlib.Omega.{arith}
use mathlib.Core.Bool.{true, false}
use mathlib.Core.List.{List, ◌∷◌, ◌++◌}
use mathlib.Core.Path.{◌≡◌, sym, subst, ◌∙◌}
use lib.ListN.{get_or, length}
use Rattle.std.proofs.Common.{Result, Ok, Some}
use Rattle.bools.specs.Pick.{pick}
use Rattle.words.specs.Word.{bit}
use Rattle.loader.specs.declared.loader.Request.{Request}
use Rattle.loader.specs.Memory.{is_whole}
use Rattle.causes.specs.declared.Cause.{Cause}
use Rattle.device.specs.declared.state.Crate.{Crate}
use Rattle.causes.specs.Causes.{Answer, is_done, number_of}
use Rattle.device.specs.Map.{kept_at}
use Rattle.device.specs.State.{Machine, memory0, power_up}
use Rattle.interlocks.specs.declared.scan.OutputScan.{OutputScan}
use Rattle.interlocks.specs.Interlock.{trips}
use Rattle.interlocks.specs.Scan.{scan_of}
use Rattle.reading.specs.Read.{low_first, read_of, word_shown}
use Rattle.records.specs.Stops.{stop_number}
use Rattle.records.specs.Records.{record_at}
use Rattle.registers.specs.Calls.{Call, write, accepted_ticks, after, left_by_refusal, machine0, powered, powered_memory, refusals, step}
use Rattle.registers.proofs.Whole.{is_whole_lem}
use Rattle.sheet.specs.Follows.{follows_at}
use Rattle.sheet.specs.Lines.{Holds, Lines, own_lines}
use Rattle.sheet.specs.OwnPart.{Cut, own_part, own_part_of}
use Rattle.sheet.specs.InputRises.{levels_of, raw_count}
use Rattle.sheet.specs.Reachable.{OfWords, Reached}
use Rattle.sheet.specs.Requests.{Stands, finished, request_made, stand_after, waits}
use Rattle.sheet.specs.Scans.{scan_at}
use Rattle.sheet.specs.Settled.{SettledCut, settled, settled_part_of}
use Rattle.sheet.specs.Sheet.{sheet_after, sheet_shows}
use Rattle.sheet.specs.Shows.{shows}
use Rattle.sheet.specs.Waiting.{requests_made, requests_taken}
use Rattle.sheet.proofs.Sizes.{full_after}
use Rattle.sheet.proofs.Theorems.{run_records, run_refusals, run_sound, run_ticks}
use Rattle.trace.specs.declared.Report.{Report}
use Rattle.trace.specs.Passed.{calls_in, passed_in}
use Rattle.trace.specs.Run.{Run, begun, once_of, progress_of, run, run_of}
use Rattle.trace.specs.Sound.{Sound}
use Rattle.demands.specs.Conditions.{Goes, bytes_in, cause_of, fate_of, first, gone_by, left_by, power_up_conditions, shown_by, stopped}
use Rattle.demands.specs.Returned.{Acted, Looked, Numbered, Powered, Ran, Rehearsed, Returned, Saw, Scanned}
use Rattle.demands.specs.Seen.{Act, reading, tracing, Seen, told, reported, callings, list_from, list_of, seen_of}
use Rattle.demands.proofs.Acts as acting
use Rattle.demands.proofs.Ends as ending
use Rattle.demands.proofs.Fates as passing
use Rattle.demands.proofs.Offsets as placing
use Rattle.demands.proofs.Returned as returning

-- ---- Demand 1: "A call that meets document 01's conditions does its work and ends. Any other is refused with the number of 01's table, and
-- crate and threshold memory keep what the table says." That every function ends is part of its contract.

-- On every crate and memory, reached or not: a call, a read, a scan or a run shows and leaves what the table says for the first of its
-- conditions that holds (`cause_of`), and where none holds it is accepted and does its work.
pub ends : (m : Machine) (x : Act) (seen : Seen) (n : Machine) → Acted m x seen n →
    (seen ≡ shown_by m x (cause_of m x)) × (n ≡ left_by m x (cause_of m x))
ends m x seen n w = ((acting.acted m x seen n w).0 ∙ ending.shown m x, (acting.acted m x seen n w).1 ∙ ending.left m x)

-- Power-up clears a memory of 16,384 words; refused 1 it returns the number with a power-up crate, and leaves the memory.
pub power_up_ends : (memory : List ℕ) (r : Crate × Answer) (left : List ℕ) (k : ℕ) → Powered memory r left → Numbered r.1 k →
    (k ≡ number_of (first (power_up_conditions memory) (Ok tt))) × (r.0 ≡ power_up) × (left ≡ pick (is_whole memory) memory0 memory)
unfolding powered powered_memory
power_up_ends memory r left k up number = (rw (number, up.0) (grind arith), rw up.0, up.1)

-- Of a run, whatever it has done so far, the next record meets the first of its checks that holds: it stops the run, is refused 6, or passes.
pub record_ends : (t : List ℕ) (budget : ℕ) (r : Run) →
    once_of t budget r
    ≡ gone_by t r (record_at t r.progress.report.next) (fate_of t r.progress.report.next (budget - r.progress.report.ticks))
record_ends = passing.once

-- So a run is its records one after the other from its beginning, each by its fate, to the one that stops it: none is skipped.
pub run_goes : (m : Machine) → is_whole m.memory ≡ true → (t : List ℕ) (budget : ℕ) (s : Crate) (report : Report) (memory : List ℕ) →
    Ran m t budget s report memory → Goes t budget (run (progress_of s report false) memory) (begun m)
run_goes m whole t budget s report memory ran = rw ran (passing.run_goes t budget m whole)

-- And the cause that a run reports is the check that the record at the next offset meets.
pub run_cause : (m : Machine) → is_whole m.memory ≡ true → (t : List ℕ) (budget : ℕ) (s : Crate) (report : Report) (memory : List ℕ) →
    Ran m t budget s report memory → stopped report.stop ≡ fate_of t report.next (budget - report.ticks)
run_cause m whole t budget s report memory ran =
    subst (λ (r : Run). stopped r.progress.report.stop ≡ fate_of t r.progress.report.next (budget - r.progress.report.ticks))
    (sym ran) (passing.run_cause t budget m whole)

-- ---- Demand 2: "For every list of calls from power-up each register of the map reads as the Manual, completed by 01, defines it, and each
-- trace run reports stop cause, next offset, ticks, records and refusals as 01 gives them."

-- For every list of calls, reads, scans and runs from power-up: all that the functions return is what is to be seen of it, and they leave the
-- crate and memory that its calls leave.
pub all_seen : (l : List Act) (seen : List Seen) (n : Machine) → Saw l seen n → (seen ≡ seen_of l) × (n ≡ after (list_of l))
all_seen = acting.saw

-- What is said there of the functions can be met for every list, with what is to be seen: so no statement about lists is empty.
pub rehearsable : (l : List Act) → Saw l (seen_of l) (after (list_of l))
rehearsable = acting.rehearsable

-- So a read within a list, behind what came before it (place 0 is power-up's), shows the number and the word that the register has then, or
-- where it is refused its number.
pub seen_read : (l : List Act) (a : ℕ) (more : List Act) (seen : List Seen) (n : Machine) → Saw (l ++ (reading a ∷ more)) seen n → (d : Seen) →
    get_or seen (suc (length l)) d ≡ told (read_of (after (list_of l)) a) (number_of (read_of (after (list_of l)) a))
seen_read = returning.seen_read

-- And a run within a list, given the crate and memory after what came before it, reports ..
module _ (l : List Act) (t : List ℕ) (budget : ℕ) (more : List Act) (seen : List Seen) (n : Machine)
    (h : Saw (l ++ (tracing t budget ∷ more)) seen n) (r : Report) (k : ℕ) (d : Seen) (e : get_or seen (suc (length l)) d ≡ reported r k) where
  abbrev given : Machine
  given = after (list_of l)

  -- .. what 01's run of that trace reports:
  pub seen_report : r ≡ (run_of t budget given).progress.report
  seen_report = returning.seen_report l t budget more seen n h r k d e

  -- with the number of its stop,
  pub seen_number : k ≡ stop_number r.stop
  seen_number = returning.seen_number l t budget more seen n h r k d e

  -- the cause by which the record at the next offset stops it,
  pub seen_cause : stopped r.stop ≡ fate_of t r.next (budget - r.ticks)
  seen_cause = rw seen_report (passing.run_cause t budget given (is_whole_lem (after (list_of l)).memory (full_after (list_of l))))

  -- the offset behind the records that it passed,
  pub seen_next : r.next ≡ bytes_in (passed_in t budget given)
  seen_next = rw seen_report (placing.run_next t budget given)

  -- within the trace, and numbers within it and the budget,
  pub seen_sound : Sound t budget r
  seen_sound = rw seen_report (run_sound t budget given)

  -- the ticks that were accepted of the calls of the records that it passed,
  pub seen_ticks : r.ticks ≡ accepted_ticks (calls_in (passed_in t budget given))
  seen_ticks = rw seen_report (run_ticks t budget given)

  -- the number of these records,
  pub seen_records : r.records ≡ length (passed_in t budget given)
  seen_records = rw seen_report (run_records t budget given)

  -- and the number of their calls that were refused.
  pub seen_refusals : r.refused ≡ refusals given (calls_in (passed_in t budget given))
  seen_refusals = rw seen_report (run_refusals t budget given)

-- ---- Demand 3: "For every list of ticks, writes, event tags and downloads, refused ones included, and every counter: its count, thresholds
-- and both overflow bits equal those that 01's one-counter sheet gives for the counter's own part of the list."

-- After every list, whatever reads, scans and runs stand in it, counter c shows what its sheet shows, fed with c's own part alone.
pub code_isolation : (l : List Act) (n : Machine) → Rehearsed l n → (c : ℕ) → c < 128 →
    shows c n ≡ sheet_shows (sheet_after c (own_part_of c (list_of l)))
code_isolation = returning.code_isolation

-- And after each act of a longer list, with the own lines of the whole list.
pub code_isolation_each : (l : List Act) (n : Machine) → Rehearsed l n → (c : ℕ) → c < 128 → (more : List Act) →
    shows c n ≡ sheet_shows (sheet_after c (own_part (own_lines c (list_of (l ++ more))) c (list_of l)))
code_isolation_each = returning.code_isolation_each

-- "So two lists with the same own part for a counter show it alike" at the end ..
pub code_alike : (c : ℕ) → c < 128 → (l m : List Act) (n k : Machine) → Rehearsed l n → Rehearsed m k →
    own_part_of c (list_of l) ≡ own_part_of c (list_of m) → shows c n ≡ shows c k
code_alike = returning.code_alike

-- .. and "after each call of that part, whatever they do to the neighbours": wherever the calls of the one are cut, also within a run or a
-- repeat, those of the other have a cut with the same own part before it, and c shows the same in whatever crates the functions give there.
pub code_alike_within : (c : ℕ) → c < 128 → (l m : List Act) → own_part_of c (list_of l) ≡ own_part_of c (list_of m) →
    (l₁ l₂ : List Call) → list_of l ≡ l₁ ++ l₂ →
    (cut : Cut (own_lines c (list_of m)) c (list_of m) (own_part (own_lines c (list_of l)) c l₁))
    × ((k j : List Act) → list_of k ≡ l₁ → list_of j ≡ cut.first → (n o : Machine) → Rehearsed k n → Rehearsed j o → shows c n ≡ shows c o)
code_alike_within = returning.code_alike_within

-- Such crates there are at every cut, as the calls up to it can be made one by one.
pub one_by_one : (l : List Call) → list_of (callings l) ≡ l
unfolding list_of
one_by_one l = acting.one_by_one machine0 l

-- Also where neighbours write the registers that they share with us: two lists whose own parts for c are the same once what they repeat is
-- dropped (`settled_part_of`) show it alike.
pub code_alike_settled : (c : ℕ) → c < 128 → (l m : List Act) (n k : Machine) → Rehearsed l n → Rehearsed m k →
    settled_part_of c (list_of l) ≡ settled_part_of c (list_of m) → shows c n ≡ shows c k
code_alike_settled = returning.code_alike_settled

-- After each call too: wherever the calls of the one are cut, those of the other have a cut with the same settled part before it.
pub code_alike_settled_within : (c : ℕ) → c < 128 → (l m : List Act) → settled_part_of c (list_of l) ≡ settled_part_of c (list_of m) →
    (l₁ l₂ : List Call) → list_of l ≡ l₁ ++ l₂ →
    (cut : SettledCut (own_lines c (list_of m)) c (list_of m) (settled c (own_part (own_lines c (list_of l)) c l₁)))
    × ((k j : List Act) → list_of k ≡ l₁ → list_of j ≡ cut.first → (n o : Machine) → Rehearsed k n → Rehearsed j o → shows c n ≡ shows c o)
code_alike_settled_within = returning.code_alike_settled_within

-- ---- Beside the demands

-- The same as `code_isolation` for every set of lines that has c's own lines in it.
pub code_isolation_within : (l : List Act) (n : Machine) → Rehearsed l n → (S : Lines) (c : ℕ) → c < 128 → Holds S (own_lines c (list_of l)) →
    shows c n ≡ sheet_shows (sheet_after c (own_part S c (list_of l)))
code_isolation_within = returning.code_isolation_within

-- Where the calls of a rehearsal are l₁, x and l₂, x by itself or as a record of a run, a request that x makes ..
module _ (l : List Act) (n : Machine) (h : Rehearsed l n) (l₁ : List Call) (x : Call) (l₂ : List Call) (cut : list_of l ≡ l₁ ++ (x ∷ l₂))
    (q : Request) (made : request_made (after l₁) x ≡ Some q) where
  -- .. stands in the crate that the functions gave where `stand_after` says,
  pub code_stands : Stands n.state.common q (stand_after (step (after l₁) x) l₂ (waits (after l₁).state.common.queue.waiting))
  code_stands = returning.code_stands l n h l₁ x l₂ cut q made

  -- and that is `finished` once 128 + 129 × (k + 1) ticks are accepted behind it, k waiting ahead.
  pub code_finishes : 128 + 129 * ((after l₁).state.common.queue.waiting + 1) ≤ accepted_ticks l₂ →
      stand_after (step (after l₁) x) l₂ (waits (after l₁).state.common.queue.waiting) ≡ finished
  code_finishes = returning.code_finishes l n h l₁ x l₂ cut q made

-- Document 02, request 1: two rehearsals in whose accepted ticks an input has the same levels read its raw count alike.
pub code_raw_alike : (j : ℕ) → j < 108 → (l m : List Act) (n k : Machine) → Rehearsed l n → Rehearsed m k →
    levels_of (j / 2) (list_of l) ≡ levels_of (j / 2) (list_of m) →
    (p q : Result ℕ Cause) → Looked n (0x1300 + j) p → Looked k (0x1300 + j) q → p ≡ q
code_raw_alike = returning.code_raw_alike

-- ---- Beside the demands, of the code: what every theorem about lists says of what the functions return

-- Two beginnings of two lists with the same own part so far, taken with the own lines of the whole lists, show c alike ..
pub code_alike_cut : (c : ℕ) → c < 128 → (l m : List Act) (l₂ m₂ : List Call) (n k : Machine) → Rehearsed l n → Rehearsed m k →
    own_part (own_lines c (list_of l ++ l₂)) c (list_of l) ≡ own_part (own_lines c (list_of m ++ m₂)) c (list_of m) → shows c n ≡ shows c k
code_alike_cut = returning.code_alike_cut

-- .. and so do two with the same settled part so far.
pub code_alike_settled_cut : (c : ℕ) → c < 128 → (l m : List Act) (l₂ m₂ : List Call) (n k : Machine) → Rehearsed l n → Rehearsed m k →
    settled c (own_part (own_lines c (list_of l ++ l₂)) c (list_of l)) ≡ settled c (own_part (own_lines c (list_of m ++ m₂)) c (list_of m)) →
    shows c n ≡ shows c k
code_alike_settled_cut = returning.code_alike_settled_cut

module _ (l : List Act) (n : Machine) (h : Rehearsed l n) where
  -- After every rehearsal whose downloads are of 16-bit words: all numbers in their ranges, unused bits 0, counts 0 while RESET is set.
  pub code_reachable : OfWords (list_of l) → Reached n
  code_reachable = returning.code_reachable l n h

  -- A read then gives the word that the register has after the list's calls,
  pub code_read : (a : ℕ) (q : Result ℕ Cause) → Looked n a q → q ≡ read_of (after (list_of l)) a
  code_read = returning.code_read l n h

  -- of a raw count the low and the high word of the number of rises of its input,
  pub code_raw_reads : (j : ℕ) → j < 108 → (q : Result ℕ Cause) → Looked n (0x1300 + j) q → q ≡ Ok (low_first j (raw_count (j / 2) (list_of l)))
  code_raw_reads = returning.code_raw_reads l n h

  -- of the queue's length the requests that the calls have made less those that the loader has taken,
  pub code_waiting_reads : (q : Result ℕ Cause) → Looked n 0x0905 q → q ≡ Ok (requests_made (list_of l) - requests_taken (list_of l))
  code_waiting_reads = returning.code_waiting_reads l n h

  -- after an accepted write of the same register the written word less its unused bits,
  pub code_read_back : (a w : ℕ) (given : Answer) (k : Machine) → Returned n (write a w) given k → given ≡ Ok tt →
      (q : Result ℕ Cause) → Looked k a q → q ≡ Ok (kept_at a w)
  code_read_back = returning.code_read_back l n h

  -- and of any other what it gave, but for the side effects that `follows` names.
  pub code_read_other : (a w b : ℕ) → (a ≡ b → ⊥) → follows_at a b ≡ false →
      (p : Result ℕ Cause) → Looked n b p → (given : Answer) (k : Machine) → Returned n (write a w) given k →
      (q : Result ℕ Cause) → Looked k b q → q ≡ p
  code_read_other = returning.code_read_other l n h

  -- A scan then gives levels and words of the list's calls,
  pub code_scan : (q : Result (List OutputScan) Cause) → Scanned n q → q ≡ scan_of (after (list_of l))
  code_scan = returning.code_scan l n h

  -- and the words that it read make an output 0 where its level is 0.
  pub code_scan_ends : (q : Result (List OutputScan) Cause) → Scanned n q → (o : ℕ) → o < 6 → (scan_at q o).level ≡ false →
      trips n.state o (scan_at q o).words ≡ true
  code_scan_ends = returning.code_scan_ends l n h

-- On every crate and memory: a refused call leaves what the table says,
pub code_refused : (m : Machine) (x : Call) (a : Answer) (n : Machine) → Returned m x a n → is_done a ≡ false → n ≡ left_by_refusal m x
code_refused = returning.code_refused

-- the levels of a scan are the bits of a read of 0x0719,
pub code_scan_level : (m : Machine) (q : Result (List OutputScan) Cause) → Scanned m q → (p : Result ℕ Cause) → Looked m 0x0719 p →
    (o : ℕ) → o < 6 → (scan_at q o).level ≡ bit (word_shown p) o
code_scan_level = returning.code_scan_level

-- no fewer of the first words than it read make an output 0,
pub code_scan_least : (m : Machine) (q : Result (List OutputScan) Cause) → Scanned m q → (o : ℕ) → o < 6 →
    (w : ℕ) → w < (scan_at q o).words → trips m.state o w ≡ false
code_scan_least = returning.code_scan_least

-- and all are read where its level is 1.
pub code_scan_whole : (m : Machine) (q : Result (List OutputScan) Cause) → Scanned m q → (o : ℕ) → o < 6 → (scan_at q o).level ≡ true →
    (scan_at q o).words ≡ 22
code_scan_whole = returning.code_scan_whole

-- A run on any crate and memory hands back ..
module _ (m : Machine) (t : List ℕ) (budget : ℕ) (s : Crate) (report : Report) (memory : List ℕ) (ran : Ran m t budget s report memory) where
  -- .. what one that has ended hands back,
  pub code_run_halts : (run_of t budget m).progress.going ≡ false
  code_run_halts = returning.code_run_halts m t budget s report memory ran

  -- stopped by the record at its next offset, which changes nothing when it is taken once more,
  pub code_run_stops : is_whole m.memory ≡ true → once_of t budget (run (progress_of s report false) memory) ≡ run (progress_of s report false) memory
  code_run_stops = returning.code_run_stops m t budget s report memory ran

  -- with numbers within the trace and the budget,
  pub code_run_sound : Sound t budget report
  code_run_sound = returning.code_run_sound m t budget s report memory ran

  -- and the counts over the calls of the records that it passed.
  pub code_run_records : report.records ≡ length (passed_in t budget m)
  code_run_records = returning.code_run_records m t budget s report memory ran

  pub code_run_ticks : report.ticks ≡ accepted_ticks (calls_in (passed_in t budget m))
  code_run_ticks = returning.code_run_ticks m t budget s report memory ran

  pub code_run_refusals : report.refused ≡ refusals m (calls_in (passed_in t budget m))
  code_run_refusals = returning.code_run_refusals m t budget s report memory ran

-- A request that a call makes behind a rehearsal is finished once 128 + 129 × (k + 1) ticks are accepted behind it, k waiting ahead: said of
-- the crates and memories that the functions gave.
pub code_finishes_behind : (l : List Act) (n : Machine) → Rehearsed l n → (x : Call) (q : Request) → request_made n x ≡ Some q →
    (a : Answer) (k : Machine) → Returned n x a k → (more : List Act) →
    128 + 129 * (n.state.common.queue.waiting + 1) ≤ accepted_ticks (list_from k more) →
    stand_after k (list_from k more) (waits n.state.common.queue.waiting) ≡ finished
code_finishes_behind = returning.code_finishes_behind
