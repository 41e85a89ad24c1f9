-- The theorems about lists of calls, of the code: a crate and memory that went through `power_up`, calls, reads, scans and trace runs, by the
-- contracts of those functions alone, are those of `after`. So each theorem holds of what the functions return.
use Prim.Native.Nat.{ℕ, suc, ◌+◌, ◌-◌, ◌*◌, ◌/◌, ◌≤◌, ◌<◌}
use mathlib.Core.Bool.{true, false}
use mathlib.Core.List.{List, [], ◌∷◌, ◌++◌}
use mathlib.Core.Path.{◌≡◌, refl, sym, ap, subst, ◌∙◌}
use lib.ListN.{get_or, length}
use Rattle.std.proofs.Common.{Result, Ok, Some}
use Rattle.words.specs.Word.{bit}
use Rattle.loader.specs.declared.loader.Request.{Request}
use Rattle.loader.specs.Memory.{is_whole}
use Rattle.causes.specs.declared.Cause.{Cause}
use Rattle.device.specs.declared.state.Crate.{Crate}
use Rattle.causes.specs.Causes.{Answer, is_done, number_of}
use Rattle.device.specs.Map.{kept_at}
use Rattle.device.specs.State.{Machine}
use Rattle.interlocks.specs.declared.scan.OutputScan.{OutputScan}
use Rattle.interlocks.specs.Interlock.{trips}
use Rattle.interlocks.specs.Scan.{scan_of}
use Rattle.reading.specs.Read.{low_first, read_of, word_shown}
use Rattle.records.specs.Stops.{stop_number}
use Rattle.registers.specs.Calls.{Call, write, accepted_ticks, after, answer, from, left_by_refusal, machine0, refusals, step}
use Rattle.registers.proofs.Lists.{from_append}
use Rattle.registers.proofs.Whole.{is_whole_lem}
use Rattle.sheet.specs.Follows.{follows_at}
use Rattle.sheet.specs.Lines.{Holds, Lines, own_lines}
use Rattle.sheet.specs.OwnPart.{Cut, own_part, own_part_of}
use Rattle.sheet.specs.InputRises.{levels_of, raw_count}
use Rattle.sheet.specs.Reachable.{OfWords, Reached}
use Rattle.sheet.specs.Requests.{Stands, finished, request_made, stand_after, waits}
use Rattle.sheet.specs.Scans.{scan_at}
use Rattle.sheet.specs.Settled.{SettledCut, settled, settled_part_of}
use Rattle.sheet.specs.Sheet.{sheet_after, sheet_shows}
use Rattle.sheet.specs.Shows.{shows}
use Rattle.sheet.specs.Waiting.{requests_made, requests_taken}
use Rattle.sheet.proofs.Sizes.{full_after}
use Rattle.sheet.proofs.Isolation.{holds_begin}
use Rattle.sheet.proofs.Theorems.{alike, alike_cut, alike_settled, alike_settled_cut, finishes, isolation_each, isolation_within, raw_alike, raw_reads, reachable, read_back, read_other, refused, run_records, run_refusals, run_sound, run_stops, run_ticks, scan_ends, scan_least, scan_level, scan_whole, stands, waiting_reads}
use Rattle.sheet.proofs.Kept.{holds_all}
use Rattle.trace.specs.declared.Report.{Report}
use Rattle.trace.specs.Passed.{calls_in, passed_in}
use Rattle.trace.specs.Run.{Run, once_of, progress_of, run, run_of}
use Rattle.trace.specs.Sound.{Sound}
use Rattle.demands.specs.Returned.{Looked, Ran, Rehearsed, Returned, Saw, Scanned}
use Rattle.demands.specs.Seen.{Act, reading, tracing, Seen, told, reported, calls_by, leaving, list_from, list_of, numbered, seen_from, seen_of, showing}
use Rattle.demands.proofs.Acts.{list_append, rehearsed, saw}

-- ---- the theorems, of the code

module _ (l : List Act) (n : Machine) (h : Rehearsed l n) where
  -- with every set of lines that has c's own lines
  pub code_isolation_within : (S : Lines) (c : ℕ) → c < 128 → Holds S (own_lines c (list_of l)) →
      shows c n ≡ sheet_shows (sheet_after c (own_part S c (list_of l)))
  code_isolation_within S c b holds = rw (rehearsed l n h) (isolation_within S c b (list_of l) holds)

  pub code_isolation : (c : ℕ) → c < 128 → shows c n ≡ sheet_shows (sheet_after c (own_part_of c (list_of l)))
  code_isolation c b = code_isolation_within (own_lines c (list_of l)) c b (holds_all (own_lines c (list_of l)))

  -- after each act of a longer list, with the own lines of that list
  pub code_isolation_each : (c : ℕ) → c < 128 → (more : List Act) →
      shows c n ≡ sheet_shows (sheet_after c (own_part (own_lines c (list_of (l ++ more))) c (list_of l)))
  unfolding list_of
  code_isolation_each c b more =
      rw (rehearsed l n h, list_append machine0 l more) (isolation_each c b (list_of l) (list_from (from machine0 (list_from machine0 l)) more))

  pub code_reachable : OfWords (list_of l) → Reached n
  code_reachable o = rw (rehearsed l n h) (reachable (list_of l) o)

  -- of the calls that the functions made, by themselves or as records of runs: a request that one of them makes stands in the crate where
  -- `stand_after` says, and that is `finished` in time
  module _ (l₁ : List Call) (x : Call) (l₂ : List Call) (cut : list_of l ≡ l₁ ++ (x ∷ l₂)) (q : Request) (made : request_made (after l₁) x ≡ Some q) where
    pub code_stands : Stands n.state.common q (stand_after (step (after l₁) x) l₂ (waits (after l₁).state.common.queue.waiting))
    unfolding after from
    code_stands = rw (rehearsed l n h, cut, from_append machine0 l₁ (x ∷ l₂)) (stands l₁ x q made l₂)

    pub code_finishes : 128 + 129 * ((after l₁).state.common.queue.waiting + 1) ≤ accepted_ticks l₂ →
        stand_after (step (after l₁) x) l₂ (waits (after l₁).state.common.queue.waiting) ≡ finished
    code_finishes = finishes l₁ x q made l₂

  -- of a call behind those of the list, and whatever is done after it: of the crates and memories themselves
  finishes_behind : (x : Call) (q : Request) → request_made n x ≡ Some q → (more : List Call) → 128 + 129 * (n.state.common.queue.waiting + 1) ≤ accepted_ticks more →
      stand_after (step n x) more (waits n.state.common.queue.waiting) ≡ finished
  finishes_behind x q = rw (rehearsed l n h) (finishes (list_of l) x q)

  pub code_finishes_behind : (x : Call) (q : Request) → request_made n x ≡ Some q → (a : Answer) (k : Machine) → Returned n x a k →
      (more : List Act) → 128 + 129 * (n.state.common.queue.waiting + 1) ≤ accepted_ticks (list_from k more) →
      stand_after k (list_from k more) (waits n.state.common.queue.waiting) ≡ finished
  code_finishes_behind x q made a k back more =
      subst (λ (m : Machine). 128 + 129 * (n.state.common.queue.waiting + 1) ≤ accepted_ticks (list_from k more) → stand_after m (list_from k more) (waits n.state.common.queue.waiting) ≡ finished) (sym back.1) (finishes_behind x q made (list_from k more))

  -- what a read after the list returns
  pub code_read : (a : ℕ) (q : Result ℕ Cause) → Looked n a q → q ≡ read_of (after (list_of l)) a
  code_read a q look = cc (rehearsed l n h)

  -- a read of a raw count
  pub code_raw_reads : (j : ℕ) → j < 108 → (q : Result ℕ Cause) → Looked n (0x1300 + j) q → q ≡ Ok (low_first j (raw_count (j / 2) (list_of l)))
  code_raw_reads j b q look = code_read (0x1300 + j) q look ∙ raw_reads j b (list_of l)

  -- a read of the queue's length
  pub code_waiting_reads : (q : Result ℕ Cause) → Looked n 0x0905 q → q ≡ Ok (requests_made (list_of l) - requests_taken (list_of l))
  code_waiting_reads q look = code_read 0x0905 q look ∙ waiting_reads (list_of l)

  -- what a scan after the list returns
  pub code_scan : (q : Result (List OutputScan) Cause) → Scanned n q → q ≡ scan_of (after (list_of l))
  code_scan q scan = cc (rehearsed l n h)

  -- and the words that it read make an output 0 where its level is 0
  pub code_scan_ends : (q : Result (List OutputScan) Cause) → Scanned n q → (o : ℕ) → o < 6 → (scan_at q o).level ≡ false →
      trips n.state o (scan_at q o).words ≡ true
  code_scan_ends q scan o b =
      let whole : is_whole n.memory ≡ true = rw (rehearsed l n h) (is_whole_lem (after (list_of l)).memory (full_after (list_of l))) in
      rw scan (scan_ends n o b whole)

  -- a write that `write` accepted, and a read after it
  pub code_read_back : (a w : ℕ) (given : Answer) (k : Machine) → Returned n (write a w) given k → given ≡ Ok tt →
      (q : Result ℕ Cause) → Looked k a q → q ≡ Ok (kept_at a w)
  code_read_back a w given k back e q look =
      let accepted : answer (after (list_of l)) (write a w) ≡ Ok tt = cc (rehearsed l n h) in
      cc (rehearsed l n h, read_back (list_of l) a w accepted)

  -- two reads of another register, before a write and after it
  pub code_read_other : (a w b : ℕ) → (a ≡ b → ⊥) → follows_at a b ≡ false →
      (p : Result ℕ Cause) → Looked n b p → (given : Answer) (k : Machine) → Returned n (write a w) given k →
      (q : Result ℕ Cause) → Looked k b q → q ≡ p
  code_read_other a w b d f p before given k back q look = cc (rehearsed l n h, read_other (list_of l) a w b d f)

-- two rehearsals with the same own part for c: c shows the same
pub code_alike : (c : ℕ) → c < 128 → (l m : List Act) (n k : Machine) → Rehearsed l n → Rehearsed m k →
    own_part_of c (list_of l) ≡ own_part_of c (list_of m) → shows c n ≡ shows c k
code_alike c b l m n k h g e = cc (code_isolation l n h c b, code_isolation m k g c b)

-- two rehearsals that are beginnings of two lists, with the same own part for c so far: c shows the same
pub code_alike_cut : (c : ℕ) → c < 128 → (l m : List Act) (l₂ m₂ : List Call) (n k : Machine) → Rehearsed l n → Rehearsed m k →
    own_part (own_lines c (list_of l ++ l₂)) c (list_of l) ≡ own_part (own_lines c (list_of m ++ m₂)) c (list_of m) → shows c n ≡ shows c k
code_alike_cut c b l m l₂ m₂ n k h g e = rw (rehearsed l n h, rehearsed m k g) (alike_cut c b (list_of l) l₂ (list_of m) m₂ e)

-- what c shows after two lists of calls it shows in whatever crates the functions give for them
at_cut : (c : ℕ) (l₁ m₁ : List Call) → shows c (after l₁) ≡ shows c (after m₁) →
    (k j : List Act) → list_of k ≡ l₁ → list_of j ≡ m₁ → (n o : Machine) → Rehearsed k n → Rehearsed j o → shows c n ≡ shows c o
at_cut c l₁ m₁ e k j p q n o h g = rw (rehearsed k n h, rehearsed j o g, p, q) e

-- two rehearsals with the same own part for c, one of them cut anywhere, also within a run or a repeat: the other has a cut with the same own
-- part before it, and c shows the same in whatever crates the calls up to these cuts gave
pub code_alike_within : (c : ℕ) → c < 128 → (l m : List Act) → own_part_of c (list_of l) ≡ own_part_of c (list_of m) →
    (l₁ l₂ : List Call) → list_of l ≡ l₁ ++ l₂ →
    (cut : Cut (own_lines c (list_of m)) c (list_of m) (own_part (own_lines c (list_of l)) c l₁))
    × ((k j : List Act) → list_of k ≡ l₁ → list_of j ≡ cut.first → (n o : Machine) → Rehearsed k n → Rehearsed j o → shows c n ≡ shows c o)
code_alike_within c b l m e l₁ l₂ w =
    let cut = alike c b (list_of l) (list_of m) e l₁ l₂ w in (cut.0, at_cut c l₁ cut.0.first cut.1)

-- two rehearsals in whose accepted ticks an input has the same levels: its raw count reads alike
pub code_raw_alike : (j : ℕ) → j < 108 → (l m : List Act) (n k : Machine) → Rehearsed l n → Rehearsed m k →
    levels_of (j / 2) (list_of l) ≡ levels_of (j / 2) (list_of m) →
    (p q : Result ℕ Cause) → Looked n (0x1300 + j) p → Looked k (0x1300 + j) q → p ≡ q
code_raw_alike j b l m n k h g e p q look again = cc (rehearsed l n h, rehearsed m k g, raw_alike j b (list_of l) (list_of m) e)

-- two rehearsals with the same settled part for c, shared registers written for neighbours as they please: c shows the same
pub code_alike_settled : (c : ℕ) → c < 128 → (l m : List Act) (n k : Machine) → Rehearsed l n → Rehearsed m k →
    settled_part_of c (list_of l) ≡ settled_part_of c (list_of m) → shows c n ≡ shows c k
code_alike_settled c b l m n k h g e =
    rw (rehearsed l n h, rehearsed m k g) (alike_settled_cut _ _ c b (list_of l) (list_of m) (holds_all _) (holds_all _) e)

-- wherever the calls of one of them are cut, those of the other have a cut with the same settled part before it
pub code_alike_settled_within : (c : ℕ) → c < 128 → (l m : List Act) → settled_part_of c (list_of l) ≡ settled_part_of c (list_of m) →
    (l₁ l₂ : List Call) → list_of l ≡ l₁ ++ l₂ →
    (cut : SettledCut (own_lines c (list_of m)) c (list_of m) (settled c (own_part (own_lines c (list_of l)) c l₁)))
    × ((k j : List Act) → list_of k ≡ l₁ → list_of j ≡ cut.first → (n o : Machine) → Rehearsed k n → Rehearsed j o → shows c n ≡ shows c o)
code_alike_settled_within c b l m e l₁ l₂ w =
    let cut = alike_settled c b (list_of l) (list_of m) e l₁ l₂ w in (cut.0, at_cut c l₁ cut.0.first cut.1)

-- two rehearsals that are beginnings of two lists, with the same settled part for c so far: c shows the same
pub code_alike_settled_cut : (c : ℕ) → c < 128 → (l m : List Act) (l₂ m₂ : List Call) (n k : Machine) → Rehearsed l n → Rehearsed m k →
    settled c (own_part (own_lines c (list_of l ++ l₂)) c (list_of l)) ≡ settled c (own_part (own_lines c (list_of m ++ m₂)) c (list_of m)) →
    shows c n ≡ shows c k
code_alike_settled_cut c b l m l₂ m₂ n k h g e =
    rw (rehearsed l n h, rehearsed m k g)
    (alike_settled_cut _ _ c b (list_of l) (list_of m) (holds_begin c (list_of l) l₂ _ (holds_all _)) (holds_begin c (list_of m) m₂ _ (holds_all _)) e)

-- a refused call leaves what the table says, for every crate and memory
pub code_refused : (m : Machine) (x : Call) (a : Answer) (n : Machine) → Returned m x a n → is_done a ≡ false → n ≡ left_by_refusal m x
code_refused m x a n back e = back.1 ∙ refused m x (rw back.0 at e)

-- the levels of a scan are the bits of a read of 0x0719, for every crate and memory
pub code_scan_level : (m : Machine) (q : Result (List OutputScan) Cause) → Scanned m q → (p : Result ℕ Cause) → Looked m 0x0719 p →
    (o : ℕ) → o < 6 → (scan_at q o).level ≡ bit (word_shown p) o
code_scan_level m q scan p look o b = rw (scan, look) (scan_level m o b)

-- and no fewer of the first words than a scan read make an output 0
pub code_scan_least : (m : Machine) (q : Result (List OutputScan) Cause) → Scanned m q → (o : ℕ) → o < 6 →
    (w : ℕ) → w < (scan_at q o).words → trips m.state o w ≡ false
code_scan_least m q scan o b = rw scan (scan_least m o b)

-- and all are read where its level is 1
pub code_scan_whole : (m : Machine) (q : Result (List OutputScan) Cause) → Scanned m q → (o : ℕ) → o < 6 → (scan_at q o).level ≡ true →
    (scan_at q o).words ≡ 22
code_scan_whole m q scan o b = rw scan (scan_whole m o b)

-- a run hands back the report of one that has stopped, with the counts over the calls of the records that it passed, for every crate and memory
module _ (m : Machine) (t : List ℕ) (budget : ℕ) (s : Crate) (report : Report) (memory : List ℕ) (ran : Ran m t budget s report memory) where
  abbrev calls : List Call
  calls = calls_in (passed_in t budget m)

  pub code_run_halts : (run_of t budget m).progress.going ≡ false
  code_run_halts = ap (λ (r : Run). r.progress.going) (sym ran)

  pub code_run_stops : is_whole m.memory ≡ true → once_of t budget (run (progress_of s report false) memory) ≡ run (progress_of s report false) memory
  code_run_stops e = rw ran (run_stops t budget m e)

  pub code_run_sound : Sound t budget report
  code_run_sound = subst (λ (r : Run). Sound t budget r.progress.report) (sym ran) (run_sound t budget m)

  pub code_run_records : report.records ≡ length (passed_in t budget m)
  code_run_records = ap (λ (r : Run). r.progress.report.records) ran ∙ run_records t budget m

  pub code_run_ticks : report.ticks ≡ accepted_ticks calls
  code_run_ticks = ap (λ (r : Run). r.progress.report.ticks) ran ∙ run_ticks t budget m

  pub code_run_refusals : report.refused ≡ refusals m calls
  code_run_refusals = ap (λ (r : Run). r.progress.report.refused) ran ∙ run_refusals t budget m

-- ---- a run within a list: what it reported

-- behind what was seen of l comes what is to be seen of the act after it
seen_at : (m : Machine) (l : List Act) (x : Act) (more : List Act) (d : Seen) →
    get_or (seen_from m (l ++ (x ∷ more))) (length l) d ≡ showing (from m (list_from m l)) x
unfolding seen_from list_from from
seen_at m [] x more d = refl
seen_at m (y ∷ l) x more d = cc (seen_at (leaving m y) l x more d, from_append m (calls_by m y) (list_from (leaving m y) l))

-- of a list from power-up, whose answer stands first
seen_behind : (l : List Act) (x : Act) (more : List Act) (seen : List Seen) (n : Machine) → Saw (l ++ (x ∷ more)) seen n → (d : Seen) →
    get_or seen (suc (length l)) d ≡ showing (after (list_of l)) x
unfolding seen_of after list_of
seen_behind l x more seen n h d = rw (saw _ seen n h).0 (seen_at machine0 l x more d)

pub seen_read : (l : List Act) (a : ℕ) (more : List Act) (seen : List Seen) (n : Machine) → Saw (l ++ (reading a ∷ more)) seen n → (d : Seen) →
    get_or seen (suc (length l)) d ≡ told (read_of (after (list_of l)) a) (number_of (read_of (after (list_of l)) a))
unfolding showing
seen_read l a more seen n h d = seen_behind l (reading a) more seen n h d

module _ (l : List Act) (t : List ℕ) (budget : ℕ) (more : List Act) (seen : List Seen) (n : Machine)
    (h : Saw (l ++ (tracing t budget ∷ more)) seen n) (r : Report) (k : ℕ) (d : Seen) (e : get_or seen (suc (length l)) d ≡ reported r k) where
  same : reported r k ≡ numbered (run_of t budget (after (list_of l))).progress.report
  unfolding showing
  same = sym e ∙ seen_behind l (tracing t budget) more seen n h d

  pub seen_report : r ≡ (run_of t budget (after (list_of l))).progress.report
  seen_report = let s = same in cc

  pub seen_number : k ≡ stop_number r.stop
  seen_number = let s = same in cc
