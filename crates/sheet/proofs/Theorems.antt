-- The theorems about lists of calls, with their full statements. Each is proved by the file that it cites.
use Prim.Native.Nat.{ℕ, ◌+◌, ◌-◌, ◌*◌, ◌/◌, ◌%◌, ◌^◌, ◌≤◌, ◌<◌}
use native.Mathlib.Nat.{zero-add}
use mathlib.Core.Bool.{Bool, true, false}
use mathlib.Core.List.{List, [], ◌∷◌, ◌++◌}
use mathlib.Core.Logic.{◌↔◌}
use mathlib.Core.Path.{◌≡◌, sym, ap, ◌∙◌}
use lib.ListN.{length}
use Rattle.std.proofs.Common.{Ok, Some, None, is_some}
use Rattle.words.specs.Word.{bit, bit_of}
use Rattle.loader.specs.declared.loader.Request.{Request}
use Rattle.loader.specs.Memory.{is_whole}
use Rattle.causes.specs.Causes.{is_done}
use Rattle.registers.specs.Calls.{Call, write, accepted_ticks, after, answer, from, left_by_refusal, refusals, step}
use Rattle.device.specs.Map.{decode_of, kept_at}
use Rattle.interlocks.specs.Interlock.{trips}
use Rattle.interlocks.specs.Scan.{scan_of}
use Rattle.reading.specs.Read.{low_first, read_of, word_shown}
use Rattle.device.specs.State.{Machine}
use Rattle.registers.proofs.Refused as refusing
use Rattle.trace.specs.Passed.{calls_in, passed_in}
use Rattle.trace.specs.Run.{machine_of, once_of, run_of}
use Rattle.trace.specs.Sound.{Sound}
use Rattle.trace.proofs.Halts as halting
use Rattle.trace.proofs.Listed as listing
use Rattle.sheet.specs.Follows.{follows_at}
use Rattle.sheet.specs.Lines.{Holds, Lines, own_lines}
use Rattle.sheet.specs.OwnPart.{Cut, Part, own_part, own_part_of}
use Rattle.sheet.specs.InputRises.{levels_of, raw_count, rises_in}
use Rattle.sheet.specs.Reachable.{OfWords, Reached}
use Rattle.sheet.specs.Requests.{Stands, finished, request_made, stand_after, waits}
use Rattle.sheet.specs.Scans.{scan_at}
use Rattle.sheet.specs.Settled.{SettledCut, repeats, settled, settled_part_of}
use Rattle.sheet.specs.Sheet.{sheet_after, sheet_shows, sheet_step}
use Rattle.sheet.specs.Shows.{shows}
use Rattle.sheet.specs.Waiting.{requests_made, requests_taken}
use Rattle.sheet.proofs.Addresses as placing
use Rattle.sheet.proofs.Finishes as finishing
use Rattle.sheet.proofs.Isolation as isolating
use Rattle.sheet.proofs.Kept.{holds_all}
use Rattle.sheet.proofs.RawReads as counting
use Rattle.sheet.proofs.ReadBack as reading
use Rattle.sheet.proofs.Reached as reaching
use Rattle.sheet.proofs.Scans as scanning
use Rattle.sheet.proofs.Settled as settling
use Rattle.sheet.proofs.SettledLists as comparing
use Rattle.sheet.proofs.Waiting as tallying

-- Demand 3: after every list of calls, counter c shows in the crate what its one-counter sheet shows, fed with c's own part alone.
pub isolation : (c : ℕ) → c < 128 → (l : List Call) → shows c (after l) ≡ sheet_shows (sheet_after c (own_part_of c l))
isolation = isolating.isolation

-- The same with every set S of lines that has c's own lines in it.
pub isolation_within : (S : Lines) (c : ℕ) → c < 128 → (l : List Call) → Holds S (own_lines c l) →
    shows c (after l) ≡ sheet_shows (sheet_after c (own_part S c l))
isolation_within = isolating.isolation_in

-- Demand 3, after each call: at every cut of a list c shows what its sheet shows after the own part so far, taken with the own lines of the
-- whole list.
pub isolation_each : (c : ℕ) → c < 128 → (l₁ l₂ : List Call) →
    shows c (after l₁) ≡ sheet_shows (sheet_after c (own_part (own_lines c (l₁ ++ l₂)) c l₁))
isolation_each = isolating.isolation_each

-- Two lists with the same own part for c: wherever the one is cut, the other has a cut with the same own part before it, and c shows the
-- same there, whatever else either list does.
pub alike : (c : ℕ) → c < 128 → (l m : List Call) → own_part_of c l ≡ own_part_of c m → (l₁ l₂ : List Call) → l ≡ l₁ ++ l₂ →
    (k : Cut (own_lines c m) c m (own_part (own_lines c l) c l₁)) × (shows c (after l₁) ≡ shows c (after k.first))
alike = isolating.alike

-- And at every two cuts before which the own part is the same.
pub alike_cut : (c : ℕ) → c < 128 → (l₁ l₂ m₁ m₂ : List Call) →
    own_part (own_lines c (l₁ ++ l₂)) c l₁ ≡ own_part (own_lines c (m₁ ++ m₂)) c m₁ → shows c (after l₁) ≡ shows c (after m₁)
alike_cut = isolating.alike_cut

-- Shared registers: a part that repeats what c's sheet has leaves the sheet as it was, after every list of parts ..
pub own_repeat : (c : ℕ) (parts : List Part) (p : Part) → repeats c (sheet_after c parts) p ≡ true →
    sheet_step c (sheet_after c parts) p ≡ sheet_after c parts
own_repeat c parts p e = settling.own_repeat c (sheet_after c parts) (settling.formed_after c parts) p e

-- .. so the own part without its repeats, the settled part, leaves the sheet that the whole leaves.
pub settled_same : (c : ℕ) (parts : List Part) → sheet_after c (settled c parts) ≡ sheet_after c parts
settled_same = settling.settled_same

-- Two lists with the same settled part for c: wherever the one is cut, so after each of its calls, the other has a cut with the same settled
-- part before it, and c shows the same there. What only the one has, neighbours' calls and repeats of what c has, shows in no value of c.
pub alike_settled : (c : ℕ) → c < 128 → (l m : List Call) → settled_part_of c l ≡ settled_part_of c m → (l₁ l₂ : List Call) → l ≡ l₁ ++ l₂ →
    (k : SettledCut (own_lines c m) c m (settled c (own_part (own_lines c l) c l₁))) × (shows c (after l₁) ≡ shows c (after k.first))
alike_settled c c< l m = comparing.alike_settled_in (own_lines c l) (own_lines c m) c c< l m (holds_all (own_lines c l)) (holds_all (own_lines c m))

-- The same with every set S of lines that has the own lines of the one list: it has those of the other.
pub alike_settled_within : (S : Lines) (c : ℕ) → c < 128 → (l m : List Call) → Holds S (own_lines c l) →
    settled c (own_part S c l) ≡ settled c (own_part S c m) → (l₁ l₂ : List Call) → l ≡ l₁ ++ l₂ →
    (k : SettledCut S c m (settled c (own_part S c l₁))) × (shows c (after l₁) ≡ shows c (after k.first))
alike_settled_within S c c< l m h e = comparing.alike_settled_in S S c c< l m h (rw (← (comparing.lines_alike S S c l m e)) h) e

-- And at every two cuts before which the settled part is the same.
pub alike_settled_cut : (S T : Lines) (c : ℕ) → c < 128 → (l m : List Call) → Holds S (own_lines c l) → Holds T (own_lines c m) →
    settled c (own_part S c l) ≡ settled c (own_part T c m) → shows c (after l) ≡ shows c (after m)
alike_settled_cut = comparing.alike_settled_cut

-- Two lists with the same settled part have the same own lines, whatever sets it was taken with: a patch that brings a line is no repeat ..
pub settled_lines : (S T : Lines) (c : ℕ) (l m : List Call) → settled c (own_part S c l) ≡ settled c (own_part T c m) → own_lines c l ≡ own_lines c m
settled_lines = comparing.lines_alike

-- .. so the own lines of the one are enough to compare both.
pub settled_by_one : (c : ℕ) (l m : List Call) →
    (settled_part_of c l ≡ settled c (own_part (own_lines c l) c m)) ↔ (settled_part_of c l ≡ settled_part_of c m)
settled_by_one = comparing.settled_by_one

-- A request that call x makes after the list l, with k waiting ahead of it, is finished after every list with 128 + 129 × (k + 1) accepted
-- ticks, whatever else is in that list.
pub finishes : (l : List Call) (x : Call) (r : Request) → request_made (after l) x ≡ Some r →
    (more : List Call) → 128 + 129 * ((after l).state.common.queue.waiting + 1) ≤ accepted_ticks more →
    stand_after (step (after l) x) more (waits (after l).state.common.queue.waiting) ≡ finished
finishes = finishing.finishes

-- Until then it stands where `stand_after` says: in its place of the queue, never lost, doubled or overtaken, or in the loader.
pub stands : (l : List Call) (x : Call) (r : Request) → request_made (after l) x ≡ Some r → (more : List Call) →
    Stands (from (step (after l) x) more).state.common r
    (stand_after (step (after l) x) more (waits (after l).state.common.queue.waiting))
stands = finishing.stands

-- After every list from power-up whose downloads are of 16-bit words: all numbers in their ranges, unused bits 0, counts 0 while RESET is set.
pub reachable : (l : List Call) → OfWords l → Reached (after l)
reachable = reaching.reachable

-- A refused call leaves what 01's table says, for every machine and every call: all; a tag refused 4 or 5 all but 0x0900 to 0x0902.
pub refused : (m : Machine) (x : Call) → is_done (answer m x) ≡ false → step m x ≡ left_by_refusal m x
refused = refusing.refused

-- Demand 2, over the whole map: after an accepted write a read of the same register gives the word less its unused bits ..
pub read_back : (l : List Call) (a w : ℕ) → answer (after l) (write a w) ≡ Ok tt →
    read_of (step (after l) (write a w)) a ≡ Ok (kept_at a w)
read_back = reading.read_back

-- .. and a read at any other address gives what it gave, but for the side effects that `follows` names.
pub read_other : (l : List Call) (a w b : ℕ) → (a ≡ b → ⊥) → follows_at a b ≡ false →
    read_of (step (after l) (write a w)) b ≡ read_of (after l) b
read_other = reading.read_other

-- Two addresses at which registers stand are the same where the registers are: so no register of the map has two.
pub one_address : (a b : ℕ) → (decode_of a ≡ None → ⊥) → decode_of a ≡ decode_of b → a ≡ b
one_address = placing.one_address

-- Document 02, request 1: after every list of calls the words at 0x1300 + 2 × i and the address after it are the low and the high word of the
-- number of rises of input i over the accepted ticks, modulo 2^32 (`raw_count`); j counts the words of the block.
pub raw_reads : (j : ℕ) → j < 108 → (l : List Call) → read_of (after l) (0x1300 + j) ≡ Ok (low_first j (raw_count (j / 2) l))
raw_reads = counting.raw_reads

-- So no gate, selection or clear matters to it: two lists whose accepted ticks have the same levels of that input read alike there.
pub raw_alike : (j : ℕ) → j < 108 → (l m : List Call) → levels_of (j / 2) l ≡ levels_of (j / 2) m →
    read_of (after l) (0x1300 + j) ≡ read_of (after m) (0x1300 + j)
raw_alike j b l m e =
    raw_reads j b l ∙ ap (λ (levels : List Bool). Ok (low_first j (rises_in false levels % 2 ^ 32))) e ∙ sym (raw_reads j b m)

-- Document 02, request 5: after every list of calls 0x0905 reads the requests that the list has made less those that the loader has taken, both
-- counted over the list by themselves (`Waiting.antt`): so the one at work is not counted.
pub waiting_reads : (l : List Call) → read_of (after l) 0x0905 ≡ Ok (requests_made l - requests_taken l)
waiting_reads = tallying.waiting_reads

-- None is taken that was not made, so it is a true difference, and at most 16 wait: "0 to 16".
pub waiting_within : (l : List Call) → (requests_taken l ≤ requests_made l) × (requests_made l - requests_taken l ≤ 16)
waiting_within = tallying.waiting_within

-- A call adds one to those made exactly where `request_made` says that it makes a request; of those `finishes` speaks.
pub made_is : (l : List Call) (x : Call) → requests_made (l ++ (x ∷ [])) ≡ requests_made l + bit_of (is_some (request_made (after l) x))
made_is = tallying.made_is

-- Document 02, CR 3, for every crate and memory, so after every list
module _ (m : Machine) (o : ℕ) (h : o < 6) where
  -- The level that a scan gives of output o is bit o of what a read of 0x0719 gives.
  pub scan_level : (scan_at (scan_of m) o).level ≡ bit (word_shown (read_of m 0x0719)) o
  scan_level = scanning.scan_level m o h

  -- No fewer of its first selection words than those read make it 0.
  pub scan_least : (w : ℕ) → w < (scan_at (scan_of m) o).words → trips m.state o w ≡ false
  scan_least = scanning.scan_least m o h

  -- Those read do, where it is 0 and the memory has 16,384 words, as it has after every list (`code_scan_ends`).
  pub scan_ends : is_whole m.memory ≡ true → (scan_at (scan_of m) o).level ≡ false → trips m.state o (scan_at (scan_of m) o).words ≡ true
  scan_ends = scanning.scan_ends m o h

  -- All are read where it is 1.
  pub scan_whole : (scan_at (scan_of m) o).level ≡ true → (scan_at (scan_of m) o).words ≡ 22
  scan_whole = scanning.scan_whole m o h

-- A trace run stands for the calls of the records that it passes: it leaves the crate and memory that they leave, and its records, ticks and
-- refusals are the counts over them.
module _ (t : List ℕ) (budget : ℕ) (m : Machine) where
  pub run_is_list : machine_of (run_of t budget m) ≡ from m (calls_in (passed_in t budget m))
  run_is_list = (listing.run_is_list t budget m).state

  -- it ends: the turns of `run_of` are enough
  pub run_halts : (run_of t budget m).progress.going ≡ false
  run_halts = halting.run_halts t budget m

  -- the record at the next offset is the one that stops it, by the cause that is reported: taken once more it changes nothing
  pub run_stops : is_whole m.memory ≡ true → once_of t budget (run_of t budget m) ≡ run_of t budget m
  run_stops = halting.run_stops t budget m

  -- next offset within the trace, records and refusals no more than that, ticks within the budget
  pub run_sound : Sound t budget (run_of t budget m).progress.report
  run_sound = halting.run_sound t budget m

  pub run_records : (run_of t budget m).progress.report.records ≡ length (passed_in t budget m)
  run_records = (listing.run_is_list t budget m).records ∙ zero-add (length (passed_in t budget m))

  pub run_ticks : (run_of t budget m).progress.report.ticks ≡ accepted_ticks (calls_in (passed_in t budget m))
  run_ticks = (listing.run_is_list t budget m).ticks ∙ zero-add (accepted_ticks (calls_in (passed_in t budget m)))

  pub run_refusals : (run_of t budget m).progress.report.refused ≡ refusals m (calls_in (passed_in t budget m))
  run_refusals = (listing.run_is_list t budget m).refused ∙ zero-add (refusals m (calls_in (passed_in t budget m)))
