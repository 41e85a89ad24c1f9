-- Demand 1 on one page, to be laid beside document 01's "Causes of refusal": the conditions of each call in the order in which they are
-- looked at, what each cause returns and what it leaves; then the checks of a record, in theirs.
use Rattle.std.specs.Prelude.{ℕ, ◌+◌, ◌-◌, ◌*◌, Bool, true, false, not, ◌&&◌, List, [], ◌∷◌, ◌≡◌, eqb, ltb, length, Some, None, Result, Ok, Err}
use Rattle.std.specs.Option.{option_map_or}
use Rattle.bools.specs.Pick.{pick}
use Rattle.causes.specs.declared.Cause.{Cause}
use Rattle.causes.specs.declared.Cause.TheVariants.{Memory, Address, ReadOnly, Dataset, Full, Level, UnknownTag, WrongLength, Cut, NoRepeat, Length}
use Rattle.device.specs.declared.map.Register.{Register}
use Rattle.device.specs.declared.map.Register.TheVariants.{Readout}
use Rattle.causes.specs.Causes.{Answer, is_done, number_of}
use Rattle.device.specs.Map.{decode_of}
use Rattle.device.specs.State.{Machine, with_memory, with_state}
use Rattle.interlocks.specs.Scan.{scanned as scan_in}
use Rattle.lines.specs.Lines.{bad_levels}
use Rattle.loader.specs.Loader.{is_beyond, is_full}
use Rattle.loader.specs.Memory.{dataset_words, is_whole, replaced}
use Rattle.reading.specs.Read.{word_in}
use Rattle.records.specs.declared.Record.TheVariants.{Ticks, Write, Tag}
use Rattle.records.specs.declared.Stop.{Stop}
use Rattle.records.specs.declared.Stop.TheVariants.{End, Spent, Refused}
use Rattle.records.specs.Records.{Found, gate_bytes, header_bytes, input_bytes, is_known, length_at, number_at, payload_bytes, record_at, repeat_bytes, tag_at}
use Rattle.registers.specs.Calls.{Call, tick, write, tag, download}
use Rattle.tagging.specs.Tag.{command_of, events_on, noted_in, right_key, tag_of}
use Rattle.ticking.specs.Tick.{tick_of}
use Rattle.trace.specs.Passed.{calls_of}
use Rattle.trace.specs.Run.{Run, machine_of, passes, report_of, run_of, stops_by}
use Rattle.writing.specs.Write.{dataset_in, triggers, write_at}
use Rattle.demands.specs.Seen.{Act, calling, reading, scanning, tracing, Seen, answered, told, scanned, numbered}

-- a row of a table: what comes of it where its condition holds
pub record Condition (A : Type 0) : Type 0 where
  pub gives : A
  pub holds : Bool

abbrev pub on : {A : Type 0} → A → Bool → Condition A
on a b = record { gives = a; holds = b }

-- the first row whose condition holds decides; where none does, `otherwise`
abbrev pub first : {A : Type 0} → List (Condition A) → A → A
first [] otherwise = otherwise
first (c ∷ cs) otherwise = pick c.holds c.gives (first cs otherwise)

-- ---- the conditions

-- "memory not 16,384 words"
abbrev pub not_whole : Machine → Bool
not_whole m = not (is_whole m.memory)

-- what may be done at an address: nothing, as it is not in the map; read; read and write
pub data Access : Type 0 where
  outside : Access
  readable : Access
  writable : Access

abbrev pub access_of : Register → Access
access_of (Readout q) = readable
access_of r = writable

-- "address not in the map"
abbrev pub is_outside : Access → Bool
is_outside outside = true
is_outside readable = false
is_outside writable = false

-- "read-only address"
abbrev pub is_read_only : Access → Bool
is_read_only outside = false
is_read_only readable = true
is_read_only writable = false

abbrev pub access_at : ℕ → Access
access_at a = option_map_or access_of (decode_of a) outside

-- "A write to 0x0A02 that sets TRIGGER where it was clear makes a request."
abbrev pub write_asks : Machine → ℕ → ℕ → Bool
write_asks m a w = eqb a 0x0A02 && triggers w m.state.common

-- a tag with events on, the right key and command 0x1
abbrev pub tag_asks : Machine → ℕ → Bool
tag_asks m t = events_on m.state.common && (right_key m.state.common t && eqb (command_of t) 1)

-- "16 requests wait"
abbrev pub places_taken : Machine → Bool
places_taken m = is_full m.state.common.queue

-- "Every call on a crate is lent the memory, so 1 comes first; 4 before 5; 11 before 4."
unfoldable pub conditions : Machine → Call → List (Condition Answer)
conditions m (tick inputs gates) =
    on (Err Memory) (not_whole m)
    ∷ on (Err Level) (bad_levels inputs gates)
    ∷ []
conditions m (write a w) =
    on (Err Memory) (not_whole m)
    ∷ on (Err Address) (is_outside (access_at a))
    ∷ on (Err ReadOnly) (is_read_only (access_at a))
    ∷ on (Err Dataset) (write_asks m a w && is_beyond (dataset_in w))
    ∷ on (Err Full) (write_asks m a w && places_taken m)
    ∷ []
conditions m (tag t) =
    on (Err Memory) (not_whole m)
    ∷ on (Err Dataset) (tag_asks m t && is_beyond (dataset_in t))
    ∷ on (Err Full) (tag_asks m t && places_taken m)
    ∷ []
conditions m (download d words) =
    on (Err Memory) (not_whole m)
    ∷ on (Err Length) (not (eqb (length words) dataset_words))
    ∷ on (Err Dataset) (is_beyond d)
    ∷ []

-- a power-up, on a memory
abbrev pub power_up_conditions : List ℕ → List (Condition Answer)
power_up_conditions memory = on (Err Memory) (not (is_whole memory)) ∷ []

unfoldable pub conditions_of : Machine → Act → List (Condition Answer)
conditions_of m (calling x) = conditions m x
conditions_of m (reading a) = on (Err Memory) (not_whole m) ∷ on (Err Address) (is_outside (access_at a)) ∷ []
conditions_of m scanning = on (Err Memory) (not_whole m) ∷ []
conditions_of m (tracing t budget) = on (Err Memory) (not_whole m) ∷ []

-- accepted, or the first cause whose condition holds; its number of 01's table is `number_of` of it (causes/specs/Causes.antt)
abbrev pub cause_of : Machine → Act → Answer
cause_of m x = first (conditions_of m x) (Ok tt)

-- ---- "Returned"

-- what an accepted read or scan gives, or the cause
abbrev pub giving : {A : Type 0} → Answer → A → Result A Cause
giving (Ok _) x = Ok x
giving (Err cause) x = Err cause

-- "number"; for a read "number, word 0" and for a scan "the number and zeros", of which a refused one has the number alone here; for a run
-- "the number and zeros in the rest of its report"
unfoldable pub shown_by : Machine → Act → Answer → Seen
shown_by m (calling x) a = answered a (number_of a)
shown_by m (reading b) a = told (giving a (option_map_or (word_in m) (decode_of b) 0)) (number_of a)
shown_by m scanning a = scanned (giving a (scan_in m.state)) (number_of a)
shown_by m (tracing t budget) a = numbered (pick (is_done a) (run_of t budget m).progress.report (report_of (Refused Memory) 0 0 0 0))

-- ---- "Left as it was"

-- what an accepted call does
unfoldable pub work_of : Machine → Act → Machine
work_of m (calling (tick inputs gates)) = with_state m (tick_of m.state m.memory inputs gates)
work_of m (calling (write a w)) = option_map_or (λ (r : Register). write_at m r w) (decode_of a) m
work_of m (calling (tag t)) = with_state m (tag_of m.state t)
work_of m (calling (download d words)) = with_memory m (replaced m.memory (dataset_words * d) words)
work_of m (reading a) = m
work_of m scanning = m
work_of m (tracing t budget) = machine_of (run_of t budget m)

-- "all; by a tag, all but 0x0900 to 0x0902", which take it
unfoldable pub all_but_tag : Machine → Act → Machine
all_but_tag m (calling (tick inputs gates)) = m
all_but_tag m (calling (write a w)) = m
all_but_tag m (calling (tag t)) = with_state m (noted_in m.state t)
all_but_tag m (calling (download d words)) = m
all_but_tag m (reading a) = m
all_but_tag m scanning = m
all_but_tag m (tracing t budget) = m

unfoldable pub left_by : Machine → Act → Answer → Machine
left_by m x (Ok _) = work_of m x
left_by m x (Err Dataset) = all_but_tag m x
left_by m x (Err Full) = all_but_tag m x
left_by m x (Err cause) = m

-- ---- the records of a run

-- what comes of the next record: the run stops before it, passes it as refused by 6, or passes it
pub data Fate : Type 0 where
  stopped : Stop → Fate
  refused_tick : Fate
  passed_on : Fate

-- a tick record, and its repeat, inputs and gates
abbrev pub is_ticks : List ℕ → ℕ → Bool
is_ticks t at = eqb (tag_at t at) 0x01

abbrev pub repeat_in : List ℕ → ℕ → ℕ
repeat_in t at = number_at t (at + header_bytes) repeat_bytes

abbrev pub inputs_in : List ℕ → ℕ → ℕ
inputs_in t at = number_at t (at + header_bytes + repeat_bytes) input_bytes

abbrev pub gates_in : List ℕ → ℕ → ℕ
gates_in t at = number_at t (at + header_bytes + repeat_bytes + input_bytes) gate_bytes

abbrev pub bad_levels_in : List ℕ → ℕ → Bool
bad_levels_in t at = bad_levels (inputs_in t at) (gates_in t at)

-- "A run stops at the end"; "In a record: header cut, 7, 8, payload cut, 10, then 6, then the budget"
unfoldable pub checks : List ℕ → ℕ → ℕ → List (Condition Fate)
checks t at ticksleft =
    on (stopped End) (eqb (length t - at) 0)
    ∷ on (stopped (Refused Cut)) (ltb (length t - at) header_bytes)
    ∷ on (stopped (Refused UnknownTag)) (not (is_known (tag_at t at)))
    ∷ on (stopped (Refused WrongLength)) (not (eqb (length_at t at) (payload_bytes (tag_at t at))))
    ∷ on (stopped (Refused Cut)) (ltb (length t - at) (header_bytes + length_at t at))
    ∷ on (stopped (Refused NoRepeat)) (is_ticks t at && eqb (repeat_in t at) 0)
    ∷ on refused_tick (is_ticks t at && bad_levels_in t at)
    ∷ on (stopped Spent) (is_ticks t at && ltb ticksleft (repeat_in t at))
    ∷ []

-- what comes of the record at an offset with so many ticks left
abbrev pub fate_of : List ℕ → ℕ → ℕ → Fate
fate_of t at ticksleft = first (checks t at ticksleft) passed_on

-- the ticks that a passed record uses, and whether its call is refused
abbrev pub ticks_used : Found → ℕ
ticks_used (Err cause) = 0
ticks_used (Ok None) = 0
ticks_used (Ok (Some (Ticks n levels))) = n
ticks_used (Ok (Some (Write a w))) = 0
ticks_used (Ok (Some (Tag e))) = 0

abbrev pub refused_in : Machine → Found → Bool
refused_in m (Err cause) = false
refused_in m (Ok None) = false
refused_in m (Ok (Some (Ticks n levels))) = false
refused_in m (Ok (Some (Write a w))) = not (is_done (cause_of m (calling (write a w))))
refused_in m (Ok (Some (Tag e))) = not (is_done (cause_of m (calling (tag e))))

-- the run behind that record, `next`: it stops, and all is as it was; or the calls of the record are made, and "A call refused by 2 to 6
-- counts once and the run goes on, using no ticks"
unfoldable pub gone_by : List ℕ → Run → Found → Fate → Run
gone_by t r next (stopped stop) = stops_by stop r
gone_by t r next refused_tick = passes t r (calls_of next) 0 true
gone_by t r next passed_on = passes t r (calls_of next) (ticks_used next) (refused_in (machine_of r) next)

-- "A run stops at the end, at a malformed record, or before a tick record whose repeat exceeds the ticks left": r goes record by record, each
-- by its fate, to the one that stops it, and ends as q
abbrev pub fate_at : List ℕ → ℕ → Run → Fate
fate_at t budget r = fate_of t r.progress.report.next (budget - r.progress.report.ticks)

abbrev pub next_run : List ℕ → ℕ → Run → Run
next_run t budget r = gone_by t r (record_at t r.progress.report.next) (fate_at t budget r)

pub data Goes (t : List ℕ) (budget : ℕ) (q : Run) : Run → Type 0 where
  halts : (r : Run) (stop : Stop) → fate_at t budget r ≡ stopped stop → q ≡ next_run t budget r → Goes t budget q r
  goes_on : (r : Run) → (next_run t budget r).progress.going ≡ true → Goes t budget q (next_run t budget r) → Goes t budget q r

-- "A record is a tag byte, a two-byte length, a payload" of 11 or 4 bytes: what the records that a run passes take, and so where the next stands
abbrev pub bytes_of : Found → ℕ
bytes_of (Err cause) = 0
bytes_of (Ok None) = 0
bytes_of (Ok (Some (Ticks n levels))) = 14
bytes_of (Ok (Some (Write a w))) = 7
bytes_of (Ok (Some (Tag e))) = 7

abbrev pub bytes_in : List Found → ℕ
bytes_in [] = 0
bytes_in (r ∷ rs) = bytes_of r + bytes_in rs
