-- Document 01, "The one-counter sheet", where registers are shared: c's own part without what it repeats, the settled part.
-- 0x0802, 0x0A03 and 0x0A04 have the bits of all gates, a group register has four counters, a dataset has all: a neighbour that writes there
-- for itself writes our bits again as they were. By 01 that write is in our own part; what it says, the sheet has already.
-- In: a counter and its own part. Out: its own part less such repeats and less what does nothing, whatever the queue holds.
use Rattle.std.specs.Prelude.{ℕ, ◌+◌, ◌*◌, Bool, false, true, not, ◌||◌, List, [], ◌∷◌, ◌++◌, ◌≡◌, eqb, get_or}
use Rattle.bools.specs.Pick.{pick}
use Rattle.words.specs.Word.{bit}
use Rattle.lists.specs.Table.{any}
use Rattle.counters.specs.Counter.{reset_on}
use Rattle.gates.specs.declared.gate.Gate.{Gate}
use Rattle.gates.specs.Gate.{gate_at, gate_bits, mode, prepare, recover}
use Rattle.lines.specs.Lines.{gate_count}
use Rattle.loader.specs.Loader.{is_beyond}
use Rattle.device.specs.declared.map.GateWord.TheVariants.{Timeout}
use Rattle.device.specs.declared.map.Register.TheVariants.{Gates, Input, Shared, Word}
use Rattle.device.specs.declared.map.SharedWord.TheVariants.{Control, Enable, Key}
use Rattle.causes.specs.Causes.{is_done}
use Rattle.device.specs.Map.{kept}
use Rattle.registers.specs.Calls.{Call, download_answer}
use Rattle.tagging.specs.Tag.{command_of, events_on, right_key}
use Rattle.writing.specs.Write.{dataset_in}
use Rattle.sheet.specs.Lines.{Lines}
use Rattle.sheet.specs.OwnPart.{Part, ticked, patched, stored, controlled, keyed, enabled, reloaded, timed, grouped, moded, prepared, recovered, tagged, downloaded, own_part, own_part_of}
use Rattle.sheet.specs.Sheet.{Sheet, sheet0, sheet_step}

-- each of f 0 to f (n - 1) holds
abbrev pub every : ℕ → (ℕ → Bool) → Bool
every n f = not (any n (λ i. not (f i)))

abbrev pub prepare_pulse : Gate → Bool
prepare_pulse g = g.preparepulse

abbrev pub recover_pulse : Gate → Bool
recover_pulse g = g.recoverpulse

-- "or an event has pulsed them since the last accepted tick": each gate that tag t names is pulsed already, and a second pulse adds nothing.
-- So too where it names none, as a tag for neighbours' gates: their bits are 0 in the own part
unfoldable pub all_pulsed : (Gate → Bool) → ℕ → List Gate → Bool
all_pulsed pulse t gates = every gate_count (λ g. pulse (gate_at gates g) || not (bit t g))

-- a command that leaves the sheet: 0x1 where cause 4 refuses its request, whatever the queue holds; 0x2 and 0x3 where all is pulsed; 0x4
-- while RESET is set, as "all counts are 0"; "Commands 0x0 and 0x5 to 0xF do nothing"
unfoldable pub idle_command : Sheet → ℕ → Bool
idle_command s t =
    pick (eqb (command_of t) 1) (is_beyond (dataset_in t))
    (pick (eqb (command_of t) 2) (all_pulsed prepare_pulse t s.gates)
    (pick (eqb (command_of t) 3) (all_pulsed recover_pulse t s.gates)
    (pick (eqb (command_of t) 4) (reset_on s.common.control) true)))

-- "A tag is passed over if events are off", "on a wrong key nothing more happens"
unfoldable pub idle_tag : Sheet → ℕ → Bool
idle_tag s t = pick (events_on s.common) (pick (right_key s.common t) (idle_command s t) true) true

-- c's words of dataset d are those four
unfoldable pub has_four : List ℕ → ℕ → List ℕ → Bool
has_four memory d four = every 4 (λ j. eqb (get_or four j 0) (get_or memory (4 * d + j) 0))

-- A part that says what the sheet has, or that does nothing whatever the queue holds: a tick that cause 6 refuses, a download that 11 or 4
-- refuses, an idle tag.
-- It looks at registers, memory words and pulses, and at no count, gate state, timer, queue, loader, phase or level.
-- A write to 0x0A02 is never a repeat. The word that stands there, written again, makes no request and changes nothing; but which word stands
-- there is for the queue to say, as a request that is refused 5 stores none. Requests stay whole, refused ones too: "Reload requests of
-- neighbours are in the own part, since the queue is shared."
unfoldable pub repeats : ℕ → Sheet → Part → Bool
repeats c s (ticked refused inputs gates) = refused
repeats c s (patched w) = eqb (kept (Input c) w) s.counter.input
repeats c s (stored k w) = eqb (kept (Word k) w) (get_or s.memory k 0)
repeats c s (controlled w) = eqb (kept (Shared Control) w) s.common.control
repeats c s (keyed w) = eqb (kept (Shared Key) w) s.common.key
repeats c s (enabled w) = eqb (kept (Shared Enable) w) s.common.enable
repeats c s (reloaded w) = false
repeats c s (timed g w) = eqb (kept (Gates (Timeout g)) w) (gate_at s.gates g).timeout
repeats c s (grouped n) = eqb n s.group
repeats c s (moded w) = eqb w (gate_bits mode s.gates)
repeats c s (prepared w) = eqb w (gate_bits prepare s.gates)
repeats c s (recovered w) = eqb w (gate_bits recover s.gates)
repeats c s (tagged t) = idle_tag s t
repeats c s (downloaded d size four) = pick (is_done (download_answer d size)) (has_four s.memory d four) true

-- parts fed from a sheet on, less the repeats: each part is held against the sheet that all before it leave
unfoldable pub settled_from : ℕ → Sheet → List Part → List Part
settled_from c s [] = []
settled_from c s (p ∷ parts) =
    let rest : List Part = settled_from c (sheet_step c s p) parts in pick (repeats c s p) rest (p ∷ rest)

-- the settled part of an own part
unfoldable pub settled : ℕ → List Part → List Part
settled c parts = settled_from c sheet0 parts

-- c's settled part of a list
abbrev pub settled_part_of : ℕ → List Call → List Part
settled_part_of c l = settled c (own_part_of c l)

-- a list cut behind a beginning of its settled part
pub record SettledCut (S : Lines) (c : ℕ) (l : List Call) (parts : List Part) : Type 0 where
  pub first : List Call
  pub rest : List Call
  pub whole : l ≡ first ++ rest
  pub part : settled c (own_part S c first) ≡ parts
