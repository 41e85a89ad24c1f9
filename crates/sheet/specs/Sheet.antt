-- Document 01, "The one-counter sheet": what it holds, how it steps by c's own part, what it shows.
-- It has twelve gates, of which those that are not own stand at their power-up value: nothing is fed to them.
use Rattle.std.specs.Prelude.{ℕ, ◌*◌, ◌/◌, ◌%◌, ◌&&◌, Option, Some, None, List, [], ◌∷◌, eqb, get_or, set}
use Rattle.bools.specs.Pick.{pick}
use Rattle.lists.specs.Table.{tabulate}
use Rattle.counters.specs.declared.counter.Counter.{Counter}
use Rattle.gates.specs.declared.gate.Gate.{Gate}
use Rattle.loader.specs.declared.loader.Reload.{Reload}
use Rattle.counters.specs.Counter.{cleared, counter0, counter_tick, is_over, is_under, reset_on, with_input}
use Rattle.gates.specs.Gate.{each_gate, gate0, gate_at, gate_step, outputs_of}
use Rattle.gates.specs.Gate.{with_mode, with_prepare, with_prepare_pulse, with_recover, with_recover_pulse, with_timeout}
use Rattle.lines.specs.Lines.{gate_count, rises_of}
use Rattle.loader.specs.Loader.{takes}
use Rattle.loader.specs.Memory.{loaded}
use Rattle.device.specs.declared.map.GateWord.TheVariants.{Timeout}
use Rattle.device.specs.declared.map.Register.TheVariants.{Gates, Input, Word}
use Rattle.device.specs.declared.state.Common.{Common}
use Rattle.causes.specs.Causes.{is_done}
use Rattle.registers.specs.Calls.{download_answer}
use Rattle.device.specs.Map.{kept}
use Rattle.device.specs.State.{common0}
use Rattle.tagging.specs.Tag.{command_of, events_on, right_key, tag_request}
use Rattle.ticking.specs.Tick.{common_tick}
use Rattle.writing.specs.Write.{control_write, enable_write, key_write, reload_write}
use Rattle.sheet.specs.OwnPart.{Part, ticked, patched, stored, controlled, keyed, enabled, reloaded, timed, grouped, moded, prepared, recovered, tagged, downloaded}
use Rattle.sheet.specs.Shows.{Shown, shown}

-- "The sheet holds: c's count, thresholds, input register" (counter), "group and 128 memory words" (group, memory); "registers 0x0801,
-- 0x0A00, 0x0A01, 0x0A02; queue, loader, test phases" (common); "last levels of own inputs" (levels); "and for each own gate its state,
-- timer, timeout, mode, prepare and recover bits, pulses, last output and last prepare signal" (gates)
pub record Sheet : Type 0 where
  pub counter : Counter
  pub group : ℕ
  pub memory : List ℕ
  pub common : Common
  pub levels : ℕ
  pub gates : List Gate

abbrev pub sheet_of : Counter → ℕ → List ℕ → Common → ℕ → List Gate → Sheet
sheet_of counter group memory common levels gates =
    record { counter = counter; group = group; memory = memory; common = common; levels = levels; gates = gates }

-- "It starts at their power-up values"
unfoldable pub sheet0 : Sheet
sheet0 = sheet_of counter0 0 (tabulate 128 (λ k. 0)) common0 0 (tabulate gate_count (λ g. gate0))

abbrev pub put_counter : Sheet → Counter → Sheet
put_counter s x = sheet_of x s.group s.memory s.common s.levels s.gates

abbrev pub put_group : Sheet → ℕ → Sheet
put_group s x = sheet_of s.counter x s.memory s.common s.levels s.gates

abbrev pub put_memory : Sheet → List ℕ → Sheet
put_memory s x = sheet_of s.counter s.group x s.common s.levels s.gates

abbrev pub put_common : Sheet → Common → Sheet
put_common s x = sheet_of s.counter s.group s.memory x s.levels s.gates

abbrev pub put_gates : Sheet → List Gate → Sheet
put_gates s x = sheet_of s.counter s.group s.memory s.common s.levels x

-- the loader at counter c: "A counter whose group equals the request's takes its four words", here from the sheet's own
unfoldable pub sheet_load : ℕ → Option Reload → ℕ → List ℕ → Counter → Counter
sheet_load c None group memory x = x
sheet_load c (Some l) group memory x = pick (eqb c l.next && takes l group) (loaded memory (4 * l.request.dataset) x) x

-- test phases, input rises, gates, the counter, the loader; then pulses are dropped and levels kept
unfoldable pub sheet_tick : ℕ → Sheet → ℕ → ℕ → Sheet
sheet_tick c s inputs gatelevels =
    let gates : List Gate = each_gate gate_step gatelevels s.gates in
    sheet_of
    (sheet_load c s.common.loader s.group s.memory
    (counter_tick s.common.control (rises_of s.levels inputs s.common.phases) (outputs_of s.gates) (outputs_of gates) s.counter))
    s.group s.memory (common_tick s.common) inputs gates

-- RESET clears the count with the write
abbrev pub reset_counter : ℕ → Counter → Counter
reset_counter w x = pick (reset_on w) (cleared x) x

-- a command: 0x1 makes a request, 0x2 and 0x3 pulse gates, 0x4 clears the count
unfoldable pub sheet_command : Sheet → ℕ → Sheet
sheet_command s t =
    pick (eqb (command_of t) 1) (put_common s (tag_request t s.common))
    (pick (eqb (command_of t) 2) (put_gates s (each_gate with_prepare_pulse t s.gates))
    (pick (eqb (command_of t) 3) (put_gates s (each_gate with_recover_pulse t s.gates))
    (pick (eqb (command_of t) 4) (put_counter s (cleared s.counter)) s)))

unfoldable pub sheet_tag : Sheet → ℕ → Sheet
sheet_tag s t = pick (events_on s.common) (pick (right_key s.common t) (sheet_command s t) s) s

-- c's four words take the place of those of dataset d
abbrev pub put_four : List ℕ → ℕ → List ℕ → List ℕ
put_four memory d four = tabulate 128 (λ k. pick (eqb (k / 4) d) (get_or four (k % 4) 0) (get_or memory k 0))

-- "A refused call leaves it as it was; its own queue decides refusal 5."
unfoldable pub sheet_step : ℕ → Sheet → Part → Sheet
sheet_step c s (ticked refused inputs gates) = pick refused s (sheet_tick c s inputs gates)
sheet_step c s (patched w) = put_counter s (with_input s.counter (kept (Input c) w))
sheet_step c s (stored k w) = put_memory s (set s.memory k (kept (Word k) w))
sheet_step c s (controlled w) = put_common (put_counter s (reset_counter w s.counter)) (control_write w s.common)
sheet_step c s (keyed w) = put_common s (key_write w s.common)
sheet_step c s (enabled w) = put_common s (enable_write w s.common)
sheet_step c s (reloaded w) = put_common s (reload_write w s.common)
sheet_step c s (timed g w) = put_gates s (set s.gates g (with_timeout (kept (Gates (Timeout g)) w) (gate_at s.gates g)))
sheet_step c s (grouped n) = put_group s n
sheet_step c s (moded w) = put_gates s (each_gate with_mode w s.gates)
sheet_step c s (prepared w) = put_gates s (each_gate with_prepare w s.gates)
sheet_step c s (recovered w) = put_gates s (each_gate with_recover w s.gates)
sheet_step c s (tagged t) = sheet_tag s t
sheet_step c s (downloaded d size four) = pick (is_done (download_answer d size)) (put_memory s (put_four s.memory d four)) s

-- "is fed c's own part and nothing else"
unfoldable pub sheet_from : ℕ → Sheet → List Part → Sheet
sheet_from c s [] = s
sheet_from c s (p ∷ parts) = sheet_from c (sheet_step c s p) parts

unfoldable pub sheet_after : ℕ → List Part → Sheet
sheet_after c parts = sheet_from c sheet0 parts

-- "Its overflow bits compare its count with its thresholds"
unfoldable pub sheet_shows : Sheet → Shown
sheet_shows s = shown s.counter (is_over s.counter) (is_under s.counter)
