-- Document 01, "Writes and event tags", and the Manual's section 3.3: event tags.
use Rattle.std.specs.Prelude.{ℕ, Bool, eqb, Ok}
use Rattle.bools.specs.Pick.{pick}
use Rattle.words.specs.Word.{bit, field_of}
use Rattle.counters.specs.Counter.{clear_counters}
use Rattle.gates.specs.Gate.{each_gate, with_prepare_pulse, with_recover_pulse}
use Rattle.device.specs.declared.state.Common.{Common}
use Rattle.device.specs.declared.state.Crate.{Crate}
use Rattle.device.specs.declared.state.Events.{Events}
use Rattle.causes.specs.Causes.{Answer, is_done}
use Rattle.device.specs.State.{events_of, with_common, with_counters, with_events, with_gates, with_status}
use Rattle.writing.specs.Write.{dataset_in, request_answer, requested}

-- the Manual's Table 3.37: command in bits 15-12, key in 31-16
abbrev pub command_of : ℕ → ℕ
command_of t = field_of t 12 4

abbrev pub key_of : ℕ → ℕ
key_of t = field_of t 16 16

abbrev pub code_of : ℕ → ℕ
code_of t = field_of t 0 16

-- "A tag is passed over if events are off."
abbrev pub events_on : Common → Bool
events_on cm = bit cm.enable 0

abbrev pub right_key : Common → ℕ → Bool
right_key cm t = eqb (key_of t) cm.key

-- "Otherwise 0x0900 and 0x0901 take it; on a wrong key nothing more happens; on the right key 0x0902 takes the low 16 bits"
abbrev pub noted : Bool → ℕ → Events → Events
noted right t e = events_of (code_of t) (key_of t) (pick right (code_of t) e.code) e.handled

abbrev pub noted_in : Crate → ℕ → Crate
noted_in s t = with_status s (with_events s.status (noted (right_key s.common t) t s.status.events))

-- command 0x1 makes a request, or is refused and leaves queue and loader
unfoldable pub tag_request : ℕ → Common → Common
tag_request t cm = pick (is_done (request_answer cm.queue (dataset_in t))) (requested t cm) cm

-- "and the command runs": 0x1 reload, 0x2 prepare, 0x3 recover, 0x4 reset; "Commands 0x0 and 0x5 to 0xF do nothing"
unfoldable pub commanded : Crate → ℕ → Crate
commanded s t =
    pick (eqb (command_of t) 1) (with_common s (tag_request t s.common))
    (pick (eqb (command_of t) 2) (with_gates s (each_gate with_prepare_pulse t s.gates))
    (pick (eqb (command_of t) 3) (with_gates s (each_gate with_recover_pulse t s.gates))
    (pick (eqb (command_of t) 4) (with_counters s (clear_counters s.counters)) s)))

unfoldable pub tag_of : Crate → ℕ → Crate
tag_of s t = pick (events_on s.common) (pick (right_key s.common t) (commanded (noted_in s t) t) (noted_in s t)) s

-- a command is done, but for a request that is refused
abbrev pub command_answer : Common → ℕ → Answer
command_answer cm t = pick (eqb (command_of t) 1) (request_answer cm.queue (dataset_in t)) (Ok tt)

unfoldable pub tag_answer : Common → ℕ → Answer
tag_answer cm t = pick (events_on cm) (pick (right_key cm t) (command_answer cm t) (Ok tt)) (Ok tt)
