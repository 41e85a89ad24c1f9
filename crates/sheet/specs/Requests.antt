-- Document 01, "Threshold memory and loader": where an accepted request stands, until counter 127 has been handled for it.
use Rattle.std.specs.Prelude.{ℕ, zero, suc, ◌+◌, ◌-◌, ◌*◌, ◌<◌, Bool, ◌&&◌, Option, Some, None, List, [], ◌∷◌, ◌≡◌, eqb, get_or}
use Rattle.bools.specs.Pick.{pick}
use Rattle.loader.specs.declared.loader.Reload.{Reload}
use Rattle.loader.specs.declared.loader.Request.{Request}
use Rattle.loader.specs.Loader.{request0, request_for}
use Rattle.device.specs.declared.state.Common.{Common}
use Rattle.causes.specs.Causes.{is_done}
use Rattle.registers.specs.Calls.{Call, tick, write, tag, download, step}
use Rattle.device.specs.State.{Machine}
use Rattle.tagging.specs.Tag.{command_of, events_on, right_key}
use Rattle.lines.specs.Lines.{bad_levels}
use Rattle.writing.specs.Write.{dataset_in, group_in, request_answer, triggers}

-- the request that a word asks for, where it is taken
abbrev pub made_by : Common → ℕ → Bool → Option Request
made_by cm w asks = pick (asks && is_done (request_answer cm.queue (dataset_in w))) (Some (request_for (dataset_in w) (group_in w))) None

-- the request that a call makes: a write to 0x0A02 that sets TRIGGER, or a tag with command 0x1
unfoldable pub request_made : Machine → Call → Option Request
request_made m (tick inputs gates) = None
request_made m (write a w) = made_by m.state.common w (eqb a 0x0A02 && triggers w m.state.common)
request_made m (tag t) =
    made_by m.state.common t (events_on m.state.common && right_key m.state.common t && eqb (command_of t) 1)
request_made m (download d words) = None

-- a request waits with so many ahead of it, is worked on, or is finished: counter 127 has been handled for it
pub data Stand : Type 0 where
  waits : ℕ → Stand
  works : Stand
  finished : Stand

-- an accepted tick: "an idle loader takes the oldest; a busy one handles the next counter"
abbrev pub stand_tick : Option Reload → Stand → Stand
stand_tick None (waits zero) = works
stand_tick None (waits (suc k)) = waits k
stand_tick None works = works
stand_tick None finished = finished
stand_tick (Some l) (waits k) = waits k
stand_tick (Some l) works = pick (eqb l.next 127) finished works
stand_tick (Some l) finished = finished

-- any other call leaves a request where it stands
abbrev pub stand_step : Machine → Call → Stand → Stand
stand_step m (tick inputs gates) s = pick (bad_levels inputs gates) s (stand_tick m.state.common.loader s)
stand_step m (write a w) s = s
stand_step m (tag t) s = s
stand_step m (download d words) s = s

unfoldable pub stand_after : Machine → List Call → Stand → Stand
stand_after m [] s = s
stand_after m (x ∷ l) s = stand_after (step m x) l (stand_step m x s)

-- the accepted ticks that are left until it is finished: 129 for each request up to it, and those of the one in work
abbrev pub ticks_at_work : Option Reload → ℕ
ticks_at_work None = 0
ticks_at_work (Some l) = 128 - l.next

abbrev pub ticks_left : Option Reload → Stand → ℕ
ticks_left l (waits k) = ticks_at_work l + 129 * (k + 1)
ticks_left l works = ticks_at_work l
ticks_left l finished = 0

-- that the request r does stand there: in its place of the queue, or in the loader
pub data Stands (cm : Common) (r : Request) : Stand → Type 0 where
  queued : (k : ℕ) → k < cm.queue.waiting → get_or cm.queue.places k request0 ≡ r → Stands cm r (waits k)
  loading : (l : Reload) → cm.loader ≡ Some l → l.request ≡ r → Stands cm r works
  past : Stands cm r finished
