-- Each step of the core stays in the ranges: counters, gates, watchdogs, phases, queue and loader.
use Prim.Native.Nat.{ℕ, ◌+◌, ◌^◌, ◌≤◌, ◌<◌}
use native.Mathlib.Omega.{arith}
use mathlib.Core.Bool.{Bool, true}
use mathlib.Core.List.{List}
use mathlib.Core.Path.{◌≡◌}
use lib.Dec.{lit<}
use lib.IntN.{ℤ, pos}
use lib.ListN.{get_or}
use lib.Signed.{mag}
use Rattle.std.proofs.lemmas.Grind.{common_steps}
use Rattle.std.proofs.lemmas.Bool.Decides.{nat_tests}
use Rattle.std.proofs.Common.{Option, Some, None}
use Rattle.bools.proofs.Tests.{both}
use Rattle.lists.proofs.All.{all_each, all_tabulate}
use Rattle.lists.proofs.Tables.{length_tabulate}
use Rattle.counters.specs.declared.counter.Counter.{Counter}
use Rattle.gates.specs.declared.gate.Gate.{Gate}
use Rattle.loader.specs.declared.loader.Reload.{Reload}
use Rattle.loader.specs.declared.loader.Queue.{Queue}
use Rattle.loader.specs.declared.loader.Request.{Request}
use Rattle.watchdogs.specs.declared.watchdog.Watchdog.{Watchdog}
use Rattle.counters.specs.Counter.{cleared, counter0, counter_at, counter_step, counter_tick, with_count, with_input}
use Rattle.gates.specs.Gate.{gate_step}
use Rattle.lines.specs.Lines.{frequency, phase_limit, phase_step, step_phases}
use Rattle.loader.specs.Loader.{dropped, is_empty, load_into, loader_step, oldest, pushed, queue_step, request0, shifted}
use Rattle.loader.specs.Memory.{loaded, word_at}
use Rattle.watchdogs.specs.Watchdog.{watchdog_step, watchdog_top}
use Rattle.causes.specs.Causes.{is_done}
use Rattle.writing.specs.Write.{request_answer}
use Rattle.sheet.specs.Reachable.{CounterInRange, GateInRange, LoaderInRange, QueueInRange, RequestInRange}

-- ---- counters

pub count_in : (c : Counter) → CounterInRange c → (z : ℤ) → mag z < 2 ^ 31 → CounterInRange (with_count c z)
count_in c h z p = record { count = p; positive = h.positive; negative = h.negative; input = h.input }

pub input_in : (c : Counter) → CounterInRange c → (w : ℕ) → w < 2 ^ 16 → CounterInRange (with_input c w)
input_in c h w p = record { count = h.count; positive = h.positive; negative = h.negative; input = p }

pub cleared_in : (c : Counter) → CounterInRange c → CounterInRange (cleared c)
cleared_in c h = count_in c h (pos 0) (lit< tt)

step_in : (c : Counter) (hold clear opened up down : Bool) → CounterInRange c → CounterInRange (counter_step c hold clear opened up down)
unfolding counter_step
step_in c hold clear opened up down h = grind arith

pub tick_in : (control rises was is : ℕ) (c : Counter) → CounterInRange c → CounterInRange (counter_tick control rises was is c)
unfolding counter_tick
tick_in control rises was is c h = step_in c _ _ _ _ _ h

loaded_in : (memory : List ℕ) → ((a : ℕ) → word_at memory a < 2 ^ 16) → (a : ℕ) (c : Counter) → CounterInRange c → CounterInRange (loaded memory a c)
unfolding loaded
loaded_in memory words a c h = grind arith

pub counter0_in : CounterInRange counter0
counter0_in = record { count = lit< tt; positive = lit< tt; negative = lit< tt; input = lit< tt }

-- the loader's write of one counter: what holds of all counters and of one that is loaded holds of all
pub load_all : (P : Counter → Type 0) → P counter0 → (l : Option Reload) (groups memory : List ℕ) (xs : List Counter) →
    ((a : ℕ) (c : Counter) → P c → P (loaded memory a c)) → ((n : ℕ) → P (counter_at xs n)) → (n : ℕ) → P (counter_at (load_into l groups memory xs) n)
unfolding load_into counter_at
load_all P p0 l groups memory xs kept p = grind (arith, common_steps)

pub load_in : (l : Option Reload) (groups memory : List ℕ) (xs : List Counter) → ((a : ℕ) → word_at memory a < 2 ^ 16) →
    ((n : ℕ) → CounterInRange (counter_at xs n)) → (n : ℕ) → CounterInRange (counter_at (load_into l groups memory xs) n)
load_in l groups memory xs words = load_all CounterInRange counter0_in l groups memory xs (loaded_in memory words)

-- ---- gates

pub gate_in_lem : (high : Bool) (g : Gate) → GateInRange g → GateInRange (gate_step high g)
unfolding gate_step
gate_in_lem high g h = grind arith

-- ---- watchdogs and phases

pub watchdog_in : (timeout : ℕ) (rise : Bool) (w : Watchdog) → w.value ≤ watchdog_top → (watchdog_step timeout rise w).value ≤ watchdog_top
unfolding watchdog_step
watchdog_in timeout rise w h = grind (arith, nat_tests)

frequency_le : (k : ℕ) → frequency k ≤ 25000
frequency_le k = grind (arith, nat_tests)

phase_in : (k p : ℕ) → p < phase_limit → phase_step k p < phase_limit
phase_in k p h = grind (arith, nat_tests, frequency_le)

pub phases_in : (phases : List ℕ) → ((k : ℕ) → get_or phases k 0 < phase_limit) → (k : ℕ) → get_or (step_phases phases) k 0 < phase_limit
unfolding step_phases
phases_in phases h = all_each 0 (λ k n. n < phase_limit) (λ k. lit< tt) 9 phase_step phases (λ k p. phase_in k p) h

-- ---- queue and loader

pub request0_in : RequestInRange request0
request0_in = record { dataset = lit< tt; group = lit< tt }

-- a request that is taken is in range, and there is a place for it
pub taken : (q : Queue) (d : ℕ) → is_done (request_answer q d) ≡ true → (d < 32) × (q.waiting < 16)
unfolding request_answer
taken q d e = (grind (arith, nat_tests), grind (arith, nat_tests))

pub pushed_in : (q : Queue) → QueueInRange q → (r : Request) → RequestInRange r → q.waiting < 16 → QueueInRange (pushed q r)
unfolding pushed
pushed_in q h r p free = grind (arith, common_steps)

dropped_in : (q : Queue) → QueueInRange q → QueueInRange (dropped q)
unfolding dropped shifted
dropped_in q h = record {
  places = length_tabulate 16 _;
  waiting = omega (arith, h.waiting);
  requests = all_tabulate request0 (λ i. RequestInRange) (λ i. request0_in) 16 _ (λ i. h.requests (i + 1));
}

pub queue_in : (l : Option Reload) (q : Queue) → QueueInRange q → QueueInRange (queue_step l q)
unfolding queue_step
queue_in None q h = both QueueInRange (is_empty q) h (dropped_in q h)
queue_in (Some l) q h = h

pub loader_in : (l : Option Reload) (q : Queue) → LoaderInRange l → QueueInRange q → LoaderInRange (loader_step l q)
unfolding loader_step oldest
loader_in l q r h = grind arith
