-- Document 01, "Threshold memory and loader": requests, their queue, the loader.
use Rattle.std.specs.Prelude.{ℕ, ◌+◌, ◌-◌, ◌/◌, ◌%◌, Bool, Option, Some, None, is_some, List, eqb, leb, ltb, get_or, set}
use Rattle.bools.specs.Pick.{pick}
use Rattle.words.specs.Word.{nibble}
use Rattle.lists.specs.Table.{tabulate}
use Rattle.counters.specs.declared.counter.Counter.{Counter}
use Rattle.loader.specs.declared.loader.Queue.{Queue}
use Rattle.loader.specs.declared.loader.Reload.{Reload}
use Rattle.loader.specs.declared.loader.Request.{Request}
use Rattle.counters.specs.Counter.{counter_at}
use Rattle.loader.specs.Memory.{place_of, loaded}

-- "A request names a dataset and a group"
abbrev pub request_for : ℕ → ℕ → Request
request_for dataset group = record { dataset = dataset; group = group }

abbrev pub request0 : Request
request0 = request_for 0 0

-- "and waits in a queue of 16"
abbrev pub queue_places : ℕ
queue_places = 16

abbrev pub queue_of : List Request → ℕ → Queue
queue_of places waiting = record { places = places; waiting = waiting }

abbrev pub queue0 : Queue
queue0 = queue_of (tabulate queue_places (λ i. request0)) 0

-- "16 requests wait"
abbrev pub is_full : Queue → Bool
is_full q = leb queue_places q.waiting

-- "dataset above 31"
abbrev pub is_beyond : ℕ → Bool
is_beyond dataset = ltb 31 dataset

-- a request behind those that wait
unfoldable pub pushed : Queue → Request → Queue
pushed q r = queue_of (set q.places q.waiting r) (q.waiting + 1)

-- the oldest request, and the queue without it: the others one place forward
unfoldable pub oldest : Queue → Request
oldest q = get_or q.places 0 request0

unfoldable pub shifted : List Request → List Request
shifted places = tabulate queue_places (λ i. get_or places (i + 1) request0)

unfoldable pub dropped : Queue → Queue
dropped q = queue_of (shifted q.places) (q.waiting - 1)

abbrev pub is_empty : Queue → Bool
is_empty q = eqb q.waiting 0

-- the request that a busy loader works on, and the counter that it handles in the next tick
abbrev pub reload_of : Request → ℕ → Reload
reload_of request next = record { request = request; next = next }

-- an idle loader works on none
abbrev pub loader0 : Option Reload
loader0 = None

abbrev pub busy : Option Reload → Bool
busy l = is_some l

-- the oldest request, where one waits
abbrev pub taken : Queue → Option Request
taken q = pick (is_empty q) None (Some (oldest q))

abbrev pub left_of : Queue → Queue
left_of q = pick (is_empty q) q (dropped q)

-- "In a tick an idle loader takes the oldest; a busy one handles the next counter, 0 to 127, one a tick." "After 127 the loader is idle."
unfoldable pub loader_step : Option Reload → Queue → Option Reload
loader_step None q = pick (is_empty q) None (Some (reload_of (oldest q) 0))
loader_step (Some l) q = pick (ltb l.next 127) (Some (reload_of l.request (l.next + 1))) None

unfoldable pub queue_step : Option Reload → Queue → Queue
queue_step None q = left_of q
queue_step (Some l) q = q

-- "Groups: 0x1600 onward, four bits a counter": of 128 counters
abbrev pub group_words : ℕ
group_words = 32

unfoldable pub group_at : List ℕ → ℕ → ℕ
group_at groups n = nibble (get_or groups (n / 4) 0) (n % 4)

-- "A counter whose group equals the request's takes its four words"
abbrev pub takes : Reload → ℕ → Bool
takes l group = eqb l.request.group group

-- "from the dataset's part of the memory as it is then"; an idle loader loads none
unfoldable pub load_into : Option Reload → List ℕ → List ℕ → List Counter → List Counter
load_into None groups memory counters = counters
load_into (Some l) groups memory counters =
    let n : ℕ = l.next in
    pick (takes l (group_at groups n)) (set counters n (loaded memory (place_of l.request.dataset n) (counter_at counters n))) counters
