-- Document 01, "The one-counter sheet": lists of calls on one crate and one memory, and "Causes of refusal" of each call.
use Rattle.std.specs.Prelude.{ℕ, ◌+◌, ◌*◌, Bool, not, List, [], ◌∷◌, eqb, length, Ok, Err}
use Rattle.std.specs.Option.{option_map_or}
use Rattle.bools.specs.Pick.{pick}
use Rattle.words.specs.Word.{bit_of}
use Rattle.loader.specs.Loader.{is_beyond}
use Rattle.loader.specs.Memory.{dataset_words, is_whole, replaced}
use Rattle.causes.specs.declared.Cause.TheVariants.{Memory, Address, Dataset, Level, Length}
use Rattle.device.specs.declared.map.Register.{Register}
use Rattle.device.specs.declared.state.Crate.{Crate}
use Rattle.causes.specs.Causes.{Answer, is_done}
use Rattle.device.specs.Map.{decode_of}
use Rattle.device.specs.State.{Machine, machine, memory0, power_up, with_memory, with_state}
use Rattle.tagging.specs.Tag.{noted_in, tag_answer, tag_of}
use Rattle.ticking.specs.Tick.{tick_of}
use Rattle.lines.specs.Lines.{bad_levels}
use Rattle.writing.specs.Write.{write_answer, write_at}

-- a call: levels of inputs and gates, address and word, an event tag, dataset and words
pub data Call : Type 0 where
  tick : ℕ → ℕ → Call
  write : ℕ → ℕ → Call
  tag : ℕ → Call
  download : ℕ → List ℕ → Call

abbrev pub tick_answer : ℕ → ℕ → Answer
tick_answer inputs gates = pick (bad_levels inputs gates) (Err Level) (Ok tt)

-- a download: cause 11 before 4
unfoldable pub download_answer : ℕ → ℕ → Answer
download_answer d size = pick (eqb size dataset_words) (pick (is_beyond d) (Err Dataset) (Ok tt)) (Err Length)

-- what a call answers and leaves once the memory has its 16,384 words; a write where there is no register is refused 2
unfoldable pub call_answer : Machine → Call → Answer
call_answer m (tick inputs gates) = tick_answer inputs gates
call_answer m (write a w) = option_map_or (λ (r : Register). write_answer m.state.common r w) (decode_of a) (Err Address)
call_answer m (tag t) = tag_answer m.state.common t
call_answer m (download d words) = download_answer d (length words)

unfoldable pub called : Machine → Call → Machine
called m (tick inputs gates) = pick (bad_levels inputs gates) m (with_state m (tick_of m.state m.memory inputs gates))
called m (write a w) = option_map_or (λ (r : Register). write_at m r w) (decode_of a) m
called m (tag t) = with_state m (tag_of m.state t)
called m (download d words) =
    pick (is_done (download_answer d (length words))) (with_memory m (replaced m.memory (dataset_words * d) words)) m

-- "Every call on a crate is lent the memory, so 1 comes first"
unfoldable pub answer : Machine → Call → Answer
answer m x = pick (is_whole m.memory) (call_answer m x) (Err Memory)

unfoldable pub step : Machine → Call → Machine
step m x = pick (is_whole m.memory) (called m x) m

-- the table's "Left as it was": "all; by a tag, all but 0x0900 to 0x0902", which take the tag
unfoldable pub left_by_refusal : Machine → Call → Machine
left_by_refusal m (tick inputs gates) = m
left_by_refusal m (write a w) = m
left_by_refusal m (tag t) = pick (is_whole m.memory) (with_state m (noted_in m.state t)) m
left_by_refusal m (download d words) = m

-- "A power-up refused 1 returns the number with a power-up crate"
unfoldable pub powered : List ℕ → Crate × Answer
powered memory = (power_up, pick (is_whole memory) (Ok tt) (Err Memory))

unfoldable pub powered_memory : List ℕ → List ℕ
powered_memory memory = pick (is_whole memory) memory0 memory

-- the crate and memory that a list of calls leaves, each call given both as the last one left them
unfoldable pub from : Machine → List Call → Machine
from m [] = m
from m (x ∷ l) = from (step m x) l

abbrev pub machine0 : Machine
machine0 = machine power_up memory0

-- "A list .. starts at power-up"
unfoldable pub after : List Call → Machine
after l = from machine0 l

-- ---- counts over a list

-- "accepted ticks": those that cause 6 does not refuse; a list runs on a memory of 16,384 words, so cause 1 refuses none
abbrev pub tick_one : Call → ℕ
tick_one (tick inputs gates) = bit_of (not (bad_levels inputs gates))
tick_one (write a w) = 0
tick_one (tag t) = 0
tick_one (download d words) = 0

unfoldable pub accepted_ticks : List Call → ℕ
accepted_ticks [] = 0
accepted_ticks (x ∷ l) = tick_one x + accepted_ticks l

-- the calls of a list that are refused
abbrev pub is_refused : Machine → Call → Bool
is_refused m x = not (is_done (answer m x))

unfoldable pub refusals : Machine → List Call → ℕ
refusals m [] = 0
refusals m (x ∷ l) = bit_of (is_refused m x) + refusals (step m x) l
