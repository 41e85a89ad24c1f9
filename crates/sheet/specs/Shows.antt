-- Demand 3: what a counter shows, in the crate. The overflow bits "are those a read would then give".
use Rattle.std.specs.Prelude.{ℕ, ◌+◌, ◌/◌, ◌%◌, Bool, ℤ}
use Rattle.words.specs.Word.{bit}
use Rattle.counters.specs.declared.counter.Counter.{Counter}
use Rattle.counters.specs.Counter.{counter_at}
use Rattle.reading.specs.Read.{read_of, word_shown}
use Rattle.device.specs.State.{Machine}

-- the values that demand 3 compares: count, thresholds, both overflow bits
pub record Shown : Type 0 where
  pub count : ℤ
  pub positive : ℤ
  pub negative : ℤ
  pub over : Bool
  pub under : Bool

abbrev pub shown : Counter → Bool → Bool → Shown
shown c over under = record { count = c.count; positive = c.positive; negative = c.negative; over = over; under = under }

unfoldable pub shows : ℕ → Machine → Shown
shows c m =
    shown (counter_at m.state.counters c)
    (bit (word_shown (read_of m (0x0708 + c / 16))) (c % 16))
    (bit (word_shown (read_of m (0x0700 + c / 16))) (c % 16))
