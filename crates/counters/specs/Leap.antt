-- Document 01, "Counters", over so many ticks at once: the counters while their gates' outputs stay as they were at the last tick.
use Rattle.std.specs.Prelude.{ℕ, ◌+◌, ◌*◌, ◌%◌, ◌^◌, ◌<◌, Bool, List, ℤ, get_or}
use Rattle.std.specs.Int.Signed.{mag}
use Rattle.bools.specs.Pick.{pick}
use Rattle.numbers.specs.Signed.{signed, word_of}
use Rattle.words.specs.Word.{bit}
use Rattle.lists.specs.Table.{each}
use Rattle.counters.specs.declared.counter.Counter.{Counter}
use Rattle.counters.specs.Counter.{cleared, counter0, counter_count, down_of, gate_of, reset_on, up_of, with_count}

-- "gains one for a rise of UP and loses one for a rise of DOWN, as a 32-bit two's complement number that wraps": a loss is a gain of 2^32 - 1
unfoldable pub count_after : ℤ → ℕ → ℕ → ℤ
count_after z ups downs = signed 32 ((word_of 32 z + ups + 4294967295 * downs) % 4294967296)

-- held at 0 by RESET; else with its gate open it counts. The gate's output does not rise, so AUTORESET clears nothing
unfoldable pub counter_leap : Counter → Bool → Bool → ℕ → ℕ → Counter
counter_leap c hold opened ups downs = pick hold (cleared c) (pick opened (with_count c (count_after c.count ups downs)) c)

-- by register 0x0801, the rises of each selection value and the gate outputs
unfoldable pub counter_after : ℕ → (ℕ → ℕ) → ℕ → Counter → Counter
counter_after control rises is c =
    counter_leap c (reset_on control) (bit is (gate_of c.input)) (rises (up_of c.input)) (rises (down_of c.input))

unfoldable pub leap_counters : ℕ → (ℕ → ℕ) → ℕ → List Counter → List Counter
leap_counters control rises is counters = each counter_count counter0 (λ n. counter_after control rises is) counters

-- what the code's type says of counters: the first n counts are of 32 bits
pub record Ranged (counters : List Counter) (n : ℕ) : Type 0 where
  pub counts : (i : ℕ) → i < n → mag (get_or counters i counter0).count < 2 ^ 31
