-- Document 01, "Watchdogs and interlocks", over so many ticks at once: the watchdogs while no input rises.
use Rattle.std.specs.Prelude.{ℕ, ◌+◌, ◌*◌, ◌||◌, List, leb, ltb}
use Rattle.bools.specs.Pick.{pick}
use Rattle.lists.specs.Table.{each}
use Rattle.lines.specs.Lines.{input_count}
use Rattle.watchdogs.specs.declared.watchdog.Watchdog.{Watchdog}
use Rattle.watchdogs.specs.Watchdog.{watchdog0, watchdog_of, watchdog_top, watchdog_unit}

-- "holds the ticks since its last rise or reset, at most 8,388,480": k ticks more
abbrev pub value_after : ℕ → ℕ → ℕ
value_after k value = pick (ltb (value + k) watchdog_top) (value + k) watchdog_top

-- "a value of at least 128 times register 0x0800 latches the error": the last value is the largest, so it alone decides
unfoldable pub watchdog_after : ℕ → ℕ → Watchdog → Watchdog
watchdog_after k timeout w =
    watchdog_of (value_after k w.value) (w.error || leb (watchdog_unit * timeout) (value_after k w.value)) w.reset

unfoldable pub leap_watchdogs : ℕ → ℕ → List Watchdog → List Watchdog
leap_watchdogs k timeout watchdogs = each input_count watchdog0 (λ i. watchdog_after k timeout) watchdogs
