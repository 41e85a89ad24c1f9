-- Document 01, "Watchdogs and interlocks", at values that only a long run reaches, written by hand: "at most 8,388,480", "a value of at least 128
-- times register 0x0800 latches the error". The must-fail edit top_8388479_in_both is refused here.
use Prim.Native.Nat.{ℕ}
use mathlib.Core.Bool.{true, false}
use mathlib.Core.List.{List, [], ◌∷◌}
use mathlib.Core.Path.{◌≡◌, refl}
use Rattle.words.specs.Word.{bit_of}
use Rattle.lists.specs.Checks.{Row, row, right}
use Rattle.watchdogs.specs.declared.watchdog.Watchdog.{Watchdog}
use Rattle.watchdogs.specs.Leap.{watchdog_after}
use Rattle.watchdogs.specs.Watchdog.{watchdog_of, watchdog_step}

-- a value and one tick without a rise, by the timeout; and so many ticks at once
abbrev next : ℕ → ℕ → Watchdog
next timeout value = watchdog_step timeout false (watchdog_of value false false)

abbrev later : ℕ → ℕ → ℕ → Watchdog
later k timeout value = watchdog_after k timeout (watchdog_of value false false)

unfoldable pub figures : List Row
figures =
    -- 0x0800 at 65,535, as at power-up: no error at 8,388,479, one at 8,388,480, where the value stays
    row 8_388_479 (next 65_535 8_388_478).value
    ∷ row 0 (bit_of (next 65_535 8_388_478).error)
    ∷ row 8_388_480 (next 65_535 8_388_479).value
    ∷ row 1 (bit_of (next 65_535 8_388_479).error)
    ∷ row 8_388_480 (next 65_535 8_388_480).value
    ∷ row 1 (bit_of (next 65_535 8_388_480).error)
    -- the same from a reset on, in one leap
    ∷ row 8_388_479 (later 8_388_479 65_535 0).value
    ∷ row 0 (bit_of (later 8_388_479 65_535 0).error)
    ∷ row 8_388_480 (later 8_388_480 65_535 0).value
    ∷ row 1 (bit_of (later 8_388_480 65_535 0).error)
    ∷ row 8_388_480 (later 8_388_481 65_535 0).value
    -- timeout 1: 127 ticks are in time, 128 are not
    ∷ row 0 (bit_of (next 1 126).error)
    ∷ row 1 (bit_of (next 1 127).error)
    ∷ row 0 (bit_of (later 127 1 0).error)
    ∷ row 1 (bit_of (later 128 1 0).error)
    ∷ []

pub figures_right : right figures ≡ true
unfolding figures watchdog_after watchdog_step
figures_right = refl
