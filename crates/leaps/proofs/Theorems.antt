-- What a leap is worth, in full statements: Leaps.antt proves them.
use Prim.Native.Nat.{ℕ, zero, suc, ◌≤◌, ◌<◌}
use native.Mathlib.Nat.{not-suc-le-zero}
use mathlib.Core.Bool.{true}
use mathlib.Core.List.{List}
use mathlib.Core.Path.{◌≡◌}
use Rattle.device.specs.declared.state.Crate.{Crate}
use Rattle.leaps.specs.Leap.{Formed, leap_of, quiet, stretch_of, ticks_of}
use Rattle.leaps.proofs.Leaps as Leaps

-- k ticks at the same levels from a quiet crate, one by one and on whatever memory, are the leap of k
pub leap_is : (k : ℕ) (s : Crate) (memory : List ℕ) (inputs gatelevels : ℕ) → 0 < k → quiet k s inputs gatelevels ≡ true → Formed s →
    ticks_of k s memory inputs gatelevels ≡ leap_of k s gatelevels
leap_is zero s memory inputs gatelevels h q f = absurd (not-suc-le-zero h)
leap_is (suc k) s memory inputs gatelevels h q f = Leaps.quiet_leap k s memory inputs gatelevels (Leaps.quiet_is (suc k) s inputs gatelevels q) f

-- the stretch that is made at once is quiet, unless there is none
pub stretch_quiet : (s : Crate) (left inputs gatelevels : ℕ) → (stretch_of s left inputs gatelevels ≡ 0 → ⊥) →
    quiet (stretch_of s left inputs gatelevels) s inputs gatelevels ≡ true
stretch_quiet = Leaps.stretch_quiet

-- and no longer than what is left
pub stretch_le : (s : Crate) (left inputs gatelevels : ℕ) → stretch_of s left inputs gatelevels ≤ left
stretch_le = Leaps.stretch_le
