-- Runs one by one: the first, and then the others.
use Prim.Native.Nat.{ℕ, suc, ◌+◌, ◌-◌, ◌<◌, ◌≤◌}
use native.Mathlib.Omega.{arith}
use mathlib.Core.List.{List}
use mathlib.Core.Path.{◌≡◌}
use Rattle.device.specs.State.{Machine}
use Rattle.trace.specs.Run.{machine_of, run_of}
use Rattle.playing.specs.Often.{ran_often, ticks_each}

-- of so many times, some are done
module _ (times done : ℕ) (t : List ℕ) (m : Machine) where
  pub often_less : done < times → ran_often (times - done) t m ≡ ran_often (times - (done + 1)) t (machine_of (run_of t ticks_each m))
  unfolding ran_often
  often_less h =
      let e : times - done ≡ suc (times - (done + 1)) = omega arith in rw e

  pub often_done : times ≤ done → ran_often (times - done) t m ≡ m
  unfolding ran_often
  often_done h =
      let e : times - done ≡ 0 = omega arith in rw e
