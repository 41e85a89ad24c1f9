-- The words of n registers, the first and the others, before a rest.
use Prim.Native.Nat.{ℕ, suc, ◌+◌, ◌-◌, ◌<◌, ◌≤◌}
use native.Mathlib.Omega.{arith}
use mathlib.Core.List.{List, ◌∷◌, ◌++◌, append_assoc}
use mathlib.Core.Path.{◌≡◌}
use Rattle.std.specs.Result.{result_unwrap_or}
use Rattle.reading.specs.Read.{read_of}
use Rattle.device.specs.State.{Machine}
use Rattle.pages.specs.Text.{hexadecimal}
use Rattle.printing.specs.Printed.{words_from}

-- the words up to an address: one more, and none
module _ (m : Machine) (a end : ℕ) (rest : List ℕ) where
  pub words_more : a < end →
      words_from m (end - a) a ++ rest ≡ 32 ∷ (hexadecimal 4 (result_unwrap_or (read_of m a) 0) ++ (words_from m (end - (a + 1)) (a + 1) ++ rest))
  unfolding words_from
  words_more h =
      let e : end - a ≡ suc (end - (a + 1)) = omega arith in rw (e, append_assoc)

  pub no_words : end ≤ a → words_from m (end - a) a ++ rest ≡ rest
  unfolding words_from
  no_words h =
      let e : end - a ≡ 0 = omega arith in rw e
