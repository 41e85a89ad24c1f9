-- Laws of two's complement, over the width k: ranges, and a number and its word.
use Prim.Native.Nat.{ℕ, ◌-◌, ◌*◌, ◌<◌}
use native.Mathlib.Nat.{mod-eq_of_lt}
use native.Mathlib.Omega.{arith}
use mathlib.Core.Path.{◌≡◌}
use lib.IntN.{ℤ, pos, negsuc}
use lib.Pow.{pow_pos}
use lib.Signed.{mag}
use Rattle.numbers.specs.Signed.{half, signed, word_of, wrapped}

module _ (k : ℕ) where
  pub half_pos : 0 < half k
  half_pos = pow_pos (k - 1)

  pub word_lt : (z : ℤ) → word_of k z < 2 * half k
  word_lt (pos n) = omega (arith, half_pos)
  word_lt (negsuc n) = omega (arith, half_pos)

  pub signed_lt : (n : ℕ) → n < 2 * half k → mag (signed k n) < half k
  signed_lt n h = grind (arith, half_pos)

  pub wrapped_lt : (z : ℤ) → mag (wrapped k z) < half k
  wrapped_lt z = signed_lt (word_of k z) (word_lt z)

  -- a number in range is its own
  pub wrapped_same : (z : ℤ) → mag z < half k → wrapped k z ≡ z
  wrapped_same (pos n) h = grind (arith, mod-eq_of_lt)
  wrapped_same (negsuc n) h = grind (arith, mod-eq_of_lt)

  -- a word is that of its number
  pub word_signed : (n : ℕ) → n < 2 * half k → word_of k (signed k n) ≡ n
  word_signed n h = grind (arith, mod-eq_of_lt)
