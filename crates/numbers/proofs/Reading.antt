-- What std says of words and signed numbers is what is said here: a number's word, a word read as a number, a number that wraps.
use Prim.Native.Nat.{ℕ, ◌*◌, ◌^◌}
use native.Mathlib.Nat.{mod-eq_of_lt}
use native.Mathlib.Omega.{arith}
use mathlib.Core.Path.{◌≡◌, refl, sym, ap, ◌∙◌}
use lib.IntN.{ℤ, pos, negsuc}
use mir.Val.{bits, hbits}
use mir.ValLaws.{bits-suc, pow-bits}
use Rattle.std.specs.Int.{Width, cast_signed, cast_unsigned, int_rem_euclid, int_wrap}
use Rattle.std.specs.Int.RustNames.{FitsSigned, unsigned_abs}
use Rattle.numbers.specs.Signed.{half, signed, word_of, wrapped}

-- a number's word is its remainder
pub word_rem : (k : ℕ) (z : ℤ) → word_of k z ≡ unsigned_abs (int_rem_euclid z (pos (2 * half k)))
word_rem k (pos n) = refl
word_rem k (negsuc n) = omega arith

-- ---- at a width of Rust

module _ (w : Width) where
  half_bits : half (bits w) ≡ 2 ^ hbits w
  half_bits = ap (λ (k : ℕ). 2 ^ k) (omega (arith, bits-suc w))

  all_bits : 2 * half (bits w) ≡ 2 ^ bits w
  all_bits = rw half_bits (omega (arith, pow-bits w))

  pub signed_is : (x : ℕ) → cast_signed w x ≡ signed (bits w) x
  signed_is x = grind (arith, half_bits, all_bits)

  pub word_is : (z : ℤ) → FitsSigned w z → cast_unsigned w z ≡ word_of (bits w) z
  word_is (pos n) f = grind (arith, mod-eq_of_lt, all_bits, pow-bits w)
  word_is (negsuc n) f = grind (arith, mod-eq_of_lt, all_bits, pow-bits w)

  pub wrapped_is : (z : ℤ) → int_wrap w z ≡ wrapped (bits w) z
  unfolding int_wrap
  wrapped_is z = signed_is _ ∙ ap (signed (bits w)) (rw (← all_bits) (sym (word_rem (bits w) z)))
