-- What the numbers hold, at every width, each proved by citing the law that does the work.
use Prim.Native.Nat.{ℕ, ◌+◌, ◌*◌, ◌^◌, ◌<◌}
use native.Mathlib.Nat.{div-add-mod'}
use native.Mathlib.Omega.{arith}
use mathlib.Core.Path.{◌≡◌, refl}
use lib.IntN.{ℤ, pos, negsuc, ◌+ℤ◌, ◌-ℤ◌}
use lib.Signed.{mag}
use Rattle.numbers.specs.Signed.{half, high_word, joined, low_word, signed, word_of, wrapped}
use Rattle.numbers.proofs.Complement.{word_signed, wrapped_same}

-- the number of a number's word is the number, and the word of a word's number is the word
pub number_of_word : (k : ℕ) (z : ℤ) → mag z < half k → signed k (word_of k z) ≡ z
number_of_word = wrapped_same

pub word_of_number : (k n : ℕ) → n < 2 * half k → word_of k (signed k n) ≡ n
word_of_number = word_signed

-- cut into two words and joined again, a 32-bit number is the same; joined and cut again, two words are the same
pub join_of_cut : (z : ℤ) → mag z < 2 ^ 31 → joined (low_word z) (high_word z) ≡ z
join_of_cut z h = rw (div-add-mod' (word_of 32 z) 65536) (wrapped_same 32 z h)

module _ (low high : ℕ) (l : low < 65536) (h : high < 65536) where
  joined_word : word_of 32 (joined low high) ≡ high * 65536 + low
  joined_word = word_signed 32 (high * 65536 + low) (omega arith)

  pub low_of_join : low_word (joined low high) ≡ low
  low_of_join = rw joined_word (omega arith)

  pub high_of_join : high_word (joined low high) ≡ high
  high_of_join = rw joined_word (omega arith)

-- the largest number and one more is the smallest, and back
pub past_the_top : wrapped 32 (pos 2147483647 +ℤ pos 1) ≡ negsuc 2147483647
past_the_top = refl

pub past_the_bottom : wrapped 32 (negsuc 2147483647 -ℤ pos 1) ≡ pos 2147483647
past_the_bottom = refl
