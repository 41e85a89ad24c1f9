-- Numbers in two's complement at a width of k bits, and a 32-bit number in a low and a high word.
use Rattle.std.specs.Prelude.{ℕ, ◌+◌, ◌-◌, ◌*◌, ◌/◌, ◌%◌, ◌^◌, ltb, ℤ, pos, negsuc}
use Rattle.bools.specs.Pick.{pick}

-- half of the words of k bits: from here on they are negative
abbrev pub half : ℕ → ℕ
half k = 2 ^ (k - 1)

-- the word of k bits that a number has
abbrev pub word_of : ℕ → ℤ → ℕ
word_of k (pos n) = n % (2 * half k)
word_of k (negsuc n) = 2 * half k - (n % (2 * half k) + 1)

-- the number that a word of k bits is
abbrev pub signed : ℕ → ℕ → ℤ
signed k n = pick (ltb n (half k)) (pos n) (negsuc (2 * half k - (n + 1)))

-- a number brought into the range of k bits: it wraps at both ends
abbrev pub wrapped : ℕ → ℤ → ℤ
wrapped k z = signed k (word_of k z)

-- "low and high words joined to signed 32-bit thresholds", and a 32-bit number cut into its words
abbrev pub joined : ℕ → ℕ → ℤ
joined low high = signed 32 (high * 65536 + low)

abbrev pub low_word : ℤ → ℕ
low_word z = word_of 32 z % 65536

abbrev pub high_word : ℤ → ℕ
high_word z = word_of 32 z / 65536
