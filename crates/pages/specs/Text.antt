-- Numbers in digits.
use Rattle.std.specs.Prelude.{ℕ, zero, suc, ◌+◌, ◌/◌, ◌%◌, List, [], ◌∷◌, ◌++◌, ltb}
use Rattle.bools.specs.Pick.{pick}

-- a digit below 16: 0 to 9, then a to f
abbrev pub digit : ℕ → ℕ
digit d = pick (ltb d 10) (48 + d) (87 + d)

-- n in decimal with no zeros in front; a number of 64 bits has at most 20 digits
unfoldable pub decimal_in : ℕ → ℕ → List ℕ
decimal_in zero n = []
decimal_in (suc places) n = pick (ltb n 10) [] (decimal_in places (n / 10)) ++ (digit (n % 10) ∷ [])

unfoldable pub decimal : ℕ → List ℕ
decimal n = decimal_in 20 n

-- the last `places` digits of n in lower-case hexadecimal
unfoldable pub hexadecimal : ℕ → ℕ → List ℕ
hexadecimal zero n = []
hexadecimal (suc places) n = hexadecimal places (n / 16) ++ (digit (n % 16) ∷ [])
