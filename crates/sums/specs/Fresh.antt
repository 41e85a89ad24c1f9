-- Document 02, CR 4: "the sum equals one added up afresh".
use Rattle.std.specs.Prelude.{ℕ, ◌-◌, ◌^◌, ◌<◌, List, [], ◌∷◌, length, drop, ℤ, pos, ◌+ℤ◌}
use Rattle.std.specs.Int.Signed.{mag}

-- numbers added up, as integers
unfoldable pub total : List ℤ → ℤ
total [] = pos 0
total (x ∷ xs) = x +ℤ total xs

-- the last n of a list; all of it where there are fewer, as earlier samples are zero
unfoldable pub last_of : ℕ → List ℤ → List ℤ
last_of n xs = drop (length xs - n) xs

-- "the sum over the last W"
unfoldable pub fresh_sum : ℕ → List ℤ → ℤ
fresh_sum window samples = total (last_of window samples)

-- "32-bit samples": from -2^31 to 2^31 - 1, as `mag` is n both of n and of -(n + 1)
pub data Samples : List ℤ → Type 0 where
  none : Samples []
  more : {x : ℤ} {xs : List ℤ} → mag x < 2 ^ 31 → Samples xs → Samples (x ∷ xs)
