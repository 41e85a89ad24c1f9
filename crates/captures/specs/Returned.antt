-- What the contract of `convert` says, for theorems about the code.
use Rattle.std.specs.Prelude.{ℕ, List, ◌≡◌, Result}
use Rattle.captures.specs.declared.Refusal.{Refusal}
use Rattle.captures.specs.Captures.{conversion, conversion_of}

-- a `convert` of a capture returned r and left this output; `convert_contract` in proofs/Theorems.antt shows that this is its contract
abbrev pub Made : List ℕ → List ℕ → Result ℕ Refusal → List ℕ → Type 0
Made capture out r left = conversion r left ≡ conversion_of capture out
