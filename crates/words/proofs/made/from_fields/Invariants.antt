use Prim.Native.Nat.{ℕ, ◌*◌, ◌^◌, ◌<◌}
use mathlib.Core.Path.{◌≡◌}
use Rattle.words.specs.Word.{fields}
use Rattle.words.proofs.made.from_fields.Given as goal

-- room for the fields to come, and the first i fields, whatever function the closure is
abbrev pub invariant-loop-i : goal.invariant-loop-i
invariant-loop-i g l = record {
  room : l.w < 2 ^ (l.width * l.i);
  is : (f : ℕ → ℕ) → ((i v : ℕ) → i < l.n → goal.F-post g l.part i v → v ≡ f i) → l.w ≡ fields l.width l.i f;
}
