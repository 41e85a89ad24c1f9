-- A bit of each gate as a word, read back, the length of a bank that stepped, and the bits of a word that it takes.
use Prim.Native.Nat.{ℕ, ◌%◌, ◌^◌, ◌≤◌, ◌<◌}
use mathlib.Core.Bool.{Bool, false}
use mathlib.Core.List.{List}
use mathlib.Core.Path.{◌≡◌, ap}
use lib.ListN.{length, get_or}
use Rattle.words.specs.Word.{bit}
use Rattle.words.proofs.Fields.{bit_low}
use Rattle.words.proofs.Packing.{bit_pack, bit_past}
use Rattle.lists.specs.Table.{each}
use Rattle.lists.proofs.Tables.{length_each, tabulate_ext}
use Rattle.gates.specs.declared.gate.Gate.{Gate}
use Rattle.gates.specs.Gate.{each_gate, gate0, gate_at, gate_bits}

pub gate_bit : (f : Gate → Bool) (gates : List Gate) (g : ℕ) → g < 12 → bit (gate_bits f gates) g ≡ f (gate_at gates g)
unfolding gate_bits
gate_bit f gates g h = bit_pack 12 _ g h

pub gate_bit_past : (f : Gate → Bool) (gates : List Gate) (g : ℕ) → 12 ≤ g → bit (gate_bits f gates) g ≡ false
unfolding gate_bits
gate_bit_past f gates g h = bit_past 12 _ g h

pub length_each_gate : (f : Bool → Gate → Gate) (w : ℕ) (gates : List Gate) → length (each_gate f w gates) ≡ 12
unfolding each_gate
length_each_gate f w gates = length_each 12 gate0 _ gates

-- the twelve gates take the lowest twelve bits of a word
pub each_gate_low : (f : Bool → Gate → Gate) (w : ℕ) (gates : List Gate) → each_gate f (w % 2 ^ 12) gates ≡ each_gate f w gates
unfolding each_gate each
each_gate_low f w gates = tabulate_ext 12 _ _ (λ g h. ap (λ (b : Bool). f b (get_or gates g gate0)) (bit_low 12 w g h))
