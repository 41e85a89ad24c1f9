-- The own part of a tag has its key and command, and for the gates the own bits of its parameter.
use Prim.Native.Nat.{ℕ, ◌+◌, ◌*◌, ◌/◌, ◌<◌}
use native.Mathlib.Omega.{arith}
use mathlib.Core.Bool.{Bool, true, false, ◌||◌}
use mathlib.Core.List.{List}
use mathlib.Core.Path.{◌≡◌, refl, sym, ◌∙◌, ap}
use lib.Dec.{eqb}
use lib.ListN.{get_or}
use lib.Pow.{low}
use Rattle.words.specs.Word.{bit, masked_bits}
use Rattle.words.proofs.Fields.{bit_low}
use Rattle.words.proofs.Packing.{pack_lt}
use Rattle.bools.proofs.Tests.{pick_elim}
use Rattle.lists.specs.Table.{each}
use Rattle.lists.proofs.Tables.{tabulate_ext}
use Rattle.gates.specs.declared.gate.Gate.{Gate}
use Rattle.gates.specs.Gate.{each_gate, gate0}
use Rattle.tagging.specs.Tag.{command_of, key_of}
use Rattle.sheet.specs.Lines.{Lines}
use Rattle.sheet.specs.OwnPart.{own_tag}

masked_lt : (mine : ℕ → Bool) (w : ℕ) → masked_bits 12 mine w < 4096
unfolding masked_bits
masked_lt mine w = pack_lt 12 _

key_of_lem : (t b : ℕ) → b < 4096 → key_of (t / 4096 * 4096 + b) ≡ key_of t
key_of_lem t b h = omega arith

abbrev pub for_gates : ℕ → Bool
for_gates t = eqb (command_of t) 2 || eqb (command_of t) 3

module _ (S : Lines) (t : ℕ) where
  pub own_tag_key : key_of (own_tag S t) ≡ key_of t
  unfolding own_tag
  own_tag_key = pick_elim (λ (x : ℕ). key_of x ≡ key_of t) (for_gates t) (λ e. key_of_lem t _ (masked_lt S.gates t)) (λ e. refl)

  pub own_tag_command : command_of (own_tag S t) ≡ command_of t
  unfolding own_tag
  own_tag_command = grind (arith, masked_lt)

  -- with any other command it is the tag
  pub own_tag_whole : for_gates t ≡ false → own_tag S t ≡ t
  unfolding own_tag
  own_tag_whole e = rw e

  -- with commands 0x2 and 0x3 the gates see their own bits
  pub own_tag_gates : for_gates t ≡ true → (f : Bool → Gate → Gate) (gates : List Gate) →
      each_gate f (own_tag S t) gates ≡ each_gate f (masked_bits 12 S.gates t) gates
  unfolding own_tag each_gate each
  own_tag_gates e f gates =
      rw e
      (tabulate_ext 12 _ _ (λ g h. ap (λ (b : Bool). f b (get_or gates g gate0)) (bits g h)))
    where
      bits : (g : ℕ) → g < 12 → bit (t / 4096 * 4096 + masked_bits 12 S.gates t) g ≡ bit (masked_bits 12 S.gates t) g
      bits g h =
          sym (bit_low 12 (t / 4096 * 4096 + masked_bits 12 S.gates t) g h)
          ∙ ap (λ (x : ℕ). bit x g) (low (t / 4096) 12 (masked_lt S.gates t))
