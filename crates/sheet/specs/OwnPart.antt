-- Document 01, "The one-counter sheet": c's own part of a list.
-- In: own lines S, a counter, a list of calls. Out: the list of what the sheet is fed. Bits of other lines are 0 in it.
use Rattle.std.specs.Prelude.{ℕ, ◌+◌, ◌*◌, ◌/◌, ◌%◌, Bool, ◌||◌, Option, Some, None, List, [], ◌∷◌, ◌++◌, ◌≡◌, eqb, get_or, length}
use Rattle.std.specs.Option.{option_map_or}
use Rattle.bools.specs.Pick.{pick}
use Rattle.words.specs.Word.{masked_bits, nibble}
use Rattle.lists.specs.Table.{tabulate}
use Rattle.lines.specs.Lines.{bad_levels, gate_count, input_count}
use Rattle.loader.specs.Memory.{dataset_words}
use Rattle.device.specs.declared.map.GateWord.{GateWord}
use Rattle.device.specs.declared.map.GateWord.TheVariants.{Mode, Timeout, Prepare, Recover}
use Rattle.device.specs.declared.map.Register.{Register}
use Rattle.device.specs.declared.map.Register.TheVariants.{Shared, Gates, Input, Group, Word}
use Rattle.device.specs.declared.map.SharedWord.{SharedWord}
use Rattle.device.specs.declared.map.SharedWord.TheVariants.{Control, Key, Enable, Reload}
use Rattle.registers.specs.Calls.{Call, tick, write, tag, download}
use Rattle.device.specs.Map.{decode_of}
use Rattle.tagging.specs.Tag.{command_of}
use Rattle.sheet.specs.Lines.{Lines, own_lines}

-- the own part of one call
pub data Part : Type 0 where
  -- a tick: whether cause 6 refuses it, own inputs' levels, own gates' levels
  ticked : Bool → ℕ → ℕ → Part
  -- a write, all of it: c's input register, own word k of the memory, 0x0801, 0x0A00, 0x0A01, 0x0A02, an own gate's timeout
  patched : ℕ → Part
  stored : ℕ → ℕ → Part
  controlled : ℕ → Part
  keyed : ℕ → Part
  enabled : ℕ → Part
  reloaded : ℕ → Part
  timed : ℕ → ℕ → Part
  -- c's four bits in its group register; own gates' bits in 0x0802, 0x0A03 and 0x0A04
  grouped : ℕ → Part
  moded : ℕ → Part
  prepared : ℕ → Part
  recovered : ℕ → Part
  -- a tag
  tagged : ℕ → Part
  -- a download: dataset, length and, if that is 512, c's four words
  downloaded : ℕ → ℕ → List ℕ → Part

-- "c's memory words", 128 of them: c's word j, 0 to 3, of dataset d is its own word 4 × d + j
abbrev pub is_own_word : ℕ → ℕ → Bool
is_own_word c i = eqb (i % dataset_words / 4) c

abbrev pub own_word : ℕ → ℕ
own_word i = 4 * (i / dataset_words) + i % 4

-- 0x0801, 0x0A00, 0x0A01, 0x0A02
abbrev pub own_shared : SharedWord → ℕ → Option Part
own_shared Control w = Some (controlled w)
own_shared Key w = Some (keyed w)
own_shared Enable w = Some (enabled w)
own_shared Reload w = Some (reloaded w)

-- "own gates' bits in 0x0802, 0x0A03, 0x0A04", and an own gate's timeout
abbrev pub own_gates : Lines → GateWord → ℕ → Option Part
own_gates S Mode w = Some (moded (masked_bits gate_count S.gates w))
own_gates S (Timeout g) w = pick (S.gates g) (Some (timed g w)) None
own_gates S Prepare w = Some (prepared (masked_bits gate_count S.gates w))
own_gates S Recover w = Some (recovered (masked_bits gate_count S.gates w))

-- "a write elsewhere drops out"
unfoldable pub own_at : Lines → ℕ → Register → ℕ → Option Part
own_at S c (Shared q) w = own_shared q w
own_at S c (Gates q) w = own_gates S q w
own_at S c (Input n) w = pick (eqb c n) (Some (patched w)) None
own_at S c (Group k) w = pick (eqb (c / 4) k) (Some (grouped (nibble w (c % 4)))) None
own_at S c (Word i) w = pick (is_own_word c i) (Some (stored (own_word i) w)) None
own_at S c r w = None

-- "of a tag, all but the bits of other gates in commands 0x2 and 0x3"
unfoldable pub own_tag : Lines → ℕ → ℕ
own_tag S t = pick (eqb (command_of t) 2 || eqb (command_of t) 3) (t / 4096 * 4096 + masked_bits gate_count S.gates t) t

-- of 512 words, c's four
unfoldable pub four_of : ℕ → List ℕ → List ℕ
four_of c words = pick (eqb (length words) dataset_words) (tabulate 4 (λ j. get_or words (4 * c + j) 0)) []

unfoldable pub own : Lines → ℕ → Call → Option Part
own S c (tick inputs gates) =
    Some (ticked (bad_levels inputs gates) (masked_bits input_count S.inputs inputs) (masked_bits gate_count S.gates gates))
own S c (write a w) = option_map_or (λ (r : Register). own_at S c r w) (decode_of a) None
own S c (tag t) = Some (tagged (own_tag S t))
own S c (download d words) = Some (downloaded d (length words) (four_of c words))

unfoldable pub added : Option Part → List Part → List Part
added None parts = parts
added (Some p) parts = p ∷ parts

-- the own part of a list, taken with the lines S
unfoldable pub own_part : Lines → ℕ → List Call → List Part
own_part S c [] = []
own_part S c (x ∷ l) = added (own S c x) (own_part S c l)

-- "c's own part of a list"
abbrev pub own_part_of : ℕ → List Call → List Part
own_part_of c l = own_part (own_lines c l) c l

-- a list cut behind a beginning of its own part
pub record Cut (S : Lines) (c : ℕ) (l : List Call) (parts : List Part) : Type 0 where
  pub first : List Call
  pub rest : List Call
  pub whole : l ≡ first ++ rest
  pub part : own_part S c first ≡ parts
