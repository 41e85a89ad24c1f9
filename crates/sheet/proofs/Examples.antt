-- What the theorems ask for can be met: `Holds`, `Cut`, `SettledCut` and `OfWords` have examples in which each part of them says something. That
-- of `request_made` stands in `edges/proofs/Bound.antt`.
use Prim.Native.Nat.{ℕ, zero, suc, ◌^◌, ◌<◌}
use mathlib.Core.Bool.{true, false}
use mathlib.Core.List.{List, [], ◌∷◌}
use mathlib.Core.Path.{◌≡◌, refl}
use lib.Dec.{lit<}
use lib.ListN.{get_or, replicate}
use Rattle.registers.specs.Calls.{Call, tick, write, download, after}
use Rattle.sheet.specs.Lines.{Holds, own_lines}
use Rattle.sheet.specs.OwnPart.{Cut, ticked, patched, own_part}
use Rattle.sheet.specs.Reachable.{OfWords, Reached}
use Rattle.sheet.specs.Settled.{SettledCut}
use Rattle.sheet.proofs.Computing.{computing}
use Rattle.sheet.proofs.Isolation.{holds_begin}
use Rattle.sheet.proofs.Kept.{holds_all}
use Rattle.sheet.proofs.Theorems.{reachable}

-- counter 3 is patched to inputs 0 and 5 and gate 2, a neighbour sets the watchdogs' timeout, a tick
abbrev patch : List Call
patch = write 0x1003 0x2140 ∷ write 0x0800 0x0007 ∷ []

abbrev patched_ticked : List Call
patched_ticked = write 0x1003 0x2140 ∷ write 0x0800 0x0007 ∷ tick 0x23 0x006 ∷ []

-- `Holds`: the own lines of a longer list have those of its beginning, some of them new ..
abbrev repatched : List Call
repatched = write 0x1003 0x2140 ∷ write 0x0800 0x0007 ∷ write 0x1003 0x3D81 ∷ []

pub holds_met : Holds (own_lines 3 repatched) (own_lines 3 patch)
holds_met = holds_begin 3 patch (write 0x1003 0x3D81 ∷ []) (own_lines 3 repatched) (holds_all (own_lines 3 repatched))

-- .. and some not
pub holds_apart : ((own_lines 3 repatched).inputs 1 ≡ true) × ((own_lines 3 patch).inputs 1 ≡ false) × ((own_lines 3 patch).inputs 5 ≡ true)
unfolding computing
holds_apart = (refl, refl, refl)

-- `Cut`: behind the patch and the neighbour's write, before the tick, with an own part on both sides
pub cut_met : Cut (own_lines 3 patched_ticked) 3 patched_ticked (patched 0x2140 ∷ [])
unfolding computing
cut_met = record { first = patch; rest = tick 0x23 0x006 ∷ []; whole = refl; part = refl }

pub cut_rest : own_part (own_lines 3 patched_ticked) 3 cut_met.rest ≡ ticked false 0x21 0x004 ∷ []
unfolding computing cut_met
cut_rest = refl

-- `SettledCut`: behind a neighbour's mode bit too, which the settled part has not
abbrev shared : List Call
shared = write 0x1003 0x2140 ∷ write 0x0802 0x0001 ∷ tick 0x23 0x006 ∷ []

pub settled_cut_met : SettledCut (own_lines 3 shared) 3 shared (patched 0x2140 ∷ [])
unfolding computing
settled_cut_met = record { first = write 0x1003 0x2140 ∷ write 0x0802 0x0001 ∷ []; rest = tick 0x23 0x006 ∷ []; whole = refl; part = refl }

-- `OfWords`: a download that is accepted, the largest word of 16 bits in it; so what is reachable holds behind it
abbrev words : List ℕ
words = 0xFFFF ∷ replicate 511 7

abbrev downloaded : List Call
downloaded = download 1 words ∷ tick 0 0 ∷ []

small : (n i : ℕ) → get_or (replicate n 7) i 0 < 2 ^ 16
small zero i = lit< tt
small (suc n) zero = lit< tt
small (suc n) (suc i) = small n i

word_small : (i : ℕ) → get_or words i 0 < 2 ^ 16
word_small zero = lit< tt
word_small (suc i) = small 511 i

pub words_met : OfWords downloaded
unfolding OfWords
words_met = (word_small, tt)

pub reached_met : Reached (after downloaded)
reached_met = reachable downloaded words_met
