-- Laws of the interlock: two words meet where their and is not 0, and the low gates are what the code's exclusive or keeps.
use Prim.Native.Nat.{ℕ, ◌^◌, ◌<◌}
use native.Mathlib.Nat.{lt_of_le_of_lt}
use mathlib.Core.Bool.{true, not}
use mathlib.Core.Path.{◌≡◌, sym, ◌∙◌}
use borrow.Author.Tests.{eqb-true, eqb-false}
use lib.Bits.{bit_and, bit_xor, and_lt, and_le_l, xor_lt}
use lib.Dec.{eqb, lit<}
use lib.Pow.{pow_pos}
use Rattle.words.specs.Word.{bit, fields, fields_from, pack}
use Rattle.words.proofs.Gather.{bit_and_lem, bit_without, pack_bits, pack_is}
use Rattle.words.proofs.Packing.{bit_pack, bit_zero}
use Rattle.bools.proofs.Tests.{cases}
use Rattle.lists.specs.Table.{any}
use Rattle.lists.proofs.Tables.{any_each, any_ext, any_none}
use Rattle.interlocks.specs.Interlock.{meets}

-- a word is 0 exactly where none of its bits is set
any_bit : (n w : ℕ) → w < 2 ^ n → any n (bit w) ≡ not (eqb w 0)
any_bit n w h =
    cases (eqb w 0)
    (λ z. rw (eqb-true w 0 z) (any_none n (bit 0) (λ i l. bit_zero i)))
    (λ z.
    rw z
    (cases (any n (bit w))
    (λ a. a)
    (λ a. absurd (eqb-false w 0 z (pack_is n w (bit 0) h (λ i l. any_each n (bit w) i a l ∙ sym (bit_zero i)) ∙ pack_bits n 0 (pow_pos n))))))

pub meets_is : (x y : ℕ) → x < 2 ^ 16 → y < 2 ^ 16 → meets x y ≡ not (eqb (bit_and x y) 0)
meets_is x y h k = any_ext 16 _ (bit (bit_and x y)) (λ b l. sym (bit_and_lem x y b)) ∙ any_bit 16 (bit_and x y) (and_lt 16 x y h k)

-- the gates that are not among the levels
all_gates : (g : ℕ) → g < 12 → bit 4095 g ≡ true
unfolding pack fields fields_from
all_gates g h = bit_pack 12 (λ i. true) g h

pub low_is : (levels : ℕ) → bit_xor 4095 (bit_and 4095 levels) ≡ pack 12 (λ g. not (bit levels g))
low_is levels =
    pack_is 12 _ (λ g. not (bit levels g))
    (xor_lt 12 4095 (bit_and 4095 levels) (lit< tt) (lt_of_le_of_lt (and_le_l 4095 levels) (lit< tt)))
    (λ g h. bit_without 4095 levels g ∙ rw (all_gates g h))
