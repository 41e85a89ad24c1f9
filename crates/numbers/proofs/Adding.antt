-- Words add up as their numbers do, at every width of k bits.
use Prim.Native.Nat.{ℕ, ◌+◌, ◌*◌, ◌/◌, ◌%◌, ◌<◌}
use native.Mathlib.Nat.{add-mul-mod_self_right, div-add-mod', mod-eq_of_lt}
use native.Mathlib.Omega.{arith}
use mathlib.Core.Path.{◌≡◌, refl, sym, ap, ◌∙◌}
use lib.IntN.{ℤ, pos, negsuc, ◌+ℤ◌, ◌-ℤ◌}
use Rattle.std.proofs.lemmas.Int.{ints, int_rem_euclid_is}
use Rattle.std.specs.Int.RustNames.{unsigned_abs}
use Rattle.numbers.specs.Signed.{half, word_of}
use Rattle.numbers.proofs.Complement.{half_pos}
use Rattle.numbers.proofs.Reading.{word_rem}

module _ (k : ℕ) where
  abbrev all : ℕ
  all = 2 * half k

  some : 0 < all
  some = omega (arith, half_pos k)

  -- how many turns lie between a number and its word
  record Turns (z : ℤ) : Type 0 where
    down : ℕ
    up : ℕ
    apart : z +ℤ pos (down * all) ≡ pos (word_of k z + up * all)

  turns : (z : ℤ) → Turns z
  turns (pos n) = record { down = 0; up = n / all; apart = omega (arith, ints) }
  turns (negsuc n) = record { down = n / all + 1; up = 0; apart = omega (arith, ints, some) }

  -- a number that is some turns from n
  word_turned : (z : ℤ) (i n j : ℕ) → z +ℤ pos (i * all) ≡ pos (n + j * all) → word_of k z ≡ n % all
  word_turned z i n j e = word_rem k z ∙ ap unsigned_abs (int_rem_euclid_is z _ all i _ some refl e) ∙ add-mul-mod_self_right n j all

  pub word_add : (a b : ℤ) → word_of k (a +ℤ b) ≡ (word_of k a + word_of k b) % all
  word_add a b =
      let s = turns a in
      let t = turns b in
      word_turned (a +ℤ b) (s.down + t.down) (word_of k a + word_of k b) (s.up + t.up) (omega (arith, ints, s.apart, t.apart))

  -- the one word that added to b's gives a's is that of a - b
  pub word_sub : (a b : ℤ) (r : ℕ) → r < all → (r + word_of k b) % all ≡ word_of k a → r ≡ word_of k (a -ℤ b)
  word_sub a b r h e =
      let s = turns a in
      let t = turns b in
      let q = (r + word_of k b) / all in
      let d : r + word_of k b ≡ word_of k a + q * all = omega (arith, div-add-mod' (r + word_of k b) all) in
      sym (word_turned (a -ℤ b) (q + s.down + t.up) r (s.up + t.down) (omega (arith, ints, s.apart, t.apart)) ∙ mod-eq_of_lt h)
