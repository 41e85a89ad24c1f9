-- Texts put on a page: one after the other they are one text, and a text that fits is not cut.
use Prim.Native.Nat.{ℕ, zero, suc, ◌+◌, ◌-◌, ◌≤◌, ◌<◌, min}
use native.Mathlib.Numerals.{add-one}
use native.Mathlib.Omega.{arith}
use mathlib.Core.List.{List, [], ◌∷◌, ◌++◌, append_assoc, append-nil}
use mathlib.Core.Path.{◌≡◌, refl, sym, ap}
use borrow.Rule.Slice.PartMut.{put_mid}
use lib.ListN.{length, take, set, length-append, length-take}
use lib.Seq.{take_all, take-append-add, take-suc-set}
use Rattle.std.proofs.lemmas.List.{take_at, take_min}
use Rattle.std.proofs.lemmas.Slice.{take-put_mid}
use Rattle.pages.specs.declared.page.Page.{Page}
use Rattle.pages.specs.Page.{written, cut}

take_again : (n : ℕ) (a b : List ℕ) → take n (take n a ++ b) ≡ take n (a ++ b)
take_again zero a b = refl
take_again (suc n) [] b = refl
take_again (suc n) (x ∷ a) b = ap (λ (l : List ℕ). x ∷ l) (take_again n a b)

-- what was cut and goes on is cut at the same place
pub cut_cut : (a b : List ℕ) → cut (cut a ++ b) ≡ cut (a ++ b)
unfolding cut
cut_cut a b = take_again 256 a b

pub fits : (xs : List ℕ) → length xs ≤ 256 → cut xs ≡ xs
unfolding cut
fits xs h = take_all 256 xs h

-- nothing is lost of what is written
pub cut_written : (p : Page) → length p.bytes ≡ 256 → cut (written p) ≡ written p
unfolding written
cut_written p e = fits (take p.length p.bytes) (omega (arith, length-take p.length p.bytes))

pub same_page : (p : Page) → length p.bytes ≡ 256 → written p ≡ cut (written p ++ [])
same_page p e = rw (append-nil, cut_written p e)

-- a full page takes no more
pub full : (w t : List ℕ) → length w ≡ 256 → cut (w ++ t) ≡ w
unfolding cut
full w t h = take_at w t 256 h

-- as much of a text as there is room for
pub take_room : (w t : List ℕ) → length w ≤ 256 → w ++ take (min (256 - length w) (length t)) t ≡ cut (w ++ t)
unfolding cut
take_room w t h =
    let e : length w + (256 - length w) ≡ 256 = omega arith in
    rw (take_min, ← (take-append-add w t (256 - length w)), e)

-- what a page has once a byte or a text is put on it, as far as there is room
module _ (p : Page) (e : length p.bytes ≡ 256) where
  pub put_within : (b : ℕ) → p.length < 256 →
      written (record { bytes = set p.bytes p.length b; length = p.length + 1 }) ≡ cut (written p ++ (b ∷ []))
  unfolding written
  put_within b h =
      rw (add-one, take-suc-set p.bytes p.length b (omega arith))
      (sym (fits _ (simp (length-append, length-take) (omega arith))))

  pub put_full : (n b : ℕ) → 256 ≤ p.length → 256 ≤ n → written (record { bytes = p.bytes; length = n }) ≡ cut (written p ++ (b ∷ []))
  unfolding written
  put_full n b h l = rw (take_all p.length p.bytes (omega arith), take_all n p.bytes (omega arith)) (sym (full p.bytes (b ∷ []) e))

  pub put_part : (at k more : ℕ) (text part : List ℕ) → at ≡ min p.length 256 → more ≡ min (256 - at) (length text) → part ≡ take more text →
      written (record { bytes = put_mid at k p.bytes part; length = at + more }) ≡ cut (written p ++ text)
  unfolding written
  put_part at k more text part place room q =
      let w : take p.length p.bytes ≡ take at p.bytes = rw (place, ← e, take_min) in
      let size : length (take at p.bytes) ≡ at = omega (arith, length-take at p.bytes) in
      let long : length part ≡ more = rw (q, length-take) (omega arith) in
      rw (take-put_mid at k p.bytes part (at + more) (omega arith) (omega arith), w, q, room) (rw size at (take_room (take at p.bytes) text (omega arith)))

-- two texts put one after the other
pub cut_two : (w a b : List ℕ) → cut (cut (w ++ a) ++ b) ≡ cut (w ++ (a ++ b))
cut_two w a b = rw (cut_cut, append_assoc)
