-- A frame as the code holds it: the numbers that it is read from, and when two are the same.
use Prim.Native.Nat.{ℕ, zero, suc, ◌+◌, ◌*◌, ◌/◌, ◌%◌, ◌^◌, ◌<◌}
use native.Mathlib.Nat.{add-zero, div-div-eq-div-mul, mul_comm, pow-suc}
use native.Mathlib.Omega.{arith}
use mathlib.Core.Bool.{◌&&◌}
use mathlib.Core.List.{List, [], ◌∷◌, ◌++◌}
use mathlib.Core.Path.{◌≡◌, refl, sym, ap, ◌∙◌}
use borrow.Author.Tests.{eqb-true, eqb-false, ne_eqb}
use lib.Dec.{eqb}
use lib.ListN.{get_or}
use mir.Syntax.{w64}
use Rattle.std.specs.Int.{bytes_high_first, from_be_bytes}
use Rattle.bools.proofs.Tests.{agree, cases}
use Rattle.records.specs.Records.{number_at}
use Rattle.captures.specs.Captures.{frame_at, same_frame}
use Rattle.captures.specs.Written.{bytes, frame, level_bytes}

-- eight bytes, by the number that the library reads them as
pub eight_bytes : (t : List ℕ) →
    from_be_bytes w64 (get_or t 0 0 ∷ get_or t 1 0 ∷ get_or t 2 0 ∷ get_or t 3 0 ∷ get_or t 4 0 ∷ get_or t 5 0 ∷ get_or t 6 0 ∷ get_or t 7 0 ∷ []) ≡ number_at t 0 8
unfolding number_at
eight_bytes t = omega arith

module _ (t : List ℕ) (at : ℕ) (byte : get_or t (at + 7) 0 < 256) where
  -- the first seven of eight bytes, and the eighth
  pub seven_of_eight : number_at t at 8 / 256 ≡ number_at t at 7
  unfolding number_at
  seven_of_eight = omega arith

  pub last_of_eight : number_at t at 8 % 256 * 256 + get_or t (at + 8) 0 ≡ number_at t (at + 7) 2
  unfolding number_at
  last_of_eight =
      let h : number_at t at 8 ≡ number_at t at 7 * 256 + get_or t (at + 7) 0 = refl in
      let z : get_or t (at + 7 + 0) 0 ≡ get_or t (at + 7) 0 = ap (λ (n : ℕ). get_or t n 0) (add-zero (at + 7)) in
      let e : get_or t (at + 7 + 1) 0 ≡ get_or t (at + 8) 0 = ap (λ (n : ℕ). get_or t n 0) (omega arith) in
      omega (arith, h, z, e)

-- the numbers of nine bytes are their levels
pub nine_read : (array : List ℕ) (head : ℕ) → get_or array 7 0 < 256 → head ≡ number_at array 0 8 →
    frame (head / 256) (head % 256 * 256 + get_or array 8 0) ≡ frame_at array 0
unfolding frame_at
nine_read array head byte e =
    let a : head / 256 ≡ number_at array 0 7 = rw e (seven_of_eight array 0 byte) in
    let b : head % 256 * 256 + get_or array 8 0 ≡ number_at array 7 2 = rw e (last_of_eight array 0 byte) in
    λ j. frame (a j) (b j)

-- two frames are the same where both their numbers are
pub same_nine : (h k l m : ℕ) → l < 256 → m < 256 →
    same_frame (frame (h / 256) (h % 256 * 256 + l)) (frame (k / 256) (k % 256 * 256 + m)) ≡ eqb h k && eqb l m
unfolding same_frame
same_nine h k l m a b =
    let p = h % 256 * 256 + l in
    let q = k % 256 * 256 + m in
    cases (eqb (h / 256) (k / 256))
    (λ e.
    cases (eqb h k)
    (λ f. rw (e, f) (agree p q l m (λ g. omega (arith, eqb-true h k f)) (λ g. omega (arith, eqb-true h k f))))
    (λ f.
    rw (e, f)
    (ne_eqb p q (λ g. eqb-false h k f (omega (arith, eqb-true (h / 256) (k / 256) e))))))
    (λ e. rw (e, ne_eqb h k (λ f. eqb-false (h / 256) (k / 256) e (rw f))))

-- ---- and the bytes that they are written as

bytes_last : (n v : ℕ) → bytes_high_first (suc n) v ≡ bytes_high_first n (v / 256) ++ (v % 256 ∷ [])
bytes_last zero v = refl
bytes_last (suc zero) v = refl
bytes_last (suc (suc n)) v =
    let e : v / 256 ^ suc (suc n) ≡ v / 256 / 256 ^ suc n =
    ap (λ (m : ℕ). v / m) (pow-suc 256 (suc n) ∙ mul_comm (256 ^ suc n) 256) ∙ sym (div-div-eq-div-mul v 256 (256 ^ suc n)) in
    ap (λ (m : ℕ). m % 256 ∷ bytes_high_first (suc (suc n)) v) e ∙ ap (λ (xs : List ℕ). v / 256 / 256 ^ suc n % 256 ∷ xs) (bytes_last (suc n) v)

pub bytes_high : (n v : ℕ) → bytes_high_first n v ≡ bytes n v
unfolding bytes
bytes_high zero v = refl
bytes_high (suc n) v = bytes_last n v ∙ ap (λ (xs : List ℕ). xs ++ (v % 256 ∷ [])) (bytes_high n (v / 256))

-- the eight bytes of the first number and the last are those of the levels
pub nine_bytes : (head last : ℕ) → last < 256 →
    bytes_high_first 8 head ++ (last ∷ []) ≡ level_bytes (frame (head / 256) (head % 256 * 256 + last))
unfolding level_bytes bytes
nine_bytes head last h =
    let g : ℕ = head % 256 * 256 + last in
    let high : g / 256 % 256 ≡ head % 256 = omega arith in
    let low : g % 256 ≡ last = omega arith in
    rw (high, low) (ap (λ (xs : List ℕ). xs ++ (last ∷ [])) (bytes_high 8 head))
