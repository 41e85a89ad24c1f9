-- A place that is written part by part, from its start on, without a gap.
use Prim.Native.Nat.{ℕ, suc, ◌+◌, ◌≤◌}
use native.Mathlib.Omega.{arith}
use mathlib.Core.List.{List, [], ◌∷◌, ◌++◌}
use mathlib.Core.Path.{◌≡◌, sym, ap, ◌∙◌}
use borrow.Rule.Slice.PartMut.{put_mid}
use lib.ListN.{length, drop, set, take, length-append, length-drop, length-set}
use lib.Seq.{length-take-le, take_all, take_at, take-suc-set}
use Rattle.std.proofs.lemmas.Slice.{take-put_mid}

-- the place, and how far it is written
pub record Filled (size at : ℕ) (written place : List ℕ) : Type 0 where
  pub whole : length place ≡ size
  pub front : take at place ≡ written

-- its first part
pub fill_first : {size : ℕ} (place part : List ℕ) (k : ℕ) → length part ≡ k → length place ≡ size → k ≤ size → Filled size k part (part ++ drop k place)
fill_first place part k e h l = record {
  whole = rw (length-append, length-drop) (omega arith);
  front = take_at part (drop k place) k e;
}

module _ {size : ℕ} {place : List ℕ} where
  -- the part that follows
  pub fill_more : {at : ℕ} {written : List ℕ} → Filled size at written place → (part : List ℕ) (k : ℕ) → length part ≡ k → at + k ≤ size →
      Filled size (at + k) (written ++ part) (put_mid at k place part)
  fill_more {at} {written} f part k e l =
      let w = f.whole in
      let t : length (take at place) ≡ at = length-take-le at place (omega arith) in
      record {
        whole = rw (length-append, length-append, length-drop, length-drop, t) (omega arith);
        front = take-put_mid at k place part (at + k) (omega arith) (omega arith) ∙ ap (λ (xs : List ℕ). xs ++ part) f.front;
      }

  -- the last byte
  pub fill_last : {at : ℕ} {written : List ℕ} → Filled size at written place → (byte : ℕ) → at + 1 ≡ size → set place at byte ≡ written ++ (byte ∷ [])
  fill_last {at} {written} f byte e =
      let w = f.whole in
      let l : length (set place at byte) ≤ suc at = rw length-set (omega arith) in
      sym (take_all (suc at) (set place at byte) l)
      ∙ take-suc-set place at byte (omega arith)
      ∙ ap (λ (xs : List ℕ). xs ++ (byte ∷ [])) f.front
