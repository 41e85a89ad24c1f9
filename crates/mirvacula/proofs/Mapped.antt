-- What std's `map` makes of an array by a closure that remembers nothing: element i is what a call gives of element i.
use Prim.Native.Nat.{ℕ, ◌<◌}
use native.Mathlib.Omega.{arith}
use mathlib.Core.List.{List, [], ◌∷◌}
use mathlib.Core.Path.{◌≡◌, sym, ◌∙◌}
use denote.Param.Members.{Called, Mut}
use lib.ListN.{length, length-map}
use lib.Seq.{ext_get_or}
use Rattle.std.specs.Prelude.{map}
use Rattle.std.proofs.lemmas.List.{get_or-map, nil_from_length}
use Rattle.std.specs.Array.{IsMapOf}

module _ {F A B : Type 0} {g : Mut F (A × Unit {0}) B} {f : F} {h : A → B} {n : ℕ} where
  pub map_is : (xs : List A) {ys : List B} → IsMapOf g f xs ys n → length xs ≡ n →
      ((p : F) (x : A) (y : B) (q : F) → Called g p (x, tt) y q → y ≡ h x) → ys ≡ map h xs
  map_is [] {ys} m long computes = nil_from_length ys (m.long ∙ sym long)
  map_is (x ∷ xs) m long computes =
      ext_get_or (h x) _ _ (m.long ∙ sym long ∙ sym (length-map (x ∷ xs) h))
      (λ k l.
      let within : k < n = omega (arith, m.long) in
      let call = m.at k x (h x) within in
      computes call.0 _ _ call.1 call.2 ∙ sym (get_or-map h (x ∷ xs) k x (h x) (omega (arith, long))))
