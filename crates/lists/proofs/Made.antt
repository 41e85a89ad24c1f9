-- Arrays that std's `array::from_fn` makes of a closure that changes nothing: element i is what a call at i gives. And lists whose elements all stepped.
use Prim.Native.Nat.{ℕ, zero, suc, ◌+◌, ◌<◌}
use native.Mathlib.Nat.{le_of_suc-le-suc, not-suc-le-zero, zero-add}
use native.Mathlib.Omega.{arith}
use mathlib.Core.List.{List, [], ◌∷◌}
use mathlib.Core.Path.{◌≡◌, refl, subst, sym, ◌∙◌}
use denote.Param.Members.{Called, Mut}
use lib.ListN.{get_or, length}
use lib.Seq.{ext_get_or}
use Rattle.std.specs.Array.{IsFromFnResult, IsFromFnResultFrom}
use Rattle.lists.specs.Table.{each, table_from, tabulate}
use Rattle.lists.proofs.Tables.{get_d_tabulate, get_or_each, length_each, length_tabulate}

module _ {F B : Type 0} (g : Mut F (ℕ × Unit {0}) B) (f : F) (h : ℕ → B) where
  -- a call at each number below n gives what h does, and the closure stays as it is
  abbrev pub Computes : ℕ → Type 0
  Computes n = (i : ℕ) (y : B) (q : F) → i < n → Called g f (i, tt) y q → (y ≡ h i) × (q ≡ f)

  made_from : (ys : List B) (i n : ℕ) → ((j : ℕ) (y : B) (q : F) → j < i + n → Called g f (j, tt) y q → (y ≡ h j) × (q ≡ f)) → IsFromFnResultFrom g f ys i n → (k : ℕ) → k < n → (d : B) → get_or ys (i + k) d ≡ h (i + k)
  made_from ys i zero c m k l d = absurd (not-suc-le-zero l)
  made_from ys i (suc n) c m zero l d =
      let e : i + 0 ≡ i = omega arith in rw e (m.2.1 d ∙ (c i m.1 m.0 (omega arith) m.3).0)
  made_from ys i (suc n) c m (suc k) l d =
      let e : i + suc k ≡ i + 1 + k = omega arith in
      let rest : IsFromFnResultFrom g f ys (i + 1) n = subst (λ (p : F). IsFromFnResultFrom g p ys (i + 1) n) (c i m.1 m.0 (omega arith) m.3).1 m.4 in
      rw e (made_from ys (i + 1) n (λ j y q h. c j y q (omega arith)) rest k (le_of_suc-le-suc l) d)

  pub from_fn_is : (ys : List B) (n : ℕ) → Computes n → IsFromFnResult g f ys n → ys ≡ tabulate n h
  unfolding tabulate table_from
  from_fn_is [] n c m = let z : n ≡ 0 = sym m.long in rw z refl
  from_fn_is (x ∷ xs) n c m =
      ext_get_or x _ _ (m.long ∙ sym (length_tabulate n h))
      (λ k l.
      let e : k < n = omega (arith, m.long) in
      rw zero-add at (made_from (x ∷ xs) 0 n (λ j y q t. c j y q (omega arith)) m.each k e x)
      ∙ sym (get_d_tabulate n h k x e))

-- a list of as many elements, each stepped by f
pub each_is : {A : Type 0} (n : ℕ) (d : A) (f : ℕ → A → A) (xs ys : List A) → length xs ≡ n → length ys ≡ n →
    ((k : ℕ) → k < n → get_or ys k d ≡ f k (get_or xs k d)) → ys ≡ each n d f xs
each_is n d f xs ys size same e =
    ext_get_or d _ _ (same ∙ sym (length_each n d f xs))
    (λ k l. let b : k < n = omega (arith, same) in e k b ∙ sym (get_or_each n d f xs k b))
