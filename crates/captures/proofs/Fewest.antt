-- Repeats give their elements back; no repeats within the limit are fewer, and none begin with longer ones.
use Prim.Native.Nat.{ℕ, zero, suc, ◌+◌, ◌≤◌, ◌<◌}
use native.Mathlib.Nat.{add-zero}
use native.Mathlib.Omega.{arith}
use mathlib.Core.Bool.{Bool, true, false, ◌&&◌, false≢true}
use mathlib.Core.List.{List, [], ◌∷◌, ◌++◌, append_assoc, append-nil}
use mathlib.Core.Path.{◌≡◌, refl, sym, ap, subst, ◌∙◌}
use borrow.Author.Tests.{ltb-true, lt-ltb, le-ltb}
use lib.Dec.{ltb}
use lib.ListN.{length, replicate, replicate-append-replicate}
use Rattle.bools.proofs.Tests.{cases, pick_elim}
use Rattle.std.proofs.lemmas.Bool.{and_parts}
use Rattle.captures.specs.Repeats.{Fit, none, more, NoLongerFirst, ended, equal, shorter, Repeat, repeat, Tells, expand, joined, joined_from}

-- x at the end of its repeats
snoc : {A : Type 0} (n : ℕ) (x : A) (ys : List A) → replicate (n + 1) x ++ ys ≡ replicate n x ++ (x ∷ ys)
snoc n x ys = rw (← replicate-append-replicate n 1 x) (append_assoc (replicate n x) (x ∷ []) ys)

-- no more repeats than elements
module _ {A : Type 0} (same : A → A → Bool) (limit : ℕ) where
  few_from : (ys : List A) (x : A) (n : ℕ) → length (joined_from same limit x n ys) ≤ 1 + length ys
  unfolding joined_from
  few_from [] x n = omega arith
  few_from (y ∷ ys) x n =
      pick_elim (λ (rs : List (Repeat A)). length rs ≤ 1 + length (y ∷ ys)) (same x y && ltb n limit)
      (λ e. omega (arith, few_from ys x (n + 1)))
      (λ e. omega (arith, few_from ys y 1))

  pub joined_few : (xs : List A) → length (joined same limit xs) ≤ length xs
  unfolding joined
  joined_few [] = omega arith
  joined_few (x ∷ xs) = omega (arith, few_from xs x 1)

module _ {A : Type 0} (same : A → A → Bool) (tells : Tells same) (limit : ℕ) where
  -- ---- the elements come back

  expand_from : (ys : List A) (x : A) (n : ℕ) → expand (joined_from same limit x n ys) ≡ replicate n x ++ ys
  unfolding joined_from expand
  expand_from [] x n = refl
  expand_from (y ∷ ys) x n =
      pick_elim (λ (rs : List (Repeat A)). expand rs ≡ replicate n x ++ (y ∷ ys)) (same x y && ltb n limit)
      (λ e.
      let s : x ≡ y = tells.equal x y (and_parts (same x y) (ltb n limit) e).0 in
      expand_from ys x (n + 1) ∙ snoc n x ys ∙ ap (λ (z : A). replicate n x ++ (z ∷ ys)) s)
      (λ e. ap (λ (zs : List A). replicate n x ++ zs) (expand_from ys y 1))

  pub expand_joined : (xs : List A) → expand (joined same limit xs) ≡ xs
  unfolding joined expand
  expand_joined [] = refl
  expand_joined (x ∷ xs) = expand_from xs x 1

  -- ---- each repeat is from 1 to the limit

  fit_from : (ys : List A) (x : A) (n : ℕ) → 1 ≤ n → n ≤ limit → Fit limit (joined_from same limit x n ys)
  unfolding joined_from
  fit_from [] x n h k = more h k none
  fit_from (y ∷ ys) x n h k =
      pick_elim (Fit limit) (same x y && ltb n limit)
      (λ e. fit_from ys x (n + 1) (omega arith) (omega (arith, ltb-true n limit (and_parts (same x y) (ltb n limit) e).1)))
      (λ e. more h k (fit_from ys y 1 (omega arith) (omega arith)))

  pub fit_joined : 1 ≤ limit → (xs : List A) → Fit limit (joined same limit xs)
  unfolding joined
  fit_joined h [] = none
  fit_joined h (x ∷ xs) = fit_from xs x 1 (omega arith) h

  -- ---- none are fewer

  abbrev cost : A → ℕ → List A → ℕ
  cost x n ys = length (joined_from same limit x n ys)

  -- a repeat that is further on costs no less, and one record more at most
  between : (ys : List A) (x : A) (n m : ℕ) → 1 ≤ n → n ≤ m → m ≤ limit → (cost x n ys ≤ cost x m ys) × (cost x m ys ≤ 1 + cost x n ys)
  unfolding joined_from
  between [] x n m a b d = (omega arith, omega arith)
  between (y ∷ ys) x n m a b d =
      cases (same x y)
      (λ e.
      rw e
      (cases (ltb m limit)
      (λ f.
      let g : ltb n limit ≡ true = lt-ltb n limit (omega (arith, ltb-true m limit f)) in
      rw (f, g) (between ys x (n + 1) (m + 1) (omega arith) (omega arith) (omega (arith, ltb-true m limit f))))
      (λ f.
      rw f
      (cases (ltb n limit)
      (λ g.
      let s : y ≡ x = sym (tells.equal x y e) in
      let h = between ys x 1 (n + 1) (omega arith) (omega arith) (omega (arith, ltb-true n limit g)) in
      rw (g, s) (omega (arith, h.0, h.1), omega (arith, h.0, h.1)))
      (λ g. rw g (omega arith, omega arith))))))
      (λ e. rw e (omega arith, omega arith))

  -- equal elements below the limit are one repeat
  gather : (j : ℕ) (x : A) (n : ℕ) (ys : List A) → n + j ≤ limit → joined_from same limit x n (replicate j x ++ ys) ≡ joined_from same limit x (n + j) ys
  unfolding joined_from
  gather zero x n ys h = rw add-zero
  gather (suc j) x n ys h =
      let e : n + 1 + j ≡ n + suc j = omega arith in
      rw (tells.itself x, lt-ltb n limit (omega arith)) (gather j x (n + 1) ys (omega arith) ∙ ap (λ (k : ℕ). joined_from same limit x k ys) e)

  -- a repeat in front costs one record at most
  front : (ys : List A) (x : A) (n : ℕ) → 1 ≤ n → n ≤ limit → cost x n ys ≤ 1 + length (joined same limit ys)
  unfolding joined joined_from
  front [] x n h k = omega arith
  front (y ∷ ys) x n h k =
      cases (same x y && ltb n limit)
      (λ e.
      let s : y ≡ x = sym (tells.equal x y (and_parts (same x y) (ltb n limit) e).0) in
      rw (e, s) (between ys x 1 (n + 1) (omega arith) (omega arith) (omega (arith, ltb-true n limit (and_parts (same x y) (ltb n limit) e).1))).1)
      (λ e. rw e (omega arith))

  joined_front : (n : ℕ) (x : A) (ys : List A) → 1 ≤ n → n ≤ limit → length (joined same limit (replicate n x ++ ys)) ≤ 1 + length (joined same limit ys)
  unfolding joined
  joined_front zero x ys h k = absurd (omega arith)
  joined_front (suc j) x ys h k =
      let l : 1 + j ≤ limit = omega arith in
      rw (gather j x 1 ys l) (front ys x (1 + j) (omega arith) l)

  fewest_of : (rs : List (Repeat A)) → Fit limit rs → length (joined same limit (expand rs)) ≤ length rs
  unfolding expand joined
  fewest_of [] f = omega arith
  fewest_of (r ∷ rs) (more a b f) = omega (arith, joined_front r.times r.element (expand rs) a b, fewest_of rs f)

  pub fewest : (xs : List A) (rs : List (Repeat A)) → Fit limit rs → expand rs ≡ xs → length (joined same limit xs) ≤ length rs
  fewest xs rs f e = subst (λ (zs : List A). length (joined same limit zs) ≤ length rs) e (fewest_of rs f)

  -- ---- and none begin with longer ones

  -- a repeat that is further on is longer
  further : (ys : List A) (x : A) (m n : ℕ) (rs : List (Repeat A)) → m < n → NoLongerFirst (repeat m x ∷ rs) (joined_from same limit x n ys)
  unfolding joined_from
  further [] x m n rs h = shorter h
  further (y ∷ ys) x m n rs h =
      pick_elim (NoLongerFirst (repeat m x ∷ rs)) (same x y && ltb n limit) (λ e. further ys x m (n + 1) rs (omega arith)) (λ e. shorter h)

  first_longest : (ys : List A) (x : A) (n : ℕ) (rs : List (Repeat A)) → NoLongerFirst rs (joined same limit ys) →
      NoLongerFirst (repeat n x ∷ rs) (joined_from same limit x n ys)
  unfolding joined joined_from
  first_longest [] x n rs l = equal l
  first_longest (y ∷ ys) x n rs l =
      pick_elim (NoLongerFirst (repeat n x ∷ rs)) (same x y && ltb n limit) (λ e. further ys x n (n + 1) rs (omega arith)) (λ e. equal l)

  longest_by : (n : ℕ) (x : A) (ys : List A) (rs : List (Repeat A)) → 1 ≤ n → n ≤ limit → NoLongerFirst rs (joined same limit ys) →
      NoLongerFirst (repeat n x ∷ rs) (joined same limit (replicate n x ++ ys))
  unfolding joined
  longest_by zero x ys rs h k l = absurd (omega arith)
  longest_by (suc j) x ys rs h k l =
      let e : 1 + j ≡ suc j = omega arith in
      rw (gather j x 1 ys (omega arith), e) (first_longest ys x (suc j) rs l)

  pub longest_first : (rs : List (Repeat A)) → Fit limit rs → NoLongerFirst rs (joined same limit (expand rs))
  unfolding expand joined
  longest_first [] f = ended
  longest_first (r ∷ rs) (more a b f) = longest_by r.times r.element (expand rs) rs a b (longest_first rs f)

  -- ---- equal elements past the limit: a full repeat, then the rest

  full_by : (n : ℕ) (x y : A) (ys : List A) → 1 ≤ n → n ≡ limit →
      joined same limit (replicate n x ++ (y ∷ ys)) ≡ repeat n x ∷ joined same limit (y ∷ ys)
  unfolding joined joined_from
  full_by zero x y ys h e = absurd (omega arith)
  full_by (suc j) x y ys h e =
      let k : 1 + j ≡ suc j = omega arith in
      rw (gather j x 1 (y ∷ ys) (omega arith), k, le-ltb (suc j) limit (omega arith))
      (pick_elim (λ (rs : List (Repeat A)). rs ≡ repeat (suc j) x ∷ joined_from same limit y 1 ys) (same x y && false)
      (λ f. absurd (false≢true (and_parts (same x y) false f).1))
      (λ f. refl))

  pub full_first : (n : ℕ) (x : A) → 1 ≤ limit → 1 ≤ n →
      joined same limit (replicate (limit + n) x) ≡ repeat limit x ∷ joined same limit (replicate n x)
  full_first zero x h k = absurd (omega arith)
  full_first (suc n) x h k =
      ap (joined same limit) (sym (replicate-append-replicate limit (suc n) x)) ∙ full_by limit x x (replicate n x) h refl

  pub one_repeat : (n : ℕ) (x : A) → 1 ≤ n → n ≤ limit → joined same limit (replicate n x) ≡ repeat n x ∷ []
  unfolding joined joined_from
  one_repeat zero x h k = absurd (omega arith)
  one_repeat (suc j) x h k =
      let e : 1 + j ≡ suc j = omega arith in
      ap (joined_from same limit x 1) (sym (append-nil (replicate j x))) ∙ gather j x 1 [] (omega arith) ∙ rw e
