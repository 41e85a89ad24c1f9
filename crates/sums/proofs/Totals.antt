-- Laws of numbers added up, and of the last ones of a list.
use Rattle.std.proofs.Common.{◌≡◌, ℕ, zero, suc, ◌+◌, ◌-◌, ◌*◌, ◌<◌, ◌≤◌, leb, List, [], ◌∷◌, ◌++◌, length, drop, replicate, ℤ, pos, ◌+ℤ◌, sym, refl, ap, ◌∙◌, append_assoc, append-nil, arith, length-append, length-drop, drop-drop, leb-false, leb-true}
use lib.IntN.{+ℤ_assoc, +ℤ_idl}
use lib.ListN.{length-replicate}
use lib.Seq.{drop-append-add, drop-append-le}
use lib.Signed.{mag}
use Rattle.bools.proofs.Tests.{cases}
use Rattle.sums.specs.Fresh.{Samples, fresh_sum, last_of, total}
use Rattle.sums.specs.Fresh.Samples.{none, more}

pub total_append : (xs ys : List ℤ) → total (xs ++ ys) ≡ total xs +ℤ total ys
unfolding total
total_append [] ys = sym (+ℤ_idl (total ys))
total_append (x ∷ xs) ys = ap (λ (z : ℤ). x +ℤ z) (total_append xs ys) ∙ sym (+ℤ_assoc x (total xs) (total ys))

-- ---- how large a sum of 32-bit samples is

mag_add : (a b : ℤ) → mag (a +ℤ b) ≤ mag a + mag b + 1
mag_add a b = grind arith

pub total_mag : (xs : List ℤ) → Samples xs → mag (total xs) ≤ length xs * 2147483648
unfolding total
total_mag [] none = omega arith
total_mag (x ∷ xs) (more h s) = omega (arith, mag_add x (total xs), total_mag xs s)

-- ---- the last ones, with zeros before the first

unfoldable pub padded : ℕ → List ℤ → List ℤ
padded n xs = drop (length xs) (replicate n (pos 0) ++ xs)

total_zeros : (i n : ℕ) → total (drop i (replicate n (pos 0))) ≡ pos 0
unfolding total
total_zeros zero zero = refl
total_zeros (suc i) zero = refl
total_zeros zero (suc n) = +ℤ_idl _ ∙ total_zeros zero n
total_zeros (suc i) (suc n) = total_zeros i n

pub padded_total : (n : ℕ) (xs : List ℤ) → total (padded n xs) ≡ fresh_sum n xs
unfolding padded fresh_sum last_of
padded_total n xs =
    cases (leb (length xs) n)
    (λ e.
    let h = leb-true (length xs) n e in
    let z : length xs - n ≡ 0 = omega arith in
    ap total (drop-append-le (length xs) (replicate n (pos 0)) xs (rw (length-replicate n (pos 0)) h))
    ∙ total_append (drop (length xs) (replicate n (pos 0))) xs ∙ rw (total_zeros (length xs) n, z) (+ℤ_idl (total xs)))
    (λ e.
    let h = leb-false (length xs) n e in
    let i : length xs ≡ length (replicate n (pos 0)) + (length xs - n) = rw (length-replicate n (pos 0)) (omega arith) in
    ap total (ap (λ (k : ℕ). drop k (replicate n (pos 0) ++ xs)) i ∙ drop-append-add (replicate n (pos 0)) xs (length xs - n)))

pub padded_length : (n : ℕ) (xs : List ℤ) → length (padded n xs) ≡ n
unfolding padded
padded_length n xs = simp (length-drop, length-append, length-replicate) (omega arith)

-- one more: the first goes, the new one comes last
pub padded_more : (n : ℕ) (xs : List ℤ) (x : ℤ) → 0 < n → padded n (xs ++ (x ∷ [])) ≡ drop 1 (padded n xs) ++ (x ∷ [])
unfolding padded
padded_more n xs x h =
    let zs = replicate n (pos 0) in
    let i : length (xs ++ (x ∷ [])) ≡ length xs + 1 = length-append xs (x ∷ []) in
    let l : length xs + 1 ≤ length (zs ++ xs) = rw (length-append zs xs, length-replicate n (pos 0)) (omega arith) in
    rw (i, ← append_assoc zs xs (x ∷ []), drop-append-le (length xs + 1) (zs ++ xs) (x ∷ []) l, drop-drop 1 (length xs) (zs ++ xs))

samples_append : (xs ys : List ℤ) → Samples xs → Samples ys → Samples (xs ++ ys)
samples_append [] ys none s = s
samples_append (x ∷ xs) ys (more h r) s = more h (samples_append xs ys r s)

samples_drop : (n : ℕ) (xs : List ℤ) → Samples xs → Samples (drop n xs)
samples_drop zero xs s = s
samples_drop (suc n) [] s = none
samples_drop (suc n) (x ∷ xs) (more h s) = samples_drop n xs s

zero_samples : (n : ℕ) → Samples (replicate n (pos 0))
zero_samples zero = none
zero_samples (suc n) = more {x = pos 0} (omega arith) (zero_samples n)

-- a sum over at most 65,536 samples does not wrap
pub fresh_fits : (n : ℕ) (xs : List ℤ) → n ≤ 65536 → Samples xs → mag (total (padded n xs)) < 9223372036854775808
unfolding padded
fresh_fits n xs h s =
    omega (
      arith,
      padded_length n xs,
      total_mag (padded n xs) (samples_drop (length xs) _ (samples_append (replicate n (pos 0)) xs (zero_samples n) s)),
    )

pub padded_none : (n : ℕ) → total (padded n []) ≡ pos 0
unfolding padded
padded_none n = rw (append-nil (replicate n (pos 0))) (total_zeros zero n)
