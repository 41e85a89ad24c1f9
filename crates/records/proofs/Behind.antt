-- What stands at an offset of a trace stands at the front of the bytes from there on.
use Prim.Native.Nat.{ℕ, zero, suc, ◌+◌, ◌-◌, ◌*◌, ◌≤◌}
use native.Mathlib.Nat.{add_assoc, add-zero, zero-add}
use native.Mathlib.Omega.{arith}
use mathlib.Core.Bool.{true}
use mathlib.Core.List.{List}
use mathlib.Core.Path.{◌≡◌, refl, ◌∙◌}
use borrow.Author.Tests.{eqb-true, ne_eqb, le-ltb}
use lib.Dec.{eqb, ltb}
use lib.ListN.{drop, get_or, length, take}
use Rattle.std.proofs.Common.{Err}
use Rattle.std.proofs.lemmas.List.{get_or-drop, length-drop, take_rest}
use Rattle.std.proofs.lemmas.Bool.Decides.{nat_tests}
use Rattle.bools.specs.Pick.{pick}
use Rattle.bools.proofs.Tests.{cases}
use Rattle.causes.specs.declared.Cause.TheVariants.{WrongLength}
use Rattle.records.specs.declared.kind.Kind.{Kind}
use Rattle.records.specs.declared.kind.Kind.TheVariants.{Ticks, Write, Tag}
use Rattle.records.specs.Kinds.{payload_read, kind_tag}
use Rattle.records.specs.Records.{is_known, length_at, number_at, levels_at, payload_at, payload_bytes, record_at, ticks_at}

module _ (t : List ℕ) (at : ℕ) where
  pub number_behind : (i n : ℕ) → number_at (drop at t) i n ≡ number_at t (at + i) n
  unfolding number_at
  number_behind i zero = refl
  number_behind i (suc n) = rw (number_behind i n, get_or-drop at t (i + n) 0, add_assoc at i n)

  pub payload_behind : (tag i : ℕ) → payload_at tag (drop at t) i ≡ payload_at tag t (at + i)
  unfolding payload_at ticks_at levels_at
  payload_behind tag i = simp (add_assoc, number_behind)

  pub record_behind : record_at (drop at t) 0 ≡ record_at t at
  unfolding record_at
  record_behind =
      let l : length (drop at t) - 0 ≡ length t - at = rw (length-drop at t) (omega arith) in
      rw (l, get_or-drop at t 0 0, add-zero at) (simp (number_behind, payload_behind, zero-add))

known : (kind : Kind) → is_known (kind_tag kind) ≡ true
known Ticks = refl
known Write = refl
known Tag = refl

-- a payload is cut where the record is
cut : (l n : ℕ) → 3 ≤ l → ltb (l - 3) n ≡ ltb (l - 0) (3 + n)
cut l n h = grind (arith, nat_tests)

-- behind a whole header of a known kind its length is looked at, and then the payload is read
header_first : (kind : Kind) (t : List ℕ) → 3 ≤ length t → get_or t 0 0 ≡ kind_tag kind →
    pick (eqb (get_or t 1 0 * 256 + get_or t 2 0) (payload_bytes (kind_tag kind))) (payload_read kind (take (length t - 3) (drop 3 t))) (Err WrongLength) ≡ record_at t 0
unfolding record_at number_at
header_first kind t h e =
    let size : ℕ = get_or t 1 0 * 256 + get_or t 2 0 in
    let z : length_at t 0 ≡ size = omega arith in
    rw (e, z, take_rest t 3, length-drop 3 t, payload_behind t 3 (kind_tag kind) 0, known kind, ne_eqb (length t - 0) 0 (λ z. omega (arith, z)), le-ltb (length t - 0) 3 (omega arith))
    (cases (eqb size (payload_bytes (kind_tag kind)))
    (λ y. rw (y, eqb-true _ _ y, cut (length t) (payload_bytes (kind_tag kind)) h))
    (λ n. rw n))

pub header_read : (kind : Kind) (t : List ℕ) (at : ℕ) {rest : List ℕ} → rest ≡ take (length t - at) (drop at t) → 3 ≤ length rest → get_or rest 0 0 ≡ kind_tag kind →
    pick (eqb (get_or rest 1 0 * 256 + get_or rest 2 0) (payload_bytes (kind_tag kind))) (payload_read kind (take (length rest - 3) (drop 3 rest))) (Err WrongLength) ≡ record_at t at
header_read kind t at {rest} r h e = header_first kind rest h e ∙ rw (r, take_rest t at) (record_behind t at)
