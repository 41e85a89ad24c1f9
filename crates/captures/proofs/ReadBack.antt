-- The reader of traces finds in what is written the repeats that were written, and in no trace a repeat that does not fit two bytes.
use Prim.Native.Nat.{ℕ, zero, suc, ◌+◌, ◌-◌, ◌≤◌, ◌<◌}
use native.Mathlib.Nat.{not-suc-le-zero}
use native.Mathlib.Omega.{arith}
use mathlib.Core.List.{List, [], ◌∷◌, ◌++◌, append_assoc, append-nil}
use mathlib.Core.Option.{Option, some, none, some-injective, none-ne-some}
use mathlib.Core.Path.{◌≡◌, refl, sym, subst, ◌∙◌}
use borrow.Author.Tests.{eqb-false}
use lib.Dec.{eqb, ltb}
use lib.ListN.{length, get_or, length-append}
use Rattle.std.proofs.Common.{Some, None, Ok, Err}
use Rattle.bools.proofs.Tests.{pick_elim}
use Rattle.records.specs.declared.Record.TheVariants.{Ticks, Write, Tag}
use Rattle.records.specs.Records.{Found, header_bytes, is_known, length_at, next_at, number_at, payload_at, payload_bytes, record_at, repeat_bytes, tag_at, ticks_at}
use Rattle.captures.specs.ReadBack.{before, repeats_by, repeats_from, repeats_in}
use Rattle.captures.specs.Repeats.{Fit, none as fit_none, more, Repeat}
use Rattle.captures.specs.Written.{Frame, largest_repeat, record_bytes, written}
use Rattle.captures.proofs.Levels.{Good, good_none, good_more}
use Rattle.captures.proofs.Written.{end_read, length_record, length_written, next_read_at, record_read_at}

-- ---- what is written is read back

read_from : (rs : List (Repeat Frame)) → Good rs → (fuel : ℕ) (p : List ℕ) → length rs < fuel →
    repeats_from fuel (p ++ written rs) (length p) ≡ some rs
unfolding written repeats_from repeats_by before
read_from rs good zero p f = absurd (not-suc-le-zero f)
read_from [] good_none (suc fuel) p f = rw (append-nil, end_read p)
read_from (r ∷ rs) (good_more narrow level good) (suc fuel) p f =
    let t : List ℕ = p ++ (record_bytes r ++ written rs) in
    let s : (p ++ record_bytes r) ++ written rs ≡ t = append_assoc p (record_bytes r) (written rs) in
    let l : next_at t (length p) ≡ length (p ++ record_bytes r) =
    next_read_at p r (written rs) ∙ sym (length-append p (record_bytes r) ∙ rw length_record) in
    let i : repeats_from fuel t (length (p ++ record_bytes r)) ≡ some rs =
    subst (λ (u : List ℕ). repeats_from fuel u (length (p ++ record_bytes r)) ≡ some rs) s (read_from rs good fuel (p ++ record_bytes r) (omega arith)) in
    rw (record_read_at p r narrow (written rs), l, i)

pub written_read : (rs : List (Repeat Frame)) → Good rs → repeats_in (written rs) ≡ some rs
unfolding repeats_in
written_read rs good = read_from rs good (length (written rs) + 1) [] (omega (arith, length_written rs))

-- ---- every repeat that is read fits two bytes

-- the repeat of a tick record
unfoldable times_in : Found → ℕ
times_in (Err cause) = 1
times_in (Ok None) = 1
times_in (Ok (Some (Ticks n levels))) = n
times_in (Ok (Some (Write a w))) = 1
times_in (Ok (Some (Tag e))) = 1

abbrev Fits : Found → Type 0
Fits x = (1 ≤ times_in x) × (times_in x ≤ largest_repeat)

module _ (t : List ℕ) (bytes : (i : ℕ) → get_or t i 0 < 256) where
  ticks_fit : (at : ℕ) → Fits (ticks_at repeat_bytes t at)
  unfolding ticks_at times_in number_at
  ticks_fit at =
      let n = number_at t at repeat_bytes in
      pick_elim Fits (eqb n 0) (λ e. (omega arith, omega arith))
      (λ e. (omega (arith, eqb-false n 0 e), omega (arith, bytes (at + 0), bytes (at + 1))))

  payload_fits : (tag at : ℕ) → Fits (payload_at tag t at)
  unfolding payload_at times_in
  payload_fits tag at =
      pick_elim Fits (eqb tag 1) (λ e. ticks_fit at)
      (λ e. pick_elim Fits (eqb tag 2) (λ f. (omega arith, omega arith)) (λ f. (omega arith, omega arith)))

  record_fits : (at : ℕ) → Fits (record_at t at)
  unfolding record_at times_in
  record_fits at =
      let left : ℕ = length t - at in
      let tag : ℕ = tag_at t at in
      pick_elim Fits (eqb left 0) (λ e. one)
      (λ e.
      pick_elim Fits (ltb left header_bytes) (λ f. one)
      (λ f.
      pick_elim Fits (is_known tag)
      (λ g.
      pick_elim Fits (eqb (length_at t at) (payload_bytes tag))
      (λ h. pick_elim Fits (ltb left (header_bytes + length_at t at)) (λ k. one) (λ k. payload_fits tag (at + header_bytes)))
      (λ h. one))
      (λ g. one)))
    where
      one : (1 ≤ 1) × (1 ≤ largest_repeat)
      one = (omega arith, omega arith)

  fit_by : (x : Found) → Fits x → (rest : Option (List (Repeat Frame))) → ((qs : List (Repeat Frame)) → rest ≡ some qs → Fit largest_repeat qs) →
      (rs : List (Repeat Frame)) → repeats_by x rest ≡ some rs → Fit largest_repeat rs
  unfolding repeats_by before times_in
  fit_by (Err cause) h rest f rs e = absurd (none-ne-some _ e)
  fit_by (Ok None) h rest f rs e = subst (Fit largest_repeat) (some-injective _ _ e) fit_none
  fit_by (Ok (Some (Ticks n levels))) h none f rs e = absurd (none-ne-some _ e)
  fit_by (Ok (Some (Ticks n levels))) h (some qs) f rs e = subst (Fit largest_repeat) (some-injective _ _ e) (more h.0 h.1 (f qs refl))
  fit_by (Ok (Some (Write a w))) h rest f rs e = absurd (none-ne-some _ e)
  fit_by (Ok (Some (Tag tag))) h rest f rs e = absurd (none-ne-some _ e)

  pub read_fits : (fuel at : ℕ) (rs : List (Repeat Frame)) → repeats_from fuel t at ≡ some rs → Fit largest_repeat rs
  unfolding repeats_from
  read_fits zero at rs e = absurd (none-ne-some _ e)
  read_fits (suc fuel) at rs e = fit_by (record_at t at) (record_fits at) (repeats_from fuel t (next_at t at)) (read_fits fuel (next_at t at)) rs e
