-- A tick without a rise of an input and then k is k + 1, and a tick and then none is the tick: of a phase, of the rises that a selection value
-- gives, of all phases and of the raw counts.
use Prim.Native.Nat.{ℕ, suc, ◌+◌, ◌-◌, ◌*◌, ◌/◌, ◌%◌, ◌≤◌, ◌<◌}
use native.Mathlib.Nat.{le_trans, mul-le-mul_left, suc-mul}
use native.Mathlib.Omega.{arith}
use mathlib.Core.Bool.{Bool, true, false, not}
use mathlib.Core.List.{List}
use mathlib.Core.Path.{◌≡◌, ◌∙◌}
use borrow.Author.Tests.{le-leb, le-ltb, leb-false, leb-true, lt-leb, lt-ltb, ltb-false, ltb-true, not-true}
use lib.Dec.{leb, ltb}
use lib.ListN.{get_or, length}
use Rattle.std.specs.Bool.{MatchBool}
use Rattle.std.specs.List.{AllWithin, HoldsAt}
use Rattle.words.specs.Word.{bit, bit_of}
use Rattle.words.proofs.Packing.{bit_pack}
use Rattle.bools.proofs.Tests.{cases}
use Rattle.std.proofs.Math.Bool.{and-not_self}
use Rattle.lists.specs.Table.{any}
use Rattle.lists.proofs.Tables.{all_answer, any_each, each_stays, each_then, get_or_each}
use Rattle.lines.specs.Leap.{leap_phases, low_phases, phase_after, phase_total, rises_in}
use Rattle.lines.specs.Lines.{frequencies, frequency, phase_limit, phase_step, phase_sum, rise_of, rises_of, step_phases, test_rise}
use Rattle.lines.specs.RawCounts.{count_rises}
use Rattle.lines.proofs.RiseWord.{at_most_total, frequency_le}

-- ---- one test signal

-- fewer than 2^32 ticks add at most so much
pub product : (k j : ℕ) → k < 4294967296 → k * frequency j ≤ 4294967295 * 71999
product k j h = le_trans (mul-le-mul_left k (at_most_total frequencies j)) (omega arith)

phase_low : (j p : ℕ) → p < phase_limit → phase_step j p < phase_limit
phase_low j p h =
    cases (leb phase_limit (phase_sum j p))
    (λ e. rw e (omega (arith, frequency_le j, leb-true phase_limit (phase_sum j p) e)))
    (λ e. rw e (leb-false phase_limit (phase_sum j p) e))

-- what a tick and then k ticks add up to, less what the tick took off
phase_sum_lem : (k j p : ℕ) → phase_total k j (phase_step j p) + bit_of (leb phase_limit (phase_sum j p)) * phase_limit ≡ phase_total (suc k) j p
phase_sum_lem k j p =
    cases (leb phase_limit (phase_sum j p))
    (λ e. rw e (omega (arith, leb-true phase_limit (phase_sum j p) e, suc-mul k (frequency j))))
    (λ e. rw e (omega (arith, suc-mul k (frequency j))))

less_div : (x b y : ℕ) → x + b * 125000 ≡ y → b + x / 125000 ≡ y / 125000
less_div x b y e = omega arith

less_mod : (x b y : ℕ) → x + b * 125000 ≡ y → x % 125000 ≡ y % 125000
less_mod x b y e = omega arith

phase_more : (k j p : ℕ) → phase_after k j (phase_step j p) ≡ phase_after (suc k) j p
unfolding phase_after
phase_more k j p = less_mod _ (bit_of (leb phase_limit (phase_sum j p))) _ (phase_sum_lem k j p)

rises_more : (k j p : ℕ) →
    bit_of (leb phase_limit (phase_sum j p)) + phase_total k j (phase_step j p) / phase_limit ≡ phase_total (suc k) j p / phase_limit
rises_more k j p = less_div _ (bit_of (leb phase_limit (phase_sum j p))) _ (phase_sum_lem k j p)

phase_none : (j p : ℕ) → p < phase_limit → phase_after 0 j p ≡ p
unfolding phase_after
phase_none j p h = omega arith

none_rise : (j p : ℕ) → p < phase_limit → phase_total 0 j p / phase_limit ≡ 0
none_rise j p h = omega arith

-- ---- all phases

-- each of the nine phases is below 125,000
pub record Low (phases : List ℕ) : Type 0 where
  pub at : (j : ℕ) → j < 9 → get_or phases j 0 < phase_limit

pub low_is : (phases : List ℕ) → low_phases phases ≡ true → Low phases
unfolding low_phases
low_is phases e =
    let none = not-true (any 9 (λ j. leb phase_limit (get_or phases j 0))) e in
    record { at = λ j h. leb-false phase_limit (get_or phases j 0) (any_each 9 _ j none h) }

pub low_kept : (phases : List ℕ) → Low phases → Low (step_phases phases)
unfolding step_phases
low_kept phases low = record { at = λ j h. rw (get_or_each 9 0 phase_step phases j h) (phase_low j (get_or phases j 0) (low.at j h)) }

pub phases_more : (n : ℕ) (phases : List ℕ) → leap_phases n (step_phases phases) ≡ leap_phases (suc n) phases
unfolding leap_phases step_phases
phases_more n phases = each_then 9 0 _ _ _ phases (λ j h. phase_more n j (get_or phases j 0))

pub phases_none : (phases : List ℕ) → Low phases → leap_phases 0 (step_phases phases) ≡ step_phases phases
unfolding leap_phases step_phases
phases_none phases low = each_then 9 0 _ _ _ phases (λ j h. phase_none j _ (phase_low j (get_or phases j 0) (low.at j h)))

-- ---- the rises of a tick at the levels of the last one

module _ (inputs : ℕ) (phases : List ℕ) where
  rise_at : (u : ℕ) → u < 64 → bit (rises_of inputs inputs phases) u ≡ rise_of inputs inputs phases u
  unfolding rises_of
  rise_at u h = bit_pack 64 _ u h

  pub no_input : (u : ℕ) → u < 54 → bit (rises_of inputs inputs phases) u ≡ false
  unfolding rise_of
  no_input u h = rise_at u (omega arith) ∙ rw (lt-ltb u 54 h) (and-not_self (bit inputs u))

  no_ground : (u : ℕ) → u < 55 → bit (rises_of inputs inputs phases) u ≡ false
  unfolding rise_of
  no_ground u h =
      cases (ltb u 54) (λ e. no_input u (ltb-true u 54 e))
      (λ e. rise_at u (omega arith) ∙ rw (e, lt-leb 55 u h))

  test_at : (u : ℕ) → 55 ≤ u → u < 64 → bit (rises_of inputs inputs phases) u ≡ test_rise phases (u - 55)
  unfolding rise_of
  test_at u l h = rise_at u h ∙ rw (le-ltb u 54 (omega arith), le-leb 55 u l)

  pub rises_next : (k u : ℕ) → u < 64 → bit_of (bit (rises_of inputs inputs phases) u) + rises_in k (step_phases phases) u ≡ rises_in (suc k) phases u
  unfolding rises_in step_phases
  rises_next k u h =
      cases (ltb u 55)
      (λ e. rw (e, no_ground u (ltb-true u 55 e)))
      (λ e.
      let l : 55 ≤ u = ltb-false u 55 e in
      let j : u - 55 < 9 = omega arith in
      rw (e, test_at u l h, get_or_each 9 0 phase_step phases (u - 55) j) (rises_more k (u - 55) (get_or phases (u - 55) 0)))

  pub raw_stays : (raw : List ℕ) → length raw ≡ 54 → count_rises (rises_of inputs inputs phases) raw ≡ raw
  unfolding count_rises
  raw_stays raw size = each_stays 54 0 _ raw size (λ i h. rw (no_input i h))

pub rises_none : (phases : List ℕ) → Low phases → (u : ℕ) → u < 64 → rises_in 0 phases u ≡ 0
unfolding rises_in
rises_none phases low u h =
    cases (ltb u 55) (λ e. rw e)
    (λ e. rw e (none_rise (u - 55) (get_or phases (u - 55) 0) (low.at (u - 55) (omega (arith, ltb-false u 55 e)))))

-- what std's `all` answers of the phases
pub low_all : (phases : List ℕ) (r : Bool) → length phases ≡ 9 →
    MatchBool r (AllWithin (λ p. ltb p 125000 ≡ true) phases 0 (length phases)) ((k : ℕ) × (k < length phases) × HoldsAt (λ p. ltb p 125000 ≡ false) phases k) →
    r ≡ low_phases phases
unfolding low_phases
low_all phases r size m =
    all_answer 0 phases 9 size (λ p. ltb p 125000) _ r (λ i h. turned (get_or phases i 0)) m
  where
    turned : (p : ℕ) → leb phase_limit p ≡ not (ltb p 125000)
    turned p =
        cases (ltb p 125000)
        (λ e. rw (e, lt-leb phase_limit p (ltb-true p 125000 e)))
        (λ e. rw (e, le-leb phase_limit p (ltb-false p 125000 e)))
