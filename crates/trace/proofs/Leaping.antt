-- So many ticks at the same levels: in parts, and a quiet stretch at once.
use Prim.Native.Nat.{ℕ, zero, suc, ◌-◌, ◌≤◌, ◌<◌}
use native.Mathlib.Omega.{arith}
use mathlib.Core.Bool.{true, false}
use mathlib.Core.List.{List}
use mathlib.Core.Path.{◌≡◌, refl, sym, ap, ◌∙◌}
use Rattle.device.specs.declared.state.Crate.{Crate}
use Rattle.registers.proofs.Whole.{WholeMemory, is_whole_lem}
use Rattle.registers.specs.Calls.{Call, tick, called, from, step}
use Rattle.device.specs.State.{Machine, machine}
use Rattle.ticking.specs.Tick.{tick_of}
use Rattle.lines.specs.Lines.{bad_levels}
use Rattle.leaps.specs.Leap.{Formed, leap_of, quiet, stretch_of, ticks_of}
use Rattle.leaps.proofs.Theorems.{leap_is, stretch_le, stretch_quiet}
use Rattle.trace.specs.Leaping.{SameEnd}
use Rattle.trace.specs.Run.{repeated}
use Rattle.trace.proofs.Steps.{calls_less, calls_none}

-- k calls, and then the others
calls_split : (k n : ℕ) (m : Machine) (x : Call) → k ≤ n → from (from m (repeated k x)) (repeated (n - k) x) ≡ from m (repeated n x)
calls_split zero n m x h =
    let e : n - 0 ≡ n = omega arith in rw (calls_none m x, e)
calls_split (suc k) n m x h =
    let e : n - suc k ≡ n - 1 - k = omega arith in
    let d : suc k - 1 ≡ k = omega arith in
    rw (← (calls_less (suc k) m x (omega arith)), d, e) (calls_split k (n - 1) (step m x) x (omega arith) ∙ calls_less n m x (omega arith))

module _ (memory : List ℕ) (inputs gates : ℕ) (whole : WholeMemory memory) (good : bad_levels inputs gates ≡ false) where
  tick_made : (s : Crate) → step (machine s memory) (tick inputs gates) ≡ machine (tick_of s memory inputs gates) memory
  unfolding step called
  tick_made s = rw (is_whole_lem memory whole, good)

  ticks_from : (k : ℕ) (s : Crate) → from (machine s memory) (repeated k (tick inputs gates)) ≡ machine (ticks_of k s memory inputs gates) memory
  unfolding ticks_of
  ticks_from zero s = calls_none (machine s memory) (tick inputs gates)
  ticks_from (suc k) s =
      let d : suc k - 1 ≡ k = omega arith in
      sym (calls_less (suc k) (machine s memory) (tick inputs gates) (omega arith))
      ∙ rw (d, tick_made s) (ticks_from k (tick_of s memory inputs gates))

  -- a quiet stretch is one leap
  leap_from : (k : ℕ) (s : Crate) → 0 < k → quiet k s inputs gates ≡ true → Formed s →
      machine (leap_of k s gates) memory ≡ from (machine s memory) (repeated k (tick inputs gates))
  leap_from k s h q f = ap (λ (x : Crate). machine x memory) (sym (leap_is k s memory inputs gates h q f)) ∙ sym (ticks_from k s)

-- nothing done yet
pub same_end : (inputs gates : ℕ) (s : Crate) (n : ℕ) → SameEnd inputs gates s n s n
same_end inputs gates s n = record { same = λ memory whole good. refl }

-- the stretch at once, and the other ticks
pub leapt_end : (inputs gates : ℕ) (s : Crate) (left k : ℕ) → k ≡ stretch_of s left inputs gates → 0 < k → Formed s →
    SameEnd inputs gates s left (leap_of k s gates) (left - k)
leapt_end inputs gates s left k e some form = record {
  same = λ memory whole good.
      let q : quiet k s inputs gates ≡ true = rw e (stretch_quiet s left inputs gates (λ z. absurd (omega (arith, e ∙ z)))) in
      let le : k ≤ left = rw e (stretch_le s left inputs gates) in
      rw (leap_from memory inputs gates whole good k s some q form) (calls_split k left (machine s memory) (tick inputs gates) le);
}
