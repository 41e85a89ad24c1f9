-- Laws of lists of calls: what one list and then another leave, and the counts over them.
use Prim.Native.Nat.{ℕ, zero, suc, ◌+◌}
use native.Mathlib.Nat.{add_assoc, zero-add}
use native.Mathlib.Omega.{arith}
use mathlib.Core.Bool.{false}
use mathlib.Core.List.{List, [], ◌∷◌, ◌++◌}
use mathlib.Core.Path.{◌≡◌, refl, sym}
use Rattle.words.specs.Word.{bit_of}
use Rattle.lists.specs.Table.{table_from, tabulate}
use Rattle.registers.specs.Calls.{Call, tick, accepted_ticks, answer, call_answer, from, is_refused, refusals, step, tick_one}
use Rattle.device.specs.State.{Machine}
use Rattle.lines.specs.Lines.{bad_levels}
use Rattle.registers.proofs.Whole.{WholeMemory, full, is_whole_lem}

pub from_append : (m : Machine) (l k : List Call) → from m (l ++ k) ≡ from (from m l) k
unfolding from
from_append m [] k = refl
from_append m (x ∷ l) k = from_append (step m x) l k

pub ticks_append : (l k : List Call) → accepted_ticks (l ++ k) ≡ accepted_ticks l + accepted_ticks k
unfolding accepted_ticks
ticks_append [] k = sym (zero-add (accepted_ticks k))
ticks_append (x ∷ l) k = rw (ticks_append l k) (sym (add_assoc (tick_one x) (accepted_ticks l) (accepted_ticks k)))

pub refusals_append : (m : Machine) (l k : List Call) → refusals m (l ++ k) ≡ refusals m l + refusals (from m l) k
unfolding refusals from
refusals_append m [] k = sym (zero-add (refusals m k))
refusals_append m (x ∷ l) k =
    rw (refusals_append (step m x) l k) (sym (add_assoc (bit_of (is_refused m x)) (refusals (step m x) l) (refusals (from (step m x) l) k)))

-- a tick at levels of lines that exist is accepted, as often as it is repeated
module _ (inputs gates : ℕ) (good : bad_levels inputs gates ≡ false) where
  tick_accepted : (m : Machine) → WholeMemory m.memory → is_refused m (tick inputs gates) ≡ false
  unfolding answer call_answer
  tick_accepted m h = rw (is_whole_lem m.memory h, good)

  ticks_from : (i n : ℕ) → accepted_ticks (table_from i n (λ k. tick inputs gates)) ≡ n
  unfolding accepted_ticks table_from
  ticks_from i zero = refl
  ticks_from i (suc n) = rw (good, ticks_from (suc i) n) (omega arith)

  refusals_from : (i n : ℕ) (m : Machine) → WholeMemory m.memory → refusals m (table_from i n (λ k. tick inputs gates)) ≡ 0
  unfolding refusals table_from
  refusals_from i zero m h = refl
  refusals_from i (suc n) m h =
      rw (tick_accepted m h, refusals_from (suc i) n (step m (tick inputs gates)) (full m h (tick inputs gates)))

  pub ticks_repeated : (n : ℕ) → accepted_ticks (tabulate n (λ k. tick inputs gates)) ≡ n
  unfolding tabulate
  ticks_repeated n = ticks_from 0 n

  pub refusals_repeated : (n : ℕ) (m : Machine) → WholeMemory m.memory → refusals m (tabulate n (λ k. tick inputs gates)) ≡ 0
  unfolding tabulate
  refusals_repeated n m h = refusals_from 0 n m h
