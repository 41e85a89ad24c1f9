-- The lists of the crate and its memory have the lengths that they have at power-up, and every call keeps them.
use Prim.Native.Nat.{ℕ, ◌<◌}
use native.Mathlib.Omega.{arith}
use mathlib.Core.List.{List, []}
use mathlib.Core.Path.{◌≡◌, ap, ◌∙◌}
use lib.ListN.{get_or, length, length-set}
use Rattle.std.proofs.lemmas.Grind.{common_steps}
use Rattle.std.proofs.Common.{Option}
use Rattle.bools.proofs.Tests.{both}
use Rattle.lists.specs.Table.{tabulate}
use Rattle.lists.proofs.Tables.{get_d_tabulate, length_each, length_tabulate}
use Rattle.counters.specs.declared.counter.Counter.{Counter}
use Rattle.counters.specs.Counter.{clear_counters, counter0, reset_on, tick_counters}
use Rattle.gates.proofs.Gates.{length_each_gate}
use Rattle.loader.specs.declared.loader.Reload.{Reload as Reloading}
use Rattle.loader.specs.Loader.{load_into}
use Rattle.watchdogs.specs.Watchdog.{reset_watchdogs, step_watchdogs}
use Rattle.device.specs.declared.map.Register.TheVariants.{Setting}
use Rattle.device.specs.declared.map.SettingWord.TheVariants.{Selection}
use Rattle.device.specs.Map.{kept}
use Rattle.device.specs.State.{Machine, memory0, power_up}
use Rattle.registers.specs.Calls.{Call, after, machine0, step}
use Rattle.registers.proofs.Keeping.{Any, Change, Keeps, after_keeps, changed, step_keeps, written}
use Rattle.registers.proofs.Whole.{WholeMemory, length_replaced}
use Rattle.ticking.specs.Tick.{tick_of}
use Rattle.writing.specs.Write.{gates_write, reset_by, settings_write, with_selected, write_at}
use Rattle.loader.specs.Memory.{memory_words}

pub record Sized (m : Machine) : Type 0 where
  pub counters : length m.state.counters ≡ 128
  pub groups : length m.state.groups ≡ 32
  pub gates : length m.state.gates ≡ 12
  pub watchdogs : length m.state.watchdogs ≡ 54
  pub masks : length m.state.settings.masks ≡ 6
  pub selections : length m.state.settings.selections ≡ 6
  pub blocks : (o : ℕ) → o < 6 → length (get_or m.state.settings.selections o []) ≡ 22
  pub memory : WholeMemory m.memory

length_load : (l : Option Reloading) (groups memory : List ℕ) (xs : List Counter) → length xs ≡ 128 → length (load_into l groups memory xs) ≡ 128
unfolding load_into
length_load l groups memory xs p = grind (arith, common_steps)

length_ticked : (control rises was is : ℕ) (xs : List Counter) → length (tick_counters control rises was is xs) ≡ 128
unfolding tick_counters
length_ticked control rises was is xs = length_each 128 counter0 _ xs

length_cleared : (xs : List Counter) → length (clear_counters xs) ≡ 128
unfolding clear_counters
length_cleared xs = length_each 128 counter0 _ xs

length_reset : (w : ℕ) (xs : List Counter) → length xs ≡ 128 → length (reset_by w xs) ≡ 128
unfolding reset_by
length_reset w xs p = both (λ (x : List Counter). length x ≡ 128) (reset_on w) (length_cleared xs) p

selections_written : (xss : List (List ℕ)) (o k w : ℕ) → length xss ≡ 6 → length (with_selected xss o k w) ≡ 6
selections_written xss o k w size = length-set xss o _ ∙ size

blocks_written : (xss : List (List ℕ)) (o k w : ℕ) → length xss ≡ 6 → ((p : ℕ) → p < 6 → length (get_or xss p []) ≡ 22) →
    (p : ℕ) → p < 6 → length (get_or (with_selected xss o k w) p []) ≡ 22
blocks_written xss o k w size h p l = grind (arith, common_steps, length-set)

sized_changed : (m : Machine) → Sized m → (x : Change) → Sized (changed m x)
unfolding write_at settings_write gates_write reset_watchdogs
sized_changed m s (written (Setting (Selection o k)) w) =
    assumption (selections_written m.state.settings.selections o k (kept (Setting (Selection o k)) w) s.selections, blocks_written m.state.settings.selections o k (kept (Setting (Selection o k)) w) s.selections s.blocks)
sized_changed m s x = grind (arith, length_reset, length_cleared, length_each, length_each_gate, length-set)

sized_keeps : Keeps Any Sized
unfolding tick_of step_watchdogs
sized_keeps = record {
  change = sized_changed;
  tick = λ m s inputs gates c e. grind (arith, length_load, length_ticked, length_each, length_each_gate);
  download = λ m s d words c e. assumption (length_replaced m.memory d words s.memory e);
}

pub sized_start : Sized machine0
unfolding power_up memory0
sized_start = record {
  counters = length_tabulate 128 _;
  groups = length_tabulate 32 _;
  gates = length_tabulate 12 _;
  watchdogs = length_tabulate 54 _;
  masks = length_tabulate 6 _;
  selections = length_tabulate 6 _;
  blocks = λ o h. ap length (get_d_tabulate 6 (λ o. tabulate 22 (λ k. 0)) o [] h) ∙ length_tabulate 22 _;
  memory = length_tabulate memory_words _;
}

pub sized_step : (m : Machine) → Sized m → (x : Call) → Sized (step m x)
sized_step m s x = step_keeps sized_keeps m s x tt

pub sized_after : (l : List Call) → Sized (after l)
sized_after = after_keeps sized_keeps sized_start

-- the memory has all its words after every list
pub full_after : (l : List Call) → WholeMemory (after l).memory
full_after l = (sized_after l).memory
