-- Raw counts over lists from power-up: an accepted tick adds the rise of its input, and every other call leaves them.
use Prim.Native.Nat.{ℕ, ◌+◌, ◌/◌, ◌%◌, ◌^◌, ◌<◌}
use native.Mathlib.Nat.{add_assoc, add-zero, zero-add}
use native.Mathlib.Omega.{arith}
use mathlib.Core.Bool.{Bool, true, false}
use mathlib.Core.List.{List, [], ◌∷◌}
use mathlib.Core.Path.{◌≡◌, refl, sym, ap, ◌∙◌}
use borrow.Author.Tests.{lt-ltb}
use Rattle.std.proofs.lemmas.Bool.Decides.{nat_tests}
use Rattle.std.proofs.Common.{Ok, Some}
use Rattle.words.specs.Word.{bit, bit_of}
use Rattle.words.proofs.Packing.{bit_pack, bit_zero}
use Rattle.bools.proofs.Tests.{cases}
use Rattle.lists.proofs.Tables.{get_or_each, get_d_tabulate}
use Rattle.lines.specs.Lines.{bad_levels, input_rise, rise_of, rises_of}
use Rattle.lines.specs.RawCounts.{count_rises, raw_at, raw_step}
use Rattle.device.specs.declared.map.Register.TheVariants.{Readout}
use Rattle.device.specs.declared.map.ReadoutWord.TheVariants.{Raw}
use Rattle.device.specs.declared.state.Crate.{Crate}
use Rattle.registers.specs.Calls.{Call, tick, after, called, from, machine0, step}
use Rattle.device.specs.Map.{counter_map, decode_of}
use Rattle.reading.specs.Read.{low_first, read_of, readout_word, word_in}
use Rattle.device.specs.State.{Machine, power_up, with_state}
use Rattle.ticking.specs.Tick.{status_tick, tick_of}
use Rattle.writing.specs.Write.{write_at}
use Rattle.registers.proofs.Whole.{WholeMemory, full, read_whole, step_called}
use Rattle.sheet.specs.InputRises.{levels_of, raw_count, rises_in}
use Rattle.registers.proofs.Keeping.{Change, Keeps, Untimed, changed, step_keeps, timed, written}
use Rattle.sheet.proofs.Sizes.{full_after, sized_start}

-- ---- what leaves the raw counts, and the levels that the next rises are taken from

abbrev Left : Crate → Machine → Type 0
Left s m = (m.state.status.rawcounts ≡ s.status.rawcounts) × (m.state.levels ≡ s.levels)

left_changed : (s : Crate) (m : Machine) → Left s m → (x : Change) → Left s (changed m x)
unfolding write_at
left_changed s m h (written r w) = grind arith
left_changed s m h x = h

left_keeps : (s : Crate) → Keeps Untimed (Left s)
left_keeps s = record { change = left_changed s; tick = λ m h inputs gates c e. timed inputs gates c e; download = λ m h d words c e. h }

-- ---- one input

module _ (i : ℕ) (b : i < 54) where
  -- of the rises of a tick, test signals among them, bit i is the input's own
  rise_is : (before now : ℕ) (phases : List ℕ) → bit (rises_of before now phases) i ≡ input_rise before now i
  unfolding rises_of rise_of
  rise_is before now phases = bit_pack 64 _ i (omega arith) ∙ rw (lt-ltb i 54 b)

  raw_ticked : (s : Crate) (memory : List ℕ) (inputs gates : ℕ) →
      raw_at (tick_of s memory inputs gates).status.rawcounts i ≡ raw_step (input_rise s.levels inputs i) (raw_at s.status.rawcounts i)
  unfolding tick_of status_tick count_rises
  raw_ticked s memory inputs gates =
      get_or_each 54 0 _ s.status.rawcounts i b
      ∙ ap (λ (r : Bool). raw_step r (raw_at s.status.rawcounts i)) (rise_is s.levels inputs s.common.phases)

step_mod : (r : Bool) (n : ℕ) → raw_step r (n % 2 ^ 32) ≡ (n + bit_of r) % 2 ^ 32
step_mod r n = grind (arith, nat_tests)

bad_levels_lem : (i inputs gates : ℕ) (l : List Call) → bad_levels inputs gates ≡ true → levels_of i (tick inputs gates ∷ l) ≡ levels_of i l
unfolding levels_of
bad_levels_lem i inputs gates l e = rw e

good_levels : (i inputs gates : ℕ) (l : List Call) → bad_levels inputs gates ≡ false →
    levels_of i (tick inputs gates ∷ l) ≡ bit inputs i ∷ levels_of i l
unfolding levels_of
good_levels i inputs gates l e = rw e

good_tick : (m : Machine) → WholeMemory m.memory → (inputs gates : ℕ) → bad_levels inputs gates ≡ false →
    step m (tick inputs gates) ≡ with_state m (tick_of m.state m.memory inputs gates)
unfolding called
good_tick m h inputs gates e = step_called m h (tick inputs gates) ∙ rw e

module _ (i : ℕ) (b : i < 54) where
  -- n rises so far
  abbrev Counts : Machine → ℕ → Type 0
  Counts m n = raw_at m.state.status.rawcounts i ≡ n % 2 ^ 32

  abbrev total : Machine → ℕ → List Bool → ℕ
  total m n levels = (n + rises_in (bit m.state.levels i) levels) % 2 ^ 32

  -- and those of the list
  abbrev Adds : List Call → Type 0
  Adds l = (m : Machine) (n : ℕ) → WholeMemory m.memory → Counts m n → raw_at (from m l).state.status.rawcounts i ≡ total m n (levels_of i l)

  past : (l : List Call) → Adds l → (m : Machine) (n : ℕ) → WholeMemory m.memory → Counts m n →
      (x : Call) → Untimed x → raw_at (from (step m x) l).state.status.rawcounts i ≡ total m n (levels_of i l)
  past l adds m n whole h x c =
      let left = step_keeps (left_keeps m.state) m (refl, refl) x c in
      adds (step m x) n (full m whole x) (ap (λ (rawcounts : List ℕ). raw_at rawcounts i) left.0 ∙ h)
      ∙ ap (λ (levels : ℕ). (n + rises_in (bit levels i) (levels_of i l)) % 2 ^ 32) left.1

  accepted : (l : List Call) → Adds l → (m : Machine) (n : ℕ) → WholeMemory m.memory → Counts m n → (inputs gates : ℕ) →
      raw_at (from (with_state m (tick_of m.state m.memory inputs gates)) l).state.status.rawcounts i ≡ total m n (bit inputs i ∷ levels_of i l)
  unfolding tick_of rises_in
  accepted l adds m n whole h inputs gates =
      let r : Bool = input_rise m.state.levels inputs i in
      adds (with_state m (tick_of m.state m.memory inputs gates)) (n + bit_of r) whole
      (raw_ticked i b m.state m.memory inputs gates ∙ ap (raw_step r) h ∙ step_mod r n)
      ∙ ap (λ (k : ℕ). k % 2 ^ 32) (add_assoc n (bit_of r) (rises_in (bit inputs i) (levels_of i l)))

  ticked : (l : List Call) → Adds l → (m : Machine) (n : ℕ) → WholeMemory m.memory → Counts m n → (inputs gates : ℕ) →
      raw_at (from (step m (tick inputs gates)) l).state.status.rawcounts i ≡ total m n (levels_of i (tick inputs gates ∷ l))
  ticked l adds m n whole h inputs gates =
      cases (bad_levels inputs gates)
      (λ e. past l adds m n whole h (tick inputs gates) (rw e) ∙ ap (total m n) (sym (bad_levels_lem i inputs gates l e)))
      (λ e.
      ap (λ (k : Machine). raw_at (from k l).state.status.rawcounts i) (good_tick m whole inputs gates e)
      ∙ accepted l adds m n whole h inputs gates
      ∙ ap (total m n) (sym (good_levels i inputs gates l e)))

  raw_from : (l : List Call) → Adds l
  unfolding from levels_of rises_in called
  raw_from [] m n whole h = h ∙ ap (λ (k : ℕ). k % 2 ^ 32) (sym (add-zero n))
  raw_from (tick inputs gates ∷ l) m n whole h = ticked l (raw_from l) m n whole h inputs gates
  raw_from (x ∷ l) m n whole h = past l (raw_from l) m n whole h x refl

  raw_start : Counts machine0 0
  unfolding power_up
  raw_start = get_d_tabulate 54 (λ k. 0) i 0 b

  low_start : bit machine0.state.levels i ≡ false
  unfolding power_up
  low_start = bit_zero i

  -- the number of rises of the input over the accepted ticks, modulo 2^32
  pub raw_counts : (l : List Call) → raw_at (after l).state.status.rawcounts i ≡ raw_count i l
  unfolding after
  raw_counts l =
      raw_from l machine0 0 sized_start.memory raw_start
      ∙ ap (λ (before : Bool). (0 + rises_in before (levels_of i l)) % 2 ^ 32) low_start
      ∙ ap (λ (k : ℕ). k % 2 ^ 32) (zero-add (rises_in false (levels_of i l)))

-- ---- as they are read

decode_raw : (j : ℕ) → j < 108 → decode_of (0x1300 + j) ≡ Some (Readout (Raw j))
unfolding decode_of counter_map
decode_raw j h = grind (arith, nat_tests)

read_raw : (m : Machine) → WholeMemory m.memory → (j : ℕ) → j < 108 →
    read_of m (0x1300 + j) ≡ Ok (low_first j (raw_at m.state.status.rawcounts (j / 2)))
unfolding word_in readout_word
read_raw m whole j h = read_whole m whole (0x1300 + j) ∙ rw (decode_raw j h)

pub raw_reads : (j : ℕ) → j < 108 → (l : List Call) → read_of (after l) (0x1300 + j) ≡ Ok (low_first j (raw_count (j / 2) l))
raw_reads j h l =
    read_raw (after l) (full_after l) j h
    ∙ ap (λ (n : ℕ). Ok (low_first j n)) (raw_counts (j / 2) (omega arith) l)
