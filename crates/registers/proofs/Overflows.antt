-- A read of the overflow blocks, at a whole memory, gives the overflow words; a bit of one is the counter's.
use Prim.Native.Nat.{ℕ, ◌+◌, ◌-◌, ◌<◌, ◌/◌, ◌%◌}
use native.Mathlib.Nat.{mod-lt, div-add-mod}
use native.Mathlib.Omega.{arith}
use mathlib.Core.Bool.{Bool}
use mathlib.Core.Path.{◌≡◌, ap, ◌∙◌}
use borrow.Author.Tests.{le-ltb, lt-ltb}
use Rattle.std.specs.Prelude.{Ok, Some}
use Rattle.words.specs.Word.{bit}
use Rattle.words.proofs.Packing.{bit_pack}
use Rattle.counters.specs.declared.counter.Counter.{Counter}
use Rattle.counters.specs.Counter.{counter_at, is_over, is_under, overflow_word}
use Rattle.device.specs.declared.map.Register.TheVariants.{Readout}
use Rattle.device.specs.declared.map.ReadoutWord.TheVariants.{Negative, Positive}
use Rattle.device.specs.Map.{decode_of, status_map}
use Rattle.reading.specs.Read.{read_of, readout_word, word_in, word_shown}
use Rattle.device.specs.State.{Machine}
use Rattle.registers.proofs.Whole.{WholeMemory, read_whole}

decode_negative : (k : ℕ) → k < 8 → decode_of (0x0700 + k) ≡ Some (Readout (Negative k))
unfolding decode_of status_map
decode_negative k h =
    let e : 0x0700 + k - 0x0700 ≡ k = omega arith in
    rw (le-ltb (0x0700 + k) 0x0700 (omega arith), lt-ltb (0x0700 + k) 0x0800 (omega arith), lt-ltb (0x0700 + k) 0x0708 (omega arith), e)

decode_positive : (k : ℕ) → k < 8 → decode_of (0x0708 + k) ≡ Some (Readout (Positive k))
unfolding decode_of status_map
decode_positive k h =
    let e : 0x0708 + k - 0x0708 ≡ k = omega arith in
    rw (
      le-ltb (0x0708 + k) 0x0700 (omega arith),
      lt-ltb (0x0708 + k) 0x0800 (omega arith),
      le-ltb (0x0708 + k) 0x0708 (omega arith),
      lt-ltb (0x0708 + k) 0x0710 (omega arith),
      e,
    )

module _ (m : Machine) (whole : WholeMemory m.memory) where
  read_negative : (k : ℕ) → k < 8 → read_of m (0x0700 + k) ≡ Ok (overflow_word is_under m.state.counters k)
  unfolding word_in readout_word
  read_negative k h = read_whole m whole (0x0700 + k) ∙ rw (decode_negative k h)

  read_positive : (k : ℕ) → k < 8 → read_of m (0x0708 + k) ≡ Ok (overflow_word is_over m.state.counters k)
  unfolding word_in readout_word
  read_positive k h = read_whole m whole (0x0708 + k) ∙ rw (decode_positive k h)

  overflow_bit : (test : Counter → Bool) (c : ℕ) → bit (overflow_word test m.state.counters (c / 16)) (c % 16) ≡ test (counter_at m.state.counters c)
  unfolding overflow_word
  overflow_bit test c =
      bit_pack 16 _ (c % 16) (mod-lt c (omega arith)) ∙ ap (λ (n : ℕ). test (counter_at m.state.counters n)) (div-add-mod c 16)

  pub under_bit : (c : ℕ) → c < 128 → bit (word_shown (read_of m (0x0700 + c / 16))) (c % 16) ≡ is_under (counter_at m.state.counters c)
  under_bit c h = rw (read_negative (c / 16) (omega arith)) (overflow_bit is_under c)

  pub over_bit : (c : ℕ) → c < 128 → bit (word_shown (read_of m (0x0708 + c / 16))) (c % 16) ≡ is_over (counter_at m.state.counters c)
  over_bit c h = rw (read_positive (c / 16) (omega arith)) (overflow_bit is_over c)
