-- One square for each call: to step the machine and cut the sheet out is to cut the sheet out and step it by the own part.
use Prim.Native.Nat.{ℕ, ◌+◌, ◌*◌, ◌<◌, ◌/◌, ◌%◌}
use native.Mathlib.Omega.{arith}
use mathlib.Core.Bool.{false}
use mathlib.Core.List.{List}
use mathlib.Core.Path.{◌≡◌, refl, ap, ◌∙◌}
use borrow.Author.Tests.{eqb-true, ne_eqb}
use lib.Dec.{eqb}
use lib.ListN.{length, get_or}
use Rattle.std.proofs.lemmas.Grind.{common_steps}
use Rattle.std.proofs.Common.{Option}
use Rattle.bools.specs.Pick.{pick}
use Rattle.words.specs.Word.{masked_bits}
use Rattle.words.proofs.Fields.{nibble_low}
use Rattle.bools.proofs.Tests.{cases, pick_ap}
use Rattle.lists.proofs.Tables.{get_or_each, get_d_set, get_d_tabulate, length_each, set_tabulate, tabulate_ext}
use Rattle.counters.specs.declared.counter.Counter.{Counter}
use Rattle.loader.specs.declared.loader.Reload.{Reload as Reloading}
use Rattle.counters.specs.Counter.{clear_counters, cleared, counter0, counter_at, counter_tick, reset_on, tick_counters}
use Rattle.gates.specs.Gate.{each_gate, gate_step, outputs_of, with_timeout}
use Rattle.lines.specs.Lines.{rises_of}
use Rattle.loader.specs.Loader.{group_at, load_into}
use Rattle.loader.specs.Memory.{loaded, place_of, replaced, word_at}
use Rattle.device.specs.declared.map.Register.{Register}
use Rattle.device.specs.declared.map.GateWord.TheVariants.{Timeout}
use Rattle.device.specs.declared.map.Register.TheVariants.{Gates, Input, Group, Word}
use Rattle.device.specs.declared.state.Status.{Status}
use Rattle.registers.specs.Calls.{Call, download, called, step}
use Rattle.device.specs.Map.{kept}
use Rattle.device.specs.State.{Machine, with_status, with_state}
use Rattle.tagging.specs.Tag.{commanded, tag_of}
use Rattle.ticking.specs.Tick.{tick_of}
use Rattle.writing.specs.Write.{gates_write, reset_by, shared_write, write_at}
use Rattle.registers.proofs.Whole.{WholeMemory, accepted, step_called}
use Rattle.sheet.specs.Lines.{Lines}
use Rattle.sheet.specs.OwnPart.{four_of, own, own_at, own_tag, own_word}
use Rattle.sheet.specs.Sheet.{put_gates, put_four, reset_counter, sheet_command, sheet_load, sheet_step, sheet_tag, sheet_tick}
use Rattle.sheet.proofs.OwnTag.{own_tag_command, own_tag_gates, own_tag_key, own_tag_whole}
use Rattle.sheet.proofs.Sizes.{Sized}
use Rattle.sheet.proofs.Projection.{Fits, counter_tick_own, own_gates_each, own_gates_other, own_gates_set, own_place, own_words}
use Rattle.sheet.proofs.Sizes.{Sized}
use Rattle.sheet.proofs.Projection.{own_words_at, own_words_first, sheet≡, sheet_in}
use Rattle.sheet.proofs.Fed.{sheet_step_by}

-- ---- the words of the memory, and the loader

module _ (c : ℕ) (c< : c < 128) where
  -- own word k stands within the memory; it is a certain place exactly where k is that place's number
  own_place_below : (k : ℕ) → k < 128 → own_place c k < 16384
  unfolding own_place
  own_place_below k h = omega arith

  own_place_is : (a : ℕ) → a % 512 / 4 ≡ c → (k : ℕ) → k < 128 → eqb (own_place c k) a ≡ eqb k (own_word a)
  unfolding own_place
  own_place_is a e k h = grind arith

  own_place_not : (a : ℕ) → (a % 512 / 4 ≡ c → ⊥) → (k : ℕ) → k < 128 → eqb (own_place c k) a ≡ false
  unfolding own_place
  own_place_not a e k h = ne_eqb _ a (λ p. e (omega arith))

  loaded_own : (memory : List ℕ) → WholeMemory memory → (d : ℕ) (x : Counter) →
      loaded memory (place_of d c) x ≡ loaded (own_words c memory) (4 * d) x
  unfolding loaded
  loaded_own memory size d x = grind (arith, own_words_first, own_words_at)

  load : (l : Option Reloading) (groups memory : List ℕ) (xs : List Counter) → length xs ≡ 128 → WholeMemory memory →
      counter_at (load_into l groups memory xs) c ≡ sheet_load c l (group_at groups c) (own_words c memory) (counter_at xs c)
  unfolding load_into sheet_load counter_at
  load l groups memory xs p q = grind (arith, get_d_set, loaded_own)

module _ (S : Lines) (c : ℕ) (c< : c < 128) (m : Machine) (size : Sized m) where
  -- ---- tick

  tick_counter : (inputs levels : ℕ) → Fits S (counter_at m.state.counters c).input →
      (sheet_in S c (with_state m (tick_of m.state m.memory inputs levels))).counter
      ≡ (sheet_tick c (sheet_in S c m) (masked_bits 54 S.inputs inputs) (masked_bits 12 S.gates levels)).counter
  unfolding sheet_in tick_of sheet_tick tick_counters
  tick_counter inputs levels fit =
      load c c< m.state.common.loader m.state.groups m.memory _ (length_each 128 counter0 _ m.state.counters) size.memory
      ∙ ap (sheet_load c m.state.common.loader (group_at m.state.groups c) (own_words c m.memory))
      (stepped
      ∙ counter_tick_own S m.state.common.control m.state.levels inputs m.state.common.phases m.state.gates
      (each_gate gate_step levels m.state.gates) (counter_at m.state.counters c) fit
      ∙ rw (own_gates_each gate_step (unfold gate_step in refl) S.gates levels m.state.gates))
    where
      stepped : counter_at (tick_counters m.state.common.control (rises_of m.state.levels inputs m.state.common.phases) (outputs_of m.state.gates) (outputs_of (each_gate gate_step levels m.state.gates)) m.state.counters) c
          ≡ counter_tick m.state.common.control (rises_of m.state.levels inputs m.state.common.phases) (outputs_of m.state.gates) (outputs_of (each_gate gate_step levels m.state.gates)) (counter_at m.state.counters c)
      stepped = unfold counter_at in (get_or_each 128 counter0 _ m.state.counters c c<)

  tick_square : (inputs levels : ℕ) → Fits S (counter_at m.state.counters c).input →
      sheet_in S c (with_state m (tick_of m.state m.memory inputs levels))
      ≡ sheet_tick c (sheet_in S c m) (masked_bits 54 S.inputs inputs) (masked_bits 12 S.gates levels)
  unfolding sheet_in tick_of sheet_tick
  tick_square inputs levels fit =
      sheet≡ (tick_counter inputs levels fit) refl refl refl refl (own_gates_each gate_step (unfold gate_step in refl) S.gates levels m.state.gates)

  -- ---- write, by the registers of the map

  input_square : (n w : ℕ) → sheet_in S c (write_at m (Input n) w) ≡ sheet_step_by c (sheet_in S c m) (own_at S c (Input n) w)
  unfolding sheet_in write_at own_at sheet_step counter_at kept
  input_square n w = grind (arith, common_steps)

  timeout_square : (g w : ℕ) → sheet_in S c (write_at m (Gates (Timeout g)) w) ≡ sheet_step_by c (sheet_in S c m) (own_at S c (Gates (Timeout g)) w)
  unfolding sheet_in write_at gates_write shared_write own_at sheet_step
  timeout_square g w =
      cases (S.gates g)
      (λ e. rw e (ap (put_gates (sheet_in S c m)) (own_gates_set S.gates m.state.gates size.gates g e (with_timeout (kept (Gates (Timeout g)) w)))))
      (λ e. rw e (ap (put_gates (sheet_in S c m)) (own_gates_other S.gates m.state.gates size.gates g e _)))

  group_square : (k w : ℕ) → sheet_in S c (write_at m (Group k) w) ≡ sheet_step_by c (sheet_in S c m) (own_at S c (Group k) w)
  unfolding sheet_in write_at own_at sheet_step group_at kept
  group_square k w = grind (arith, get_d_set, nibble_low)

  word_square : (i w : ℕ) → sheet_in S c (write_at m (Word i) w) ≡ sheet_step_by c (sheet_in S c m) (own_at S c (Word i) w)
  unfolding sheet_in write_at own_at sheet_step own_words word_at kept
  word_square i w = grind (arith, get_d_set, own_place_below, tabulate_ext, own_place_is, eqb-true, set_tabulate, own_place_not)

  clear_square : counter_at (clear_counters m.state.counters) c ≡ cleared (counter_at m.state.counters c)
  unfolding counter_at clear_counters
  clear_square = get_or_each 128 counter0 _ m.state.counters c c<

  reset_square : (w : ℕ) → counter_at (reset_by w m.state.counters) c ≡ reset_counter w (counter_at m.state.counters c)
  unfolding reset_by
  reset_square w = pick_ap (λ (x : List Counter). counter_at x c) (reset_on w) _ _ ∙ rw clear_square

  write_square : (r : Register) (w : ℕ) → sheet_in S c (write_at m r w) ≡ sheet_step_by c (sheet_in S c m) (own_at S c r w)
  unfolding sheet_in write_at gates_write shared_write own_at sheet_step
  write_square r w = grind (arith, reset_square, own_gates_each, timeout_square, input_square, group_square, word_square)

  -- ---- tag

  -- what no counter sees may be anything
  command_square : (x : Status) (t : ℕ) → sheet_in S c (with_state m (commanded (with_status m.state x) t)) ≡ sheet_command (sheet_in S c m) (own_tag S t)
  unfolding sheet_in commanded sheet_command
  command_square x t = grind (arith, own_tag_command, own_tag_whole, own_gates_each, own_tag_gates, clear_square)

  -- what a tag leaves in 0x0900 to 0x0902 is in no sheet
  tag_square : (t : ℕ) → sheet_in S c (with_state m (tag_of m.state t)) ≡ sheet_tag (sheet_in S c m) (own_tag S t)
  unfolding sheet_in tag_of sheet_tag
  tag_square t = grind (arith, own_tag_key, command_square)

  -- ---- download

  -- a word of the memory after a download: q is its dataset, r which of the four
  replaced_at : (d : ℕ) (words : List ℕ) → length words ≡ 512 → d < 32 → (q r : ℕ) → q < 32 → r < 4 →
      word_at (replaced m.memory (512 * d) words) (place_of q c + r)
      ≡ pick (eqb q d) (get_or words (4 * c + r) 0) (word_at m.memory (place_of q c + r))
  unfolding word_at replaced
  replaced_at d words p d< q r q< r< = grind (arith, common_steps)

  download_words : (d : ℕ) (words : List ℕ) → length words ≡ 512 → d < 32 →
      own_words c (replaced m.memory (512 * d) words) ≡ put_four (own_words c m.memory) d (four_of c words)
  unfolding own_words four_of own_place
  download_words d words p q = grind (arith, tabulate_ext, get_d_tabulate, replaced_at)

  download_square : (d : ℕ) (words : List ℕ) →
      sheet_in S c (called m (download d words)) ≡ sheet_step_by c (sheet_in S c m) (own S c (download d words))
  unfolding sheet_in called own sheet_step
  download_square d words = grind (arith, accepted, download_words)

  -- ---- every call

  pub square : (x : Call) → Fits S (counter_at m.state.counters c).input →
      sheet_in S c (step m x) ≡ sheet_step_by c (sheet_in S c m) (own S c x)
  unfolding called own sheet_step
  square x fit = grind (arith, step_called, tick_square, write_square, tag_square, download_square)
