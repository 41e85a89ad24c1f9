-- Every call keeps what `Reached` says, and power-up has it.
use Prim.Native.Nat.{ℕ, ◌+◌, ◌*◌, ◌^◌, ◌≤◌, ◌<◌}
use native.Mathlib.Nat.{mod-lt}
use native.Mathlib.Omega.{arith}
use mathlib.Core.Bool.{Bool, true, false, not, ◌&&◌, true≢false}
use mathlib.Core.List.{List, [], ◌∷◌}
use mathlib.Core.Path.{◌≡◌, refl, sym, ◌∙◌}
use lib.Dec.{lit<}
use lib.IntN.{pos}
use lib.ListN.{get_or, length, length-set, set}
use lib.Pow.{pow_pos}
use Rattle.std.proofs.lemmas.Grind.{common_steps}
use Rattle.std.proofs.lemmas.Bool.Decides.{nat_tests}
use Rattle.words.specs.Word.{bit, field_of}
use Rattle.words.proofs.Fields.{bit_low}
use Rattle.bools.proofs.Tests.{both, cases, pick_elim}
use Rattle.lists.specs.Table.{each}
use Rattle.lists.proofs.All.{all_each, all_set, all_tabulate}
use Rattle.lists.proofs.Tables.{length_tabulate}
use Rattle.counters.specs.declared.counter.Counter.{Counter}
use Rattle.gates.specs.declared.gate.Gate.{Gate}
use Rattle.watchdogs.specs.declared.watchdog.Watchdog.{Watchdog}
use Rattle.counters.specs.Counter.{clear_counters, cleared, counter0, counter_at, counter_step, counter_tick, reset_on, tick_counters, with_input}
use Rattle.gates.specs.Gate.{each_gate, gate0, gate_at, gate_step, with_mode, with_prepare, with_prepare_pulse, with_recover, with_recover_pulse, with_timeout}
use Rattle.lines.specs.Lines.{bad_levels, phase_limit}
use Rattle.lines.specs.RawCounts.{count_rises, raw_at}
use Rattle.loader.specs.Loader.{request0, request_for}
use Rattle.loader.specs.Memory.{loaded, memory_words, replaced, word_at}
use Rattle.watchdogs.specs.Watchdog.{reset_in, reset_watchdogs, step_watchdogs, watchdog0, watchdog_at, watchdog_top, with_reset}
use Rattle.device.specs.declared.map.Register.{Register}
use Rattle.device.specs.declared.map.Register.TheVariants.{Setting, Shared, Gates, Watchdogs, Input, Group, Word}
use Rattle.device.specs.declared.map.GateWord.{GateWord}
use Rattle.device.specs.declared.map.GateWord.TheVariants.{Mode, Timeout, Prepare, Recover}
use Rattle.device.specs.declared.map.SettingWord.{SettingWord}
use Rattle.device.specs.declared.map.SettingWord.TheVariants.{Mask, Selection}
use Rattle.device.specs.declared.map.SharedWord.{SharedWord}
use Rattle.device.specs.declared.map.SharedWord.TheVariants.{Control, Key, Enable, Reload}
use Rattle.device.specs.declared.state.Common.{Common}
use Rattle.device.specs.declared.state.Settings.{Settings}
use Rattle.device.specs.declared.state.Status.{Status}
use Rattle.causes.specs.Causes.{is_done}
use Rattle.registers.specs.Calls.{Call, download, after, machine0}
use Rattle.device.specs.Map.{kept, used_bits}
use Rattle.device.specs.State.{Machine, common0, memory0, power_up, with_registers, with_state}
use Rattle.interlocks.specs.Interlock.{selected}
use Rattle.tagging.specs.Tag.{tag_request}
use Rattle.ticking.specs.Tick.{common_tick, status_tick, tick_of}
use Rattle.writing.specs.Write.{control_write, dataset_in, enable_write, group_in, key_write, on_common, on_counters, reload_answer, reload_write, request_answer, requested, reset_by, gates_write, settings_write, shared_write, with_reload, with_selected, write_at}
use Rattle.registers.proofs.Keeping.{Any, Change, Keeps, after_keeps, asked, changed, cleared_all, list_keeps, noted, prepared, recovered, written}
use Rattle.registers.proofs.Whole.{WholeMemory, accepted, length_replaced}
use Rattle.sheet.specs.Reachable.{CommonInRange, CounterInRange, GateInRange, OfWords, Reached, RequestInRange, SettingsInRange, StatusInRange}
use Rattle.sheet.proofs.InRange.{cleared_in, counter0_in, gate_in_lem, input_in, load_all, load_in, loader_in, phases_in, pushed_in, queue_in, request0_in, taken, tick_in, watchdog_in}

-- the lowest n bits of a word are below 2 ^ n: no unused bit is stored
kept_lt : (r : Register) (w : ℕ) → kept r w < 2 ^ used_bits r
unfolding kept
kept_lt r w = mod-lt w (pow_pos (used_bits r))

field_lt : (w at width : ℕ) → field_of w at width < 2 ^ width
field_lt w at width = mod-lt _ (pow_pos width)

-- ---- banks

gate0_in : GateInRange gate0
gate0_in = record { timer = omega arith; timeout = lit< tt }

gates_in_lem : (f : Bool → Gate → Gate) → ((b : Bool) (g : Gate) → GateInRange g → GateInRange (f b g)) → (w : ℕ) (gates : List Gate) →
    ((g : ℕ) → GateInRange (gate_at gates g)) → (g : ℕ) → GateInRange (gate_at (each_gate f w gates) g)
unfolding gate_at each_gate
gates_in_lem f kept w gates h =
    all_each gate0 (λ i. GateInRange) (λ i. gate0_in) 12 _ gates (λ i g. kept (bit w i) g) h

timeout_in : (gates : List Gate) → ((g : ℕ) → GateInRange (gate_at gates g)) → (k w : ℕ) →
    (g : ℕ) → GateInRange (gate_at (set gates k (with_timeout (kept (Gates (Timeout k)) w) (gate_at gates k))) g)
unfolding gate_at
timeout_in gates h k w = grind (arith, common_steps, kept_lt)

-- what holds of every counter, and of one at power-up, holds after all are cleared, have ticked, or one is patched
module _ (P : Counter → Type 0) (p0 : P counter0) where
  clear_all : (xs : List Counter) → ((c : Counter) → P c → P (cleared c)) → ((n : ℕ) → P (counter_at xs n)) → (n : ℕ) → P (counter_at (clear_counters xs) n)
  unfolding counter_at clear_counters
  clear_all xs kept p = all_each counter0 (λ i. P) (λ i. p0) 128 _ xs (λ i. kept) p

  tick_all : (control rises was is : ℕ) (xs : List Counter) → ((c : Counter) → P c → P (counter_tick control rises was is c)) →
      ((n : ℕ) → P (counter_at xs n)) → (n : ℕ) → P (counter_at (tick_counters control rises was is xs) n)
  unfolding counter_at tick_counters
  tick_all control rises was is xs kept p = all_each counter0 (λ i. P) (λ i. p0) 128 _ xs (λ i. kept) p

  patch_all : (xs : List Counter) (k w : ℕ) → P (with_input (counter_at xs k) w) → ((n : ℕ) → P (counter_at xs n)) →
      (n : ℕ) → P (counter_at (set xs k (with_input (counter_at xs k) w)) n)
  unfolding counter_at
  patch_all xs k w q p = all_set counter0 (λ i. P) (λ i. p0) xs k _ q p

-- ---- counts 0

abbrev AtZero : Counter → Type 0
AtZero c = c.count ≡ pos 0

cleared_zero : (c : Counter) → AtZero (cleared c)
cleared_zero c = refl

loaded_zero : (memory : List ℕ) (a : ℕ) (c : Counter) → AtZero c → AtZero (loaded memory a c)
unfolding loaded
loaded_zero memory a c e = e

held_zero : (control rises was is : ℕ) (c : Counter) → reset_on control ≡ true → AtZero (counter_tick control rises was is c)
unfolding counter_tick counter_step
held_zero control rises was is c e = rw e (cleared_zero c)

all_cleared : (xs : List Counter) (n : ℕ) → AtZero (counter_at (clear_counters xs) n)
unfolding counter_at clear_counters each
all_cleared xs = all_tabulate counter0 (λ i. AtZero) (λ i. refl) 128 _ (λ i. refl)

all_held : (control rises was is : ℕ) (xs : List Counter) → reset_on control ≡ true → (n : ℕ) → AtZero (counter_at (tick_counters control rises was is xs) n)
unfolding counter_at tick_counters each
all_held control rises was is xs e = all_tabulate counter0 (λ i. AtZero) (λ i. refl) 128 _ (λ i. held_zero control rises was is _ e)

-- ---- what all counters share, and what none sees

registers_in : (cm : Common) → CommonInRange cm → (control key enable reload : ℕ) → control < 2 ^ used_bits (Shared Control) → key < 2 ^ used_bits (Shared Key) →
    enable < 2 ^ used_bits (Shared Enable) → reload < 2 ^ used_bits (Shared Reload) → CommonInRange (with_registers cm control key enable reload)
registers_in cm h control key enable reload p q r s = assumption

requested_in : (w : ℕ) (cm : Common) → CommonInRange cm → is_done (request_answer cm.queue (dataset_in w)) ≡ true → CommonInRange (requested w cm)
unfolding requested
requested_in w cm h e =
    let a = taken cm.queue (dataset_in w) e in
    let q = pushed_in cm.queue h.queue (request_for (dataset_in w) (group_in w)) (record { dataset = a.0; group = field_lt w 8 4 }) a.1 in
    assumption

stored_reload : (w : ℕ) (cm : Common) → CommonInRange cm → CommonInRange (with_reload (kept (Shared Reload) w) cm)
stored_reload w cm h = registers_in cm h _ _ _ _ h.control h.key h.enable (kept_lt (Shared Reload) w)

pub reload_in : (w : ℕ) (cm : Common) → CommonInRange cm → CommonInRange (reload_write w cm)
unfolding reload_write reload_answer
reload_in w cm h = grind (arith, stored_reload, requested_in)

control_in : (w : ℕ) (cm : Common) → CommonInRange cm → CommonInRange (control_write w cm)
unfolding control_write
control_in w cm h = registers_in cm h _ _ _ _ (kept_lt (Shared Control) w) h.key h.enable h.reload

key_in : (w : ℕ) (cm : Common) → CommonInRange cm → CommonInRange (key_write w cm)
unfolding key_write
key_in w cm h = registers_in cm h _ _ _ _ h.control (kept_lt (Shared Key) w) h.enable h.reload

enable_in : (w : ℕ) (cm : Common) → CommonInRange cm → CommonInRange (enable_write w cm)
unfolding enable_write
enable_in w cm h = registers_in cm h _ _ _ _ h.control h.key (kept_lt (Shared Enable) w) h.reload

pub common_tick_in : (cm : Common) → CommonInRange cm → CommonInRange (common_tick cm)
unfolding common_tick
common_tick_in cm h =
    assumption (queue_in cm.loader cm.queue h.queue, loader_in cm.loader cm.queue h.loader h.queue, phases_in cm.phases h.phases)

-- the control register keeps its bits, so RESET is set exactly where the count was cleared
control_kept : (w : ℕ) (cm : Common) → reset_on (control_write w cm).control ≡ reset_on w
unfolding control_write kept
control_kept w cm = bit_low 2 w 0 (omega arith)

watchdogs_in : (f : ℕ → Watchdog → Watchdog) → ((i : ℕ) (w : Watchdog) → w.value ≤ watchdog_top → (f i w).value ≤ watchdog_top) →
    (ws : List Watchdog) → ((i : ℕ) → (watchdog_at ws i).value ≤ watchdog_top) →
    (i : ℕ) → (watchdog_at (each 54 watchdog0 f ws) i).value ≤ watchdog_top
unfolding watchdog_at
watchdogs_in f kept ws h = all_each watchdog0 (λ i w. w.value ≤ watchdog_top) (λ i. omega arith) 54 f ws kept h

reset_in_lem : (b : Bool) (w : Watchdog) → w.value ≤ watchdog_top → (with_reset b w).value ≤ watchdog_top
unfolding with_reset
reset_in_lem b w h = let z : 0 ≤ watchdog_top = omega arith in both (λ (x : Watchdog). x.value ≤ watchdog_top) (w.reset && not b) z h

resets_in : (k w : ℕ) (ws : List Watchdog) → ((i : ℕ) → (watchdog_at ws i).value ≤ watchdog_top) →
    (i : ℕ) → (watchdog_at (reset_watchdogs k w ws) i).value ≤ watchdog_top
unfolding reset_watchdogs reset_in
resets_in k w ws h = grind (arith, watchdogs_in, reset_in_lem)

selections_in : (xss : List (List ℕ)) (o k w : ℕ) → ((p q : ℕ) → selected xss p q < 2 ^ used_bits (Setting (Selection p q))) →
    (p q : ℕ) → selected (with_selected xss o k (kept (Setting (Selection o k)) w)) p q < 2 ^ used_bits (Setting (Selection p q))
selections_in xss o k w h =
    all_set [] (λ p words. (q : ℕ) → get_or words q 0 < 2 ^ used_bits (Setting (Selection p q))) (λ p q. pow_pos (used_bits (Setting (Selection p q)))) xss o _
    (all_set 0 (λ q n. n < 2 ^ used_bits (Setting (Selection o q))) (λ q. pow_pos (used_bits (Setting (Selection o q)))) (get_or xss o []) k _
    (kept_lt (Setting (Selection o k)) w) (h o))
    h

settings_in : (q : SettingWord) (w : ℕ) (s : Settings) → SettingsInRange s → SettingsInRange (settings_write q w s)
unfolding settings_write
settings_in q w s h = grind (arith, common_steps, kept_lt, selections_in)

shared_in : (q : SharedWord) (w : ℕ) (cm : Common) → CommonInRange cm → CommonInRange (shared_write q w cm)
unfolding shared_write
shared_in Control w cm h = control_in w cm h
shared_in Key w cm h = key_in w cm h
shared_in Enable w cm h = enable_in w cm h
shared_in Reload w cm h = reload_in w cm h

gates_in : (q : GateWord) (w : ℕ) (gates : List Gate) → ((g : ℕ) → GateInRange (gate_at gates g)) → (g : ℕ) → GateInRange (gate_at (gates_write q w gates) g)
unfolding gates_write
gates_in Mode w gates h = gates_in_lem with_mode (λ b g h. assumption) w gates h
gates_in (Timeout k) w gates h = timeout_in gates h k w
gates_in Prepare w gates h = gates_in_lem with_prepare (λ b g h. assumption) w gates h
gates_in Recover w gates h = gates_in_lem with_recover (λ b g h. assumption) w gates h

-- one 16-bit word of a list is written
words_in : (xs : List ℕ) (k w : ℕ) → w < 2 ^ 16 → ((i : ℕ) → get_or xs i 0 < 2 ^ 16) → (i : ℕ) → get_or (set xs k w) i 0 < 2 ^ 16
words_in xs k w l h = all_set 0 (λ i n. n < 2 ^ 16) (λ i. lit< tt) xs k w l h

memory_in : (memory : List ℕ) (k w : ℕ) → w < 2 ^ 16 → ((a : ℕ) → word_at memory a < 2 ^ 16) → (a : ℕ) → word_at (set memory k w) a < 2 ^ 16
unfolding word_at
memory_in memory k w l h = words_in memory k w l h

-- ---- what all counters share and the counters, which RESET binds

reached_common : (m : Machine) → Reached m → (x : Common) → CommonInRange x → x.control ≡ m.state.common.control → Reached (on_common m x)
reached_common m h x p e = grind arith

reached_counters : (m : Machine) → Reached m → (x : List Counter) → ((n : ℕ) → CounterInRange (counter_at x n)) →
    (reset_on m.state.common.control ≡ true → (n : ℕ) → AtZero (counter_at x n)) → Reached (on_counters m x)
reached_counters m h x p z = assumption

-- command 0x4 and RESET
reached_clear : (m : Machine) → Reached m → Reached (on_counters m (clear_counters m.state.counters))
reached_clear m h =
    reached_counters m h _ (clear_all CounterInRange counter0_in m.state.counters cleared_in h.counters)
    (λ e. all_cleared m.state.counters)

pub control_stays : (w : ℕ) (cm : Common) → (reload_write w cm).control ≡ cm.control
unfolding reload_write requested
control_stays w cm = grind arith

-- RESET is set exactly where the counts were cleared
reached_shared : (m : Machine) → Reached m → (q : SharedWord) (w : ℕ) → Reached (write_at m (Shared q) w)
unfolding write_at shared_write reset_by
reached_shared m h Control w = record {
  memory = h.memory;
  words = h.words;
  counters =
      both (λ (x : List Counter). (n : ℕ) → CounterInRange (counter_at x n)) (reset_on w)
      (clear_all CounterInRange counter0_in m.state.counters cleared_in h.counters)
      h.counters;
  groups = h.groups;
  gates = h.gates;
  watchdogs = h.watchdogs;
  levels = h.levels;
  common = control_in w m.state.common h.common;
  settings = h.settings;
  status = h.status;
  reset = λ e. rw (sym (control_kept w m.state.common) ∙ e) (all_cleared m.state.counters);
}
reached_shared m h Key w = reached_common m h _ (key_in w m.state.common h.common) (unfold key_write in refl)
reached_shared m h Enable w = reached_common m h _ (enable_in w m.state.common h.common) (unfold enable_write in refl)
reached_shared m h Reload w = reached_common m h _ (reload_in w m.state.common h.common) (control_stays w m.state.common)

reached_input : (m : Machine) → Reached m → (n w : ℕ) → Reached (write_at m (Input n) w)
unfolding write_at
reached_input m h n w =
    reached_counters m h _
    (patch_all CounterInRange counter0_in m.state.counters n _ (input_in _ (h.counters n) _ (kept_lt (Input n) w)) h.counters)
    (λ e. patch_all AtZero refl m.state.counters n _ (h.reset e n) (h.reset e))

-- ---- ticks

good_inputs : (inputs gates : ℕ) → bad_levels inputs gates ≡ false → (inputs < 2 ^ 54) × (gates < 2 ^ 12)
unfolding bad_levels
good_inputs inputs gates e = (grind (arith, nat_tests), grind (arith, nat_tests))

rawcounts_in : (rises : ℕ) (rawcounts : List ℕ) → ((i : ℕ) → raw_at rawcounts i < 2 ^ 32) → (i : ℕ) → raw_at (count_rises rises rawcounts) i < 2 ^ 32
unfolding count_rises
rawcounts_in rises rawcounts h =
    all_each 0 (λ i n. n < 2 ^ 32) (λ i. lit< tt) 54 _ rawcounts (λ i n l. both (λ (k : ℕ). k < 2 ^ 32) (bit rises i) (mod-lt (n + 1) (pow_pos 32)) l) h

status_in : (s : Status) → StatusInRange s → (cm : Common) → CommonInRange cm → (rises gates : ℕ) → gates < 2 ^ 12 →
    StatusInRange (status_tick rises gates cm.loader s)
unfolding status_tick
status_in s h cm k rises gates g = grind (arith, rawcounts_in)

reached_tick : (m : Machine) → Reached m → (inputs gates : ℕ) → bad_levels inputs gates ≡ false → Reached (with_state m (tick_of m.state m.memory inputs gates))
unfolding tick_of
reached_tick m h inputs gates good =
    let g = good_inputs inputs gates good in
    record {
      memory = h.memory;
      words = h.words;
      counters =
          load_in m.state.common.loader m.state.groups m.memory _ h.words
          (tick_all CounterInRange counter0_in _ _ _ _ m.state.counters (tick_in _ _ _ _) h.counters);
      groups = h.groups;
      gates = gates_in_lem gate_step gate_in_lem gates m.state.gates h.gates;
      levels = g.0;
      common = common_tick_in m.state.common h.common;
      watchdogs = unfold step_watchdogs in (watchdogs_in _ (λ i x. watchdog_in _ _ x) m.state.watchdogs h.watchdogs);
      settings = h.settings;
      status = status_in m.state.status h.status m.state.common h.common _ gates g.1;
      reset = λ e.
          load_all AtZero refl m.state.common.loader m.state.groups m.memory _ (loaded_zero m.memory)
          (all_held m.state.common.control _ _ _ m.state.counters (unfold common_tick in e));
    }

-- ---- tags

pub tag_request_in : (t : ℕ) (cm : Common) → CommonInRange cm → CommonInRange (tag_request t cm)
unfolding tag_request
tag_request_in t cm h = pick_elim CommonInRange (is_done (request_answer cm.queue (dataset_in t))) (λ e. requested_in t cm h e) (λ e. h)

tag_control : (t : ℕ) (cm : Common) → (tag_request t cm).control ≡ cm.control
unfolding tag_request requested
tag_control t cm = cases (is_done (request_answer cm.queue (dataset_in t))) (λ e. rw e refl) (λ e. rw e refl)

-- ---- downloads

replaced_in : (memory : List ℕ) (d : ℕ) (words : List ℕ) → WholeMemory memory → length words ≡ 512 → d < 32 →
    ((a : ℕ) → word_at memory a < 2 ^ 16) → ((i : ℕ) → get_or words i 0 < 2 ^ 16) → (a : ℕ) → word_at (replaced memory (512 * d) words) a < 2 ^ 16
unfolding word_at replaced
replaced_in memory d words size n d< p q a = grind (arith, common_steps)

-- ---- calls

reached_changed : (m : Machine) → Reached m → (x : Change) → Reached (changed m x)
unfolding write_at
reached_changed m h (written (Setting q) w) = assumption (settings_in q w m.state.settings h.settings)
reached_changed m h (written (Shared q) w) = reached_shared m h q w
reached_changed m h (written (Gates q) w) = assumption (gates_in q w m.state.gates h.gates)
reached_changed m h (written (Watchdogs k) w) = assumption (resets_in k w m.state.watchdogs h.watchdogs)
reached_changed m h (written (Input n) w) = reached_input m h n w
reached_changed m h (written (Group k) w) = assumption (words_in m.state.groups k (kept (Group k) w) (kept_lt (Group k) w) h.groups)
reached_changed m h (written (Word i) w) =
    assumption (length-set m.memory i (kept (Word i) w) ∙ h.memory, memory_in m.memory i (kept (Word i) w) (kept_lt (Word i) w) h.words)
reached_changed m h (noted t) = grind arith
reached_changed m h (asked t) = reached_common m h _ (tag_request_in t m.state.common h.common) (tag_control t m.state.common)
reached_changed m h (prepared t) = assumption (gates_in_lem with_prepare_pulse (λ b g h. assumption) t m.state.gates h.gates)
reached_changed m h (recovered t) = assumption (gates_in_lem with_recover_pulse (λ b g h. assumption) t m.state.gates h.gates)
reached_changed m h cleared_all = reached_clear m h
reached_changed m h x = h

-- a download's words are words
abbrev WordsOf : Call → Type 0
WordsOf (download d words) = (i : ℕ) → get_or words i 0 < 2 ^ 16
WordsOf x = Unit

reached_keeps : Keeps WordsOf Reached
reached_keeps = record {
  change = reached_changed;
  tick = λ m h inputs gates c good. reached_tick m h inputs gates good;
  download = λ m h d words c e.
      let a = accepted d (length words) e in
      assumption (length_replaced m.memory d words h.memory e, replaced_in m.memory d words h.memory a.0 a.1 h.words c);
}

first_of_words : (x : Call) (l : List Call) → OfWords (x ∷ l) → (WordsOf x) × (OfWords l)
unfolding OfWords
first_of_words (download d words) l o = o
first_of_words x l o = (tt, o)

-- the part of it that needs no words
pub range_changed : (m : Machine) → CommonInRange m.state.common → (x : Change) → CommonInRange (changed m x).state.common
unfolding write_at
range_changed m h (written (Shared q) w) = shared_in q w m.state.common h
range_changed m h (asked t) = tag_request_in t m.state.common h
range_changed m h x = h

pub range_keeps : Keeps Any (λ m. CommonInRange m.state.common)
unfolding tick_of
range_keeps = record { change = range_changed; tick = λ m h inputs gates c e. common_tick_in m.state.common h; download = λ m h d words c e. h }

common_start : CommonInRange common0
common_start = record {
  control = lit< tt;
  key = lit< tt;
  enable = lit< tt;
  reload = lit< tt;
  queue = record {
    places = length_tabulate 16 _;
    waiting = omega arith;
    requests = all_tabulate request0 (λ i. RequestInRange) (λ i. request0_in) 16 _ (λ i. request0_in);
  };
  loader = tt;
  phases = all_tabulate 0 (λ k n. n < phase_limit) (λ k. lit< tt) 9 _ (λ k. lit< tt);
}

pub range_after : (l : List Call) → CommonInRange (after l).state.common
unfolding power_up
range_after = after_keeps range_keeps common_start

reached_start : Reached machine0
unfolding power_up memory0 counter_at gate_at watchdog_at word_at bit
reached_start = record {
  memory = length_tabulate memory_words _;
  words = all_tabulate 0 (λ i n. n < 2 ^ 16) (λ i. lit< tt) memory_words _ (λ i. lit< tt);
  counters = all_tabulate counter0 (λ i. CounterInRange) (λ i. counter0_in) 128 _ (λ i. counter0_in);
  groups = all_tabulate 0 (λ i n. n < 2 ^ 16) (λ i. lit< tt) 32 _ (λ i. lit< tt);
  gates = all_tabulate gate0 (λ i. GateInRange) (λ i. gate0_in) 12 _ (λ i. gate0_in);
  levels = lit< tt;
  common = common_start;
  watchdogs = all_tabulate watchdog0 (λ i w. w.value ≤ watchdog_top) (λ i. omega arith) 54 _ (λ i. omega arith);
  settings = record {
    masks = all_tabulate 0 (λ k n. n < 2 ^ used_bits (Setting (Mask k))) (λ k. lit< tt) 6 _ (λ k. lit< tt);
    timeout = lit< tt;
    selections =
        all_tabulate [] (λ o words. (k : ℕ) → get_or words k 0 < 2 ^ used_bits (Setting (Selection o k))) (λ o k. pow_pos (used_bits (Setting (Selection o k)))) 6 _
        (λ o. all_tabulate 0 (λ k n. n < 2 ^ used_bits (Setting (Selection o k))) (λ k. pow_pos (used_bits (Setting (Selection o k)))) 22 _
        (λ k. pow_pos (used_bits (Setting (Selection o k)))));
  };
  status = record {
    rawcounts = all_tabulate 0 (λ i n. n < 2 ^ 32) (λ i. lit< tt) 54 _ (λ i. lit< tt);
    gatelevels = lit< tt;
    events = record { low = lit< tt; high = lit< tt; code = lit< tt; handled = lit< tt };
  };
  reset = λ e. absurd (true≢false (sym e));
}

pub reachable : (l : List Call) → OfWords l → Reached (after l)
unfolding after
reachable l o = list_keeps reached_keeps OfWords first_of_words machine0 reached_start l o
