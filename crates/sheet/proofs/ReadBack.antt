-- What a read gives after a write, over lists from power-up: the written register its word, every other one what it gave.
use Prim.Native.Nat.{ℕ, ◌+◌, ◌-◌, ◌*◌, ◌/◌, ◌%◌, ◌^◌, ◌≤◌, ◌<◌}
use native.Mathlib.Nat.{lt_of_lt_of_le, mod-lt}
use native.Mathlib.Omega.{arith}
use mathlib.Core.Bool.{Bool, false, not, ◌&&◌}
use mathlib.Core.List.{List, []}
use mathlib.Core.Path.{◌≡◌, refl, sym, ap, ◌∙◌}
use borrow.Author.Tests.{eqb-false, eqb-true, ltb-false, ltb-true, ne_eqb}
use lib.Dec.{eqb, ltb}
use lib.ListN.{get_or, length, get_or-eq_default, set}
use lib.Pow.{pow_mono, pow_pos}
use lib.Seq.{get_or-set_same, get_or-set_other}
use Rattle.std.proofs.lemmas.Grind.{common_steps}
use Rattle.bools.specs.Pick.{pick}
use Rattle.std.proofs.Common.{Ok, Err, Option, Some, None}
use Rattle.std.specs.Option.{option_map_or}
use Rattle.words.specs.Word.{bit, pack}
use Rattle.words.proofs.Fields.{bit_low}
use Rattle.words.proofs.Gather.{pack_ext, pack_is}
use Rattle.words.proofs.Packing.{bit_past}
use Rattle.bools.proofs.Tests.{both, cases}
use Rattle.lists.specs.Table.{each}
use Rattle.lists.proofs.Tables.{get_or_each, length_each}
use Rattle.counters.specs.declared.counter.Counter.{Counter}
use Rattle.gates.specs.declared.gate.Gate.{Gate}
use Rattle.watchdogs.specs.declared.watchdog.Watchdog.{Watchdog}
use Rattle.gates.specs.Gate.{each_gate, failed, gate0, gate_at, gate_bits, is_error, mode, outputs_of, prepare, recover}
use Rattle.gates.specs.Gate.{state_word, with_mode, with_prepare, with_recover, with_timeout}
use Rattle.counters.specs.Counter.{clear_counters, cleared, counter0, counter_at, is_over, is_under, overflow_word, reset_on, with_input}
use Rattle.loader.specs.Loader.{busy}
use Rattle.loader.specs.Memory.{word_at}
use Rattle.watchdogs.specs.Watchdog.{reset_in, reset_of, reset_watchdogs, watchdog0, watchdog_at, watchdog_word, with_reset}
use Rattle.device.specs.declared.map.Register.{Register}
use Rattle.device.specs.declared.map.Register.TheVariants.{Readout, Setting, Shared, Gates, Watchdogs, Input, Group, Word}
use Rattle.device.specs.declared.map.GateWord.{GateWord}
use Rattle.device.specs.declared.map.GateWord.TheVariants.{Mode, Timeout, Prepare, Recover}
use Rattle.device.specs.declared.map.ReadoutWord.{ReadoutWord}
use Rattle.device.specs.declared.map.ReadoutWord.TheVariants.{Negative, Positive, Outputs, QueueLength, Count}
use Rattle.device.specs.declared.map.SettingWord.{SettingWord}
use Rattle.device.specs.declared.map.SettingWord.TheVariants.{Mask, WatchdogTimeout, Selection}
use Rattle.device.specs.declared.map.SharedWord.{SharedWord}
use Rattle.device.specs.declared.map.SharedWord.TheVariants.{Control, Reload}
use Rattle.device.specs.declared.state.Common.{Common}
use Rattle.device.specs.declared.state.Crate.{Crate}
use Rattle.device.specs.declared.state.Settings.{Settings}
use Rattle.causes.specs.declared.Cause.TheVariants.{Address}
use Rattle.causes.specs.Causes.{Answer}
use Rattle.registers.specs.Calls.{Call, write, after, answer, called, call_answer, step}
use Rattle.interlocks.specs.Interlock.{interlocks, other_signals, selected, signals, trips, trips_by}
use Rattle.device.specs.Map.{decode_of, kept, kept_at, output_count, output_words}
use Rattle.reading.specs.Read.{gate_word, half_of, read_of, readout_word, setting_word, shared_word, word_in}
use Rattle.device.specs.State.{Machine, with_common, with_counters, with_gates, with_groups, with_settings, with_watchdogs}
use Rattle.writing.specs.Write.{control_write, enable_write, gates_write, key_write, reload_answer, reload_write, requested, reset_by, settings_write, shared_answer, shared_clears, shared_write}
use Rattle.writing.specs.Write.{write_answer, write_at}
use Rattle.registers.proofs.Whole.{WholeMemory, full, is_whole_lem, read_in, read_whole, step_called}
use Rattle.sheet.specs.Follows.{follows, follows_at}
use Rattle.sheet.proofs.Addresses.{InBlock, InGates, InMap, address_of, placed_as}
use Rattle.sheet.proofs.Sizes.{Sized, full_after, sized_after}

-- ---- a write and a read, with a whole memory

-- a write and a read by what stands at their address
abbrev write_in : Machine → Option Register → ℕ → Machine
write_in m o w = option_map_or (λ (r : Register). write_at m r w) o m

abbrev answer_in : Common → Option Register → ℕ → Answer
answer_in cm o w = option_map_or (λ (r : Register). write_answer cm r w) o (Err Address)

written : (m : Machine) → WholeMemory m.memory → (a w : ℕ) → step m (write a w) ≡ write_in m (decode_of a) w
unfolding called
written m h a w = step_called m h (write a w)

answered : (m : Machine) → WholeMemory m.memory → (a w : ℕ) → answer m (write a w) ≡ answer_in m.state.common (decode_of a) w
unfolding answer call_answer
answered m h a w = rw (is_whole_lem m.memory h)

-- ---- the written register

-- a bit of each gate
bits_back : (f : Gate → Bool) (g : Bool → Gate → Gate) → ((b : Bool) (x : Gate) → f (g b x) ≡ b) → (w : ℕ) (gates : List Gate) →
    gate_bits f (each_gate g w gates) ≡ w % 2 ^ 12
unfolding gate_bits each_gate gate_at
bits_back f g e w gates =
    sym (pack_is 12 (w % 2 ^ 12) _ (mod-lt w (pow_pos 12)) (λ i h.
    bit_low 12 w i h ∙ sym (ap f (get_or_each 12 gate0 (λ j. g (bit w j)) gates i h) ∙ e (bit w i) (get_or gates i gate0))))

-- a reset bit of each watchdog; past input 53 there is none
reset_back : (b : Bool) (w : Watchdog) → (with_reset b w).reset ≡ b
unfolding with_reset
reset_back b w = both (λ (x : Watchdog). x.reset ≡ b) (w.reset && not b) refl refl

reset_at : (k w : ℕ) (xs : List Watchdog) (b : ℕ) → b < 16 → 16 * k + b < 54 →
    (watchdog_at (reset_watchdogs k w xs) (16 * k + b)).reset ≡ bit w b
unfolding reset_watchdogs watchdog_at reset_in
reset_at k w xs b h l = grind (arith, get_or_each, reset_back)

reset_past : (k w : ℕ) (xs : List Watchdog) (i : ℕ) → 54 ≤ i → (watchdog_at (reset_watchdogs k w xs) i).reset ≡ false
unfolding reset_watchdogs watchdog_at
reset_past k w xs i h = grind (arith, get_or-eq_default, length_each)

low_past : (n w i : ℕ) → n ≤ i → bit (w % 2 ^ n) i ≡ false
low_past n w i h =
    ap (λ (x : ℕ). bit x i) (pack_is n (w % 2 ^ n) (bit w) (mod-lt w (pow_pos n)) (λ j l. bit_low n w j l)) ∙ bit_past n (bit w) i h

resets_back : (n k w : ℕ) (xs : List Watchdog) → n ≤ 16 → ((b : ℕ) → b < n → 16 * k + b < 54) →
    ((b : ℕ) → b < 16 → n ≤ b → 54 ≤ 16 * k + b) → watchdog_word reset_of (reset_watchdogs k w xs) k ≡ w % 2 ^ n
unfolding watchdog_word
resets_back n k w xs size inside past =
    sym (pack_is 16 (w % 2 ^ n) _ (lt_of_lt_of_le (mod-lt w (pow_pos n)) (pow_mono size)) (λ b h.
    cases (ltb b n)
    (λ e.
    let l : b < n = ltb-true b n e in
    bit_low n w b l ∙ sym (reset_at k w xs b h (inside b l)))
    (λ e.
    let l : n ≤ b = ltb-false b n e in
    low_past n w b l ∙ sym (reset_past k w xs (16 * k + b) (past b h l)))))

watchdogs_back : (k w : ℕ) (xs : List Watchdog) → k < 4 → watchdog_word reset_of (reset_watchdogs k w xs) k ≡ kept (Watchdogs k) w
unfolding kept
watchdogs_back k w xs l =
    cases (eqb k 3)
    (λ e.
    let p : k ≡ 3 = eqb-true k 3 e in
    resets_back 6 k w xs (omega arith) (λ b i. omega arith) (λ b i j. omega arith)
    ∙ ap (λ (b : Bool). w % 2 ^ pick b 6 16) (sym e))
    (λ e.
    let p : k < 3 = omega (arith, eqb-false k 3 e) in
    resets_back 16 k w xs (omega arith) (λ b i. omega arith) (λ b i j. absurd (omega arith))
    ∙ ap (λ (b : Bool). w % 2 ^ pick b 6 16) (sym e))

setting_back : (m : Machine) → Sized m → (q : SettingWord) → InBlock q → (w : ℕ) → setting_word (settings_write q w m.state.settings) q ≡ kept (Setting q) w
unfolding setting_word settings_write
setting_back m s (Mask k) l w = get_or-set_same m.state.settings.masks k _ 0 (omega (arith, s.masks))
setting_back m s WatchdogTimeout l w = refl
setting_back m s (Selection o k) l w =
    ap (λ (words : List ℕ). get_or words k 0) (get_or-set_same m.state.settings.selections o _ [] (omega (arith, s.selections, l.0)))
    ∙ get_or-set_same (get_or m.state.settings.selections o []) k _ 0 (omega (arith, s.blocks o l.0, l.1))

-- a request that is refused stores nothing, and is no accepted write
reload_back : (w : ℕ) (cm : Common) → reload_answer w cm ≡ Ok tt → (reload_write w cm).reload ≡ kept (Shared Reload) w
unfolding reload_write
reload_back w cm e = grind arith

shared_back : (q : SharedWord) (w : ℕ) (cm : Common) → shared_answer q w cm ≡ Ok tt → shared_word (shared_write q w cm) q ≡ kept (Shared q) w
unfolding shared_word shared_write control_write key_write enable_write
shared_back Reload w cm e = reload_back w cm e
shared_back q w cm e = refl

gates_back : (q : GateWord) → InGates q → (w : ℕ) (gates : List Gate) → length gates ≡ 12 → gate_word (gates_write q w gates) q ≡ kept (Gates q) w
unfolding gate_word gates_write
gates_back Mode l w gates size = unfold kept in (bits_back mode with_mode (λ b x. refl) w gates)
gates_back (Timeout g) l w gates size =
    unfold gate_at in (ap (λ (x : Gate). x.timeout) (get_or-set_same gates g _ gate0 (omega (arith, size))))
gates_back Prepare l w gates size = unfold kept in (bits_back prepare with_prepare (λ b x. refl) w gates)
gates_back Recover l w gates size = unfold kept in (bits_back recover with_recover (λ b x. refl) w gates)

back_at : (m : Machine) → Sized m → (r : Register) → InMap r → (w : ℕ) → write_answer m.state.common r w ≡ Ok tt →
    word_in (write_at m r w) r ≡ kept r w
unfolding write_answer write_at word_in counter_at word_at
back_at m s (Readout q) l w e = cc
back_at m s (Setting q) l w e = setting_back m s q l w
back_at m s (Shared q) l w e = shared_back q w m.state.common e
back_at m s (Gates q) l w e = gates_back q l w m.state.gates s.gates
back_at m s (Watchdogs k) l w e = watchdogs_back k w m.state.watchdogs l
back_at m s (Input n) l w e = ap (λ (x : Counter). x.input) (get_or-set_same m.state.counters n _ counter0 (omega (arith, s.counters)))
back_at m s (Group k) l w e = get_or-set_same m.state.groups k _ 0 (omega (arith, s.groups))
back_at m s (Word i) l w e = get_or-set_same m.memory i _ 0 (omega (arith, s.memory))

-- after an accepted write a read of the same register gives the word less its unused bits
pub read_back : (l : List Call) (a w : ℕ) → answer (after l) (write a w) ≡ Ok tt → read_of (step (after l) (write a w)) a ≡ Ok (kept_at a w)
read_back l a w e =
    read_whole (step (after l) (write a w)) (full (after l) (full_after l) (write a w)) a
    ∙ ap (λ (m : Machine). read_in m (decode_of a)) (written (after l) (full_after l) a w)
    ∙ by (decode_of a) refl (sym (answered (after l) (full_after l) a w) ∙ e)
  where
    by : (o : Option Register) → decode_of a ≡ o → answer_in (after l).state.common o w ≡ Ok tt →
        read_in (write_in (after l) o w) o ≡ Ok (option_map_or (λ (r : Register). kept r w) o 0)
    by None p e = cc
    by (Some r) p e = ap Ok (back_at (after l) (sized_after l) r (placed_as a r p).inside w e)

-- ---- the other registers. What a write changes is one part of the state; a read that does not look at it gives what it gave by computing
-- alone, so only those that do have a line here

-- every element steps: P holds of what it becomes, and of what stands past the end
each_at : {A : Type 0} (P : ℕ → A → Type 0) (n : ℕ) (d : A) (g : ℕ → A → A) (xs : List A) → length xs ≡ n →
    ((i : ℕ) → P i (g i (get_or xs i d))) → ((i : ℕ) → P i (get_or xs i d)) → (i : ℕ) → P i (get_or (each n d g xs) i d)
each_at P n d g xs size p q i = grind (arith, get_or_each, get_or-eq_default, length_each)

-- one word of a list is written
word_other : (row : ℕ → Register) (xs : List ℕ) (k w : ℕ) (j : ℕ) → (row k ≡ row j → ⊥) → get_or (set xs k w) j 0 ≡ get_or xs j 0
word_other row xs k w j d = get_or-set_other xs k j w 0 (λ p. d (ap row (sym p)))

-- ---- settings, which interlocks alone look at

setting_other : (p q : SettingWord) (w : ℕ) (s : Settings) → (Setting p ≡ Setting q → ⊥) → setting_word (settings_write p w s) q ≡ setting_word s q
unfolding setting_word settings_write
setting_other p q w s d = grind (arith, common_steps)

outputs_settings : (p : SettingWord) (w : ℕ) (s : Crate) → follows (Setting p) (Readout Outputs) ≡ false →
    interlocks (with_settings s (settings_write p w s.settings)) ≡ interlocks s
unfolding settings_write interlocks trips signals
outputs_settings p w s f = grind arith

readout_settings : (p : SettingWord) (w : ℕ) (s : Crate) (q : ReadoutWord) → follows (Setting p) (Readout q) ≡ false →
    readout_word (with_settings s (settings_write p w s.settings)) q ≡ readout_word s q
unfolding readout_word
readout_settings p w s q f = grind (arith, outputs_settings)

-- ---- gates: of state and output no write changes anything

record GateApart (p : GateWord) (g : ℕ) (x y : Gate) : Type 0 where
  mode : (Gates p ≡ Gates Mode → ⊥) → x.mode ≡ y.mode
  prepare : (Gates p ≡ Gates Prepare → ⊥) → x.prepare ≡ y.prepare
  recover : (Gates p ≡ Gates Recover → ⊥) → x.recover ≡ y.recover
  timeout : (Gates p ≡ Gates (Timeout g) → ⊥) → x.timeout ≡ y.timeout
  state : x.state ≡ y.state
  timer : x.timer ≡ y.timer
  output : x.output ≡ y.output

abbrev GatesApart : GateWord → List Gate → List Gate → Type 0
GatesApart p x y = (g : ℕ) → GateApart p g (gate_at x g) (gate_at y g)

bits_apart : (p : GateWord) (f : Bool → Gate → Gate) → ((b : Bool) (g : ℕ) (x : Gate) → GateApart p g (f b x) x) → (w : ℕ) (gates : List Gate) →
    length gates ≡ 12 → GatesApart p (each_gate f w gates) gates
unfolding each_gate gate_at
bits_apart p f q w gates size =
    each_at (λ g x. GateApart p g x (get_or gates g gate0)) 12 gate0 (λ g. f (bit w g)) gates size (λ g. q (bit w g) g (get_or gates g gate0))
    (λ g. assumption)

mode_apart : (b : Bool) (g : ℕ) (x : Gate) → GateApart Mode g (with_mode b x) x
mode_apart b g x = grind arith

prepare_apart : (b : Bool) (g : ℕ) (x : Gate) → GateApart Prepare g (with_prepare b x) x
prepare_apart b g x = grind arith

recover_apart : (b : Bool) (g : ℕ) (x : Gate) → GateApart Recover g (with_recover b x) x
recover_apart b g x = grind arith

timeout_apart : (g t : ℕ) (gates : List Gate) → g < length gates → GatesApart (Timeout g) (set gates g (with_timeout t (gate_at gates g))) gates
unfolding gate_at
timeout_apart g t gates h = grind (arith, common_steps)

gates_apart : (p : GateWord) → InGates p → (w : ℕ) (gates : List Gate) → length gates ≡ 12 → GatesApart p (gates_write p w gates) gates
unfolding gates_write
gates_apart Mode l w gates size = bits_apart Mode with_mode mode_apart w gates size
gates_apart (Timeout g) l w gates size = timeout_apart g _ gates (omega (arith, size))
gates_apart Prepare l w gates size = bits_apart Prepare with_prepare prepare_apart w gates size
gates_apart Recover l w gates size = bits_apart Recover with_recover recover_apart w gates size

gate_other : (p q : GateWord) (x y : List Gate) → GatesApart p x y → (Gates p ≡ Gates q → ⊥) → gate_word x q ≡ gate_word y q
unfolding gate_word gate_bits
gate_other p q x y h d = grind arith

-- the outputs, were these the signals
abbrev outputs_by : Crate → (ℕ → ℕ) → ℕ
outputs_by s present = pack output_count (λ o. not (trips_by (selected s.settings.selections o) present output_words))

outputs_gates : (s : Crate) (x : List Gate) → ((g : ℕ) → (gate_at x g).state ≡ (gate_at s.gates g).state) →
    interlocks (with_gates s x) ≡ interlocks s
unfolding interlocks trips signals gate_bits
outputs_gates s x e = λ i.
    outputs_by s (λ k.
    pick (ltb k 8) (overflow_word is_under s.counters k)
    (pick (ltb k 16) (overflow_word is_over s.counters (k - 8)) (other_signals (pack 12 (λ g. is_error (e g i))) s.watchdogs s.status.gatelevels k)))

readout_gates : (p : GateWord) (s : Crate) (x : List Gate) → GatesApart p x s.gates → (q : ReadoutWord) → readout_word (with_gates s x) q ≡ readout_word s q
unfolding readout_word gate_bits outputs_of state_word
readout_gates p s x h q = grind (arith, outputs_gates)

-- ---- watchdogs: those of the word that is written

watchdogs_other : (f : Watchdog → Bool) (k w : ℕ) (xs : List Watchdog) → length xs ≡ 54 → (j : ℕ) → (j ≡ k → ⊥) →
    watchdog_word f (reset_watchdogs k w xs) j ≡ watchdog_word f xs j
unfolding watchdog_word reset_watchdogs watchdog_at reset_in
watchdogs_other f k w xs size j d =
    pack_ext 16 _ _ (λ b h.
    each_at (λ i x. i ≡ 16 * j + b → f x ≡ f (get_or xs i watchdog0)) 54 watchdog0 (reset_in k w) xs size
    (λ i p. let q : i / 16 ≡ j = omega arith in rw (q, ne_eqb j k d) refl) (λ i p. refl) (16 * j + b) refl)

readout_watchdogs : (k w : ℕ) (s : Crate) → length s.watchdogs ≡ 54 → (q : ReadoutWord) → follows (Watchdogs k) (Readout q) ≡ false →
    readout_word (with_watchdogs s (reset_watchdogs k w s.watchdogs)) q ≡ readout_word s q
unfolding readout_word
readout_watchdogs k w s size q f = grind (arith, watchdogs_other)

-- ---- counters: RESET, or one counter's input register

record CounterApart (r : Register) (x y : Counter) : Type 0 where
  count : (k : ℕ) → follows r (Readout (Count k)) ≡ false → x.count ≡ y.count
  under : (k : ℕ) → follows r (Readout (Negative k)) ≡ false → is_under x ≡ is_under y
  over : (k : ℕ) → follows r (Readout (Positive k)) ≡ false → is_over x ≡ is_over y
  positive : x.positive ≡ y.positive
  negative : x.negative ≡ y.negative

abbrev CountersApart : Register → List Counter → List Counter → Type 0
CountersApart r x y = (n : ℕ) → CounterApart r (counter_at x n) (counter_at y n)

cleared_apart : (x : Counter) → CounterApart (Shared Control) (cleared x) x
cleared_apart x = grind arith

clear_apart : (xs : List Counter) → length xs ≡ 128 → CountersApart (Shared Control) (clear_counters xs) xs
unfolding clear_counters counter_at
clear_apart xs size =
    each_at (λ n x. CounterApart (Shared Control) x (get_or xs n counter0)) 128 counter0 (λ n. cleared) xs size (λ n. cleared_apart (get_or xs n counter0))
    (λ n. assumption)

clears_apart : (p : SharedWord) (w : ℕ) (xs : List Counter) → length xs ≡ 128 → CountersApart (Shared p) (shared_clears p w xs) xs
unfolding reset_by
clears_apart Control w xs size = both (λ ys. CountersApart (Shared Control) ys xs) (reset_on w) (clear_apart xs size) (λ n. assumption)
clears_apart p w xs size = λ n. assumption

input_apart : (k t : ℕ) (xs : List Counter) → k < length xs → CountersApart (Input k) (set xs k (with_input (counter_at xs k) t)) xs
unfolding counter_at
input_apart k t xs h = grind (arith, common_steps)

outputs_counters : (s : Crate) (x : List Counter) → ((n : ℕ) → is_under (counter_at x n) ≡ is_under (counter_at s.counters n)) →
    ((n : ℕ) → is_over (counter_at x n) ≡ is_over (counter_at s.counters n)) → interlocks (with_counters s x) ≡ interlocks s
unfolding interlocks trips signals overflow_word
outputs_counters s x u o = λ i.
    outputs_by s (λ k.
    pick (ltb k 8) (pack 16 (λ b. u (16 * k + b) i))
    (pick (ltb k 16) (pack 16 (λ b. o (16 * (k - 8) + b) i)) (other_signals (gate_bits failed s.gates) s.watchdogs s.status.gatelevels k)))

outputs_clears : (p : SharedWord) (w : ℕ) (s : Crate) → follows (Shared p) (Readout Outputs) ≡ false →
    interlocks (with_counters s (shared_clears p w s.counters)) ≡ interlocks s
outputs_clears p w s f = grind arith

readout_counters : (r : Register) (s : Crate) (x : List Counter) → CountersApart r x s.counters →
    (follows r (Readout Outputs) ≡ false → interlocks (with_counters s x) ≡ interlocks s) →
    (q : ReadoutWord) → follows r (Readout q) ≡ false → readout_word (with_counters s x) q ≡ readout_word s q
unfolding readout_word overflow_word
readout_counters r s x h o (Negative k) f = λ i. pack 16 (λ b. (h (16 * k + b)).under k f i)
readout_counters r s x h o (Positive k) f = λ i. pack 16 (λ b. (h (16 * k + b)).over k f i)
readout_counters r s x h o (Count k) f = ap (half_of k) ((h (k / 2)).count k f)
readout_counters r s x h o q f = grind arith

-- every counter keeps its input register when counts are cleared, and the others when one is written
input_kept : (p : SharedWord) (w : ℕ) (xs : List Counter) → length xs ≡ 128 → (n : ℕ) → (counter_at (shared_clears p w xs) n).input ≡ (counter_at xs n).input
unfolding reset_by clear_counters counter_at
input_kept Control w xs size n =
    both (λ (ys : List Counter). (get_or ys n counter0).input ≡ (get_or xs n counter0).input) (reset_on w)
    (each_at (λ n x. x.input ≡ (get_or xs n counter0).input) 128 counter0 (λ n. cleared) xs size (λ n. refl) (λ n. refl) n)
    refl
input_kept p w xs size n = refl

input_other : (k t : ℕ) (xs : List Counter) (n : ℕ) → (Input k ≡ Input n → ⊥) →
    (counter_at (set xs k (with_input (counter_at xs k) t)) n).input ≡ (counter_at xs n).input
unfolding counter_at
input_other k t xs n d = ap (λ (x : Counter). x.input) (get_or-set_other xs k n _ counter0 (λ p. d (ap Input (sym p))))

-- ---- what all counters share

shared_other : (p q : SharedWord) (w : ℕ) (cm : Common) → (Shared p ≡ Shared q → ⊥) → shared_word (shared_write p w cm) q ≡ shared_word cm q
unfolding shared_word shared_write control_write key_write enable_write reload_write requested
shared_other p q w cm d = grind arith

busy_same : (p : SharedWord) (w : ℕ) (cm : Common) → busy (shared_write p w cm).loader ≡ busy cm.loader
unfolding shared_write control_write key_write enable_write reload_write requested
busy_same p w cm = grind arith

queue_same : (p : SharedWord) (w : ℕ) (cm : Common) → follows (Shared p) (Readout QueueLength) ≡ false → (shared_write p w cm).queue ≡ cm.queue
unfolding shared_write control_write key_write enable_write
queue_same p w cm f = grind arith

readout_common : (r : Register) (s : Crate) (x : Common) → busy x.loader ≡ busy s.common.loader →
    (follows r (Readout QueueLength) ≡ false → x.queue ≡ s.common.queue) →
    (q : ReadoutWord) → follows r (Readout q) ≡ false → readout_word (with_common s x) q ≡ readout_word s q
unfolding readout_word interlocks trips signals
readout_common r s x e h q f = grind arith

readout_groups : (s : Crate) (x : List ℕ) (q : ReadoutWord) → readout_word (with_groups s x) q ≡ readout_word s q
unfolding readout_word interlocks trips signals
readout_groups s x q = grind arith

-- ---- so a read of any other register gives what it gave, but for the side effects that `follows` names

other_register : (m : Machine) → Sized m → (r : Register) → InMap r → (w : ℕ) (q : Register) → (r ≡ q → ⊥) → follows r q ≡ false →
    word_in (write_at m r w) q ≡ word_in m q
unfolding word_in write_at word_at
other_register m s (Readout p) l w q d f = refl
other_register m s (Setting p) l w (Readout q) d f = readout_settings p w m.state q f
other_register m s (Setting p) l w (Setting q) d f = setting_other p q w m.state.settings d
other_register m s (Setting p) l w q d f = refl
other_register m s (Shared p) l w (Readout q) d f =
    readout_common (Shared p) (with_counters m.state (shared_clears p w m.state.counters)) _ (busy_same p w m.state.common)
    (queue_same p w m.state.common) q f
    ∙ readout_counters (Shared p) m.state _ (clears_apart p w m.state.counters s.counters) (outputs_clears p w m.state) q f
other_register m s (Shared p) l w (Shared q) d f = shared_other p q w m.state.common d
other_register m s (Shared p) l w (Input n) d f = input_kept p w m.state.counters s.counters n
other_register m s (Shared p) l w q d f = refl
other_register m s (Gates p) l w (Readout q) d f = readout_gates p m.state _ (gates_apart p l w m.state.gates s.gates) q
other_register m s (Gates p) l w (Gates q) d f = gate_other p q _ m.state.gates (gates_apart p l w m.state.gates s.gates) d
other_register m s (Gates p) l w q d f = refl
other_register m s (Watchdogs k) l w (Readout q) d f = readout_watchdogs k w m.state s.watchdogs q f
other_register m s (Watchdogs k) l w (Watchdogs j) d f =
    watchdogs_other reset_of k w m.state.watchdogs s.watchdogs j (λ p. d (ap Watchdogs (sym p)))
other_register m s (Watchdogs k) l w q d f = refl
other_register m s (Input n) l w (Readout q) d f =
    let c = input_apart n (kept (Input n) w) m.state.counters (omega (arith, s.counters)) in
    readout_counters (Input n) m.state _ c (λ f. outputs_counters m.state _ (λ j. (c j).under 0 refl) (λ j. (c j).over 0 refl)) q f
other_register m s (Input n) l w (Input k) d f = input_other n _ m.state.counters k d
other_register m s (Input n) l w q d f = refl
other_register m s (Group k) l w (Readout q) d f = readout_groups m.state _ q
other_register m s (Group k) l w (Group j) d f = word_other Group m.state.groups k _ j d
other_register m s (Group k) l w q d f = refl
other_register m s (Word i) l w (Word j) d f = word_other Word m.memory i _ j d
other_register m s (Word i) l w q d f = refl

-- a write where there is no register leaves all, and where there is none a read is refused
pub read_other : (l : List Call) (a w b : ℕ) → (a ≡ b → ⊥) → follows_at a b ≡ false →
    read_of (step (after l) (write a w)) b ≡ read_of (after l) b
read_other l a w b d f =
    read_whole (step (after l) (write a w)) (full (after l) (full_after l) (write a w)) b
    ∙ ap (λ (m : Machine). read_in m (decode_of b)) (written (after l) (full_after l) a w)
    ∙ by (decode_of a) refl (decode_of b) refl
    ∙ sym (read_whole (after l) (full_after l) b)
  where
    by : (o : Option Register) → decode_of a ≡ o → (p : Option Register) → decode_of b ≡ p → read_in (write_in (after l) o w) p ≡ read_in (after l) p
    by None e p q = refl
    by (Some r) e None q = refl
    by (Some r) e (Some t) q = ap Ok (other_register (after l) (sized_after l) r (placed_as a r e).inside w t (λ n. d (sym (placed_as a r e).address ∙ ap address_of n ∙ (placed_as b t q).address)) (rw (e, q) at f))
