-- A part that repeats what the sheet has leaves it as it was, by the fields of the sheet; then the settled parts leave the sheet that all
-- parts leave, by induction.
use Prim.Native.Nat.{ℕ, ◌+◌, ◌*◌, ◌/◌, ◌%◌, ◌<◌}
use native.Mathlib.Nat.{mod-lt}
use native.Mathlib.Omega.{arith}
use mathlib.Core.Bool.{Bool, true, false, not, ◌||◌, false≢true}
use mathlib.Core.List.{List, [], ◌∷◌}
use mathlib.Core.Path.{◌≡◌, refl, sym, ap, ◌∙◌}
use borrow.Author.Tests.{eqb-true, not-false, not-true}
use lib.Dec.{eqb}
use lib.IntN.{ℤ, pos}
use lib.ListN.{get_or, length, length-set, set}
use lib.Seq.{ext_get_or, set-get_or}
use Rattle.std.proofs.Common.{Option}
use Rattle.bools.specs.Pick.{pick}
use Rattle.words.specs.Word.{bit}
use Rattle.words.proofs.Fields.{bit_low}
use Rattle.bools.proofs.Tests.{both, cases}
use Rattle.lists.proofs.Tables.{any_each, get_or_each, get_d_tabulate, length_tabulate}
use Rattle.counters.specs.declared.counter.Counter.{Counter}
use Rattle.gates.specs.declared.gate.Gate.{Gate}
use Rattle.loader.specs.declared.loader.Reload.{Reload}
use Rattle.counters.specs.Counter.{cleared, counter_step, counter_tick, reset_on, with_count, with_input}
use Rattle.gates.specs.Gate.{each_gate, gate0, gate_at, gate_bits, gate_step, mode, prepare, recover, with_mode, with_prepare, with_prepare_pulse, with_recover, with_recover_pulse, with_timeout}
use Rattle.gates.proofs.Gates.{gate_bit, length_each_gate}
use Rattle.loader.specs.Loader.{is_beyond}
use Rattle.loader.specs.Memory.{loaded}
use Rattle.device.specs.declared.map.GateWord.TheVariants.{Timeout}
use Rattle.device.specs.declared.map.Register.TheVariants.{Gates, Input, Shared, Word}
use Rattle.device.specs.declared.map.SharedWord.TheVariants.{Control, Enable, Key}
use Rattle.device.specs.declared.state.Common.{Common}
use Rattle.causes.specs.Causes.{is_done}
use Rattle.device.specs.Map.{kept}
use Rattle.device.specs.State.{with_registers}
use Rattle.registers.specs.Calls.{download_answer}
use Rattle.tagging.specs.Tag.{command_of, events_on, right_key, tag_request}
use Rattle.ticking.specs.Tick.{common_tick}
use Rattle.writing.specs.Write.{control_write, dataset_in, enable_write, key_write, request_answer, requested}
use Rattle.sheet.specs.OwnPart.{Part, ticked, patched, stored, controlled, keyed, enabled, reloaded, timed, grouped, moded, prepared, recovered, tagged, downloaded}
use Rattle.sheet.specs.Settled.{all_pulsed, every, has_four, idle_command, idle_tag, prepare_pulse, recover_pulse, repeats, settled, settled_from}
use Rattle.sheet.specs.Sheet.{Sheet, put_common, put_counter, put_four, put_gates, put_group, put_memory, reset_counter, sheet0, sheet_after, sheet_command, sheet_from, sheet_load, sheet_step, sheet_tag, sheet_tick}
use Rattle.sheet.proofs.Changes.{sheet_tag_by}
use Rattle.sheet.proofs.Reached.{control_stays}

-- what every sheet from power-up has: its lists' lengths, and count 0 while RESET is set
pub record Formed (s : Sheet) : Type 0 where
  pub memory : length s.memory ≡ 128
  pub gates : length s.gates ≡ 12
  pub reset : reset_on s.common.control ≡ true → s.counter.count ≡ pos 0

-- ---- a repeat, field by field

-- a change of every gate that is none
gates_same : (f : Bool → Gate → Gate) (w : ℕ) (gates : List Gate) → length gates ≡ 12 →
    ((g : ℕ) → g < 12 → f (bit w g) (gate_at gates g) ≡ gate_at gates g) → each_gate f w gates ≡ gates
unfolding each_gate gate_at
gates_same f w gates size same =
    ext_get_or gate0 _ _ (length_each_gate f w gates ∙ sym size)
    (λ g h.
    let h₁ : g < 12 = omega (arith, length_each_gate f w gates) in
    get_or_each 12 gate0 (λ i. f (bit w i)) gates g h₁ ∙ same g h₁)

-- register bits that the gates have
bits_same : (f : Bool → Gate → Gate) (read : Gate → Bool) → ((g : Gate) → f (read g) g ≡ g) → (w : ℕ) (gates : List Gate) → length gates ≡ 12 →
    eqb w (gate_bits read gates) ≡ true → each_gate f w gates ≡ gates
bits_same f read law w gates size e = grind (arith, gates_same, gate_bit)

-- a test that holds of every index holds of each
every_each : (n : ℕ) (f : ℕ → Bool) → every n f ≡ true → (i : ℕ) → i < n → f i ≡ true
every_each n f e i h = not-false (f i) (any_each n (λ i. not (f i)) i (not-true _ e) h)

-- pulses that the gates have
pulses_same : (f : Bool → Gate → Gate) (pulse : Gate → Bool) → ((b : Bool) (g : Gate) → pulse g || not b ≡ true → f b g ≡ g) →
    (t : ℕ) (gates : List Gate) → length gates ≡ 12 → all_pulsed pulse t gates ≡ true → each_gate f t gates ≡ gates
unfolding all_pulsed
pulses_same f pulse law t gates size e =
    gates_same f t gates size
    (λ g h. law (bit t g) (gate_at gates g) (every_each 12 (λ g. pulse (gate_at gates g) || not (bit t g)) e g h))

no_prepare : (b : Bool) (g : Gate) → prepare_pulse g || not b ≡ true → with_prepare_pulse b g ≡ g
no_prepare b g e = grind arith

no_recover : (b : Bool) (g : Gate) → recover_pulse g || not b ≡ true → with_recover_pulse b g ≡ g
no_recover b g e = grind arith

-- a gate's timeout
timeout_same : (gates : List Gate) (g w : ℕ) → w ≡ (gate_at gates g).timeout → set gates g (with_timeout w (gate_at gates g)) ≡ gates
unfolding gate_at
timeout_same gates g w e = ap (λ (t : ℕ). set gates g (with_timeout t (get_or gates g gate0))) e ∙ set-get_or gates g gate0

word_same : (memory : List ℕ) (k w : ℕ) → w ≡ get_or memory k 0 → set memory k w ≡ memory
word_same memory k w e = ap (set memory k) e ∙ set-get_or memory k 0

-- c's four words of a dataset
four_at : (memory : List ℕ) (d : ℕ) (four : List ℕ) → has_four memory d four ≡ true → (j : ℕ) → j < 4 → get_or four j 0 ≡ get_or memory (4 * d + j) 0
unfolding has_four
four_at memory d four e j h = eqb-true _ _ (every_each 4 (λ j. eqb (get_or four j 0) (get_or memory (4 * d + j) 0)) e j h)

four_same : (memory : List ℕ) → length memory ≡ 128 → (d : ℕ) (four : List ℕ) → has_four memory d four ≡ true → put_four memory d four ≡ memory
four_same memory size d four e =
    let at : ℕ → ℕ = λ k. pick (eqb (k / 4) d) (get_or four (k % 4) 0) (get_or memory k 0) in
    ext_get_or 0 _ _ (length_tabulate 128 at ∙ sym size)
    (λ k h.
    get_d_tabulate 128 at k 0 (omega (arith, length_tabulate 128 at))
    ∙ cases (eqb (k / 4) d)
    (λ f. rw f (four_at memory d four e (k % 4) (mod-lt k (omega arith)) ∙ ap (λ (i : ℕ). get_or memory i 0) (whole k d (eqb-true (k / 4) d f))))
    (λ f. rw f refl))
  where
    whole : (k d : ℕ) → k / 4 ≡ d → 4 * d + k % 4 ≡ k
    whole k d e = omega arith

-- 0x0801 again: with RESET set the count is 0 already
reset_kept : (w : ℕ) → reset_on (kept (Shared Control) w) ≡ reset_on w
unfolding kept
reset_kept w = bit_low 2 w 0 (omega arith)

control_same : (w : ℕ) (s : Sheet) → Formed s → kept (Shared Control) w ≡ s.common.control →
    put_common (put_counter s (reset_counter w s.counter)) (control_write w s.common) ≡ s
unfolding control_write
control_same w s f e =
    λ i. put_common (put_counter s (count i)) (with_registers s.common (e i) s.common.key s.common.enable s.common.reload)
  where
    count : reset_counter w s.counter ≡ s.counter
    count =
        cases (reset_on w)
        (λ r. rw r (ap (with_count s.counter) (sym (f.reset (sym (ap reset_on e) ∙ reset_kept w ∙ r)))))
        (λ r. rw r refl)

-- ---- a tag, and every part

refused_same : (t : ℕ) (cm : Common) → is_beyond (dataset_in t) ≡ true → tag_request t cm ≡ cm
unfolding tag_request request_answer
refused_same t cm e = rw e refl

-- a choice that leaves z, where the test of each branch holds
idle_pick : {A : Type 0} (b : Bool) {p q : Bool} {x y z : A} → (p ≡ true → x ≡ z) → (q ≡ true → y ≡ z) → pick b p q ≡ true → pick b x y ≡ z
idle_pick b f g e = grind arith

command_same : (s : Sheet) → Formed s → (t : ℕ) → idle_command s t ≡ true → sheet_command s t ≡ s
unfolding idle_command sheet_command
command_same s f t =
    idle_pick (eqb (command_of t) 1) (λ e. ap (put_common s) (refused_same t s.common e))
    (idle_pick (eqb (command_of t) 2) (λ e. ap (put_gates s) (pulses_same with_prepare_pulse prepare_pulse no_prepare t s.gates f.gates e))
    (idle_pick (eqb (command_of t) 3) (λ e. ap (put_gates s) (pulses_same with_recover_pulse recover_pulse no_recover t s.gates f.gates e))
    (idle_pick (eqb (command_of t) 4) (λ e. ap (λ (z : ℤ). put_counter s (with_count s.counter z)) (sym (f.reset e))) (λ e. refl))))

tag_same : (s : Sheet) → Formed s → (t : ℕ) → idle_tag s t ≡ true → sheet_tag s t ≡ s
unfolding idle_tag sheet_tag
tag_same s f t = idle_pick (events_on s.common) (idle_pick (right_key s.common t) (command_same s f t) (λ e. refl)) (λ e. refl)

-- a part that repeats what the sheet has leaves it as it was
pub own_repeat : (c : ℕ) (s : Sheet) → Formed s → (p : Part) → repeats c s p ≡ true → sheet_step c s p ≡ s
unfolding repeats sheet_step key_write enable_write
own_repeat c s f (ticked true inputs gates) e = refl
own_repeat c s f (ticked false inputs gates) e = absurd (false≢true e)
own_repeat c s f (patched w) e = ap (λ (x : ℕ). put_counter s (with_input s.counter x)) (eqb-true (kept (Input c) w) s.counter.input e)
own_repeat c s f (stored k w) e = ap (put_memory s) (word_same s.memory k _ (eqb-true (kept (Word k) w) (get_or s.memory k 0) e))
own_repeat c s f (controlled w) e = control_same w s f (eqb-true (kept (Shared Control) w) s.common.control e)
own_repeat c s f (keyed w) e =
    ap (λ (x : ℕ). put_common s (with_registers s.common s.common.control x s.common.enable s.common.reload))
    (eqb-true (kept (Shared Key) w) s.common.key e)
own_repeat c s f (enabled w) e =
    ap (λ (x : ℕ). put_common s (with_registers s.common s.common.control s.common.key x s.common.reload))
    (eqb-true (kept (Shared Enable) w) s.common.enable e)
own_repeat c s f (reloaded w) e = absurd (false≢true e)
own_repeat c s f (timed g w) e =
    ap (put_gates s) (timeout_same s.gates g _ (eqb-true (kept (Gates (Timeout g)) w) (gate_at s.gates g).timeout e))
own_repeat c s f (grouped n) e = ap (put_group s) (eqb-true n s.group e)
own_repeat c s f (moded w) e = ap (put_gates s) (bits_same with_mode mode (λ g. refl) w s.gates f.gates e)
own_repeat c s f (prepared w) e = ap (put_gates s) (bits_same with_prepare prepare (λ g. refl) w s.gates f.gates e)
own_repeat c s f (recovered w) e = ap (put_gates s) (bits_same with_recover recover (λ g. refl) w s.gates f.gates e)
own_repeat c s f (tagged t) e = tag_same s f t e
own_repeat c s f (downloaded d size four) e =
    idle_pick (is_done (download_answer d size)) (λ a. ap (put_memory s) (four_same s.memory f.memory d four a)) (λ a. refl) e

-- ---- every part keeps the form

formed_gates : (s : Sheet) → Formed s → (x : List Gate) → length x ≡ 12 → Formed (put_gates s x)
formed_gates s f x p = assumption

formed_memory : (s : Sheet) → Formed s → (x : List ℕ) → length x ≡ 128 → Formed (put_memory s x)
formed_memory s f x p = assumption

formed_common : (s : Sheet) → Formed s → (x : Common) → x.control ≡ s.common.control → Formed (put_common s x)
formed_common s f x p = record { memory = f.memory; gates = f.gates; reset = λ e. f.reset (sym (ap reset_on p) ∙ e) }

formed_cleared : (s : Sheet) → Formed s → Formed (put_counter s (cleared s.counter))
formed_cleared s f = record { memory = f.memory; gates = f.gates; reset = λ e. refl }

request_control : (t : ℕ) (cm : Common) → (tag_request t cm).control ≡ cm.control
unfolding tag_request requested
request_control t cm = cases (is_done (request_answer cm.queue (dataset_in t))) (λ e. rw e refl) (λ e. rw e refl)

formed_tag : (s : Sheet) → Formed s → (t : ℕ) → Formed (sheet_tag s t)
formed_tag s f t =
    sheet_tag_by Formed s t f (formed_common s f _ (request_control t s.common)) (formed_gates s f _ (length_each_gate _ _ s.gates))
    (formed_gates s f _ (length_each_gate _ _ s.gates)) (formed_cleared s f)

-- the loader leaves the count, and RESET holds it
load_count : (c : ℕ) (l : Option Reload) (group : ℕ) (memory : List ℕ) (x : Counter) → (sheet_load c l group memory x).count ≡ x.count
unfolding sheet_load loaded
load_count c l group memory x = grind arith

held_zero : (control rises was is : ℕ) (x : Counter) → reset_on control ≡ true → (counter_tick control rises was is x).count ≡ pos 0
unfolding counter_tick counter_step
held_zero control rises was is x e = rw e refl

formed_tick : (c : ℕ) (s : Sheet) → Formed s → (inputs gates : ℕ) → Formed (sheet_tick c s inputs gates)
unfolding sheet_tick common_tick
formed_tick c s f inputs gates = record {
  memory = f.memory;
  gates = length_each_gate gate_step gates s.gates;
  reset = λ e. load_count c _ _ _ _ ∙ held_zero s.common.control _ _ _ s.counter e;
}

formed_control : (s : Sheet) → Formed s → (w : ℕ) → Formed (put_common (put_counter s (reset_counter w s.counter)) (control_write w s.common))
unfolding control_write
formed_control s f w = record { memory = f.memory; gates = f.gates; reset = λ e. rw (sym (reset_kept w) ∙ e) refl }

pub formed : (c : ℕ) (s : Sheet) → Formed s → (p : Part) → Formed (sheet_step c s p)
unfolding sheet_step key_write enable_write
formed c s f (ticked refused inputs gates) = both Formed refused f (formed_tick c s f inputs gates)
formed c s f (patched w) = record { memory = f.memory; gates = f.gates; reset = f.reset }
formed c s f (stored k w) = formed_memory s f _ (length-set s.memory k _ ∙ f.memory)
formed c s f (controlled w) = formed_control s f w
formed c s f (keyed w) = formed_common s f _ refl
formed c s f (enabled w) = formed_common s f _ refl
formed c s f (reloaded w) = formed_common s f _ (control_stays w s.common)
formed c s f (timed g w) = formed_gates s f _ (length-set s.gates g _ ∙ f.gates)
formed c s f (grouped n) = record { memory = f.memory; gates = f.gates; reset = f.reset }
formed c s f (moded w) = formed_gates s f _ (length_each_gate _ _ s.gates)
formed c s f (prepared w) = formed_gates s f _ (length_each_gate _ _ s.gates)
formed c s f (recovered w) = formed_gates s f _ (length_each_gate _ _ s.gates)
formed c s f (tagged t) = formed_tag s f t
formed c s f (downloaded d size four) = both Formed (is_done (download_answer d size)) (formed_memory s f _ (length_tabulate 128 _)) f

pub formed_start : Formed sheet0
unfolding sheet0
formed_start = record { memory = length_tabulate 128 _; gates = length_tabulate 12 _; reset = λ e. refl }

pub formed_from : (c : ℕ) (s : Sheet) → Formed s → (parts : List Part) → Formed (sheet_from c s parts)
unfolding sheet_from
formed_from c s f [] = f
formed_from c s f (p ∷ parts) = formed_from c (sheet_step c s p) (formed c s f p) parts

pub formed_after : (c : ℕ) (parts : List Part) → Formed (sheet_after c parts)
unfolding sheet_after
formed_after c parts = formed_from c sheet0 formed_start parts

-- ---- the settled parts

pub settled_from_lem : (c : ℕ) (s : Sheet) → Formed s → (parts : List Part) → sheet_from c s (settled_from c s parts) ≡ sheet_from c s parts
unfolding settled_from sheet_from
settled_from_lem c s f [] = refl
settled_from_lem c s f (p ∷ parts) =
    let rest = settled_from_lem c (sheet_step c s p) (formed c s f p) parts in
    cases (repeats c s p)
    (λ e. rw e (ap (λ (t : Sheet). sheet_from c t (settled_from c (sheet_step c s p) parts)) (sym (own_repeat c s f p e)) ∙ rest))
    (λ e. rw e rest)

-- the settled parts leave the sheet that all parts leave
pub settled_same : (c : ℕ) (parts : List Part) → sheet_after c (settled c parts) ≡ sheet_after c parts
unfolding settled sheet_after
settled_same c parts = settled_from_lem c sheet0 formed_start parts
