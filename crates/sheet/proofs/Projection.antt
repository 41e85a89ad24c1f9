-- The projection: the sheet of counter c that stands in a machine, for a set S of lines.
use Prim.Native.Nat.{ℕ, ◌+◌, ◌*◌, ◌<◌, ◌/◌, ◌%◌}
use native.Mathlib.Nat.{add-zero, mod-lt}
use native.Mathlib.Omega.{arith}
use mathlib.Core.Bool.{Bool, true, false, ◌&&◌}
use mathlib.Core.List.{List}
use mathlib.Core.Path.{◌≡◌, refl, sym, ◌∙◌}
use borrow.Author.Tests.{eqb-true}
use lib.Dec.{eqb, lit<}
use lib.ListN.{length, get_or, set, get_or-eq_default}
use Rattle.std.proofs.lemmas.Grind.{common_steps}
use Rattle.bools.specs.Pick.{pick}
use Rattle.words.specs.Word.{bit, masked_bits}
use Rattle.words.proofs.Packing.{bit_masked, bit_pack, masked_zero, nibble_zero}
use Rattle.bools.proofs.Tests.{cases, pick_same}
use Rattle.lists.specs.Table.{tabulate, each}
use Rattle.lists.proofs.Tables.{get_d_past, get_d_set, get_d_tabulate, set_tabulate, tabulate_ext}
use Rattle.counters.specs.declared.counter.Counter.{Counter}
use Rattle.gates.specs.declared.gate.Gate.{Gate}
use Rattle.counters.specs.Counter.{counter0, counter_at, counter_tick, down_of, gate_of, up_of}
use Rattle.gates.specs.Gate.{each_gate, gate0, gate_at, outputs_of}
use Rattle.lines.specs.Lines.{rise_of, rises_of}
use Rattle.loader.specs.Loader.{group_at}
use Rattle.loader.specs.Memory.{memory_words, place_of, word_at}
use Rattle.gates.proofs.Gates.{gate_bit, gate_bit_past}
use Rattle.registers.specs.Calls.{machine0}
use Rattle.registers.proofs.Whole.{WholeMemory}
use Rattle.device.specs.State.{Machine, memory0, power_up}
use Rattle.sheet.specs.Lines.{Lines}
use Rattle.sheet.specs.Sheet.{Sheet, sheet0, sheet_of}

-- own gates as they are, the others at their power-up value
unfoldable pub own_gates : (ℕ → Bool) → List Gate → List Gate
own_gates mine gates = tabulate 12 (λ g. pick (mine g) (gate_at gates g) gate0)

-- where own word k of counter c stands in the memory: k / 4 is the dataset, k % 4 which of the four
unfoldable pub own_place : ℕ → ℕ → ℕ
own_place c k = place_of (k / 4) c + k % 4

-- c's 128 words of the memory
unfoldable pub own_words : ℕ → List ℕ → List ℕ
own_words c memory = tabulate 128 (λ k. word_at memory (own_place c k))

unfoldable pub sheet_in : Lines → ℕ → Machine → Sheet
sheet_in S c m =
    sheet_of
    (counter_at m.state.counters c)
    (group_at m.state.groups c)
    (own_words c m.memory)
    m.state.common
    (masked_bits 54 S.inputs m.state.levels)
    (own_gates S.gates m.state.gates)

-- S has the lines that a word selects
pub record Fits (S : Lines) (w : ℕ) : Type 0 where
  pub up : up_of w < 54 → S.inputs (up_of w) ≡ true
  pub down : down_of w < 54 → S.inputs (down_of w) ≡ true
  pub gate : gate_of w < 12 → S.gates (gate_of w) ≡ true

-- ---- gates

-- a gate that is not own and is fed nothing stays where it is: the one law for ticks, register bits and pulses
pub own_gates_each : (f : Bool → Gate → Gate) → f false gate0 ≡ gate0 → (mine : ℕ → Bool) (w : ℕ) (gates : List Gate) →
    own_gates mine (each_gate f w gates) ≡ each_gate f (masked_bits 12 mine w) (own_gates mine gates)
unfolding own_gates each_gate each gate_at
own_gates_each f z mine w gates =
    tabulate_ext 12 _ _ (λ g h.
    rw (get_d_tabulate 12 (λ g. f (bit w g) (get_or gates g gate0)) g, get_d_tabulate, bit_masked) (one (mine g) (bit w g) (get_or gates g gate0)))
  where
    one : (b v : Bool) (y : Gate) → pick b (f v y) gate0 ≡ f (b && v) (pick b y gate0)
    one true v y = refl
    one false v y = sym z

pub own_gates_at : (mine : ℕ → Bool) (gates : List Gate) (g : ℕ) → g < 12 → mine g ≡ true → gate_at (own_gates mine gates) g ≡ gate_at gates g
unfolding own_gates gate_at
own_gates_at mine gates g h isOwn = rw get_d_tabulate (rw isOwn refl)

-- one gate is written: an own one in the sheet too, another not at all
pub own_gates_set : (mine : ℕ → Bool) (gates : List Gate) → length gates ≡ 12 → (g : ℕ) → mine g ≡ true → (f : Gate → Gate) →
    own_gates mine (set gates g (f (gate_at gates g))) ≡ set (own_gates mine gates) g (f (gate_at (own_gates mine gates) g))
unfolding own_gates gate_at
own_gates_set mine gates size g isOwn f =
    tabulate_ext 12 _ _ (λ k h.
    rw (get_d_set gates g (f (get_or gates g gate0)) k gate0 (omega arith))
    (cases (eqb k g)
    (λ e.
    let p : k ≡ g = eqb-true k g e in
    rw (e, p, isOwn, own_gates_at mine gates g (rw p at h) isOwn) refl)
    (λ e. rw e refl)))
    ∙ sym (set_tabulate 12 _ g _)

pub own_gates_other : (mine : ℕ → Bool) (gates : List Gate) → length gates ≡ 12 → (g : ℕ) → mine g ≡ false → (v : Gate) →
    own_gates mine (set gates g v) ≡ own_gates mine gates
unfolding own_gates gate_at
own_gates_other mine gates size g other v = grind (arith, common_steps)

-- the output that c's gate field selects is that of an own gate, or there is none
pub outputs_own : (mine : ℕ → Bool) (gates : List Gate) (g : ℕ) → (g < 12 → mine g ≡ true) →
    bit (outputs_of gates) g ≡ bit (outputs_of (own_gates mine gates)) g
unfolding outputs_of
outputs_own mine gates g fit = grind (arith, gate_bit, own_gates_at, gate_bit_past)

-- ---- rises and the counter

pub rise_of_own : (mine : ℕ → Bool) (before now : ℕ) (phases : List ℕ) (u : ℕ) → (u < 54 → mine u ≡ true) →
    rise_of before now phases u ≡ rise_of (masked_bits 54 mine before) (masked_bits 54 mine now) phases u
unfolding rise_of
rise_of_own mine before now phases u fit = grind (arith, bit_masked)

rises_own : (mine : ℕ → Bool) (before now : ℕ) (phases : List ℕ) (u : ℕ) → u < 64 → (u < 54 → mine u ≡ true) →
    bit (rises_of before now phases) u ≡ bit (rises_of (masked_bits 54 mine before) (masked_bits 54 mine now) phases) u
unfolding rises_of
rises_own mine before now phases u h fit = grind (arith, bit_pack, rise_of_own)

pub counter_tick_own : (S : Lines) (control before now : ℕ) (phases : List ℕ) (was is : List Gate) (x : Counter) → Fits S x.input →
    counter_tick control (rises_of before now phases) (outputs_of was) (outputs_of is) x
    ≡ counter_tick control (rises_of (masked_bits 54 S.inputs before) (masked_bits 54 S.inputs now) phases)
    (outputs_of (own_gates S.gates was)) (outputs_of (own_gates S.gates is)) x
unfolding counter_tick
counter_tick_own S control before now phases was is x fit =
    rw (
      outputs_own S.gates was (gate_of x.input) fit.gate,
      outputs_own S.gates is (gate_of x.input) fit.gate,
      rises_own S.inputs before now phases (up_of x.input) (mod-lt _ (lit< tt)) fit.up,
      rises_own S.inputs before now phases (down_of x.input) (mod-lt _ (lit< tt)) fit.down,
    )

-- ---- the memory

-- own word 4 d + j is word j of dataset d, also where there is no such dataset
pub own_words_at : (c : ℕ) → c < 128 → (memory : List ℕ) → WholeMemory memory → (d j : ℕ) → j < 4 →
    word_at (own_words c memory) (4 * d + j) ≡ word_at memory (place_of d c + j)
unfolding own_words word_at own_place
own_words_at c c< memory size d j j< = grind (arith, get_d_tabulate, get_d_past, get_or-eq_default)

pub own_words_first : (c : ℕ) → c < 128 → (memory : List ℕ) → WholeMemory memory → (d : ℕ) →
    word_at (own_words c memory) (4 * d) ≡ word_at memory (place_of d c)
own_words_first c c< memory size d = rw (add-zero (4 * d), add-zero (place_of d c)) at (own_words_at c c< memory size d 0 (omega arith))

-- ---- a path between sheets is a path for each field

pub sheet≡ : {s t : Sheet} → s.counter ≡ t.counter → s.group ≡ t.group → s.memory ≡ t.memory → s.common ≡ t.common →
    s.levels ≡ t.levels → s.gates ≡ t.gates → s ≡ t
sheet≡ p q r u v w = λ i. sheet_of (p i) (q i) (r i) (u i) (v i) (w i)

-- ---- power-up

group_start : (c : ℕ) → c < 128 → group_at (tabulate 32 (λ i. 0)) c ≡ 0
unfolding group_at
group_start c c< = rw (get_d_tabulate {A = ℕ} 32 (λ i. 0) (c / 4) 0 (omega arith)) (nibble_zero (c % 4))

gates_start : (mine : ℕ → Bool) → own_gates mine (tabulate 12 (λ g. gate0)) ≡ tabulate 12 (λ g. gate0)
unfolding own_gates gate_at
gates_start mine = tabulate_ext 12 _ _ (λ g h. rw get_d_tabulate (pick_same (mine g) gate0))

words_start : (c : ℕ) → c < 128 → own_words c (tabulate memory_words (λ a. 0)) ≡ tabulate 128 (λ k. 0)
unfolding own_words word_at own_place
words_start c c< = tabulate_ext 128 _ _ (λ k h. get_d_tabulate memory_words _ _ 0 (omega arith))

pub start : (S : Lines) (c : ℕ) → c < 128 → sheet_in S c machine0 ≡ sheet0
unfolding sheet_in power_up memory0 sheet0 counter_at
start S c c< =
    sheet≡ (get_d_tabulate 128 _ c counter0 c<) (group_start c c<) (words_start c c<) refl (masked_zero 54 S.inputs) (gates_start S.gates)
