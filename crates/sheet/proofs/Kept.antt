-- What every call keeps of the lines: S has those which c's input register selects.
use Prim.Native.Nat.{ℕ}
use native.Mathlib.Omega.{arith}
use mathlib.Core.Bool.{Bool}
use mathlib.Core.List.{List}
use mathlib.Core.Path.{◌≡◌}
use Rattle.std.proofs.lemmas.Grind.{common_steps}
use Rattle.std.proofs.Common.{Option, Some, None}
use Rattle.words.proofs.Fields.{field_low}
use Rattle.counters.specs.declared.counter.Counter.{Counter}
use Rattle.loader.specs.declared.loader.Reload.{Reload as Reloading}
use Rattle.counters.specs.Counter.{counter_step, counter_tick, input0}
use Rattle.loader.specs.Memory.{loaded}
use Rattle.device.specs.declared.map.Register.{Register}
use Rattle.device.specs.declared.map.Register.TheVariants.{Input}
use Rattle.registers.specs.Calls.{Call}
use Rattle.device.specs.Map.{kept}
use Rattle.sheet.specs.Lines.{Holds, Lines, join, lines_at, lines_in, lines_of, no_lines}
use Rattle.sheet.specs.OwnPart.{Part, patched, own, own_at}
use Rattle.sheet.specs.Sheet.{Sheet, sheet_load, sheet_step, sheet_tag, sheet_tick}
use Rattle.sheet.proofs.Changes.{sheet_tag_by}
use Rattle.sheet.proofs.Fed.{sheet_step_by}
use Rattle.sheet.proofs.Projection.{Fits}

-- ---- the lines of S are enough

pub holds_all : (S : Lines) → Holds S S
holds_all S = record { inputs = λ i e. e; gates = λ g e. e }

pub holds_left : (S A B : Lines) → Holds S (join A B) → Holds S A
unfolding join
holds_left S A B h = record { inputs = λ i e. grind (arith, common_steps, h.inputs i); gates = λ g e. grind (arith, common_steps, h.gates g) }

pub holds_right : (S A B : Lines) → Holds S (join A B) → Holds S B
unfolding join
holds_right S A B h = record { inputs = λ i e. grind (arith, common_steps, h.inputs i); gates = λ g e. grind (arith, common_steps, h.gates g) }

pub holds_both : (S A B : Lines) → Holds S A → Holds S B → Holds S (join A B)
unfolding join
holds_both S A B p q = grind arith

pub holds_none : (S : Lines) → Holds S no_lines
holds_none S = record { inputs = λ i e. cc; gates = λ g e. cc }

-- a word's lines are what it selects
fits_word : (S : Lines) (w : ℕ) → Holds S (lines_of w) → Fits S w
unfolding lines_of
fits_word S w h = grind arith

pub holds_word : (S : Lines) (w : ℕ) → Fits S w → Holds S (lines_of w)
unfolding lines_of
holds_word S w f = grind arith

-- the stored word has the lines of the written one: all 16 bits are kept
pub lines_kept : (c w : ℕ) → lines_of (kept (Input c) w) ≡ lines_of w
unfolding kept lines_of
lines_kept c w = rw (field_low 0 6 16 w (omega arith), field_low 6 6 16 w (omega arith), field_low 12 4 16 w (omega arith))

pub fits_start : (S : Lines) → Fits S input0
fits_start S = record { up = λ p. absurd (omega arith); down = λ p. absurd (omega arith); gate = λ p. absurd (omega arith) }

-- the lines that a part brings: those of a call are in its own part, whatever lines that was taken with
abbrev pub part_lines : Part → Lines
part_lines (patched w) = lines_of w
part_lines p = no_lines

abbrev pub lines_by : Option Part → Lines
lines_by None = no_lines
lines_by (Some p) = part_lines p

lines_write : (S : Lines) (c : ℕ) (r : Register) (w : ℕ) → lines_by (own_at S c r w) ≡ lines_at c r w
unfolding own_at lines_at
lines_write S c r w = grind arith

pub lines_call : (S : Lines) (c : ℕ) (x : Call) → lines_by (own S c x) ≡ lines_in c x
unfolding own lines_in
lines_call S c x = grind (arith, lines_write)

-- the loader leaves it
load_input : (c : ℕ) (l : Option Reloading) (group : ℕ) (memory : List ℕ) (x : Counter) → (sheet_load c l group memory x).input ≡ x.input
unfolding sheet_load loaded
load_input c l group memory x = grind arith

-- the sheet's input register after a call: shown on the sheet, where it is one field, and carried to the machine by the square
module _ (S : Lines) (c : ℕ) (s : Sheet) (fit : Fits S s.counter.input) where
  abbrev Fit : Sheet → Type 0
  Fit t = Fits S t.counter.input

  abbrev FitCounter : Counter → Type 0
  FitCounter x = Fits S x.input

  fits_step : (x : Counter) (hold clear opened up down : Bool) → FitCounter x → FitCounter (counter_step x hold clear opened up down)
  unfolding counter_step
  fits_step x hold clear opened up down f = grind arith

  fits_tick : (inputs gates : ℕ) → Fit (sheet_tick c s inputs gates)
  unfolding sheet_tick counter_tick
  fits_tick inputs gates = rw load_input (fits_step s.counter _ _ _ _ _ fit)

  fits_tag : (t : ℕ) → Fit (sheet_tag s t)
  fits_tag t = sheet_tag_by Fit s t fit fit fit fit fit

  pub fits_part : (p : Part) → Holds S (part_lines p) → Fit (sheet_step c s p)
  unfolding sheet_step
  fits_part p h = grind (arith, fits_tick, fits_word, lines_kept, fits_tag)

  fits_by : (o : Option Part) → Holds S (lines_by o) → Fit (sheet_step_by c s o)
  fits_by o h = grind (arith, fits_part)

  pub fits : (x : Call) → Holds S (lines_in c x) → Fit (sheet_step_by c s (own S c x))
  fits x h = fits_by (own S c x) (rw (lines_call S c x) h)
