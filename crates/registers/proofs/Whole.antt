-- A memory of 16,384 words stays one: no call changes its length.
use Prim.Native.Nat.{ℕ, ◌*◌, ◌<◌}
use native.Mathlib.Omega.{arith}
use mathlib.Core.Bool.{true, false≢true}
use mathlib.Core.List.{List}
use mathlib.Core.Path.{◌≡◌, sym, ◌∙◌}
use borrow.Author.Tests.{eq-eqb, eqb-true, ltb-false}
use lib.Dec.{eqb, ltb}
use lib.ListN.{length, length-set}
use Rattle.std.proofs.Common.{Result, Ok, Err, Option}
use Rattle.std.specs.Option.{option_map_or}
use Rattle.bools.proofs.Tests.{cases}
use Rattle.causes.specs.declared.Cause.{Cause}
use Rattle.causes.specs.declared.Cause.TheVariants.{Address}
use Rattle.lists.proofs.Splice.{length_spliced}
use Rattle.loader.specs.Memory.{dataset_words, is_whole, memory_words, replaced}
use Rattle.device.specs.declared.map.Register.{Register}
use Rattle.device.specs.declared.map.Register.TheVariants.{Word}
use Rattle.device.specs.Map.{decode_of}
use Rattle.causes.specs.Causes.{is_done}
use Rattle.device.specs.State.{Machine}
use Rattle.reading.specs.Read.{read_of, word_in}
use Rattle.registers.proofs.Keeping.{Any, Change, Keeps, changed, from_keeps, step_keeps, written}
use Rattle.registers.specs.Calls.{Call, called, download_answer, from, step}
use Rattle.writing.specs.Write.{write_at}

-- as the proofs say it, and as the code tests it
abbrev pub WholeMemory : List ℕ → Type 0
WholeMemory memory = length memory ≡ memory_words

pub is_whole_lem : (memory : List ℕ) → WholeMemory memory → is_whole memory ≡ true
is_whole_lem memory h = eq-eqb (length memory) memory_words h

-- what an accepted download says of its numbers
pub accepted : (d n : ℕ) → is_done (download_answer d n) ≡ true → (n ≡ dataset_words) × (d < 32)
unfolding download_answer
accepted d n e =
    cases (eqb n 512)
    (λ f. cases (ltb 31 d) (λ g. absurd (false≢true (sym (rw (f, g)) ∙ e))) (λ g. (eqb-true n 512 f, omega (arith, ltb-false))))
    (λ f. absurd (false≢true (sym (rw f) ∙ e)))

pub length_replaced : (memory : List ℕ) (d : ℕ) (words : List ℕ) → WholeMemory memory → is_done (download_answer d (length words)) ≡ true →
    WholeMemory (replaced memory (dataset_words * d) words)
unfolding replaced
length_replaced memory d words p e =
    let a = accepted d (length words) e in length_spliced memory (512 * d) words (omega (arith, a.0, a.1)) ∙ p

whole_changed : (m : Machine) → WholeMemory m.memory → (x : Change) → WholeMemory (changed m x).memory
unfolding write_at
whole_changed m h (written (Word i) w) = length-set m.memory i _ ∙ h
whole_changed m h x = h

whole_keeps : Keeps Any (λ m. WholeMemory m.memory)
whole_keeps = record {
  change = whole_changed;
  tick = λ m h inputs gates c e. h;
  download = λ m h d words c e. length_replaced m.memory d words h e;
}

pub full : (m : Machine) → WholeMemory m.memory → (x : Call) → WholeMemory (step m x).memory
full m h x = step_keeps whole_keeps m h x tt

pub full_from : (m : Machine) → WholeMemory m.memory → (l : List Call) → WholeMemory (from m l).memory
full_from = from_keeps whole_keeps

-- with a whole memory a call is made
pub step_called : (m : Machine) → WholeMemory m.memory → (x : Call) → step m x ≡ called m x
unfolding step
step_called m h x = rw (is_whole_lem m.memory h)

-- and a read gives what stands at its address
abbrev pub read_in : Machine → Option Register → Result ℕ Cause
read_in m o = option_map_or (λ (r : Register). Ok (word_in m r)) o (Err Address)

pub read_whole : (m : Machine) → WholeMemory m.memory → (a : ℕ) → read_of m a ≡ read_in m (decode_of a)
unfolding read_of
read_whole m h a = rw (is_whole_lem m.memory h)
