-- One induction over calls: what each change of the machine keeps, each call keeps, and so each list.
use Prim.Native.Nat.{ℕ, ◌*◌}
use native.Mathlib.Omega.{arith}
use mathlib.Core.Bool.{true, false}
use mathlib.Core.List.{List, [], ◌∷◌}
use mathlib.Core.Path.{◌≡◌}
use lib.Dec.{eqb}
use lib.ListN.{length}
use Rattle.bools.proofs.Tests.{both, pick_elim}
use Rattle.counters.specs.Counter.{clear_counters}
use Rattle.gates.specs.Gate.{each_gate, with_prepare_pulse, with_recover_pulse}
use Rattle.lines.specs.Lines.{bad_levels}
use Rattle.loader.specs.Memory.{dataset_words, is_whole, replaced}
use Rattle.device.proofs.Found.{found}
use Rattle.causes.specs.Causes.{is_done}
use Rattle.device.specs.Map.{decode_of}
use Rattle.device.specs.State.{Machine, with_memory, with_state}
use Rattle.device.specs.declared.map.Register.{Register}
use Rattle.registers.specs.Calls.{Call, tick, write, tag, download, after, called, download_answer, from, machine0, step, tick_one}
use Rattle.tagging.specs.Tag.{command_of, commanded, events_on, noted_in, right_key, tag_of, tag_request}
use Rattle.ticking.specs.Tick.{tick_of}
use Rattle.writing.specs.Write.{on_common, on_counters, on_gates, write_at}

-- what writes and tags change: a register is written; a tag is noted, and its command is a request, pulses or a clear
pub data Change : Type 0 where
  written : Register → ℕ → Change
  noted : ℕ → Change
  asked : ℕ → Change
  prepared : ℕ → Change
  recovered : ℕ → Change
  cleared_all : Change

abbrev pub changed : Machine → Change → Machine
changed m (written r w) = write_at m r w
changed m (noted t) = with_state m (noted_in m.state t)
changed m (asked t) = on_common m (tag_request t m.state.common)
changed m (prepared t) = on_gates m (each_gate with_prepare_pulse t m.state.gates)
changed m (recovered t) = on_gates m (each_gate with_recover_pulse t m.state.gates)
changed m cleared_all = on_counters m (clear_counters m.state.counters)

-- Every change keeps P, accepted ticks and downloads where `may` allows the call.
pub record Keeps (may : Call → Type 0) (P : Machine → Type 0) : Type 0 where
  pub change : (m : Machine) → P m → (x : Change) → P (changed m x)
  pub tick : (m : Machine) → P m → (inputs gates : ℕ) → may (tick inputs gates) → bad_levels inputs gates ≡ false →
      P (with_state m (tick_of m.state m.memory inputs gates))
  pub download : (m : Machine) → P m → (d : ℕ) (words : List ℕ) → may (download d words) → is_done (download_answer d (length words)) ≡ true →
      P (with_memory m (replaced m.memory (dataset_words * d) words))

module _ {may : Call → Type 0} {P : Machine → Type 0} (keeps : Keeps may P) where
  commanded_keeps : (m : Machine) → P m → (t : ℕ) → P (with_state m (commanded m.state t))
  unfolding commanded
  commanded_keeps m p t =
      both (λ s. P (with_state m s)) (eqb (command_of t) 1) (keeps.change m p (asked t))
      (both (λ s. P (with_state m s)) (eqb (command_of t) 2) (keeps.change m p (prepared t))
      (both (λ s. P (with_state m s)) (eqb (command_of t) 3) (keeps.change m p (recovered t))
      (both (λ s. P (with_state m s)) (eqb (command_of t) 4) (keeps.change m p cleared_all) p)))

  tag_keeps : (m : Machine) → P m → (t : ℕ) → P (with_state m (tag_of m.state t))
  unfolding tag_of
  tag_keeps m p t =
      let n : P (with_state m (noted_in m.state t)) = keeps.change m p (noted t) in
      both (λ s. P (with_state m s)) (events_on m.state.common)
      (both (λ s. P (with_state m s)) (right_key m.state.common t) (commanded_keeps (with_state m (noted_in m.state t)) n t) n)
      p

  pub called_keeps : (m : Machine) → P m → (x : Call) → may x → P (called m x)
  unfolding called
  called_keeps m p (tick inputs gates) c = pick_elim P (bad_levels inputs gates) (λ e. p) (λ e. keeps.tick m p inputs gates c e)
  called_keeps m p (write a w) c = found P (λ r. write_at m r w) m p (λ r. keeps.change m p (written r w)) (decode_of a)
  called_keeps m p (tag t) c = tag_keeps m p t
  called_keeps m p (download d words) c =
      pick_elim P (is_done (download_answer d (length words))) (λ e. keeps.download m p d words c e) (λ e. p)

  pub step_keeps : (m : Machine) → P m → (x : Call) → may x → P (step m x)
  unfolding step
  step_keeps m p x c = both P (is_whole m.memory) (called_keeps m p x c) p

  -- and every list whose calls are all allowed
  pub list_keeps : (All : List Call → Type 0) → ((x : Call) (l : List Call) → All (x ∷ l) → (may x) × (All l)) →
      (m : Machine) → P m → (l : List Call) → All l → P (from m l)
  unfolding from
  list_keeps All first m p [] c = p
  list_keeps All first m p (x ∷ l) c = let a = first x l c in list_keeps All first (step m x) (step_keeps m p x a.0) l a.1

-- ---- which calls

-- all but an accepted tick
abbrev pub Untimed : Call → Type 0
Untimed x = tick_one x ≡ 0

pub timed : {A : Type 0} (inputs gates : ℕ) → Untimed (tick inputs gates) → bad_levels inputs gates ≡ false → A
timed inputs gates c e = let z : ◌≡◌ {A = ℕ} 1 0 = rw e at c in absurd (omega arith)

-- all
abbrev pub Any : Call → Type 0
Any x = Unit

module _ {P : Machine → Type 0} (keeps : Keeps Any P) where
  pub from_keeps : (m : Machine) → P m → (l : List Call) → P (from m l)
  from_keeps m p l = list_keeps keeps (λ l. Unit) (λ x l c. (tt, tt)) m p l tt

  pub after_keeps : P machine0 → (l : List Call) → P (after l)
  unfolding after
  after_keeps p l = from_keeps machine0 p l
