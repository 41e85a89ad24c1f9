-- What a tag's command does and answers, its code says: the gates take the lowest twelve bits, a request twelve, the command the next four.
use Prim.Native.Nat.{ℕ, ◌%◌, ◌^◌}
use native.Mathlib.Omega.{arith}
use mathlib.Core.Bool.{Bool}
use mathlib.Core.List.{List}
use mathlib.Core.Path.{◌≡◌, ap, sym, ◌∙◌}
use Rattle.gates.specs.declared.gate.Gate.{Gate}
use Rattle.gates.specs.Gate.{each_gate, with_prepare_pulse, with_recover_pulse}
use Rattle.gates.proofs.Gates.{each_gate_low}
use Rattle.device.specs.declared.state.Common.{Common}
use Rattle.device.specs.declared.state.Crate.{Crate}
use Rattle.tagging.specs.Tag.{code_of, command_answer, command_of, commanded, tag_request}
use Rattle.writing.specs.Write.{dataset_in, group_in, requested}

low_code : (t : ℕ) → code_of t % 2 ^ 12 ≡ t % 2 ^ 12
low_code t = omega arith

each_gate_code : (f : Bool → Gate → Gate) (t : ℕ) (gates : List Gate) → each_gate f (code_of t) gates ≡ each_gate f t gates
each_gate_code f t gates =
    sym (each_gate_low f (code_of t) gates) ∙ (ap (λ (w : ℕ). each_gate f w gates) (low_code t) ∙ each_gate_low f t gates)

command_code : (t : ℕ) → command_of (code_of t) ≡ command_of t
command_code t = omega arith

dataset_code : (t : ℕ) → dataset_in (code_of t) ≡ dataset_in t
dataset_code t = omega arith

group_code : (t : ℕ) → group_in (code_of t) ≡ group_in t
group_code t = omega arith

pub commanded_code : (s : Crate) (t : ℕ) → commanded s (code_of t) ≡ commanded s t
unfolding commanded tag_request requested
commanded_code s t = rw (command_code t, dataset_code t, group_code t, each_gate_code with_prepare_pulse t s.gates, each_gate_code with_recover_pulse t s.gates)

pub answer_code : (cm : Common) (t : ℕ) → command_answer cm (code_of t) ≡ command_answer cm t
answer_code cm t = rw (command_code t, dataset_code t)
