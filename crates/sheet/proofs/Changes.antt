-- What holds of a sheet after each thing that a tag may do holds after the tag.
use Prim.Native.Nat.{ℕ}
use lib.Dec.{eqb}
use Rattle.bools.proofs.Tests.{both}
use Rattle.counters.specs.Counter.{cleared}
use Rattle.gates.specs.Gate.{each_gate, with_prepare_pulse, with_recover_pulse}
use Rattle.tagging.specs.Tag.{command_of, events_on, right_key, tag_request}
use Rattle.sheet.specs.Sheet.{Sheet, put_common, put_counter, put_gates, sheet_command, sheet_tag}

pub sheet_tag_by : (P : Sheet → Type 0) (s : Sheet) (t : ℕ) → P s → P (put_common s (tag_request t s.common)) →
    P (put_gates s (each_gate with_prepare_pulse t s.gates)) → P (put_gates s (each_gate with_recover_pulse t s.gates)) →
    P (put_counter s (cleared s.counter)) → P (sheet_tag s t)
unfolding sheet_tag sheet_command
sheet_tag_by P s t same request prepare recover clear =
    both P (events_on s.common)
    (both P (right_key s.common t)
    (both P (eqb (command_of t) 1) request
    (both P (eqb (command_of t) 2) prepare (both P (eqb (command_of t) 3) recover (both P (eqb (command_of t) 4) clear same))))
    same)
    same
