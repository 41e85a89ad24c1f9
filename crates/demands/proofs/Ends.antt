-- Demand 1: every call answers the first cause whose condition holds, or is accepted, and leaves what the table says; every record meets the first
-- of its checks that holds. By the cases of each call and of each record.
use native.Mathlib.Omega.{arith}
use mathlib.Core.Path.{◌≡◌, sym, ◌∙◌}
use Rattle.std.proofs.Common.{Ok}
use Rattle.device.specs.State.{Machine}
use Rattle.interlocks.specs.Scan.{scan_of}
use Rattle.reading.specs.Read.{read_of}
use Rattle.registers.specs.Calls.{Call, tick, write, tag, download, answer, call_answer, called, download_answer, from, left_by_refusal, step}
use Rattle.tagging.specs.Tag.{tag_answer}
use Rattle.trace.specs.Run.{run_of}
use Rattle.writing.specs.Write.{reload_answer, request_answer, write_answer}
use Rattle.sheet.proofs.Addresses.{decode_reload, reload_at}
use Rattle.sheet.proofs.Theorems.{refused, run_is_list}
use Rattle.demands.specs.Conditions.{all_but_tag, cause_of, conditions, conditions_of, first, left_by, shown_by, work_of}
use Rattle.demands.specs.Seen.{Act, calling, reading, scanning, tracing, calls_by, leaving, showing}

-- a call answers the first cause whose condition holds
pub answers : (m : Machine) (x : Call) → answer m x ≡ first (conditions m x) (Ok tt)
unfolding answer conditions call_answer download_answer reload_answer request_answer tag_answer write_answer
answers m (tick inputs gates) = grind arith
answers m (write a w) = grind (arith, decode_reload, reload_at)
answers m (tag t) = grind arith
answers m (download d words) = grind arith

-- it leaves what the table says
leaves : (m : Machine) (x : Call) → step m x ≡ left_by m (calling x) (answer m x)
unfolding all_but_tag answer call_answer called download_answer left_by left_by_refusal request_answer step tag_answer work_of
leaves m (tick inputs gates) = grind arith
leaves m (write a w) = let e = refused m (write a w) in grind arith
leaves m (tag t) = let e = refused m (tag t) in grind arith
leaves m (download d words) = grind arith

-- ---- reads, scans and runs too

pub shown : (m : Machine) (x : Act) → showing m x ≡ shown_by m x (cause_of m x)
unfolding conditions_of read_of run_of scan_of showing shown_by
shown m (calling x) = grind (arith, answers)
shown m (reading a) = grind arith
shown m scanning = grind arith
shown m (tracing t budget) = grind arith

pub left : (m : Machine) (x : Act) → leaving m x ≡ left_by m x (cause_of m x)
unfolding calls_by conditions_of from left_by run_of work_of
left m (calling x) = grind (arith, answers, leaves)
left m (reading a) = grind arith
left m scanning = grind arith
left m (tracing t budget) = sym (run_is_list t budget m) ∙ grind arith
