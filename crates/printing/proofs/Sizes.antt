-- The lengths of what is printed: it fits a page.
use Prim.Native.Nat.{ℕ, zero, suc, ◌+◌, ◌*◌, ◌/◌, ◌≤◌}
use native.Mathlib.Omega.{arith}
use mathlib.Core.List.{List}
use mathlib.Core.Path.{◌≡◌, refl}
use lib.Dec.{ltb}
use lib.ListN.{length, length-append}
use Rattle.bools.proofs.Tests.{both}
use Rattle.device.specs.State.{Machine}
use Rattle.trace.specs.declared.Report.{Report}
use Rattle.records.specs.declared.Stop.{Stop}
use Rattle.records.specs.declared.Stop.TheVariants.{End, Spent, Refused}
use Rattle.pages.specs.Page.{cut}
use Rattle.pages.specs.Text.{decimal_in, decimal, hexadecimal}
use Rattle.pages.proofs.Pages.{fits}
use Rattle.printing.specs.Printed.{stop_text, report_line, words_from, printed}

decimal_in_length : (places n : ℕ) → length (decimal_in places n) ≤ places
unfolding decimal_in
decimal_in_length zero n = omega arith
decimal_in_length (suc places) n =
    rw length-append
    (both (λ (front : List ℕ). length front + 1 ≤ suc places) (ltb n 10) (omega arith) (omega (arith, decimal_in_length places (n / 10))))

pub decimal_length : (n : ℕ) → length (decimal n) ≤ 20
unfolding decimal
decimal_length n = decimal_in_length 20 n

pub hexadecimal_length : (places n : ℕ) → length (hexadecimal places n) ≡ places
unfolding hexadecimal
hexadecimal_length zero n = refl
hexadecimal_length (suc places) n = rw (length-append, hexadecimal_length places (n / 16)) (omega arith)

stop_length : (s : Stop) → length (stop_text s) ≤ 20
unfolding stop_text
stop_length End = omega arith
stop_length Spent = omega arith
stop_length (Refused cause) = decimal_length _

report_length : (r : Report) → length (report_line r) ≤ 137
unfolding report_line
report_length r = simp length-append (omega (arith, stop_length r.stop, decimal_length r.next, decimal_length r.ticks, decimal_length r.records, decimal_length r.refused))

words_length : (m : Machine) (n a : ℕ) → length (words_from m n a) ≡ 5 * n
unfolding words_from
words_length m zero a = refl
words_length m (suc n) a = simp (length-append, hexadecimal_length, words_length m n (a + 1)) (omega arith)

-- the four lines fit a page
pub whole : (r : Report) (m : Machine) → cut (printed r m) ≡ printed r m
unfolding printed
whole r m = fits (printed r m) (simp (length-append, words_length, hexadecimal_length) (omega (arith, report_length r)))
