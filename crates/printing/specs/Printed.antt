-- Document 01, "Trace and printing program": the four lines that the program prints, as bytes.
use Rattle.std.specs.Prelude.{ℕ, zero, suc, ◌+◌, List, [], ◌++◌, take, codes}
use Rattle.std.specs.Result.{result_unwrap_or}
use Rattle.pages.specs.Text.{decimal, hexadecimal}
use Rattle.registers.specs.Calls.{machine0}
use Rattle.reading.specs.Read.{read_of}
use Rattle.device.specs.State.{Machine}
use Rattle.trace.specs.declared.Report.{Report}
use Rattle.records.specs.declared.Stop.{Stop}
use Rattle.records.specs.declared.Stop.TheVariants.{End, Spent, Refused}
use Rattle.trace.specs.Run.{Run, machine_of, run_of}
use Rattle.causes.specs.Causes.{cause_number}

-- "STOP is END, SPENT or 7 to 10"
unfoldable pub stop_text : Stop → List ℕ
stop_text End = codes "END"
stop_text Spent = codes "SPENT"
stop_text (Refused cause) = decimal (cause_number cause)

unfoldable pub report_line : Report → List ℕ
report_line r =
    codes "STOP " ++ stop_text r.stop
    ++ codes " NEXT " ++ decimal r.next
    ++ codes " TICKS " ++ decimal r.ticks
    ++ codes " RECORDS " ++ decimal r.records
    ++ codes " REFUSED " ++ decimal r.refused
    ++ codes "\n"

-- n words from an address on, "four lower-case hexadecimal digits each"
unfoldable pub words_from : Machine → ℕ → ℕ → List ℕ
words_from m zero a = []
words_from m (suc n) a = codes " " ++ hexadecimal 4 (result_unwrap_or (read_of m a) 0) ++ words_from m n (a + 1)

-- "It prints the run, both overflow blocks from the lowest address .., and 0x0719 (two)."
unfoldable pub printed : Report → Machine → List ℕ
printed r m =
    report_line r
    ++ codes "NEG" ++ words_from m 8 0x0700 ++ codes "\n"
    ++ codes "POS" ++ words_from m 8 0x0708 ++ codes "\n"
    ++ codes "OUT " ++ hexadecimal 2 (result_unwrap_or (read_of m 0x0719) 0) ++ codes "\n"

-- "The program runs the first 65,536 bytes of standard input, .. from power-up with 1,000,000 ticks."
abbrev pub program_bytes : ℕ
program_bytes = 65_536

abbrev pub program_ticks : ℕ
program_ticks = 1_000_000

unfoldable pub program_run : List ℕ → Run
program_run input = run_of (take program_bytes input) program_ticks machine0

unfoldable pub program_prints : List ℕ → List ℕ
program_prints input = printed (program_run input).progress.report (machine_of (program_run input))
