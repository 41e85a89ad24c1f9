-- What `mirvacula_run` and `mirvacula_scan` give programs in C and Rust: a trace run from power-up, its report, and the register image or the
-- scan of the crate that it leaves, as numbers.
use Rattle.std.specs.Prelude.{ℕ, ◌+◌, Bool, ◌&&◌, List, [], ◌∷◌, ◌++◌, map, Result, Ok, Err, eqb, length}
use Rattle.std.specs.Result.{result_unwrap_or}
use Rattle.bools.specs.Pick.{pick}
use Rattle.words.specs.Word.{bit_of}
use Rattle.lists.specs.Table.{tabulate}
use Rattle.loader.specs.Memory.{is_whole}
use Rattle.causes.specs.declared.Cause.{Cause}
use Rattle.interlocks.specs.declared.scan.OutputScan.{OutputScan}
use Rattle.interlocks.specs.Scan.{scan_of}
use Rattle.registers.specs.Calls.{powered, powered_memory}
use Rattle.reading.specs.Read.{read_of}
use Rattle.device.specs.State.{Machine, machine}
use Rattle.trace.specs.declared.Report.{Report}
use Rattle.causes.specs.declared.Cause.TheVariants.{Memory}
use Rattle.trace.specs.Run.{Run, machine_of, run_of}
use Rattle.causes.specs.Causes.{cause_number}
use Rattle.records.specs.Stops.{stop_number}
use Rattle.lent.specs.Lent.{bad_buffer}

abbrev pub report_words : ℕ
report_words = 5

-- stop, next offset, ticks, records passed, records refused
abbrev pub report_of : Report → List ℕ
report_of r = stop_number r.stop ∷ r.next ∷ r.ticks ∷ r.records ∷ r.refused ∷ []

-- the registers below the threshold memory, in address order from 0x0600 to 0x19FF: the word of a read, 0 where it is refused
abbrev pub image_start : ℕ
image_start = 0x0600

abbrev pub image_words : ℕ
image_words = 0x1400

unfoldable pub image_of : Machine → List ℕ
image_of m = tabulate image_words (λ k. result_unwrap_or (read_of m (image_start + k)) 0)

-- a scan as numbers: the levels of outputs 0 to 5, then the numbers of words read of them; zeros where it is refused
abbrev pub scan_words : ℕ
scan_words = 12

abbrev pub output_numbers : List OutputScan → List ℕ
output_numbers outputs = map (λ x. bit_of x.level) outputs ++ map (λ x. x.words) outputs

abbrev pub scan_numbers : Result (List OutputScan) Cause → List ℕ
scan_numbers (Ok outputs) = output_numbers outputs
scan_numbers (Err cause) = tabulate scan_words (λ k. 0)

-- what a call gives back, and what it leaves in the memory, the report and the words that it was lent
pub record Exported : Type 0 where
  pub status : ℕ
  pub memory : List ℕ
  pub report : List ℕ
  pub words : List ℕ

abbrev pub exported : ℕ → List ℕ → List ℕ → List ℕ → Exported
exported status memory report words = record { status = status; memory = memory; report = report; words = words }

unfoldable pub run_on : List ℕ → List ℕ → ℕ → Run
run_on memory t budget = run_of t budget (machine (powered memory).0 (powered_memory memory))

-- the words are what `shown` gives of the crate and memory that the run leaves
abbrev pub exported_by : (Machine → List ℕ) → Run → Exported
exported_by shown r =
    exported (stop_number r.progress.report.stop) r.memory (report_of r.progress.report) (shown (machine_of r))

abbrev pub is_fitting : ℕ → List ℕ → List ℕ → Bool
is_fitting size report words = eqb (length report) report_words && eqb (length words) size

-- "Every call on a crate is lent the memory, so 1 comes first"
abbrev pub misfit : List ℕ → ℕ
misfit memory = pick (is_whole memory) bad_buffer (cause_number Memory)

-- nothing is done where the report or the words do not fit
abbrev pub export_by : ℕ → (Machine → List ℕ) → List ℕ → List ℕ → ℕ → List ℕ → List ℕ → Exported
export_by size shown memory t budget report words =
    pick (is_fitting size report words) (exported_by shown (run_on memory t budget)) (exported (misfit memory) memory report words)

-- `mirvacula_run`
unfoldable pub export_of : List ℕ → List ℕ → ℕ → List ℕ → List ℕ → Exported
export_of = export_by image_words image_of

-- `mirvacula_scan`
unfoldable pub scan_export_of : List ℕ → List ℕ → ℕ → List ℕ → List ℕ → Exported
scan_export_of = export_by scan_words (λ m. scan_numbers (scan_of m))
