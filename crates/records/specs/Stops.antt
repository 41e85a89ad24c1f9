-- Document 01, "Causes of refusal": the number by which a run's stop is told.
use Rattle.std.specs.Prelude.{ℕ}
use Rattle.causes.specs.Causes.{cause_number}
use Rattle.records.specs.declared.Stop.{Stop}
use Rattle.records.specs.declared.Stop.TheVariants.{End, Spent, Refused}

-- that of a cause for each stop that is a refusal; END and SPENT are none, and have numbers far from those that requests add
abbrev pub stop_number : Stop → ℕ
stop_number End = 0
stop_number Spent = 254
stop_number (Refused cause) = cause_number cause
