-- Documents 01, "Causes of refusal", and 02: the table of causes, the answers of calls, and their numbers.
use Rattle.std.specs.Prelude.{ℕ, Bool, true, false, Result, Ok, Err}
use Rattle.causes.specs.declared.Cause.{Cause}
use Rattle.causes.specs.declared.Cause.TheVariants as the

-- the table's number of each cause
abbrev pub cause_number : Cause → ℕ
cause_number the.Memory = 1
cause_number the.Address = 2
cause_number the.ReadOnly = 3
cause_number the.Dataset = 4
cause_number the.Full = 5
cause_number the.Level = 6
cause_number the.UnknownTag = 7
cause_number the.WrongLength = 8
cause_number the.Cut = 9
cause_number the.NoRepeat = 10
cause_number the.Length = 11
cause_number the.NotFrames = 12
cause_number the.NoRoom = 13
cause_number the.BadSum = 14

-- a call is accepted, `Ok tt`, or there is a cause of refusal
abbrev pub Answer : Type 0
Answer = Result Unit Cause

-- the number of an answer, also of one that returns something: an accepted call has 0
abbrev pub number_of : {A : Type 0} → Result A Cause → ℕ
number_of (Ok _) = 0
number_of (Err cause) = cause_number cause

abbrev pub is_done : {A : Type 0} → Result A Cause → Bool
is_done (Ok _) = true
is_done (Err _) = false
