-- What `mirvacula_convert` gives programs in C and Rust: a conversion of document 02, CR 2, as numbers.
use Rattle.std.specs.Prelude.{ℕ, ◌%◌, List, [], ◌∷◌, eqb, length}
use Rattle.bools.specs.Pick.{pick}
use Rattle.causes.specs.declared.Cause.TheVariants.{NotFrames}
use Rattle.causes.specs.Causes.{cause_number}
use Rattle.captures.specs.Captures.{Conversion, conversion_of, frame_bytes, frame_told, length_told, status_of}
use Rattle.lent.specs.Lent.{bad_buffer}

-- the trace's length in bytes, and the frame of refusal 6
abbrev pub answer_words : ℕ
answer_words = 2

-- what a call gives back, and what it leaves in the output and the answer that it was lent
pub record Answered : Type 0 where
  pub status : ℕ
  pub out : List ℕ
  pub answer : List ℕ

abbrev pub answered : ℕ → List ℕ → List ℕ → Answered
answered status out answer = record { status = status; out = out; answer = answer }

abbrev pub answered_by : Conversion → Answered
answered_by x = answered (status_of x.answer) x.out (length_told x.answer ∷ frame_told x.answer ∷ [])

-- nothing is done where the answer has the wrong length: "not a multiple of nine, 12, first"
abbrev pub unanswered : ℕ → ℕ
unanswered bytes = pick (eqb (bytes % frame_bytes) 0) bad_buffer (cause_number NotFrames)

unfoldable pub convert_of : List ℕ → List ℕ → List ℕ → Answered
convert_of capture out answer =
    pick (eqb (length answer) answer_words) (answered_by (conversion_of capture out)) (answered (unanswered (length capture)) out answer)
