-- What a user is told of a refusal: a sentence with its number.
use Rattle.std.specs.Prelude.{ℕ, List, ◌++◌, codes, decimal}
use Rattle.captures.specs.declared.Refusal.{Refusal}
use Rattle.captures.specs.declared.Refusal.TheVariants.{NotFrames, BadLevel, NoRoom}

abbrev pub sentence : Refusal → List ℕ
sentence NotFrames = codes "the capture is not of whole frames of nine bytes (12)"
sentence (BadLevel frame) = codes "frame " ++ (decimal frame ++ codes ": a line that does not exist (6)")
sentence NoRoom = codes "the output is shorter than the trace (13)"
