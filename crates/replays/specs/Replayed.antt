-- Document 02, CR 2: "nine-byte frames, one a tick": the ticks of a capture.
use Rattle.std.specs.Prelude.{ℕ, List, map}
use Rattle.captures.specs.Captures.{frames_of}
use Rattle.captures.specs.Written.{Frame}
use Rattle.registers.specs.Calls.{Call, tick}

abbrev pub tick_of : Frame → Call
tick_of x = tick x.inputs x.gates

-- one by one, in the order of the frames
unfoldable pub capture_ticks : List ℕ → List Call
capture_ticks capture = map tick_of (frames_of capture)
