-- `from` meets its contract: eight bytes and the ninth are the levels (`nine_read`).
use mathlib.Core.Path.{◌∙◌}
use Rattle.captures.specs.Nine.{frame_of}
use Rattle.captures.proofs.Nines.{eight_bytes, nine_read}
use Rattle.captures.proofs.frames.NineFromRefArrayU8FRAMEBYTES.from.Goals as goal

pub returns : goal.returns
unfolding frame_of
returns c =
    let bytes = c.args.bytes.now in
    nine_read bytes c.from_be_bytes.result (c.fits-bytes 7) (c.from_be_bytes.ensures ∙ eight_bytes bytes)
