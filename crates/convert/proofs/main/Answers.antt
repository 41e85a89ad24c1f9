-- `main` hands each call what it asks: the trace is the front part of its array (`made_done`).
use Rattle.std.proofs.Common.{sym}
use Rattle.std.proofs.lemmas.List.{length-take-le}
use Rattle.captures.proofs.Done.{made_done}
use Rattle.convert.proofs.main.Goals as goal

pub slice_bounds-out-end : goal.slice_bounds-out-end
slice_bounds-out-end c = (made_done _ _ _ _ c.in-Ok-convert.ensures).within

pub slice_bounds-write_all-end : goal.slice_bounds-write_all-end
slice_bounds-write_all-end c = sym (length-take-le _ c.convert.new.out (made_done _ _ _ _ c.in-Ok-convert.ensures).within)
