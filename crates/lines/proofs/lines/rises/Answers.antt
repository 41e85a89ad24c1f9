-- `rises` meets its contract: the two words share no bit, and each bit is a rise (`rises_are`).
use Rattle.lines.proofs.RiseWord.{rises_are}
use Rattle.lines.proofs.lines.rises.Goals as goal

pub returns : goal.returns
returns c =
    let a = c.args in rw (c.from-tests.ensures, c.test_rises.ensures) (rises_are a.before a.now a.phases.now)
