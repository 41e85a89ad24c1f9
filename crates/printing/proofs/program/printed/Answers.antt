-- `printed` meets its contract: the four lines put one after the other, which fit the page.
use mathlib.Core.List.{append_assoc}
use mathlib.Core.Path.{◌≡◌, ◌∙◌}
use Rattle.device.specs.State.{machine}
use Rattle.pages.specs.Page.{written, cut}
use Rattle.pages.proofs.Pages.{cut_two}
use Rattle.printing.specs.Printed.{printed}
use Rattle.printing.proofs.Sizes.{whole}
use Rattle.printing.proofs.program.printed.Goals as goal

pub returns-clause-text : goal.returns-clause-text
unfolding printed
returns-clause-text c =
    let m = machine c.args.state.now c.args.mem.now in
    let e : written c.put.result ≡ cut (printed c.args.report m) =
    rw (
      c.put.ensures.text,
      c.put_hexadecimal.ensures,
      c.put_text.ensures,
      c.into.ensures,
      c.unwrap_or-outputs.ensures,
      c.read.ensures,
      c.put_block-page-2.ensures,
      c.put_block-page.ensures,
      c.put_report-page.ensures,
      c.new.ensures,
    )
    (simp (cut_two, append_assoc)) in
    e ∙ whole c.args.report m
