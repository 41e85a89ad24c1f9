-- `bit` past 64: the word has no such bit (`bit_past_word`).
use mathlib.Core.Path.{sym, ◌∙◌}
use borrow.Author.Tests.{le-ltb}
use Rattle.words.proofs.Fields.{bit_past_word}
use Rattle.words.proofs.field.bit.Goals as goal

pub returns-else-i-lt64 : goal.returns-else-i-lt64
returns-else-i-lt64 g c =
    let past = c.if-i-lt64.false in
    (c.into-wide.result, c.into-wide.ensures, le-ltb c.args.i 64 past ∙ sym (bit_past_word 64 c.into-wide.result c.args.i c.into-wide.type_inv past))
