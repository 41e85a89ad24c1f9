-- `mirvacula_group_word` meets its contract: the number of what `group_word` answers (`group_answered`).
use mathlib.Core.Path.{◌≡◌, ap, ◌∙◌}
use borrow.Author.Rules.{rules}
use Prim.Native.Nat.{ℕ}
use Rattle.std.specs.Prelude.{Option, unwrap_or}
use Rattle.patching.specs.Patching.{group_word_of, no_word}
use Rattle.patching.proofs.Theorems.{group_answered}
use Rattle.mirvacula.proofs.mirvacula_group_word.Goals as goal

pub returns : goal.returns
returns c =
    let word : unwrap_or c.group_word.result no_word ≡ group_word_of c.args.word c.args.counter c.args.group = ap (λ (r : Option ℕ). unwrap_or r no_word) c.group_word.ensures ∙ group_answered c.args.word c.args.counter c.args.group in
    search (rules, word)
