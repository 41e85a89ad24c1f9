-- `mirvacula_input_word` meets its contract: the number of what `input_word` answers (`input_answered`).
use mathlib.Core.Path.{◌≡◌, ap, ◌∙◌}
use borrow.Author.Rules.{rules}
use Prim.Native.Nat.{ℕ}
use Rattle.std.specs.Prelude.{Option, unwrap_or}
use Rattle.patching.specs.Patching.{input_word_of, no_word}
use Rattle.patching.proofs.Theorems.{input_answered}
use Rattle.mirvacula.proofs.mirvacula_input_word.Goals as goal

pub returns : goal.returns
returns c =
    let word : unwrap_or c.input_word.result no_word ≡ input_word_of c.args.up c.args.down c.args.gate = ap (λ (r : Option ℕ). unwrap_or r no_word) c.input_word.ensures ∙ input_answered c.args.up c.args.down c.args.gate in
    search (rules, word)
