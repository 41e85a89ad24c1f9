-- What the code keeps of the six scans while they go up together; no part of what is promised. For each output it keeps where its
-- scan ended: the number of words read by which it is 0, and none while it is 1.
use Rattle.std.specs.Prelude.{ℕ, List, Option, None, Some, get_or}
use Rattle.bools.specs.Pick.{pick}
use Rattle.lists.specs.Table.{tabulate}
use Rattle.device.specs.declared.state.Crate.{Crate}
use Rattle.device.specs.Map.{output_count, output_words}
use Rattle.interlocks.specs.Interlock.{meets, selected, trips}
use Rattle.interlocks.specs.Scan.{words_read}

-- after all words
abbrev pub ended_at : Crate → ℕ → Option ℕ
ended_at s o = pick (trips s o output_words) (Some (words_read s o)) None

-- the word of an output that is read next, where its scan has not ended; no word, which selects nothing, where it has
abbrev pub word_next : Option ℕ → ℕ → ℕ
word_next None word = word
word_next (Some w) word = 0

-- word k of all outputs
unfoldable pub words_next : List (Option ℕ) → List (List ℕ) → ℕ → List ℕ
words_next ended selections k = tabulate output_count (λ o. word_next (get_or ended o None) (selected selections o k))

-- where the scans ended, after the words read next and the signals that they choose from; so many words were read
unfoldable pub ended_next : List (Option ℕ) → List ℕ → ℕ → ℕ → List (Option ℕ)
ended_next ended words present read = tabulate output_count (λ o. pick (meets (get_or words o 0) present) (Some read) (get_or ended o None))
