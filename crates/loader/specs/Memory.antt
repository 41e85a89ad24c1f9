-- Document 01, "Threshold memory and loader": the memory's words.
use Rattle.std.specs.Prelude.{ℕ, ◌+◌, ◌*◌, Bool, List, ◌++◌, eqb, length, get_or, take, drop}
use Rattle.numbers.specs.Signed.{joined}
use Rattle.counters.specs.declared.counter.Counter.{Counter}
use Rattle.counters.specs.Counter.{with_thresholds}

-- "The memory is 16,384 lent words": 32 datasets of 512
abbrev pub memory_words : ℕ
memory_words = 16384

abbrev pub dataset_words : ℕ
dataset_words = 512

-- the memory is whole: cause 1 refuses any other
abbrev pub is_whole : List ℕ → Bool
is_whole memory = eqb (length memory) memory_words

unfoldable pub word_at : List ℕ → ℕ → ℕ
word_at memory a = get_or memory a 0

-- "Dataset d is the 512 words from 512 × d. Within it, counter n has four words from 4 × n"
abbrev pub place_of : ℕ → ℕ → ℕ
place_of d n = dataset_words * d + 4 * n

-- a counter takes "positive low, high, negative low, high" from place a of a list of words
unfoldable pub loaded : List ℕ → ℕ → Counter → Counter
loaded words a c =
    with_thresholds c (joined (word_at words a) (word_at words (a + 1))) (joined (word_at words (a + 2)) (word_at words (a + 3)))

-- "A download puts 512 words into one dataset and leaves every other word": the words from a on
unfoldable pub replaced : List ℕ → ℕ → List ℕ → List ℕ
replaced memory a words = take a memory ++ (words ++ drop (a + length words) memory)
