-- `reset_word` meets its contract: it is the word of flags, read with `watchdog0`, of which none is set.
use mathlib.Core.Path.{refl}
use borrow.Author.Rules.{rules}
use Rattle.watchdogs.specs.Watchdog.{reset_of, watchdog_at, watchdog_word, watchdog0}
use Rattle.watchdogs.proofs.watchdog.reset_word.Goals as goal

pub returns : goal.returns
unfolding watchdog_word watchdog_at
returns c = c.flags_word.ensures reset_of watchdog0 (λ w b p. search (rules, p)) refl
