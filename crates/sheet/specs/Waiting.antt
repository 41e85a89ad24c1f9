-- Document 02, request 5: how many requests a list makes, and how many of them the loader takes, said of the calls of the list alone. What
-- waits is the difference; no queue is looked at.
use Rattle.std.specs.Prelude.{ℕ, ◌+◌, ◌-◌, Bool, false, not, ◌&&◌, List, [], ◌∷◌, eqb, ltb}
use Rattle.bools.specs.Pick.{pick}
use Rattle.words.specs.Word.{bit, lowest}
use Rattle.counters.specs.Counter.{counter_count}
use Rattle.lines.specs.Lines.{bad_levels}
use Rattle.loader.specs.Loader.{is_beyond, queue_places}
use Rattle.registers.specs.Calls.{Call, tick, write, tag, download}
use Rattle.tagging.specs.Tag.{command_of, key_of}
use Rattle.writing.specs.Write.{dataset_in, trigger}

-- what the calls so far leave: the key of 0x0A00, bit 0 of 0x0A01 and TRIGGER of 0x0A02, by which requests are made; the requests made and
-- those taken; and the accepted ticks for which the loader is still at work
pub record Tally : Type 0 where
  pub key : ℕ
  pub enabled : Bool
  pub triggered : Bool
  pub made : ℕ
  pub taken : ℕ
  pub busy : ℕ

abbrev pub tally_of : ℕ → Bool → Bool → ℕ → ℕ → ℕ → Tally
tally_of key enabled triggered made taken busy = record {
  key = key;
  enabled = enabled;
  triggered = triggered;
  made = made;
  taken = taken;
  busy = busy;
}

-- "All is 0 at power-up"
abbrev pub tally0 : Tally
tally0 = tally_of 0 false false 0 0 0

abbrev pub with_words : ℕ → Bool → Bool → Tally → Tally
with_words key enabled triggered t = tally_of key enabled triggered t.made t.taken t.busy

abbrev pub with_counts : ℕ → ℕ → ℕ → Tally → Tally
with_counts made taken busy t = tally_of t.key t.enabled t.triggered made taken busy

-- made and not yet taken
abbrev pub waiting : Tally → ℕ
waiting t = t.made - t.taken

-- "dataset above 31" is refused, and a request while "16 requests wait"
abbrev pub enters : ℕ → Tally → Bool
enters w t = not (is_beyond (dataset_in w)) && ltb (waiting t) queue_places

-- one more is made
abbrev pub one_more : Tally → Tally
one_more t = with_counts (t.made + 1) t.taken t.busy t

-- "A write to 0x0A02 that sets TRIGGER where it was clear makes a request"; one that is refused stores nothing
abbrev pub reload_tally : ℕ → Tally → Tally
reload_tally w t =
    pick (trigger w && not t.triggered) (pick (enters w t) (one_more (with_words t.key t.enabled (trigger w) t)) t)
    (with_words t.key t.enabled (trigger w) t)

-- the key has 16 bits, and events are on by bit 0; a write elsewhere makes no request
unfoldable pub write_tally : ℕ → ℕ → Tally → Tally
write_tally a w t =
    pick (eqb a 0x0A00) (with_words (lowest 16 w) t.enabled t.triggered t)
    (pick (eqb a 0x0A01) (with_words t.key (bit w 0) t.triggered t)
    (pick (eqb a 0x0A02) (reload_tally w t) t))

-- "on the right key .. the command runs": 0x1, the Manual's "Reload thresholds" (Table 3.38), makes a request; "A tag is passed over if events are
-- off"
unfoldable pub tag_tally : ℕ → Tally → Tally
tag_tally g t =
    pick (t.enabled && eqb (key_of g) t.key && eqb (command_of g) 1) (pick (enters g t) (one_more t) t) t

-- "In a tick an idle loader takes the oldest; a busy one handles the next counter, 0 to 127, one a tick. .. After 127 the loader is idle."
unfoldable pub tick_tally : Tally → Tally
tick_tally t =
    pick (eqb t.busy 0) (pick (eqb (waiting t) 0) t (with_counts t.made (t.taken + 1) counter_count t)) (with_counts t.made t.taken (t.busy - 1) t)

-- a refused tick leaves all
abbrev pub tally_step : Tally → Call → Tally
tally_step t (tick inputs gates) = pick (bad_levels inputs gates) t (tick_tally t)
tally_step t (write a w) = write_tally a w t
tally_step t (tag g) = tag_tally g t
tally_step t (download d words) = t

unfoldable pub tallied : Tally → List Call → Tally
tallied t [] = t
tallied t (x ∷ l) = tallied (tally_step t x) l

-- over a list from power-up
abbrev pub requests_made : List Call → ℕ
requests_made l = (tallied tally0 l).made

abbrev pub requests_taken : List Call → ℕ
requests_taken l = (tallied tally0 l).taken
