-- A refused call leaves what the table of 01 says, for every machine and every call.
use Prim.Native.Nat.{ℕ}
use mathlib.Core.Bool.{true, false, true≢false}
use mathlib.Core.List.{List}
use mathlib.Core.Path.{◌≡◌, refl, ap}
use lib.Dec.{eqb}
use Rattle.std.proofs.Common.{Err, Option, Some, None}
use Rattle.std.specs.Option.{option_map_or}
use Rattle.bools.proofs.Tests.{cases}
use Rattle.causes.specs.declared.Cause.TheVariants.{Address}
use Rattle.device.specs.declared.map.Register.{Register}
use Rattle.device.specs.declared.map.Register.TheVariants.{Readout, Setting, Shared, Gates, Watchdogs, Input, Group, Word}
use Rattle.device.specs.declared.map.SharedWord.{SharedWord}
use Rattle.device.specs.declared.map.SharedWord.TheVariants.{Control, Key, Enable, Reload}
use Rattle.counters.specs.declared.counter.Counter.{Counter}
use Rattle.device.specs.declared.state.Common.{Common}
use Rattle.causes.specs.Causes.{is_done}
use Rattle.loader.specs.Memory.{is_whole}
use Rattle.registers.specs.Calls.{Call, tick, write, tag, download, answer, call_answer, called, left_by_refusal, step}
use Rattle.device.specs.Map.{decode_of}
use Rattle.device.specs.State.{Machine, with_state}
use Rattle.tagging.specs.Tag.{command_of, commanded, events_on, noted_in, right_key, tag_answer, tag_of, tag_request}
use Rattle.lines.specs.Lines.{bad_levels}
use Rattle.writing.specs.Write.{reload_write, shared_answer, shared_clears, shared_write, write_answer, write_at}

-- of the registers that all counters share, 0x0A02 alone refuses
refused_shared : (q : SharedWord) (w : ℕ) (cm : Common) → is_done (shared_answer q w cm) ≡ false →
    (shared_write q w cm ≡ cm) × ((counters : List Counter) → shared_clears q w counters ≡ counters)
unfolding shared_write reload_write
refused_shared Reload w cm e = (rw e refl, λ counters. refl)
refused_shared Control w cm e = absurd (true≢false e)
refused_shared Key w cm e = absurd (true≢false e)
refused_shared Enable w cm e = absurd (true≢false e)

refused_write : (m : Machine) (r : Register) (w : ℕ) → is_done (write_answer m.state.common r w) ≡ false → write_at m r w ≡ m
unfolding write_answer write_at
refused_write m (Readout r) w e = refl
refused_write m (Shared q) w e = let s = refused_shared q w m.state.common e in rw (s.0, s.1 m.state.counters) refl
refused_write m (Setting q) w e = absurd (true≢false e)
refused_write m (Gates q) w e = absurd (true≢false e)
refused_write m (Watchdogs k) w e = absurd (true≢false e)
refused_write m (Input n) w e = absurd (true≢false e)
refused_write m (Group k) w e = absurd (true≢false e)
refused_write m (Word i) w e = absurd (true≢false e)

refused_tag : (m : Machine) (t : ℕ) → is_done (tag_answer m.state.common t) ≡ false → tag_of m.state t ≡ noted_in m.state t
unfolding tag_answer tag_of commanded tag_request
refused_tag m t e =
    cases (events_on m.state.common)
    (λ on.
    cases (right_key m.state.common t)
    (λ key.
    cases (eqb (command_of t) 1)
    (λ one. rw (on, key, one, rw (on, key, one) at e))
    (λ one. absurd (true≢false (rw (on, key, one) at e))))
    (λ key. absurd (true≢false (rw (on, key) at e))))
    (λ on. absurd (true≢false (rw on at e)))

refused_call : (m : Machine) (x : Call) → is_whole m.memory ≡ true → is_done (call_answer m x) ≡ false → called m x ≡ left_by_refusal m x
unfolding call_answer called left_by_refusal
refused_call m (tick inputs gates) h e =
    cases (bad_levels inputs gates) (λ b. rw b refl) (λ b. absurd (true≢false (rw b at e)))
refused_call m (write a w) h e = by (decode_of a) e
  where
    by : (o : Option Register) → is_done (option_map_or (λ (r : Register). write_answer m.state.common r w) o (Err Address)) ≡ false →
        option_map_or (λ (r : Register). write_at m r w) o m ≡ m
    by None e = refl
    by (Some r) e = refused_write m r w e
refused_call m (tag t) h e = rw h (ap (with_state m) (refused_tag m t e))
refused_call m (download d words) h e = rw e refl

kept_all : (m : Machine) (x : Call) → is_whole m.memory ≡ false → m ≡ left_by_refusal m x
unfolding left_by_refusal
kept_all m (tick inputs gates) h = refl
kept_all m (write a w) h = refl
kept_all m (tag t) h = rw h refl
kept_all m (download d words) h = refl

pub refused : (m : Machine) (x : Call) → is_done (answer m x) ≡ false → step m x ≡ left_by_refusal m x
unfolding answer step
refused m x e =
    cases (is_whole m.memory)
    (λ h. rw h (refused_call m x h (rw h at e)))
    (λ h. rw h (kept_all m x h))
