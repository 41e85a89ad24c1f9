-- The queue holds the requests that the calls of a list have made less those that the loader has taken: the crate and the tally go along
-- together.
use Prim.Native.Nat.{ℕ, ◌+◌, ◌-◌, ◌≤◌, ◌<◌}
use native.Mathlib.Omega.{arith}
use mathlib.Core.Bool.{Bool, true, false, not, ◌&&◌}
use mathlib.Core.List.{List, [], ◌∷◌, ◌++◌}
use mathlib.Core.Path.{◌≡◌, refl, sym, ap, ◌∙◌}
use borrow.Author.Tests.{eqb-true, eqb-false, ne_eqb}
use lib.Dec.{eqb}
use lib.ListN.{length}
use Rattle.std.proofs.lemmas.Bool.Decides.{nat_tests}
use Rattle.std.proofs.Common.{Ok, Option, Some, None, is_some}
use Rattle.std.specs.Option.{option_map_or}
use Rattle.bools.specs.Pick.{pick}
use Rattle.words.specs.Word.{bit, bit_of, lowest}
use Rattle.words.proofs.Fields.{bit_low}
use Rattle.bools.proofs.Tests.{both, cases}
use Rattle.causes.specs.Causes.{is_done}
use Rattle.lines.specs.Lines.{bad_levels}
use Rattle.loader.specs.declared.loader.Queue.{Queue}
use Rattle.loader.specs.declared.loader.Reload.{Reload as Reloading}
use Rattle.loader.specs.Loader.{dropped, loader_step, pushed, queue_step}
use Rattle.device.specs.declared.map.Register.{Register}
use Rattle.device.specs.declared.map.Register.TheVariants.{Readout, Shared}
use Rattle.device.specs.declared.map.ReadoutWord.TheVariants.{QueueLength}
use Rattle.device.specs.declared.map.SharedWord.TheVariants.{Key, Enable, Reload}
use Rattle.device.specs.declared.state.Common.{Common}
use Rattle.device.specs.declared.state.Crate.{Crate}
use Rattle.device.specs.Map.{decode_of, event_map, kept}
use Rattle.device.specs.State.{Machine, common_of, power_up}
use Rattle.reading.specs.Read.{read_of, readout_word, word_in}
use Rattle.registers.specs.Calls.{Call, tick, write, tag, download, after, called, download_answer, from, machine0, step}
use Rattle.registers.proofs.Keeping.{step_keeps}
use Rattle.registers.proofs.Whole.{WholeMemory, full, read_whole, step_called}
use Rattle.tagging.specs.Tag.{command_of, commanded, events_on, right_key, tag_of, tag_request}
use Rattle.ticking.specs.Tick.{common_tick, tick_of}
use Rattle.writing.specs.Write.{control_write, dataset_in, enable_write, key_write, reload_answer, reload_write, request_answer, requested, shared_write, trigger, triggers, with_reload, write_at}
use Rattle.sheet.specs.Reachable.{CommonInRange, LoaderInRange}
use Rattle.sheet.specs.Requests.{request_made, ticks_at_work}
use Rattle.sheet.specs.Waiting.{Tally, enters, one_more, reload_tally, requests_made, requests_taken, tag_tally, tallied, tally0, tally_step, tick_tally, with_words, waiting, write_tally}
use Rattle.sheet.proofs.Addresses.{decode_reload, placed_as}
use Rattle.sheet.proofs.Finishes.{work_busy}
use Rattle.sheet.proofs.Reached.{range_after, range_keeps}
use Rattle.sheet.proofs.Sizes.{full_after, sized_start}

-- ---- what the tally tells of the crate

record Told (cm : Common) (t : Tally) : Type 0 where
  key : cm.key ≡ t.key
  enabled : bit cm.enable 0 ≡ t.enabled
  triggered : bit cm.reload 12 ≡ t.triggered
  counts : cm.queue.waiting + t.taken ≡ t.made
  work : ticks_at_work cm.loader ≡ t.busy

-- the same test on both sides
told_pick : (b c : Bool) → b ≡ c → (x y : Common) (u v : Tally) → Told x u → Told y v → Told (pick b x y) (pick c u v)
told_pick b c e x y u v p q = rw e (cases c (λ f. rw f p) (λ f. rw f q))

waits_as : (cm : Common) (t : Tally) → Told cm t → waiting t ≡ cm.queue.waiting
waits_as cm t h = omega (arith, h.counts)

-- ---- requests

-- one is taken where the tally says
enters_lem : (cm : Common) (t : Tally) → Told cm t → (w : ℕ) → is_done (request_answer cm.queue (dataset_in w)) ≡ enters w t
unfolding request_answer
enters_lem cm t h w = rw (waits_as cm t h) (grind (arith, nat_tests))

told_requested : (cm : Common) (t : Tally) → Told cm t → (w : ℕ) → Told (requested w cm) (one_more t)
unfolding requested pushed
told_requested cm t h w = grind arith

told_stored : (cm : Common) (t : Tally) → Told cm t → (w : ℕ) →
    Told (with_reload (kept (Shared Reload) w) cm) (with_words t.key t.enabled (trigger w) t)
unfolding kept
told_stored cm t h w = assumption (bit_low 13 w 12 (omega arith))

told_reload : (cm : Common) (t : Tally) → Told cm t → (w : ℕ) → Told (reload_write w cm) (reload_tally w t)
unfolding reload_write reload_answer
told_reload cm t h w =
    let same : triggers w cm ≡ trigger w && not t.triggered = rw h.triggered refl in
    cases (triggers w cm)
    (λ e.
    let f : trigger w && not t.triggered ≡ true = sym same ∙ e in
    rw (e, f) (told_pick _ _ (enters_lem cm t h w) _ cm _ t (told_stored _ _ (told_requested cm t h w) w) h))
    (λ e.
    let f : trigger w && not t.triggered ≡ false = sym same ∙ e in
    rw (e, f) (told_stored cm t h w))

told_tag : (cm : Common) (t : Tally) → Told cm t → (g : ℕ) →
    Told (pick (events_on cm && right_key cm g && eqb (command_of g) 1) (tag_request g cm) cm) (tag_tally g t)
unfolding tag_request tag_tally
told_tag cm t h g =
    told_pick _ _ (rw (h.enabled, h.key) refl) _ cm _ t (told_pick _ _ (enters_lem cm t h g) _ cm _ t (told_requested cm t h g) h) h

-- ---- ticks

work_less : (l : Reloading) (q : Queue) (n : ℕ) → l.next < 128 → 128 - l.next ≡ n → ticks_at_work (loader_step (Some l) q) ≡ n - 1
work_less l q n h e = omega (arith, work_busy l q h)

-- "an idle loader takes the oldest", where one waits; "a busy one handles the next counter", and is idle after the last
told_tick : (l : Option Reloading) (control key enable reload : ℕ) (q : Queue) (phases : List ℕ) (t : Tally) →
    LoaderInRange l → Told (common_of control key enable reload q l phases) t → Told (common_tick (common_of control key enable reload q l phases)) (tick_tally t)
unfolding common_tick loader_step queue_step tick_tally dropped
told_tick None control key enable reload q phases t n h =
    let w : waiting t ≡ q.waiting = omega (arith, h.counts) in
    cases (eqb q.waiting 0)
    (λ e.
    let f : eqb (waiting t) 0 ≡ true = rw w e in
    rw (e, f, ← h.work) assumption)
    (λ e.
    let f : eqb (waiting t) 0 ≡ false = rw w e in
    let some : q.waiting ≡ 0 → ⊥ = eqb-false q.waiting 0 e in
    rw (e, f, ← h.work)
    (record { key = h.key; enabled = h.enabled; triggered = h.triggered; counts = omega (arith, h.counts, some); work = refl }))
told_tick (Some l) control key enable reload q phases t n h =
    let some : eqb t.busy 0 ≡ false = ne_eqb t.busy 0 (λ e. omega (arith, h.work, n.next)) in
    rw some (assumption (work_less l q t.busy n.next h.work))

-- ---- writes

-- a write by what stands at its address, other than the three registers
told_other : (m : Machine) (t : Tally) → Told m.state.common t → (r : Register) (w : ℕ) →
    (r ≡ Shared Key → ⊥) → (r ≡ Shared Enable → ⊥) → (r ≡ Shared Reload → ⊥) → Told (write_at m r w).state.common t
unfolding write_at shared_write control_write
told_other m t h r w k e f = grind arith

decode_key : decode_of 0x0A00 ≡ Some (Shared Key)
unfolding decode_of event_map
decode_key = refl

decode_enable : decode_of 0x0A01 ≡ Some (Shared Enable)
unfolding decode_of event_map
decode_enable = refl

abbrev ToldAt : Machine → Option Register → ℕ → Tally → Type 0
ToldAt m o w t = Told (option_map_or (λ (r : Register). write_at m r w) o m).state.common t

told_key : (cm : Common) (t : Tally) → Told cm t → (w : ℕ) → Told (key_write w cm) (with_words (lowest 16 w) t.enabled t.triggered t)
unfolding key_write kept
told_key cm t h w = assumption

told_enable : (cm : Common) (t : Tally) → Told cm t → (w : ℕ) → Told (enable_write w cm) (with_words t.key (bit w 0) t.triggered t)
unfolding enable_write kept
told_enable cm t h w = assumption (bit_low 1 w 0 (omega arith))

told_write : (m : Machine) (t : Tally) → Told m.state.common t → (a w : ℕ) → ToldAt m (decode_of a) w (write_tally a w t)
unfolding write_tally write_at shared_write
told_write m t h a w =
    cases (eqb a 0x0A00) (λ e. rw (eqb-true a 0x0A00 e, decode_key) (told_key m.state.common t h w)) (λ k.
    cases (eqb a 0x0A01) (λ e. rw (eqb-true a 0x0A01 e, decode_enable) (told_enable m.state.common t h w)) (λ e.
    cases (eqb a 0x0A02) (λ r. rw (eqb-true a 0x0A02 r, decode_reload) (told_reload m.state.common t h w)) (λ r.
    rw (k, e, r) (by (decode_of a) refl (eqb-false a 0x0A00 k) (eqb-false a 0x0A01 e) (eqb-false a 0x0A02 r)))))
  where
    by : (o : Option Register) → decode_of a ≡ o → (a ≡ 0x0A00 → ⊥) → (a ≡ 0x0A01 → ⊥) → (a ≡ 0x0A02 → ⊥) → ToldAt m o w t
    by None p k e r = h
    by (Some q) p k e r =
        told_other m t h q w
        (λ f. k (sym (placed_as a (Shared Key) (p ∙ ap Some f)).address))
        (λ f. e (sym (placed_as a (Shared Enable) (p ∙ ap Some f)).address))
        (λ f. r (sym (placed_as a (Shared Reload) (p ∙ ap Some f)).address))

tag_common : (s : Crate) (g : ℕ) →
    (tag_of s g).common ≡ pick (events_on s.common && right_key s.common g && eqb (command_of g) 1) (tag_request g s.common) s.common
unfolding tag_of commanded
tag_common s g = grind arith

-- ---- along a list

told_step : (m : Machine) → WholeMemory m.memory → CommonInRange m.state.common → (t : Tally) → Told m.state.common t → (x : Call) →
    Told (step m x).state.common (tally_step t x)
unfolding called tick_of
told_step m f n t h (tick inputs gates) =
    rw (step_called m f (tick inputs gates))
    (cases (bad_levels inputs gates) (λ e. rw e h) (λ e. rw e (told_tick _ _ _ _ _ _ _ t n.loader h)))
told_step m f n t h (write a w) = rw (step_called m f (write a w)) (told_write m t h a w)
told_step m f n t h (tag g) = rw (step_called m f (tag g), tag_common m.state g) (told_tag m.state.common t h g)
told_step m f n t h (download d words) =
    rw (step_called m f (download d words))
    (both (λ (n : Machine). Told n.state.common t) (is_done (download_answer d (length words))) h h)

told_from : (l : List Call) (m : Machine) → WholeMemory m.memory → CommonInRange m.state.common → (t : Tally) → Told m.state.common t → Told (from m l).state.common (tallied t l)
unfolding from tallied
told_from [] m f n t h = h
told_from (x ∷ l) m f n t h =
    told_from l (step m x) (full m f x) (step_keeps range_keeps m n x tt) (tally_step t x) (told_step m f n t h x)

told_start : Told machine0.state.common tally0
unfolding power_up bit
told_start = record { key = refl; enabled = refl; triggered = refl; counts = refl; work = refl }

told_after : (l : List Call) → Told (after l).state.common (tallied tally0 l)
unfolding after from
told_after l = told_from l machine0 sized_start.memory (range_after []) tally0 told_start

-- ---- as it is read

decode_length : decode_of 0x0905 ≡ Some (Readout QueueLength)
unfolding decode_of event_map
decode_length = refl

read_length : (l : List Call) → read_of (after l) 0x0905 ≡ Ok (after l).state.common.queue.waiting
unfolding word_in readout_word
read_length l = read_whole (after l) (full_after l) 0x0905 ∙ rw decode_length refl

pub waiting_reads : (l : List Call) → read_of (after l) 0x0905 ≡ Ok (requests_made l - requests_taken l)
waiting_reads l = read_length l ∙ ap Ok (sym (waits_as _ _ (told_after l)))

-- no more are taken than were made, and never more than 16 wait
pub waiting_within : (l : List Call) → (requests_taken l ≤ requests_made l) × (requests_made l - requests_taken l ≤ 16)
waiting_within l =
    let h = told_after l in
    (omega (arith, h.counts), omega (arith, h.counts, (range_after l).queue.waiting))

-- ---- what the other theorems call a request that a call makes is one more made

tallied_append : (l k : List Call) (t : Tally) → tallied t (l ++ k) ≡ tallied (tallied t l) k
unfolding tallied
tallied_append [] k t = refl
tallied_append (x ∷ l) k t = tallied_append l k (tally_step t x)

made_step : (m : Machine) (t : Tally) → Told m.state.common t → (x : Call) →
    (tally_step t x).made ≡ t.made + bit_of (is_some (request_made m x))
unfolding request_made tick_tally write_tally tag_tally
made_step m t h (tick inputs gates) = grind arith
made_step m t h (write a w) = grind (arith, enters_lem)
made_step m t h (tag g) = grind (arith, enters_lem)
made_step m t h (download d words) = omega arith

pub made_is : (l : List Call) (x : Call) → requests_made (l ++ (x ∷ [])) ≡ requests_made l + bit_of (is_some (request_made (after l) x))
unfolding tallied
made_is l x = ap (λ (t : Tally). t.made) (tallied_append l (x ∷ []) tally0) ∙ made_step (after l) (tallied tally0 l) (told_after l) x
