-- A request is finished in time: the measure `ticks_left` falls by one with each accepted tick, and by nothing else.
use Prim.Native.Nat.{ℕ, zero, suc, ◌+◌, ◌-◌, ◌*◌, ◌≤◌, ◌<◌}
use native.Mathlib.Nat.{sub-zero}
use native.Mathlib.Omega.{arith}
use mathlib.Core.Bool.{Bool, true, false, ◌&&◌}
use mathlib.Core.List.{List, [], ◌∷◌}
use mathlib.Core.Path.{◌≡◌, refl, ap, ◌∙◌}
use borrow.Author.Tests.{eqb-true, eqb-false, lt-ltb, ne_eqb}
use lib.Dec.{eqb}
use lib.ListN.{get_or}
use lib.Seq.{get_or-set_same, get_or-set_other}
use Rattle.std.proofs.lemmas.Grind.{common_steps}
use Rattle.std.proofs.lemmas.Bool.Decides.{nat_tests}
use Rattle.std.proofs.Common.{Option, Some, None}
use Rattle.bools.proofs.Tests.{cases}
use Rattle.std.proofs.lemmas.Bool.{and_parts}
use Rattle.lists.proofs.Tables.{get_d_tabulate}
use Rattle.loader.specs.declared.loader.Queue.{Queue}
use Rattle.loader.specs.declared.loader.Reload.{Reload as Reloading}
use Rattle.loader.specs.declared.loader.Request.{Request}
use Rattle.loader.specs.Loader.{dropped, is_empty, loader_step, oldest, pushed, queue_step, request0, request_for, shifted}
use Rattle.device.specs.declared.map.Register.TheVariants.{Shared}
use Rattle.device.specs.declared.map.SharedWord.TheVariants.{Reload}
use Rattle.device.specs.declared.state.Common.{Common}
use Rattle.causes.specs.Causes.{is_done}
use Rattle.registers.specs.Calls.{Call, tick, write, tag, accepted_ticks, after, called, from, step, tick_one}
use Rattle.device.specs.Map.{kept}
use Rattle.device.specs.State.{Machine}
use Rattle.tagging.specs.Tag.{command_of, commanded, events_on, right_key, tag_of, tag_request}
use Rattle.ticking.specs.Tick.{common_tick, tick_of}
use Rattle.lines.specs.Lines.{bad_levels}
use Rattle.writing.specs.Write.{control_write, dataset_in, enable_write, group_in, key_write, reload_answer, reload_write, request_answer, requested, shared_write, triggers, with_reload, write_at}
use Rattle.registers.proofs.Keeping.{Change, Keeps, Untimed, asked, called_keeps, changed, step_keeps, timed, written}
use Rattle.registers.proofs.Whole.{WholeMemory, full, step_called}
use Rattle.sheet.specs.Reachable.{CommonInRange, LoaderInRange}
use Rattle.sheet.specs.Requests.{Stand, Stands, finished, loading, made_by, past, queued, request_made, stand_after, stand_step, stand_tick, ticks_at_work, ticks_left, waits, works}
use Rattle.sheet.proofs.Addresses.{decode_reload}
use Rattle.sheet.proofs.InRange.{taken}
use Rattle.sheet.proofs.Reached.{common_tick_in, range_after, range_changed, range_keeps, reload_in}
use Rattle.sheet.proofs.Sizes.{full_after}

-- ---- a tick of the loader and the queue, at a request that stands somewhere

waiting_some : (q : Queue) (k : ℕ) → k < q.waiting → is_empty q ≡ false
waiting_some q k h = ne_eqb q.waiting 0 (λ e. omega arith)

dropped_at : (q : Queue) → q.waiting ≤ 16 → (k : ℕ) → suc k < q.waiting → get_or (dropped q).places k request0 ≡ get_or q.places (suc k) request0
unfolding dropped shifted
dropped_at q w k h = get_d_tabulate 16 _ k request0 (omega arith) ∙ ap (λ (n : ℕ). get_or q.places n request0) (omega arith)

dropped_more : (q : Queue) (k : ℕ) → suc k < q.waiting → k < (dropped q).waiting
unfolding dropped
dropped_more q k h = omega arith

-- the loader is idle or works on a request, with the equation in hand
loaders : {A : Type 0} (l : Option Reloading) → (l ≡ None → A) → ((x : Reloading) → l ≡ Some x → A) → A
loaders l f g = grind arith

stands_tick : (cm : Common) (r : Request) (s : Stand) → cm.queue.waiting ≤ 16 → LoaderInRange cm.loader → Stands cm r s →
    Stands (common_tick cm) r (stand_tick cm.loader s)
unfolding common_tick loader_step queue_step
stands_tick cm r (waits zero) w n (queued k h e) =
    loaders cm.loader
    (λ b. rw (b, waiting_some cm.queue 0 h) (loading _ refl (unfold oldest in e)))
    (λ l b. rw b (queued 0 h e))
stands_tick cm r (waits (suc k)) w n (queued j h e) =
    loaders cm.loader
    (λ b. rw (b, waiting_some cm.queue (suc k) h) (queued k (dropped_more cm.queue k h) (dropped_at cm.queue w k h ∙ e)))
    (λ l b. rw b (queued (suc k) h e))
stands_tick cm r works w n (loading l b e) =
    let n₁ : LoaderInRange (Some l) = rw b at n in
    rw b
    (cases (eqb l.next 127)
    (λ f. rw f past)
    (λ f. rw (f, lt-ltb l.next 127 (omega (arith, n₁.next, eqb-false l.next 127 f))) (loading _ refl e)))
stands_tick cm r finished w n past = loaders cm.loader (λ b. rw b past) (λ l b. rw b past)

-- ---- the measure falls by one with an accepted tick

pub work_busy : (l : Reloading) (q : Queue) → l.next < 128 → ticks_at_work (loader_step (Some l) q) + 1 ≡ 128 - l.next
unfolding loader_step
work_busy l q n = grind (arith, nat_tests)

left_tick : (cm : Common) (r : Request) (s : Stand) → LoaderInRange cm.loader → Stands cm r s →
    ticks_left (loader_step cm.loader cm.queue) (stand_tick cm.loader s) ≡ ticks_left cm.loader s - 1
left_tick cm r (waits zero) n (queued k h e) =
    loaders cm.loader
    (λ b. rw b (unfold loader_step in (rw (waiting_some cm.queue 0 h) refl)))
    (λ l b. let n₁ : LoaderInRange (Some l) = rw b at n in rw b (omega (arith, work_busy l cm.queue n₁.next)))
left_tick cm r (waits (suc k)) n (queued j h e) =
    loaders cm.loader
    (λ b. rw b (unfold loader_step in (rw (waiting_some cm.queue (suc k) h) (omega arith))))
    (λ l b. let n₁ : LoaderInRange (Some l) = rw b at n in rw b (omega (arith, work_busy l cm.queue n₁.next)))
left_tick cm r works n (loading l b e) =
    let n₁ : LoaderInRange (Some l) = rw b at n in
    rw b
    (cases (eqb l.next 127)
    (λ f. rw f (omega (arith, eqb-true l.next 127 f)))
    (λ f. rw f (omega (arith, work_busy l cm.queue n₁.next))))
left_tick cm r finished n past = loaders cm.loader (λ b. rw b refl) (λ l b. rw b refl)

-- ---- other calls leave the loader, and put at most one request behind those that wait

data Grown (q : Queue) : Queue → Type 0 where
  same : Grown q q
  more : (r : Request) → q.waiting < 16 → Grown q (pushed q r)

pub record Still (cm cm' : Common) : Type 0 where
  loader : cm'.loader ≡ cm.loader
  queue : Grown cm.queue cm'.queue

place_grown : (q q' : Queue) → Grown q q' → (k : ℕ) → k < q.waiting → (k < q'.waiting) × (get_or q'.places k request0 ≡ get_or q.places k request0)
unfolding pushed
place_grown q q' h k e = grind (arith, get_or-set_other)

stands_still : (cm cm' : Common) → Still cm cm' → (r : Request) (s : Stand) → Stands cm r s → Stands cm' r s
stands_still cm cm' t r (waits k) (queued j h e) =
    let g = place_grown cm.queue cm'.queue t.queue k h in queued k g.0 (g.1 ∙ e)
stands_still cm cm' t r works (loading l b e) = loading l (t.loader ∙ b) e
stands_still cm cm' t r finished past = past

reload_still : (w : ℕ) (cm : Common) → Still cm (reload_write w cm)
unfolding reload_write reload_answer requested
reload_still w cm =
    cases (triggers w cm)
    (λ t.
    rw t
    (cases (is_done (request_answer cm.queue (dataset_in w)))
    (λ e. rw e (record { loader = refl; queue = more _ (taken cm.queue (dataset_in w) e).1 }))
    (λ e. rw e (record { loader = refl; queue = same }))))
    (λ t. rw t (record { loader = refl; queue = same }))

tag_still : (t : ℕ) (cm : Common) → Still cm (tag_request t cm)
unfolding tag_request requested
tag_still t cm =
    cases (is_done (request_answer cm.queue (dataset_in t)))
    (λ e. rw e (record { loader = refl; queue = more _ (taken cm.queue (dataset_in t) e).1 }))
    (λ e. rw e (record { loader = refl; queue = same }))

still_changed : (m : Machine) (x : Change) → Still m.state.common (changed m x).state.common
unfolding write_at shared_write control_write key_write enable_write
still_changed m (written (Shared Reload) w) = reload_still w m.state.common
still_changed m (asked t) = tag_still t m.state.common
still_changed m x = record { loader = refl; queue = same }

-- ---- along a list

-- what holds on the way: the request stands, and the accepted ticks left are those at the start less those made
pub record Due (cm : Common) (r : Request) (s : Stand) (n : ℕ) : Type 0 where
  pub range : CommonInRange cm
  pub stands : Stands cm r s
  pub left : ticks_left cm.loader s ≡ n

module _ (r : Request) (s : Stand) (n : ℕ) where
  abbrev DueIn : Machine → Type 0
  DueIn m = Due m.state.common r s n

  due_still : (cm cm' : Common) → Still cm cm' → CommonInRange cm' → Due cm r s n → Due cm' r s n
  due_still cm cm' t h d = record {
    range = h;
    stands = stands_still cm cm' t r s d.stands;
    left = ap (λ (l : Option Reloading). ticks_left l s) t.loader ∙ d.left;
  }

  due_changed : (m : Machine) → DueIn m → (x : Change) → DueIn (changed m x)
  due_changed m d x = due_still m.state.common (changed m x).state.common (still_changed m x) (range_changed m d.range x) d

  -- a call other than an accepted tick leaves the request where it stands
  due_keeps : Keeps Untimed DueIn
  due_keeps = record { change = due_changed; tick = λ m d inputs gates c e. timed inputs gates c e; download = λ m d k words c e. d }

  due_past : (m : Machine) → DueIn m → (x : Call) → Untimed x → Due (step m x).state.common r s (n - 0)
  due_past m d x c = rw (sub-zero n) (step_keeps due_keeps m d x c)

due_tick : (cm : Common) (r : Request) (s : Stand) (n : ℕ) → Due cm r s n → Due (common_tick cm) r (stand_tick cm.loader s) (n - 1)
due_tick cm r s n d = record {
  range = common_tick_in cm d.range;
  stands = stands_tick cm r s d.range.queue.waiting d.range.loader d.stands;
  left = unfold common_tick in (left_tick cm r s d.range.loader d.stands ∙ ap (λ (k : ℕ). k - 1) d.left);
}

due_step : (m : Machine) → WholeMemory m.memory → (x : Call) (r : Request) (s : Stand) (n : ℕ) → Due m.state.common r s n →
    Due (step m x).state.common r (stand_step m x s) (n - tick_one x)
unfolding called tick_of
due_step m f (tick inputs gates) r s n d =
    cases (bad_levels inputs gates)
    (λ b. rw b (due_past r s n m d (tick inputs gates) (rw b)))
    (λ b. rw (b, step_called m f (tick inputs gates), b) (due_tick m.state.common r s n d))
due_step m f x r s n d = due_past r s n m d x refl

due_from : (m : Machine) → WholeMemory m.memory → (l : List Call) (r : Request) (s : Stand) (n : ℕ) → Due m.state.common r s n →
    Due (from m l).state.common r (stand_after m l s) (n - accepted_ticks l)
unfolding from stand_after accepted_ticks
due_from m f [] r s n d = rw (sub-zero n) d
due_from m f (x ∷ l) r s n d =
    let e : n - (tick_one x + accepted_ticks l) ≡ n - tick_one x - accepted_ticks l = omega arith in
    rw e (due_from (step m x) (full m f x) l r (stand_step m x s) (n - tick_one x) (due_step m f x r s n d))

-- ---- a request that is made

abbrev work : Machine → ℕ
work m = ticks_at_work m.state.common.loader

abbrev ahead : Machine → ℕ
ahead m = m.state.common.queue.waiting

-- it stands behind those that wait
due_pushed : (cm cm' : Common) (r : Request) → CommonInRange cm → CommonInRange cm' → cm.queue.waiting < 16 → cm'.queue ≡ pushed cm.queue r →
    cm'.loader ≡ cm.loader → Due cm' r (waits cm.queue.waiting) (ticks_at_work cm.loader + 129 * (cm.queue.waiting + 1))
due_pushed cm cm' r h h' free q l = record {
  range = h';
  stands = queued cm.queue.waiting (rw q (unfold pushed in (omega arith)))
      (rw q (unfold pushed in (get_or-set_same cm.queue.places cm.queue.waiting r request0 (omega (arith, h.queue.places)))));
  left = ap (λ (x : Option Reloading). ticks_left x (waits cm.queue.waiting)) l;
}

made_by_lem : (cm : Common) (w : ℕ) (asks : Bool) (r : Request) → made_by cm w asks ≡ Some r →
    (asks ≡ true) × (is_done (request_answer cm.queue (dataset_in w)) ≡ true) × (request_for (dataset_in w) (group_in w) ≡ r)
made_by_lem cm w asks r e = (grind (arith, common_steps), grind (arith, common_steps), grind (arith, common_steps))

reload_made : (w : ℕ) (cm : Common) → triggers w cm ≡ true → is_done (request_answer cm.queue (dataset_in w)) ≡ true →
    reload_write w cm ≡ with_reload (kept (Shared Reload) w) (requested w cm)
unfolding reload_write reload_answer
reload_made w cm t e = rw (t, e)

tag_made : (m : Machine) (t : ℕ) → events_on m.state.common ≡ true → right_key m.state.common t ≡ true → eqb (command_of t) 1 ≡ true →
    is_done (request_answer m.state.common.queue (dataset_in t)) ≡ true → (tag_of m.state t).common ≡ requested t m.state.common
unfolding tag_of commanded tag_request
tag_made m t on key one e = rw (on, key, one, e)

due_request : (cm : Common) (w : ℕ) (r : Request) (cm' : Common) → CommonInRange cm → CommonInRange cm' →
    is_done (request_answer cm.queue (dataset_in w)) ≡ true → request_for (dataset_in w) (group_in w) ≡ r →
    cm'.queue ≡ (requested w cm).queue → cm'.loader ≡ cm.loader →
    Due cm' r (waits cm.queue.waiting) (ticks_at_work cm.loader + 129 * (cm.queue.waiting + 1))
unfolding requested
due_request cm w r cm' h h' e same-request q l =
    due_pushed cm cm' r h h' (taken cm.queue (dataset_in w) e).1 (q ∙ ap (pushed cm.queue) same-request) l

abbrev DueMade : Machine → Request → Machine → Type 0
DueMade m r m' = Due m'.state.common r (waits (ahead m)) (work m + 129 * (ahead m + 1))

made_write : (m : Machine) (a w : ℕ) (r : Request) → WholeMemory m.memory → CommonInRange m.state.common → request_made m (write a w) ≡ Some r →
    DueMade m r (step m (write a w))
unfolding request_made called write_at shared_write
made_write m a w r f h e =
    let cm = m.state.common in
    let b = made_by_lem cm w (eqb a 0x0A02 && triggers w cm) r e in
    let p : a ≡ 0x0A02 = eqb-true a 0x0A02 (and_parts _ _ b.0).0 in
    let made = reload_made w cm (and_parts (eqb a 0x0A02) _ b.0).1 b.1 in
    rw (step_called m f (write a w), p, decode_reload, made)
    (due_request cm w r (with_reload (kept (Shared Reload) w) (requested w cm)) h (rw made at (reload_in w cm h)) b.1 b.2 refl (unfold requested in refl))

made_tag : (m : Machine) (t : ℕ) (r : Request) → WholeMemory m.memory → CommonInRange m.state.common → request_made m (tag t) ≡ Some r →
    DueMade m r (step m (tag t))
unfolding request_made called
made_tag m t r f h e =
    let cm = m.state.common in
    let b = made_by_lem cm t (events_on cm && right_key cm t && eqb (command_of t) 1) r e in
    let open_key = (and_parts (events_on cm && right_key cm t) _ b.0).0 in
    let on = (and_parts (events_on cm) _ open_key).0 in
    let key = (and_parts (events_on cm) _ open_key).1 in
    let one = (and_parts (events_on cm && right_key cm t) _ b.0).1 in
    let made = tag_made m t on key one b.1 in
    rw (step_called m f (tag t))
    (due_request cm t r (tag_of m.state t).common h (called_keeps range_keeps m h (tag t) tt) b.1 b.2 (ap (λ (x : Common). x.queue) made)
    (ap (λ (x : Common). x.loader) made ∙ (unfold requested in refl)))

due_made : (m : Machine) (x : Call) (r : Request) → WholeMemory m.memory → CommonInRange m.state.common → request_made m x ≡ Some r → DueMade m r (step m x)
unfolding request_made
due_made m (write a w) r f h e = made_write m a w r f h e
due_made m (tag t) r f h e = made_tag m t r f h e
due_made m x r f h e = absurd (cc)

-- ---- the bound

finished_at_zero : (cm : Common) (r : Request) (s : Stand) → LoaderInRange cm.loader → Stands cm r s → ticks_left cm.loader s ≡ 0 → s ≡ finished
finished_at_zero cm r s n st e = grind arith

work_le : (l : Option Reloading) → ticks_at_work l ≤ 128
work_le l = grind arith

module _ (l : List Call) (x : Call) (r : Request) (made : request_made (after l) x ≡ Some r) where
  due_after : (k : List Call) →
      Due (from (step (after l) x) k).state.common r (stand_after (step (after l) x) k (waits (ahead (after l)))) (work (after l) + 129 * (ahead (after l) + 1) - accepted_ticks k)
  due_after k = due_from (step (after l) x) (full (after l) (full_after l) x) k r _ _ (due_made (after l) x r (full_after l) (range_after l) made)

  -- the request stands where `stand_after` says, after every list
  pub stands : (k : List Call) → Stands (from (step (after l) x) k).state.common r (stand_after (step (after l) x) k (waits (ahead (after l))))
  stands k = (due_after k).stands

  pub finishes : (k : List Call) → 128 + 129 * (ahead (after l) + 1) ≤ accepted_ticks k → stand_after (step (after l) x) k (waits (ahead (after l))) ≡ finished
  finishes k h =
      let d = due_after k in
      finished_at_zero _ r _ d.range.loader d.stands (d.left ∙ omega (arith, work_le (after l).state.common.loader))
