-- k ticks of a quiet crate are one leap of k: part by part from the laws of its parts, then by induction on k.
use Prim.Native.Nat.{ℕ, zero, suc, ◌≤◌, min}
use native.Mathlib.Omega.{arith}
use mathlib.Core.Bool.{true, false, not, ◌&&◌, ◌||◌}
use mathlib.Core.List.{List}
use mathlib.Core.Path.{◌≡◌, refl, sym, ap, ◌∙◌}
use borrow.Author.Tests.{eqb-true, not-false, not-true}
use lib.Dec.{eqb}
use Rattle.std.specs.Prelude.{Option, None, Some}
use Rattle.bools.proofs.Tests.{cases, pick_elim}
use Rattle.std.proofs.lemmas.Bool.{and_parts, or_parts, true≢false}
use Rattle.counters.specs.declared.counter.Counter.{Counter}
use Rattle.gates.specs.declared.gate.Gate.{Gate}
use Rattle.loader.specs.declared.loader.Queue.{Queue}
use Rattle.loader.specs.declared.loader.Reload.{Reload}
use Rattle.watchdogs.specs.declared.watchdog.Watchdog.{Watchdog}
use Rattle.counters.specs.Counter.{tick_counters}
use Rattle.counters.proofs.Leaps.{counters_more, counters_none, counters_ranged}
use Rattle.gates.specs.Gate.{each_gate, gate_step, outputs_of}
use Rattle.gate_leaps.specs.Leap.{horizon}
use Rattle.gate_leaps.proofs.Leaps.{Steady, gates_more, gates_none, horizon_le, outputs_stay, steady_is, steady_kept}
use Rattle.lines.specs.Leap.{low_phases}
use Rattle.lines.specs.Lines.{rises_of, step_phases}
use Rattle.lines.proofs.Leaps.{Low, low_is, low_kept, no_input, phases_more, phases_none, raw_stays, rises_next, rises_none}
use Rattle.loader.specs.Loader.{busy, is_empty, load_into, loader_step, queue_step}
use Rattle.watchdogs.specs.Watchdog.{step_watchdogs}
use Rattle.watchdogs.proofs.Leaps.{watchdogs_more, watchdogs_none}
use Rattle.device.specs.declared.state.Crate.{Crate}
use Rattle.device.specs.declared.state.Events.{Events}
use Rattle.device.specs.State.{common_of, crate_of, with_gatelevels}
use Rattle.ticking.specs.Tick.{common_tick, handled_by, status_tick, tick_of}
use Rattle.leaps.specs.Leap.{Formed, leap_common, leap_of, quiet, stretch_of, ticks_of}

-- ---- what the test says

pub record Quiet (k : ℕ) (s : Crate) (inputs gatelevels : ℕ) : Type 0 where
  pub levels : s.levels ≡ inputs
  pub idle : s.common.loader ≡ None
  pub empty : is_empty s.common.queue ≡ true
  pub phases : Low s.common.phases
  pub gates : Steady k gatelevels s.gates

none_of : (l : Option Reload) → busy l ≡ false → l ≡ None
none_of None e = refl
none_of (Some l) e = absurd (true≢false e)

pub quiet_is : (k : ℕ) (s : Crate) (inputs gatelevels : ℕ) → quiet k s inputs gatelevels ≡ true → Quiet k s inputs gatelevels
unfolding quiet
quiet_is k s inputs gatelevels e =
    let waits = busy s.common.loader || not (is_empty s.common.queue) in
    let a = (and_parts (eqb s.levels inputs && not waits) _ e).0 in
    let b = (and_parts (eqb s.levels inputs && not waits) _ e).1 in
    let c = not-true waits (and_parts (eqb s.levels inputs) (not waits) a).1 in
    record {
      levels = eqb-true s.levels inputs (and_parts (eqb s.levels inputs) _ a).0;
      idle = none_of s.common.loader (or_parts (busy s.common.loader) (not (is_empty s.common.queue)) c).0;
      empty = not-false (is_empty s.common.queue) (or_parts (busy s.common.loader) (not (is_empty s.common.queue)) c).1;
      phases = low_is s.common.phases (and_parts (low_phases s.common.phases) _ b).0;
      gates = steady_is k gatelevels s.gates (and_parts (low_phases s.common.phases) _ b).1;
    }

-- ---- an idle loader

module _ (l : Option Reload) (q : Queue) (idle : l ≡ None) (empty : is_empty q ≡ true) where
  loader_stays : loader_step l q ≡ l
  unfolding loader_step
  loader_stays = rw (idle, empty)

  queue_stays : queue_step l q ≡ q
  unfolding queue_step
  queue_stays = rw (idle, empty)

  load_none : (groups memory : List ℕ) (xs : List Counter) → load_into l groups memory xs ≡ xs
  unfolding load_into
  load_none groups memory xs = rw idle

handled_stays : (l : Option Reload) (e : Events) → l ≡ None → handled_by l e ≡ e
handled_stays l e idle = rw idle

-- ---- the crate

pub crate≡ : {s t : Crate} → s.counters ≡ t.counters → s.groups ≡ t.groups → s.gates ≡ t.gates → s.watchdogs ≡ t.watchdogs →
    s.levels ≡ t.levels → s.common ≡ t.common → s.settings ≡ t.settings → s.status ≡ t.status → s ≡ t
crate≡ a b c d e f g h = λ i. crate_of (a i) (b i) (c i) (d i) (e i) (f i) (g i) (h i)

module _ (k : ℕ) (s : Crate) (memory : List ℕ) (inputs gatelevels : ℕ) (q : Quiet (suc k) s inputs gatelevels) (form : Formed s) where
  abbrev next : Crate
  next = tick_of s memory inputs gatelevels

  abbrev w : ℕ
  w = rises_of inputs inputs s.common.phases

  abbrev is : ℕ
  is = outputs_of s.gates

  abbrev counted : List Counter
  counted = tick_counters s.common.control w is is s.counters

  abbrev gates : List Gate
  gates = each_gate gate_step gatelevels s.gates

  abbrev watched : List Watchdog
  watched = step_watchdogs s.settings.timeout w s.watchdogs

  -- a quiet tick: no input rises, no output changes, nothing is loaded
  quiet_tick : next ≡ crate_of counted s.groups gates watched inputs (common_tick s.common) s.settings
      (status_tick w gatelevels s.common.loader s.status)
  unfolding tick_of
  quiet_tick =
      rw (
        q.levels,
        outputs_stay k gatelevels s.gates q.gates,
        load_none s.common.loader s.common.queue q.idle q.empty,
      )

  common_is : common_tick s.common ≡
      common_of s.common.control s.common.key s.common.enable s.common.reload s.common.queue s.common.loader (step_phases s.common.phases)
  unfolding common_tick
  common_is = rw (
    queue_stays s.common.loader s.common.queue q.idle q.empty,
    loader_stays s.common.loader s.common.queue q.idle q.empty,
  )

  status_is : status_tick w gatelevels s.common.loader s.status ≡ with_gatelevels s.status gatelevels
  unfolding status_tick
  status_is = rw (raw_stays inputs s.common.phases s.status.rawcounts form.rawcounts, handled_stays s.common.loader s.status.events q.idle)

  abbrev stepped : Crate
  stepped =
      crate_of counted s.groups gates watched inputs
      (common_of s.common.control s.common.key s.common.enable s.common.reload s.common.queue s.common.loader (step_phases s.common.phases))
      s.settings
      (with_gatelevels s.status gatelevels)

  tick_is : next ≡ stepped
  tick_is = quiet_tick ∙ crate≡ refl refl refl refl refl common_is refl status_is

  more : (n : ℕ) → leap_of n next gatelevels ≡ leap_of (suc n) s gatelevels
  unfolding leap_of leap_common
  more n =
      ap (λ (x : Crate). leap_of n x gatelevels) tick_is
      ∙ crate≡
      (rw (outputs_stay k gatelevels s.gates q.gates) (counters_more s.common.control w is s.counters _ _ (rises_next inputs s.common.phases n)))
      refl
      (gates_more k gatelevels s.gates q.gates n)
      (watchdogs_more w (no_input inputs s.common.phases) s.settings.timeout s.watchdogs n)
      (sym q.levels)
      (ap (λ (x : List ℕ). common_of s.common.control s.common.key s.common.enable s.common.reload s.common.queue s.common.loader x) (phases_more n s.common.phases))
      refl
      refl

  none : leap_of 0 next gatelevels ≡ next
  unfolding leap_of leap_common
  none =
      ap (λ (x : Crate). leap_of 0 x gatelevels) tick_is
      ∙ crate≡
      (rw (outputs_stay k gatelevels s.gates q.gates) (counters_none s.common.control w is s.counters _ (rises_none (step_phases s.common.phases) (low_kept s.common.phases q.phases)) form.counters))
      refl
      (gates_none gatelevels s.gates)
      (watchdogs_none w (no_input inputs s.common.phases) s.settings.timeout s.watchdogs)
      refl
      (ap (λ (x : List ℕ). common_of s.common.control s.common.key s.common.enable s.common.reload s.common.queue s.common.loader x) (phases_none s.common.phases q.phases))
      refl
      refl
      ∙ sym tick_is

  kept : Quiet k next inputs gatelevels
  kept = rw tick_is (record {
    levels = refl;
    idle = q.idle;
    empty = q.empty;
    phases = low_kept s.common.phases q.phases;
    gates = steady_kept k gatelevels s.gates q.gates;
  })

  formed : Formed next
  formed = rw tick_is (record {
    counters = counters_ranged s.common.control w is s.counters form.counters;
    rawcounts = form.rawcounts;
  })

-- so many ticks of a quiet crate, one by one, are one leap
pub quiet_leap : (k : ℕ) (s : Crate) (memory : List ℕ) (inputs gatelevels : ℕ) → Quiet (suc k) s inputs gatelevels → Formed s →
    ticks_of (suc k) s memory inputs gatelevels ≡ leap_of (suc k) s gatelevels
unfolding ticks_of
quiet_leap zero s memory inputs gatelevels q f = sym (none 0 s memory inputs gatelevels q f) ∙ more 0 s memory inputs gatelevels q f 0
quiet_leap (suc k) s memory inputs gatelevels q f =
    quiet_leap k (tick_of s memory inputs gatelevels) memory inputs gatelevels (kept (suc k) s memory inputs gatelevels q f) (formed (suc k) s memory inputs gatelevels q f)
    ∙ more (suc k) s memory inputs gatelevels q f (suc k)

-- ---- the stretch that is made at once

pub stretch_le : (s : Crate) (left inputs gatelevels : ℕ) → stretch_of s left inputs gatelevels ≤ left
unfolding stretch_of
stretch_le s left inputs gatelevels =
    let k = horizon 12 s.gates (min left 4294967295) in
    pick_elim (λ (n : ℕ). n ≤ left) (quiet k s inputs gatelevels) (λ e. omega (arith, horizon_le 12 s.gates (min left 4294967295))) (λ e. omega arith)

-- it is quiet, unless there is none
pub stretch_quiet : (s : Crate) (left inputs gatelevels : ℕ) → (stretch_of s left inputs gatelevels ≡ 0 → ⊥) →
    quiet (stretch_of s left inputs gatelevels) s inputs gatelevels ≡ true
unfolding stretch_of
stretch_quiet s left inputs gatelevels some =
    let k = horizon 12 s.gates (min left 4294967295) in
    cases (quiet k s inputs gatelevels) (λ e. rw (e, e)) (λ e. absurd (some (rw e)))
