-- A tick without a rise and then k is k + 1, and a tick and then none is the tick: of a watchdog, and of all.
use Prim.Native.Nat.{ℕ, suc, ◌+◌, ◌*◌, ◌≤◌, ◌<◌}
use native.Mathlib.Omega.{arith}
use mathlib.Core.Bool.{Bool, true, false, ◌||◌}
use mathlib.Core.List.{List}
use mathlib.Core.Path.{◌≡◌, refl, sym, ap, ◌∙◌}
use borrow.Author.Tests.{le-leb, le-ltb, leb-true, ltb-false, ltb-true}
use lib.Dec.{leb, ltb}
use lib.ListN.{get_or}
use Rattle.words.specs.Word.{bit}
use Rattle.bools.proofs.Tests.{cases, pick_elim}
use Rattle.lists.proofs.Tables.{each_then}
use Rattle.watchdogs.specs.declared.watchdog.Watchdog.{Watchdog}
use Rattle.watchdogs.specs.Leap.{leap_watchdogs, value_after, watchdog_after}
use Rattle.watchdogs.specs.Watchdog.{step_watchdogs, ticks_since, watchdog0, watchdog_of, watchdog_step, watchdog_top, watchdog_unit}

value_more : (k v : ℕ) → value_after k (ticks_since false v) ≡ value_after (suc k) v
value_more k v =
    cases (ltb v watchdog_top)
    (λ e.
    let s : v + 1 + k ≡ v + suc k = omega arith in rw (e, s))
    (λ e. rw (e, le-ltb (watchdog_top + k) watchdog_top (omega arith), le-ltb (v + suc k) watchdog_top (omega (arith, ltb-false v watchdog_top e))))

value_none : (v : ℕ) → value_after 0 (ticks_since false v) ≡ ticks_since false v
value_none v =
    cases (ltb v watchdog_top)
    (λ e.
    let s : v + 1 + 0 ≡ v + 1 = omega arith in
    cases (ltb (v + 1) watchdog_top) (λ f. rw (e, s, f)) (λ f. rw (e, s, f) (omega (arith, ltb-true v watchdog_top e, ltb-false (v + 1) watchdog_top f))))
    (λ e. rw e)

value_grows : (k v : ℕ) → ticks_since false v ≤ value_after k (ticks_since false v)
value_grows k v =
    cases (ltb v watchdog_top)
    (λ e. rw e (pick_elim (λ (n : ℕ). v + 1 ≤ n) (ltb (v + 1 + k) watchdog_top) (λ f. omega arith) (λ f. omega (arith, ltb-true v watchdog_top e))))
    (λ e. rw (e, le-ltb (watchdog_top + k) watchdog_top (omega arith)) (omega arith))

-- an error once latched stays, and a test that gives a later one adds nothing to it
latched : (a b c : Bool) → (b ≡ true → c ≡ true) → (a || b) || c ≡ a || c
latched true b c f = refl
latched false true c f = sym (f refl)
latched false false c f = refl

kept : (a b : Bool) → (a || b) || b ≡ a || b
kept true b = refl
kept false true = refl
kept false false = refl

reaches : (t v w : ℕ) → v ≤ w → leb t v ≡ true → leb t w ≡ true
reaches t v w h e = le-leb t w (omega (arith, leb-true t v e))

watchdog_more : (k timeout : ℕ) (w : Watchdog) → watchdog_after k timeout (watchdog_step timeout false w) ≡ watchdog_after (suc k) timeout w
unfolding watchdog_after watchdog_step
watchdog_more k timeout w =
    ap (λ (b : Bool). watchdog_of (value_after k (ticks_since false w.value)) b w.reset)
    (latched w.error _ _ (reaches (watchdog_unit * timeout) _ _ (value_grows k w.value)))
    ∙ ap (λ (n : ℕ). watchdog_of n (w.error || leb (watchdog_unit * timeout) n) w.reset) (value_more k w.value)

watchdog_none : (timeout : ℕ) (w : Watchdog) → watchdog_after 0 timeout (watchdog_step timeout false w) ≡ watchdog_step timeout false w
unfolding watchdog_after watchdog_step
watchdog_none timeout w =
    let t = ticks_since false w.value in
    ap (λ (n : ℕ). watchdog_of n ((w.error || leb (watchdog_unit * timeout) t) || leb (watchdog_unit * timeout) n) w.reset) (value_none w.value)
    ∙ ap (λ (b : Bool). watchdog_of t b w.reset) (kept w.error (leb (watchdog_unit * timeout) t))

-- ---- all watchdogs, in a tick in which no input rises

module _ (rises : ℕ) (none : (i : ℕ) → i < 54 → bit rises i ≡ false) (timeout : ℕ) (ws : List Watchdog) where
  pub watchdogs_more : (n : ℕ) → leap_watchdogs n timeout (step_watchdogs timeout rises ws) ≡ leap_watchdogs (suc n) timeout ws
  unfolding leap_watchdogs step_watchdogs
  watchdogs_more n = each_then 54 watchdog0 _ _ _ ws (λ i h. rw (none i h) (watchdog_more n timeout (get_or ws i watchdog0)))

  pub watchdogs_none : leap_watchdogs 0 timeout (step_watchdogs timeout rises ws) ≡ step_watchdogs timeout rises ws
  unfolding leap_watchdogs step_watchdogs
  watchdogs_none = each_then 54 watchdog0 _ _ _ ws (λ i h. rw (none i h) (watchdog_none timeout (get_or ws i watchdog0)))
