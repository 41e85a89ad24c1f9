-- A tick of a gate that stays in its state and then k is k + 1, and a tick and then none is the tick: of one gate, and of all.
use Prim.Native.Nat.{ℕ, zero, suc, ◌-◌, ◌≤◌, ◌<◌}
use native.Mathlib.Nat.{zero-add}
use native.Mathlib.Omega.{arith}
use mathlib.Core.Bool.{Bool, true, false, not, ◌&&◌, ◌||◌}
use mathlib.Core.List.{List, [], ◌∷◌}
use mathlib.Core.Path.{◌≡◌, refl, sym, ap, ◌∙◌}
use borrow.Author.Tests.{lt-leb, lt-ltb, ltb-true, not-false, not-true}
use lib.Dec.{ltb}
use lib.ListN.{get_or, length, take}
use lib.Seq.{take-suc, take_all}
use Rattle.std.specs.Bool.{MatchBool}
use Rattle.std.specs.List.{AllWithin, HoldsAt, enumerate_from, fold}
use Rattle.std.proofs.lemmas.List.FromFn.{get_or-enumerate_from, length-enumerate_from}
use Rattle.std.proofs.lemmas.List.Sums.{fold-append}
use Rattle.bools.specs.Pick.{pick}
use Rattle.words.specs.Word.{bit}
use Rattle.words.proofs.Gather.{pack_ext}
use Rattle.bools.proofs.Tests.{pick_elim}
use Rattle.std.proofs.lemmas.Bool.{and_parts, or_parts}
use Rattle.lists.specs.Table.{any}
use Rattle.lists.proofs.Tables.{all_answer, any_each, each_then, get_or_each}
use Rattle.gates.specs.declared.gate.Gate.{Gate}
use Rattle.gates.specs.declared.gate.GateState.{GateState}
use Rattle.gates.specs.declared.gate.GateState.TheVariants.{Idle, Prepare, Open, Waiting, Error, Recover, Direct}
use Rattle.gates.specs.Gate.{each_gate, gate0, gate_at, gate_bits, gate_step, in_prepare, next_state, output, output_of, outputs_of, timer_of}
use Rattle.gate_leaps.specs.Leap.{gate_after, horizon, leap_gates, same, settled, sooner, stays, steady, steady_gates}

-- ---- one gate

no_rise : (b : Bool) → (b || false) && not b ≡ false
no_rise true = refl
no_rise false = refl

or_false : (b : Bool) → b || false ≡ b
or_false true = refl
or_false false = refl

same_is : (a b : Bool) → same a b ≡ true → a ≡ b
same_is true b e = sym e
same_is false b e = sym (not-true b e)

-- what `settled` says
pub record Settled (high : Bool) (g : Gate) : Type 0 where
  pub pulse : g.preparepulse ≡ false
  pub other : g.recoverpulse ≡ false
  pub signal : g.lastprepare ≡ g.prepare
  pub shown : g.output ≡ output_of g.state high

settled_is : (high : Bool) (g : Gate) → settled high g ≡ true → Settled high g
settled_is high g e =
    let shows = same g.lastprepare g.prepare && same g.output (output_of g.state high) in
    let q = (and_parts shows (not (g.preparepulse || g.recoverpulse)) e).0 in
    let n = not-true (g.preparepulse || g.recoverpulse) (and_parts shows (not (g.preparepulse || g.recoverpulse)) e).1 in
    record {
      pulse = (or_parts g.preparepulse g.recoverpulse n).0;
      other = (or_parts g.preparepulse g.recoverpulse n).1;
      signal = same_is g.lastprepare g.prepare (and_parts (same g.lastprepare g.prepare) _ q).0;
      shown = same_is g.output (output_of g.state high) (and_parts (same g.lastprepare g.prepare) _ q).1;
    }

neither : (a b : Bool) → not a && not b ≡ true → (a ≡ false) × (b ≡ false)
neither a b e = (not-true a (and_parts (not a) (not b) e).0, not-true b (and_parts (not a) (not b) e).1)

stays_next : (st : GateState) (k : ℕ) (high : Bool) (g : Gate) → Settled high g → stays st (suc k) high g ≡ true → next_state st g high ≡ st
stays_next Idle k high g s e =
    let n = neither g.mode high e in rw (n.0, n.1, s.pulse, s.signal, no_rise g.prepare)
stays_next Prepare k high g s e =
    let h = not-true high (and_parts (ltb (suc k) g.timer) (not high) e).1 in
    let t = ltb-true (suc k) g.timer (and_parts (ltb (suc k) g.timer) (not high) e).0 in
    rw (h, lt-leb g.timer 1 (omega arith))
stays_next Open k high g s e = rw e
stays_next Waiting k high g s e =
    let h = not-true high (and_parts g.prepare (not high) e).1 in
    let p = (and_parts g.prepare (not high) e).0 in
    rw (h, p)
stays_next Error k high g s e = rw (not-true g.recover e, s.other)
stays_next Recover k high g s e = rw e
stays_next Direct k high g s e = rw e

stays_less : (st : GateState) (k : ℕ) (high : Bool) (g : Gate) → g.state ≡ st → stays st (suc k) high g ≡ true → stays st k high (gate_after 1 g) ≡ true
unfolding gate_after
stays_less Idle k high g s e = e
stays_less Prepare k high g s e =
    let t = ltb-true (suc k) g.timer (and_parts (ltb (suc k) g.timer) (not high) e).0 in
    rw (s, lt-ltb k (g.timer - 1) (omega arith)) (and_parts (ltb (suc k) g.timer) (not high) e).1
stays_less Open k high g s e = e
stays_less Waiting k high g s e = e
stays_less Error k high g s e = e
stays_less Recover k high g s e = e
stays_less Direct k high g s e = e

gate≡ : {g h : Gate} → g.state ≡ h.state → g.timer ≡ h.timer → g.timeout ≡ h.timeout → g.mode ≡ h.mode → g.prepare ≡ h.prepare →
    g.recover ≡ h.recover → g.preparepulse ≡ h.preparepulse → g.recoverpulse ≡ h.recoverpulse → g.lastprepare ≡ h.lastprepare →
    g.output ≡ h.output → g ≡ h
gate≡ a b c d e f p q r s = λ i. record {
  state = a i;
  timer = b i;
  timeout = c i;
  mode = d i;
  prepare = e i;
  recover = f i;
  preparepulse = p i;
  recoverpulse = q i;
  lastprepare = r i;
  output = s i;
}

timer_next : (st next : GateState) (timer timeout : ℕ) → next ≡ st → timer_of (in_prepare st) (in_prepare next) timer timeout ≡ pick (in_prepare st) (timer - 1) timer
timer_next st next timer timeout e = rw e (twice (in_prepare st) _ _ _)
  where
    twice : (b : Bool) (x y z : ℕ) → pick b (pick b x y) z ≡ pick b x z
    twice true x y z = refl
    twice false x y z = refl

less : (b : Bool) (n t : ℕ) → pick b (pick b (t - 1) t - n) (pick b (t - 1) t) ≡ pick b (t - suc n) t
less true n t = omega arith
less false n t = refl

gate_twice : (n : ℕ) (g : Gate) → gate_after n (gate_after 1 g) ≡ gate_after (suc n) g
unfolding gate_after
gate_twice n g = gate≡ refl (less (in_prepare g.state) n g.timer) refl refl refl refl refl refl refl refl

module _ (k : ℕ) (high : Bool) (g : Gate) (e : steady (suc k) high g ≡ true) where
  is_settled : Settled high g
  unfolding steady
  is_settled = settled_is high g (and_parts (settled high g) _ e).0

  state_stays : next_state g.state g high ≡ g.state
  unfolding steady
  state_stays = stays_next g.state k high g is_settled (and_parts (settled high g) _ e).1

  gate_step_lem : gate_step high g ≡ gate_after 1 g
  unfolding gate_step gate_after
  gate_step_lem =
      gate≡ state_stays (timer_next g.state _ g.timer g.timeout state_stays) refl refl refl refl (sym is_settled.pulse)
      (sym is_settled.other)
      (rw is_settled.pulse (or_false g.prepare) ∙ sym is_settled.signal)
      (ap (λ (st : GateState). output_of st high) state_stays ∙ sym is_settled.shown)

  gate_kept : steady k high (gate_step high g) ≡ true
  unfolding steady gate_after
  gate_kept = rw gate_step_lem (rw (and_parts (settled high g) _ e).0 (stays_less g.state k high g refl (and_parts (settled high g) _ e).1))

  gate_output : (gate_step high g).output ≡ g.output
  unfolding gate_after
  gate_output = rw gate_step_lem

  gate_more : (n : ℕ) → gate_after n (gate_step high g) ≡ gate_after (suc n) g
  gate_more n = rw gate_step_lem (gate_twice n g)

gate_none : (g : Gate) → gate_after 0 g ≡ g
unfolding gate_after
gate_none g = gate≡ refl (whole (in_prepare g.state) g.timer) refl refl refl refl refl refl refl refl
  where
    whole : (b : Bool) (t : ℕ) → pick b (t - 0) t ≡ t
    whole true t = omega arith
    whole false t = refl

-- ---- all gates

-- each of the twelve stays
pub record Steady (k levels : ℕ) (gates : List Gate) : Type 0 where
  pub at : (g : ℕ) → g < 12 → steady k (bit levels g) (gate_at gates g) ≡ true

pub steady_is : (k levels : ℕ) (gates : List Gate) → steady_gates k levels gates ≡ true → Steady k levels gates
unfolding steady_gates
steady_is k levels gates e =
    let none = not-true (any 12 (λ g. not (steady k (bit levels g) (gate_at gates g)))) e in
    record { at = λ g h. not-false (steady k (bit levels g) (gate_at gates g)) (any_each 12 _ g none h) }

module _ (k levels : ℕ) (gates : List Gate) (still : Steady (suc k) levels gates) where
  gate_next : (g : ℕ) → g < 12 → gate_at (each_gate gate_step levels gates) g ≡ gate_step (bit levels g) (gate_at gates g)
  unfolding gate_at each_gate
  gate_next g h = get_or_each 12 gate0 _ gates g h

  pub outputs_stay : outputs_of (each_gate gate_step levels gates) ≡ outputs_of gates
  unfolding outputs_of gate_bits
  outputs_stay = pack_ext 12 _ _ (λ g h. ap output (gate_next g h) ∙ gate_output k (bit levels g) (gate_at gates g) (still.at g h))

  pub steady_kept : Steady k levels (each_gate gate_step levels gates)
  steady_kept = record { at = λ g h. rw (gate_next g h) (gate_kept k (bit levels g) (gate_at gates g) (still.at g h)) }

  pub gates_more : (n : ℕ) → leap_gates n (each_gate gate_step levels gates) ≡ leap_gates (suc n) gates
  unfolding leap_gates each_gate gate_at
  gates_more n = each_then 12 gate0 _ _ _ gates (λ g h. gate_more k (bit levels g) (get_or gates g gate0) (still.at g h) n)

pub gates_none : (levels : ℕ) (gates : List Gate) → leap_gates 0 (each_gate gate_step levels gates) ≡ each_gate gate_step levels gates
unfolding leap_gates each_gate
gates_none levels gates = each_then 12 gate0 _ _ _ gates (λ g h. gate_none _)

-- the timers never give more ticks than were asked for
sooner_le : (g : Gate) (k : ℕ) → sooner g k ≤ k
sooner_le g k = pick_elim (λ (n : ℕ). n ≤ k) (in_prepare g.state) (λ e. omega arith) (λ e. omega arith)

pub horizon_le : (n : ℕ) (gates : List Gate) (k : ℕ) → horizon n gates k ≤ k
unfolding horizon
horizon_le zero gates k = omega arith
horizon_le (suc n) gates k = omega (arith, sooner_le (gate_at gates n) (horizon n gates k), horizon_le n gates k)

-- the timers one after the other
timers : (n : ℕ) (gates : List Gate) (k : ℕ) → n ≤ length gates → fold (λ most g. sooner g most) k (take n gates) ≡ horizon n gates k
unfolding horizon gate_at
timers zero gates k h = refl
timers (suc n) gates k h =
    rw (take-suc gates n gate0 (omega arith), fold-append (λ most g. sooner g most) k (take n gates) (get_or gates n gate0 ∷ []))
    (ap (sooner (get_or gates n gate0)) (timers n gates k (omega arith)))

pub fold_horizon : (gates : List Gate) (k : ℕ) → length gates ≡ 12 → fold (λ most g. sooner g most) k gates ≡ horizon 12 gates k
fold_horizon gates k size = ap (fold (λ most g. sooner g most) k) (sym (take_all 12 gates (omega arith))) ∙ timers 12 gates k (omega arith)

-- whether a gate stays, with its number
abbrev pub stays_at : ℕ → ℕ → ℕ × Gate → Bool
stays_at k levels p = steady k (bit levels p.0) p.1

-- what std's `all` answers of the gates with their numbers
pub steady_all : (k levels : ℕ) (gates : List Gate) (r : Bool) → length gates ≡ 12 →
    MatchBool r (AllWithin (λ p. stays_at k levels p ≡ true) (enumerate_from 0 gates) 0 (length (enumerate_from 0 gates)))
    ((i : ℕ) × (i < length (enumerate_from 0 gates)) × HoldsAt (λ p. stays_at k levels p ≡ false) (enumerate_from 0 gates) i) →
    r ≡ steady_gates k levels gates
unfolding steady_gates gate_at
steady_all k levels gates r size m =
    all_answer (0, gate0) (enumerate_from 0 gates) 12 (length-enumerate_from 0 gates ∙ size) (stays_at k levels) _ r
    (λ i h. ap (λ (p : ℕ × Gate). not (stays_at k levels p)) (sym (rw zero-add at (get_or-enumerate_from 0 gates i (0, gate0) (omega arith)))))
    m
