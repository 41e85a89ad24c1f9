-- A run of written repeats passes their ticks, one by one, and ends at the end.
use Prim.Native.Nat.{ℕ, zero, suc, ◌+◌, ◌≤◌, ◌<◌}
use native.Mathlib.Nat.{add-zero, zero-add, not-suc-le-zero}
use native.Mathlib.Omega.{arith}
use mathlib.Core.Bool.{true, false}
use mathlib.Core.List.{List, [], ◌∷◌, ◌++◌, map, map-append, append_assoc, append-nil}
use mathlib.Core.Path.{◌≡◌, refl, sym, ap, subst, ◌∙◌}
use lib.ListN.{length, replicate, length-append, length-replicate}
use Rattle.std.proofs.Common.{None, Ok}
use Rattle.lists.proofs.Tables.{tabulate_fill}
use Rattle.loader.specs.Memory.{is_whole}
use Rattle.device.specs.State.{Machine}
use Rattle.lines.specs.Lines.{bad_levels}
use Rattle.registers.specs.Calls.{Call, from}
use Rattle.registers.proofs.Lists.{from_append}
use Rattle.records.specs.declared.Stop.TheVariants.{End}
use Rattle.records.specs.Records.{next_at, record_at}
use Rattle.trace.specs.Run.{Run, begun, by_record, machine_of, once_of, passes, repeated, report_of, run_from, run_of, run_on, stops_by, ticks_in}
use Rattle.trace.proofs.Halts.{turn as turning}
use Rattle.trace.proofs.Listed.{halted_stays}
use Rattle.captures.specs.Repeats.{Repeat, expand}
use Rattle.captures.specs.Written.{Frame, record_bytes, record_of, written}
use Rattle.captures.proofs.Levels.{Good, good_none, good_more}
use Rattle.captures.proofs.Written.{end_read, length_record, length_written, next_read_at, record_read_at}
use Rattle.replays.specs.Replayed.{tick_of}

map_replicate : {A B : Type 0} (f : A → B) (n : ℕ) (x : A) → map f (replicate n x) ≡ replicate n (f x)
map_replicate f zero x = refl
map_replicate f (suc n) x = ap (λ (zs : List _). f x ∷ zs) (map_replicate f n x)

-- the ticks of repeats
abbrev pub ticks : List (Repeat Frame) → List Call
ticks rs = map tick_of (expand rs)

ticks_more : (r : Repeat Frame) (rs : List (Repeat Frame)) → ticks (r ∷ rs) ≡ repeated r.times (tick_of r.element) ++ ticks rs
unfolding repeated expand
ticks_more r rs =
    map-append tick_of (replicate r.times r.element) (expand rs)
    ∙ rw (map_replicate tick_of r.times r.element, ← tabulate_fill r.times (tick_of r.element))

total_more : (r : Repeat Frame) (rs : List (Repeat Frame)) → length (expand (r ∷ rs)) ≡ r.times + length (expand rs)
unfolding expand
total_more r rs = simp (length-append, length-replicate)

abbrev place : Run → ℕ
place q = q.progress.report.next

abbrev used : Run → ℕ
used q = q.progress.report.ticks

-- where a run of these repeats ends
abbrev ended : List ℕ → List (Repeat Frame) → Run → Run
ended t rs q =
    run_on (from (machine_of q) (ticks rs))
    (report_of End (length t) (used q + length (expand rs)) (q.progress.report.records + length rs) q.progress.report.refused) false

ended_by_lem : (t : List ℕ) {m m' : Machine} {a a' b b' d d' : ℕ} → m ≡ m' → a ≡ a' → b ≡ b' → d ≡ d' →
    run_on m (report_of End (length t) a b d) false ≡ run_on m' (report_of End (length t) a' b' d') false
ended_by_lem t e f g h = λ i. run_on (e i) (report_of End (length t) (f i) (g i) (h i)) false

ended_none : (t : List ℕ) (q : Run) → place q ≡ length t → stops_by End q ≡ ended t [] q
unfolding from expand
ended_none t q e = rw e (simp add-zero)

-- a run that passed a record
abbrev after : List ℕ → Run → Repeat Frame → Run
after t q r = passes t q (repeated r.times (tick_of r.element)) r.times false

ended_more : (t : List ℕ) (q : Run) (r : Repeat Frame) (rs : List (Repeat Frame)) → ended t rs (after t q r) ≡ ended t (r ∷ rs) q
unfolding passes
ended_more t q r rs =
    ended_by_lem t
    (sym (from_append (machine_of q) (repeated r.times (tick_of r.element)) (ticks rs)) ∙ ap (from (machine_of q)) (sym (ticks_more r rs)))
    (omega (arith, total_more r rs))
    (omega arith)
    (add-zero _)

module _ (budget : ℕ) where
  once_tick : (t : List ℕ) (q : Run) (r : Repeat Frame) → record_at t (place q) ≡ record_of r → bad_levels r.element.inputs r.element.gates ≡ false →
      used q + r.times ≤ budget → once_of t budget q ≡ passes t q (repeated r.times (tick_of r.element)) r.times false
  unfolding once_of by_record ticks_in
  once_tick t q r e good h = grind arith

  once_end : (t : List ℕ) (q : Run) → record_at t (place q) ≡ Ok None → once_of t budget q ≡ stops_by End q
  unfolding once_of by_record
  once_end t q e = rw e

  turn : (t : List ℕ) (fuel : ℕ) (q n : Run) → q.progress.going ≡ true → once_of t budget q ≡ n → run_from (suc fuel) t budget q ≡ run_from fuel t budget n
  turn t fuel q n g e = cc (turning t budget fuel q g)

  run_from_lem : (rs : List (Repeat Frame)) → Good rs → (fuel : ℕ) (p : List ℕ) (q : Run) → q.progress.going ≡ true → place q ≡ length p →
      used q + length (expand rs) ≤ budget → length rs < fuel → run_from fuel (p ++ written rs) budget q ≡ ended (p ++ written rs) rs q
  unfolding written passes
  run_from_lem rs good zero p q g at h f = absurd (not-suc-le-zero f)
  run_from_lem [] good_none (suc fuel) p q g at h f =
      let t : List ℕ = p ++ [] in
      let l : length t ≡ length p = ap length (append-nil p) in
      let e : record_at t (place q) ≡ Ok None = rw (at, append-nil) (end_read p) in
      turn t fuel q (stops_by End q) g (once_end t q e) ∙ halted_stays t budget fuel (stops_by End q) refl ∙ ended_none t q (at ∙ sym l)
  run_from_lem (r ∷ rs) (good_more narrow level good) (suc fuel) p q g at h f =
      let t : List ℕ = p ++ (record_bytes r ++ written rs) in
      let s : (p ++ record_bytes r) ++ written rs ≡ t = append_assoc p (record_bytes r) (written rs) in
      let k : used q + r.times + length (expand rs) ≤ budget = omega (arith, total_more r rs) in
      let e : once_of t budget q ≡ after t q r =
      once_tick t q r (ap (record_at t) at ∙ record_read_at p r narrow (written rs)) level (omega arith) in
      let l : next_at t (place q) ≡ length (p ++ record_bytes r) =
      ap (next_at t) at ∙ next_read_at p r (written rs) ∙ sym (length-append p (record_bytes r) ∙ rw length_record) in
      let i = run_from_lem rs good fuel (p ++ record_bytes r) (after t q r) refl l k (omega arith) in
      turn t fuel q (after t q r) g e
      ∙ subst (λ (u : List ℕ). run_from fuel u budget (after t q r) ≡ ended u rs (after t q r)) s i
      ∙ ended_more t q r rs

  -- the run of a written trace, as one equation: all its ticks, one by one, and END
  pub run_written : (rs : List (Repeat Frame)) → Good rs → length (expand rs) ≤ budget → (m : Machine) → is_whole m.memory ≡ true →
      run_of (written rs) budget m
      ≡ run_on (from m (ticks rs)) (report_of End (length (written rs)) (length (expand rs)) (length rs) 0) false
  unfolding run_of
  run_written rs good h m w =
      let f : length rs < length (written rs) + 1 = omega (arith, length_written rs) in
      let k : 0 + length (expand rs) ≤ budget = omega arith in
      rw w (run_from_lem rs good (length (written rs) + 1) [] (begun m) refl refl k f ∙ ended_by_lem (written rs) refl (zero-add _) (zero-add _) refl)
