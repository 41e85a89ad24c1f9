-- Sums of samples since one start.
use Rattle.std.proofs.Common.{◌≡◌, Ok, ℕ, true, false, List, [], ◌∷◌, ◌++◌, length, ℤ, sym, ap, ◌∙◌}
use Rattle.bools.proofs.Tests.{cases}
use Rattle.std.specs.Prelude.{IsOk, Result, is_ok}
use Rattle.sums.specs.declared.BadSum.{BadSum}
use Rattle.sums.specs.declared.Sliding.{Sliding}
use Rattle.sums.specs.Fed.{Fed, Slid, Taken, Went, begin, fed, feed}
use Rattle.sums.specs.Fresh.{Samples, fresh_sum}
use Rattle.sums.specs.Sums.{SampleOutcome, StartOutcome, is_ready, sample_of, start_of, state_left, sample_outcome}
use Rattle.sums.proofs.Totals.{padded_total}
use Rattle.sums.proofs.Windows.{feed_on, sample_gives, samples_first, start_on}

-- a start that is not refused was ready
pub start_ready : (window : ℕ) (ring : List ℤ) → IsOk (start_of window ring).answer → is_ready window 0 (length ring) ≡ true
unfolding start_of
start_ready window ring =
    cases (is_ready window 0 (length ring))
    (λ e. λ h. e)
    (λ e. λ h. let z : false ≡ true = rw e at h in cc)

pub fresh_sum_lem : (window : ℕ) (ring samples : List ℤ) (x : ℤ) → IsOk (start_of window ring).answer → Samples (samples ++ (x ∷ [])) →
    let f : Fed = feed (begin window ring) samples in
    ((sample_of f.state f.ring x).answer ≡ Ok (fresh_sum window (samples ++ (x ∷ []))))
    × ((sample_of f.state f.ring x).state.sum ≡ fresh_sum window (samples ++ (x ∷ [])))
unfolding begin
fresh_sum_lem window ring samples x done fits =
    let on = feed_on [] samples (begin window ring) (start_on window ring (start_ready window ring done)) (samples_first samples (x ∷ []) fits) in
    let g = sample_gives on x fits in
    let e = padded_total window (samples ++ (x ∷ [])) in
    (g.answer ∙ ap (λ (z : ℤ). Ok z) e, g.kept ∙ e)

-- ---- of the code

went_feed : (f : Fed) (xs : List ℤ) (g : Fed) → Went f xs g → g ≡ feed f xs
unfolding Went feed
went_feed f [] g e = e
went_feed f (x ∷ xs) g w =
    went_feed (fed w.1 w.2) xs g w.4 ∙ ap (λ (q : SampleOutcome). feed (fed q.state q.ring) xs) w.3

pub code_fresh : (window : ℕ) (samples : List ℤ) (x : ℤ) (g : Fed) (r : Result ℤ BadSum) (after : Sliding) (left : List ℤ) → Slid window samples g →
    Taken g.state g.ring x r after left → Samples (samples ++ (x ∷ [])) →
    (r ≡ Ok (fresh_sum window (samples ++ (x ∷ [])))) × (after.sum ≡ fresh_sum window (samples ++ (x ∷ [])))
unfolding Slid begin
code_fresh window samples x g r after left w t fits =
    let ring = w.0 in
    let done : IsOk (start_of window ring).answer = ap (λ (q : StartOutcome). is_ok q.answer) (sym w.3) in
    let e : g ≡ feed (begin window ring) samples =
    went_feed (fed w.1 w.2) samples g w.4 ∙ ap (λ (q : StartOutcome). feed (fed (state_left q.answer) q.ring) samples) w.3 in
    let s : sample_outcome r after left ≡ sample_of (feed (begin window ring) samples).state (feed (begin window ring) samples).ring x =
    t ∙ ap (λ (h : Fed). sample_of h.state h.ring x) e in
    let f = fresh_sum_lem window ring samples x done fits in
    (ap (λ (q : SampleOutcome). q.answer) s ∙ f.0, ap (λ (q : SampleOutcome). q.state.sum) s ∙ f.1)
