-- A run of calls that are lent words is the run of the calls on states.
use Prim.Native.Nat.{ℕ, ◌^◌, ◌<◌}
use native.Mathlib.Omega.{arith}
use mathlib.Core.List.{List, [], ◌∷◌, ◌++◌}
use mathlib.Core.Path.{◌≡◌, refl, sym, ap, subst, ◌∙◌}
use borrow.Author.Tests.{eq-eqb}
use lib.IntN.{ℤ, pos}
use lib.ListN.{length}
use lib.Signed.{mag}
use Rattle.std.specs.declared.result.Result.{Result}
use Rattle.std.specs.declared.result.Result.TheVariants.{Ok, Err}
use Rattle.std.specs.Result.{IsOk, result_unwrap_or}
use Rattle.bools.proofs.Tests.{cases}
use Rattle.numbers.proofs.Theorems.{number_of_word, word_of_number}
use Rattle.sums.specs.declared.BadSum.{BadSum}
use Rattle.sums.specs.declared.Sliding.{Sliding}
use Rattle.sums.specs.Fed.{Fed, begin, fed, feed}
use Rattle.sums.specs.Fresh.{Samples, fresh_sum}
use Rattle.sums.specs.Sums.{bad_sum, is_ready, number_of, refusal, sample_of, sample_outcome, sliding, start_of}
use Rattle.sums.proofs.Theorems.{start_ranged, sum_fresh, sum_ranged}
use Rattle.lent.specs.Fed.{LentSlid, LentWent, Words, words}
use Rattle.lent.specs.Sums.{LentSample, LentStart, lent_sample, lent_sample_by, lent_start_by, state_in, state_words, sum_sample_of, sum_start_of, sum_words, words_of}

pub start_is : (state : List ℕ) (ring : List ℤ) (window : ℕ) → length state ≡ state_words → sum_start_of state ring window ≡ lent_start_by (start_of window ring)
unfolding sum_start_of
start_is state ring window e = rw (eq-eqb (length state) state_words e)

pub state_kept : (s : Sliding) → mag s.sum < 2 ^ 63 → state_in (words_of s) ≡ s
unfolding state_in
state_kept s h = ap (sliding s.window s.place) (number_of_word 64 s.sum h)

pub sample_is : (s : Sliding) (ring : List ℤ) (x : ℤ) (sum : List ℤ) → mag s.sum < 2 ^ 63 → length sum ≡ sum_words →
    sum_sample_of (words_of s) ring x sum ≡ lent_sample_by (sample_of s ring x)
unfolding sum_sample_of
sample_is s ring x sum h e = rw (eq-eqb (length sum) sum_words e) (ap (λ (q : Sliding). lent_sample_by (sample_of q ring x)) (state_kept s h))

-- the words of a state and its ring
abbrev words_in : Fed → Words
words_in f = words (words_of f.state) f.ring

went_feed : (f : Fed) (xs : List ℤ) (w : Words) → mag f.state.sum < 2 ^ 63 → LentWent (words_in f) xs w →
    (w ≡ words_in (feed f xs)) × (mag (feed f xs).state.sum < 2 ^ 63)
unfolding LentWent feed
went_feed f [] w h e = (e, h)
went_feed f (x ∷ xs) w h l =
    let e : l.1 ≡ lent_sample_by (sample_of f.state f.ring x) = l.3 ∙ sample_is f.state f.ring x l.0 h l.2 in
    let g : Fed = fed (sample_of f.state f.ring x).state (sample_of f.state f.ring x).ring in
    went_feed g xs w (sum_ranged f.state f.ring x h)
    (subst (λ (v : Words). LentWent v xs w) (ap (λ (r : LentSample). words r.state r.ring) e) l.4)

-- an answer whose number is 0
not_refused : {A : Type 0} (answer : Result A BadSum) → number_of answer ≡ 0 → IsOk answer
not_refused (Ok _) e = refl
not_refused (Err _) e = absurd (omega arith)

pub lent_fresh : (window : ℕ) (samples : List ℤ) (x : ℤ) (w : Words) (sum : List ℤ) → LentSlid window samples w → length sum ≡ sum_words → Samples (samples ++ (x ∷ [])) →
    ((sum_sample_of w.state w.ring x sum).status ≡ 0) × ((sum_sample_of w.state w.ring x sum).sum ≡ fresh_sum window (samples ++ (x ∷ [])) ∷ [])
unfolding LentSlid begin
lent_fresh window samples x w sum l e fits =
    let ring = l.1 in
    let b : l.2 ≡ lent_start_by (start_of window ring) = l.4 ∙ start_is l.0 ring window l.3 in
    let done : IsOk (start_of window ring).answer = not_refused (start_of window ring).answer (ap (λ (r : LentStart). r.status) (sym b) ∙ l.5) in
    let g = went_feed (begin window ring) samples w (start_ranged window ring)
    (subst (λ (v : Words). LentWent v samples w) (ap (λ (r : LentStart). words r.state r.ring) b) l.6) in
    let f : Fed = feed (begin window ring) samples in
    let s : sum_sample_of w.state w.ring x sum ≡ lent_sample_by (sample_of f.state f.ring x) =
    ap (λ (v : Words). sum_sample_of v.state v.ring x sum) g.0 ∙ sample_is f.state f.ring x sum g.1 e in
    let fresh = sum_fresh window ring samples x done fits in (
      ap (λ (r : LentSample). r.status) s ∙ ap (λ (a : Result ℤ BadSum). number_of a) fresh.0,
      ap (λ (r : LentSample). r.sum) s ∙ ap (λ (a : Result ℤ BadSum). result_unwrap_or a (pos 0) ∷ []) fresh.0,
    )

-- ---- a sample that is refused

of_words : (a b c : ℕ) (ring : List ℤ) (x : ℤ) (sum : List ℤ) → length sum ≡ sum_words →
    sum_sample_of (a ∷ b ∷ c ∷ []) ring x sum ≡ lent_sample_by (sample_of (state_in (a ∷ b ∷ c ∷ [])) ring x)
unfolding sum_sample_of
of_words a b c ring x sum e = rw (eq-eqb (length sum) sum_words e)

words_kept : (a b c : ℕ) → c < 2 ^ 64 → words_of (state_in (a ∷ b ∷ c ∷ [])) ≡ a ∷ b ∷ c ∷ []
unfolding state_in
words_kept a b c h = ap (λ (n : ℕ). a ∷ b ∷ n ∷ []) (word_of_number 64 c h)

refused_sample : (s : Sliding) (ring : List ℤ) (x : ℤ) → number_of (sample_of s ring x).answer ≡ bad_sum → sample_of s ring x ≡ sample_outcome (Err refusal) s ring
unfolding sample_of
refused_sample s ring x =
    cases (is_ready s.window s.place (length ring)) (λ e. λ h. let z : 0 ≡ bad_sum = rw e at h in absurd (omega arith)) (λ e. λ h. rw e)

pub refused_leaves : (a b c : ℕ) (ring : List ℤ) (x : ℤ) (sum : List ℤ) → c < 2 ^ 64 → length sum ≡ sum_words →
    (sum_sample_of (a ∷ b ∷ c ∷ []) ring x sum).status ≡ bad_sum → sum_sample_of (a ∷ b ∷ c ∷ []) ring x sum ≡ lent_sample bad_sum (a ∷ b ∷ c ∷ []) ring (pos 0 ∷ [])
refused_leaves a b c ring x sum h e refused =
    let s : Sliding = state_in (a ∷ b ∷ c ∷ []) in
    let i : sum_sample_of (a ∷ b ∷ c ∷ []) ring x sum ≡ lent_sample_by (sample_of s ring x) = of_words a b c ring x sum e in
    i ∙ ap lent_sample_by (refused_sample s ring x (ap (λ (r : LentSample). r.status) (sym i) ∙ refused))
    ∙ ap (λ (v : List ℕ). lent_sample bad_sum v ring (pos 0 ∷ [])) (words_kept a b c h)
