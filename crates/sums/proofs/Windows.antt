-- What state and ring are after samples since one start: the ring's first W words are the last W samples, the newer ones below the place and the
-- older ones from it on, and the sum is theirs.
use Rattle.std.proofs.Common.{◌≡◌, Ok, ℕ, ◌+◌, ◌%◌, ◌<◌, ◌≤◌, true, List, [], ◌∷◌, ◌++◌, length, get_or, drop, set, replicate, ℤ, pos, ◌+ℤ◌, ◌-ℤ◌, sym, refl, ap, ◌∙◌, append_assoc, append-nil, lt_irrefl, mod-eq_of_lt, arith, length-append, lt-ltb, le-leb}
use native.Mathlib.Nat.{mod_self}
use lib.IntN.{+ℤ_assoc, +ℤ_comm, +ℤ_idr, +ℤ-neg_ℤ_cancel}
use lib.ListN.{length-replicate}
use lib.Seq.{append_snoc, get_or-append_seam, set-append_seam}
use Rattle.numbers.specs.Signed.{wrapped}
use Rattle.numbers.proofs.Complement.{wrapped_same}
use Rattle.sums.specs.declared.Sliding.{Sliding}
use Rattle.sums.specs.Fed.{Fed, fed, feed}
use Rattle.sums.specs.Fresh.{Samples, total}
use Rattle.sums.specs.Fresh.Samples.{more, none}
use Rattle.sums.specs.Sums.{SampleOutcome, is_ready, largest_window, sample_of, next_sum, sliding, start_of, state_left, sample_outcome}
use Rattle.sums.proofs.Ready.{ready_of}
use Rattle.sums.proofs.Totals.{fresh_fits, padded, padded_more, padded_none, total_append}

pub record On (window : ℕ) (samples : List ℤ) (s : Sliding) (ring : List ℤ) : Type 0 where
  pub newer : List ℤ
  pub older : List ℤ
  pub past : List ℤ
  pub most : window ≤ largest_window
  pub size : length newer + length older ≡ window
  pub room : length newer < window
  pub last : older ++ newer ≡ padded window samples
  pub state : s ≡ sliding window (length newer) (total (padded window samples))
  pub words : ring ≡ (newer ++ older) ++ past

-- ---- a start

pub start_on : (window : ℕ) (ring : List ℤ) → is_ready window 0 (length ring) ≡ true →
    On window [] (state_left (start_of window ring).answer) (start_of window ring).ring
unfolding start_of padded
start_on window ring e =
    let r = ready_of window 0 (length ring) e in
    let size : 0 + length (replicate window (pos 0)) ≡ window = rw (length-replicate window (pos 0)) (omega arith) in
    record {
      newer = [];
      older = replicate window (pos 0);
      past = drop window ring;
      most = r.most;
      size = size;
      room = r.in_window;
      last = refl;
      state = rw (e, padded_none window);
      words = rw e;
    }

-- ---- a sample

-- the words of a ring at the place
place_word : (newer : List ℤ) (o : ℤ) (rest past : List ℤ) → get_or ((newer ++ (o ∷ rest)) ++ past) (length newer) (pos 0) ≡ o
place_word newer o rest past = rw (append_assoc newer (o ∷ rest) past) (get_or-append_seam newer o (rest ++ past) (pos 0))

place_set : (newer : List ℤ) (o : ℤ) (rest past : List ℤ) (x : ℤ) → set ((newer ++ (o ∷ rest)) ++ past) (length newer) x ≡ (newer ++ (x ∷ rest)) ++ past
place_set newer o rest past x = rw (append_assoc newer (o ∷ rest) past, append_assoc newer (x ∷ rest) past) (set-append_seam newer o (rest ++ past) x)

-- the oldest off, the newest on
slide_total : (o x : ℤ) (ys : List ℤ) → (total (o ∷ ys) +ℤ x) -ℤ o ≡ total (ys ++ (x ∷ []))
unfolding total
slide_total o x ys =
    ap (λ (z : ℤ). z -ℤ o) (ap (λ (z : ℤ). z +ℤ x) (+ℤ_comm o (total ys)) ∙ +ℤ_assoc (total ys) o x ∙ ap (λ (z : ℤ). total ys +ℤ z) (+ℤ_comm o x) ∙ sym (+ℤ_assoc (total ys) x o))
    ∙ +ℤ-neg_ℤ_cancel (total ys +ℤ x) o
    ∙ sym (total_append ys (x ∷ []) ∙ ap (λ (z : ℤ). total ys +ℤ z) (+ℤ_idr x))

module _ (window : ℕ) (newer : List ℤ) (o : ℤ) (rest past : List ℤ) (sum x : ℤ)
    (most : window ≤ largest_window) (size : length newer + length (o ∷ rest) ≡ window) where
  place_ready : is_ready window (length newer) (length ((newer ++ (o ∷ rest)) ++ past)) ≡ true
  unfolding is_ready
  place_ready =
      let n : length ((newer ++ (o ∷ rest)) ++ past) ≡ window + length past = length-append (newer ++ (o ∷ rest)) past ∙ ap (λ (k : ℕ). k + length past) (length-append newer (o ∷ rest) ∙ size) in
      rw (n, le-leb 1 window (omega arith), le-leb window largest_window most, le-leb window (window + length past) (omega arith), lt-ltb (length newer) window (omega arith))

  -- whatever the sum is
  placed : sample_of (sliding window (length newer) sum) ((newer ++ (o ∷ rest)) ++ past) x ≡
      sample_outcome (Ok (next_sum sum x o)) (sliding window ((length newer + 1) % window) (next_sum sum x o)) ((newer ++ (x ∷ rest)) ++ past)
  unfolding sample_of
  placed = rw (place_ready, place_word newer o rest past, place_set newer o rest past x)

module _ (window : ℕ) (samples : List ℤ) (newer : List ℤ) (o : ℤ) (rest past : List ℤ) (x : ℤ)
    (most : window ≤ largest_window) (size : length newer + length (o ∷ rest) ≡ window)
    (last : (o ∷ rest) ++ newer ≡ padded window samples) (fits : Samples (samples ++ (x ∷ []))) where
  abbrev sum : ℤ
  sum = total (padded window (samples ++ (x ∷ [])))

  last_next : (rest ++ newer) ++ (x ∷ []) ≡ padded window (samples ++ (x ∷ []))
  last_next = ap (λ (ys : List ℤ). drop 1 ys ++ (x ∷ [])) last ∙ sym (padded_more window samples x (omega arith))

  sum_next : next_sum (total (padded window samples)) x o ≡ sum
  sum_next =
      let e : (total (padded window samples) +ℤ x) -ℤ o ≡ sum =
      ap (λ (ys : List ℤ). (total ys +ℤ x) -ℤ o) (sym last) ∙ slide_total o x (rest ++ newer) ∙ ap total last_next in
      ap (wrapped 64) e ∙ wrapped_same 64 sum (fresh_fits window (samples ++ (x ∷ [])) most fits)

  taken_next : sample_of (sliding window (length newer) (total (padded window samples))) ((newer ++ (o ∷ rest)) ++ past) x ≡
      sample_outcome (Ok sum) (sliding window ((length newer + 1) % window) sum) ((newer ++ (x ∷ rest)) ++ past)
  taken_next =
      placed window newer o rest past (total (padded window samples)) x most size
      ∙ ap (λ (z : ℤ). sample_outcome (Ok z) (sliding window ((length newer + 1) % window) z) ((newer ++ (x ∷ rest)) ++ past)) sum_next

-- the place moves on, or is 0 again behind the last word of the window
on_next : (window : ℕ) (samples newer : List ℤ) (o : ℤ) (rest past : List ℤ) (x : ℤ) → window ≤ largest_window →
    length newer + length (o ∷ rest) ≡ window → (o ∷ rest) ++ newer ≡ padded window samples → Samples (samples ++ (x ∷ [])) →
    On window (samples ++ (x ∷ [])) (sliding window ((length newer + 1) % window) (total (padded window (samples ++ (x ∷ []))))) ((newer ++ (x ∷ rest)) ++ past)
on_next window samples newer o [] past x most size last fits =
    let e : length newer + 1 ≡ window = size in
    record {
      newer = [];
      older = newer ++ (x ∷ []);
      past = past;
      most = most;
      size = omega (arith, length-append newer (x ∷ []));
      room = omega arith;
      last = append-nil (newer ++ (x ∷ [])) ∙ last_next window samples newer o [] past x most size last fits;
      state = rw (e, mod_self window);
      words = refl;
    }
on_next window samples newer o (r ∷ rest) past x most size last fits =
    let n : length (newer ++ (x ∷ [])) ≡ length newer + 1 = length-append newer (x ∷ []) in
    let e : (length newer + 1) % window ≡ length newer + 1 = mod-eq_of_lt (omega arith) in
    record {
      newer = newer ++ (x ∷ []);
      older = r ∷ rest;
      past = past;
      most = most;
      size = omega arith;
      room = omega arith;
      last = sym (append_assoc (r ∷ rest) newer (x ∷ [])) ∙ last_next window samples newer o (r ∷ rest) past x most size last fits;
      state = rw (e, n);
      words = ap (λ (ys : List ℤ). ys ++ past) (sym (append_snoc newer x (r ∷ rest)));
    }

-- what a sample x gives after samples
pub record Gives (window : ℕ) (samples : List ℤ) (x : ℤ) (r : SampleOutcome) : Type 0 where
  pub answer : r.answer ≡ Ok (total (padded window (samples ++ (x ∷ []))))
  pub kept : r.state.sum ≡ total (padded window (samples ++ (x ∷ [])))
  pub on : On window (samples ++ (x ∷ [])) r.state r.ring

gives : (window : ℕ) (samples newer older past : List ℤ) (x : ℤ) → window ≤ largest_window → length newer + length older ≡ window → length newer < window →
    older ++ newer ≡ padded window samples → Samples (samples ++ (x ∷ [])) →
    Gives window samples x (sample_of (sliding window (length newer) (total (padded window samples))) ((newer ++ older) ++ past) x)
gives window samples newer [] past x most size room last fits = absurd (lt_irrefl window (omega arith))
gives window samples newer (o ∷ rest) past x most size room last fits =
    rw (taken_next window samples newer o rest past x most size last fits)
    (record { answer = refl; kept = refl; on = on_next window samples newer o rest past x most size last fits })

pub sample_gives : {window : ℕ} {samples : List ℤ} {s : Sliding} {ring : List ℤ} → On window samples s ring → (x : ℤ) → Samples (samples ++ (x ∷ [])) →
    Gives window samples x (sample_of s ring x)
sample_gives {window} {samples} {s} {ring} on x fits =
    rw (on.state, on.words) (gives window samples on.newer on.older on.past x on.most on.size on.room on.last fits)

-- ---- samples

pub samples_first : (xs ys : List ℤ) → Samples (xs ++ ys) → Samples xs
samples_first [] ys s = none
samples_first (x ∷ xs) ys (more h s) = more h (samples_first xs ys s)

pub feed_on : {window : ℕ} (past xs : List ℤ) (f : Fed) → On window past f.state f.ring → Samples (past ++ xs) →
    On window (past ++ xs) (feed f xs).state (feed f xs).ring
unfolding feed
feed_on past [] f on fits = rw (append-nil past) on
feed_on past (x ∷ xs) f on fits =
    let e : past ++ (x ∷ xs) ≡ (past ++ (x ∷ [])) ++ xs = sym (append_snoc past x xs) in
    let s : Samples ((past ++ (x ∷ [])) ++ xs) = rw e at fits in
    let g = sample_gives on x (samples_first (past ++ (x ∷ [])) xs s) in
    rw e (feed_on (past ++ (x ∷ [])) xs (fed (sample_of f.state f.ring x).state (sample_of f.state f.ring x).ring) g.on s)
