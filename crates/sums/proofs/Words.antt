-- Which words of a ring a call reads and changes, and what a refused start leaves.
use Rattle.std.proofs.Common.{◌≡◌, Err, IsErr, true, false, ℕ, ◌+◌, ◌-◌, ◌^◌, ◌<◌, ◌≤◌, ◌≢◌, List, ◌++◌, length, get_or, drop, replicate, ℤ, pos, ◌+ℤ◌, ◌-ℤ◌, refl, ap, ◌∙◌, arith, length-append, length-drop, length-set, get_or-drop, get_or-set_other, get_or-append-add}
use lib.ListN.{length-replicate}
use lib.Signed.{mag}
use Rattle.bools.proofs.Tests.{cases}
use Rattle.numbers.proofs.Complement.{wrapped_lt}
use Rattle.sums.specs.declared.Sliding.{Sliding}
use Rattle.sums.specs.Sums.{cleared, is_ready, no_window, refusal, sample_of, start_of, state_left, sample_outcome}
use Rattle.sums.proofs.Ready.{ready_of}

module _ (s : Sliding) (ring : List ℤ) (x : ℤ) where
  pub reads_one : (other : List ℤ) → length ring ≡ length other → get_or ring s.place (pos 0) ≡ get_or other s.place (pos 0) →
      ((sample_of s ring x).answer ≡ (sample_of s other x).answer) × ((sample_of s ring x).state ≡ (sample_of s other x).state)
  unfolding sample_of
  reads_one other size word =
      cases (is_ready s.window s.place (length other))
      (λ e. rw (size, e, word) (refl, refl))
      (λ e. rw (size, e) (refl, refl))

  pub same_length : length (sample_of s ring x).ring ≡ length ring
  unfolding sample_of
  same_length =
      cases (is_ready s.window s.place (length ring)) (λ e. rw e (length-set ring s.place x)) (λ e. rw e)

  pub writes_one : (i : ℕ) → i ≢ s.place → get_or (sample_of s ring x).ring i (pos 0) ≡ get_or ring i (pos 0)
  unfolding sample_of
  writes_one i h =
      cases (is_ready s.window s.place (length ring))
      (λ e. rw e (get_or-set_other ring s.place i x (pos 0) h))
      (λ e. rw e)

  pub ranged : mag s.sum < 2 ^ 63 → mag (sample_of s ring x).state.sum < 2 ^ 63
  unfolding sample_of
  ranged h =
      cases (is_ready s.window s.place (length ring))
      (λ e. rw e (wrapped_lt 64 ((s.sum +ℤ x) -ℤ get_or ring s.place (pos 0))))
      (λ e. rw e h)

  pub past_sample : (i : ℕ) → s.window ≤ i → get_or (sample_of s ring x).ring i (pos 0) ≡ get_or ring i (pos 0)
  unfolding sample_of
  past_sample i h =
      cases (is_ready s.window s.place (length ring))
      (λ e.
      let r = ready_of s.window s.place (length ring) e in
      writes_one i (λ (p : i ≡ s.place). absurd (omega arith)))
      (λ e. rw e)

on_none : (ring : List ℤ) (x : ℤ) → sample_of no_window ring x ≡ sample_outcome (Err refusal) no_window ring
unfolding sample_of is_ready
on_none ring x = refl

module _ (window : ℕ) (ring : List ℤ) where
  cleared_length : window ≤ length ring → length (cleared window ring) ≡ length ring
  cleared_length h = simp (length-append, length-replicate, length-drop) (omega arith)

  pub ranged_start : mag (state_left (start_of window ring).answer).sum < 2 ^ 63
  unfolding start_of
  ranged_start = cases (is_ready window 0 (length ring)) (λ e. rw e (omega arith)) (λ e. rw e (omega arith))

  pub start_length : length (start_of window ring).ring ≡ length ring
  unfolding start_of
  start_length =
      cases (is_ready window 0 (length ring))
      (λ e. rw e (cleared_length (ready_of window 0 (length ring) e).in_ring))
      (λ e. rw e)

  pub past_start : (i : ℕ) → window ≤ i → get_or (start_of window ring).ring i (pos 0) ≡ get_or ring i (pos 0)
  unfolding start_of
  past_start i h =
      let n : i ≡ length (replicate window (pos 0)) + (i - window) = rw (length-replicate window (pos 0)) (omega arith) in
      let m : window + (i - window) ≡ i = omega arith in
      cases (is_ready window 0 (length ring))
      (λ e.
      rw e
      (ap (λ (k : ℕ). get_or (replicate window (pos 0) ++ drop window ring) k (pos 0)) n
      ∙ get_or-append-add (replicate window (pos 0)) (drop window ring) (i - window) (pos 0)
      ∙ get_or-drop window ring (i - window) (pos 0) ∙ ap (λ (k : ℕ). get_or ring k (pos 0)) m))
      (λ e. rw e)

  refused_state : IsErr (start_of window ring).answer → state_left (start_of window ring).answer ≡ no_window
  unfolding start_of
  refused_state = cases (is_ready window 0 (length ring)) (λ e. λ h. let z : false ≡ true = rw e at h in cc) (λ e. λ h. rw e)

  pub none_after : IsErr (start_of window ring).answer → (other : List ℤ) (x : ℤ) →
      sample_of (state_left (start_of window ring).answer) other x ≡ sample_outcome (Err refusal) no_window other
  none_after h other x = ap (λ (s : Sliding). sample_of s other x) (refused_state h) ∙ on_none other x
