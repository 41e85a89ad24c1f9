-- What a conversion that is done leaves.
use Prim.Native.Nat.{ℕ, ◌%◌, ◌≤◌}
use native.Mathlib.Omega.{arith}
use mathlib.Core.Bool.{false}
use mathlib.Core.List.{List, ◌++◌}
use mathlib.Core.Path.{◌≡◌, refl, ap}
use lib.Dec.{eqb, ltb}
use lib.ListN.{length, drop, length-append, take}
use lib.Seq.{take_at}
use Rattle.std.proofs.Common.{Ok, Err}
use Rattle.bools.proofs.Tests.{pick_elim}
use Rattle.captures.specs.declared.Refusal.{Refusal}
use Rattle.captures.specs.declared.Refusal.TheVariants.{NotFrames, BadLevel, NoRoom}
use Rattle.captures.specs.Captures.{Conversion, conversion, conversion_of, conversion_to, first_bad, frame_bytes, frames_of, has_bad, refusal, trace_of}
use Rattle.captures.specs.Returned.{Made}

-- the length told lies within the output, what stands up to it is the trace, and every level is good
pub record Done (capture : List ℕ) (bytes : ℕ) (out : List ℕ) : Type 0 where
  pub within : bytes ≤ length out
  pub trace : take bytes out ≡ trace_of capture
  pub size : bytes ≡ length (trace_of capture)
  pub good : has_bad (frames_of capture) ≡ false

module _ (capture : List ℕ) (bytes : ℕ) (left : List ℕ) where
  done : (out : List ℕ) → has_bad (frames_of capture) ≡ false → conversion (Ok bytes) left ≡ conversion_to (trace_of capture) out → Done capture bytes left
  done out good e =
      let t = trace_of capture in
      let a : (conversion (Ok bytes) left).answer ≡ Ok (length t) = ap (λ (x : Conversion). x.answer) e in
      let n : bytes ≡ length t = cc a in
      let l : left ≡ t ++ drop (length t) out = ap (λ (x : Conversion). x.out) e in
      record {
        within = rw (l, n) (rw length-append (omega arith));
        trace = rw (l, n) (take_at t (drop (length t) out) (length t) refl);
        size = n;
        good = good;
      }

  refused : (why : Refusal) (out : List ℕ) → conversion (Ok bytes) left ≡ refusal why out → Done capture bytes left
  refused why out e =
      let a : (conversion (Ok bytes) left).answer ≡ Err why = ap (λ (x : Conversion). x.answer) e in
      absurd (cc a)

  -- of what `convert` returned and left
  pub made_done : (out : List ℕ) → Made capture out (Ok bytes) left → Done capture bytes left
  unfolding conversion_of
  made_done out made =
      let P : Conversion → Type 0 = λ x. conversion (Ok bytes) left ≡ x → Done capture bytes left in
      pick_elim P (eqb (length capture % frame_bytes) 0)
      (λ e.
      pick_elim P (has_bad (frames_of capture)) (λ f. refused (BadLevel (first_bad (frames_of capture))) out)
      (λ good. pick_elim P (ltb (length out) (length (trace_of capture))) (λ f. refused NoRoom out) (λ f. done out good)))
      (λ e. refused NotFrames out)
      made
