-- Laws of the loop that writes a trace, record by record.
use Prim.Native.Nat.{ℕ, ◌+◌, ◌*◌, ◌≤◌}
use native.Mathlib.Omega.{arith}
use mathlib.Core.List.{List, [], ◌∷◌, ◌++◌, append_assoc, append-nil}
use mathlib.Core.Path.{◌≡◌, refl, sym, ap, subst, ◌∙◌}
use lib.ListN.{length, drop, take, length-append, length-drop, take-append-drop}
use lib.Seq.{drop-drop, length-take-le, take_at, drop_at}
use Rattle.captures.specs.Repeats.{Repeat}
use Rattle.captures.specs.Written.{Frame, record_bytes, written}
use Rattle.captures.proofs.Written.{length_record, length_written}

-- the bytes written so far: of the trace t the repeats rs are still to come, from place at on
pub record Wrote (t out₀ : List ℕ) (at : ℕ) (rs : List (Repeat Frame)) (out : List ℕ) : Type 0 where
  pub size : length out ≡ length out₀
  pub room : at + length (written rs) ≤ length out₀
  pub is : take at out ++ written rs ≡ t
  pub kept : drop at out ≡ drop at out₀

written_more : (r : Repeat Frame) (rs : List (Repeat Frame)) → length (written (r ∷ rs)) ≡ 14 + length (written rs)
unfolding written
written_more r rs = length-append (record_bytes r) (written rs) ∙ rw (length_record r)

pub wrote_by : {t out₀ out : List ℕ} {at : ℕ} {rs qs : List (Repeat Frame)} → rs ≡ qs → Wrote t out₀ at rs out → Wrote t out₀ at qs out
wrote_by {t} {out₀} {out} {at} e w = subst (λ (qs : List (Repeat Frame)). Wrote t out₀ at qs out) e w

pub wrote_at : {t out₀ out : List ℕ} {at to : ℕ} {rs : List (Repeat Frame)} → at ≡ to → Wrote t out₀ at rs out → Wrote t out₀ to rs out
wrote_at {t} {out₀} {out} {at} {to} {rs} e w = subst (λ (n : ℕ). Wrote t out₀ n rs out) e w

-- at first nothing is written
pub wrote_none : {out : List ℕ} (rs : List (Repeat Frame)) → length (written rs) ≤ length out → Wrote (written rs) out 0 rs out
wrote_none rs h = record { size = refl; room = omega (arith, h); is = refl; kept = refl }

-- the records written and those still to come are few
pub wrote_few : {t out₀ out : List ℕ} {rs : List (Repeat Frame)} (n : ℕ) → Wrote t out₀ (14 * n) rs out → n + length rs ≤ length out₀
wrote_few {t} {out₀} {out} {rs} n w = omega (arith, w.room, length_written rs)

-- room for the next record
pub wrote_room : {t out₀ out : List ℕ} {at : ℕ} {r : Repeat Frame} {rs : List (Repeat Frame)} → Wrote t out₀ at (r ∷ rs) out → at + 14 ≤ length out
wrote_room {t} {out₀} {out} {at} {r} {rs} w = omega (arith, w.room, w.size, written_more r rs)

pub wrote_more : {t out₀ out : List ℕ} {at : ℕ} {r : Repeat Frame} {rs : List (Repeat Frame)} → Wrote t out₀ at (r ∷ rs) out →
    (now : List ℕ) → now ≡ take at out ++ (record_bytes r ++ drop (at + 14) out) → Wrote t out₀ (at + 14) rs now
wrote_more {t} {out₀} {out} {at} {r} {rs} w now e =
    let l : at + 14 ≤ length out = wrote_room w in
    let front : List ℕ = take at out ++ record_bytes r in
    let n : length front ≡ at + 14 =
    length-append (take at out) (record_bytes r) ∙ rw (length-take-le at out (omega arith), length_record r) in
    let s : now ≡ front ++ drop (at + 14) out = e ∙ sym (append_assoc (take at out) (record_bytes r) (drop (at + 14) out)) in
    record {
      size = ap length s ∙ length-append front (drop (at + 14) out) ∙ rw (n, length-drop) (omega (arith, w.size));
      room = omega (arith, w.room, written_more r rs);
      is =
          ap (λ (u : List ℕ). take (at + 14) u ++ written rs) s
          ∙ ap (λ (u : List ℕ). u ++ written rs) (take_at front (drop (at + 14) out) (at + 14) n)
          ∙ append_assoc (take at out) (record_bytes r) (written rs)
          ∙ unfold written in w.is;
      kept =
          ap (drop (at + 14)) s
          ∙ drop_at front (drop (at + 14) out) (at + 14) n
          ∙ sym (drop-drop 14 at out)
          ∙ ap (drop 14) w.kept
          ∙ drop-drop 14 at out₀;
    }

pub wrote_all : {t out₀ out : List ℕ} {at : ℕ} → Wrote t out₀ at [] out → out ≡ t ++ drop (length t) out₀
unfolding written
wrote_all {t} {out₀} {out} {at} w =
    let e : take at out ≡ t = sym (append-nil (take at out)) ∙ w.is in
    let n : length t ≡ at = ap length (sym e) ∙ length-take-le at out (omega (arith, w.room, w.size)) in
    sym (take-append-drop at out)
    ∙ ap (λ (u : List ℕ). u ++ drop at out) e
    ∙ ap (λ (u : List ℕ). t ++ u) w.kept
    ∙ rw n
