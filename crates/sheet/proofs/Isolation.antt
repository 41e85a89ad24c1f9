-- The squares put together along a list, by induction, and what follows for two lists.
use Prim.Native.Nat.{ℕ, ◌<◌}
use native.Mathlib.Omega.{arith}
use mathlib.Core.List.{List, [], ◌∷◌, ◌++◌}
use mathlib.Core.Path.{◌≡◌, refl, sym, ap, ◌∙◌}
use Rattle.std.proofs.Common.{Option, Some, None}
use Rattle.registers.specs.Calls.{Call, after, from, machine0, step}
use Rattle.device.specs.State.{Machine}
use Rattle.registers.proofs.Overflows.{over_bit, under_bit}
use Rattle.sheet.specs.Lines.{Holds, Lines, own_lines}
use Rattle.sheet.specs.OwnPart.{Cut, Part, added, own, own_part}
use Rattle.sheet.specs.Sheet.{Sheet, sheet0, sheet_after, sheet_from, sheet_shows}
use Rattle.sheet.specs.Shows.{shows}
use Rattle.sheet.proofs.Fed.{from_added, sheet_step_by}
use Rattle.sheet.proofs.Kept.{fits, fits_start, holds_all, holds_both, holds_left, holds_none, holds_right}
use Rattle.sheet.proofs.Projection.{Fits, sheet_in, start}
use Rattle.sheet.proofs.Sizes.{Sized, sized_after, sized_start, sized_step}
use Rattle.sheet.proofs.Squares.{square}

along : (S : Lines) (c : ℕ) → c < 128 → (m : Machine) (l : List Call) → Sized m → Fits S (sheet_in S c m).counter.input → Holds S (own_lines c l) →
    sheet_in S c (from m l) ≡ sheet_from c (sheet_in S c m) (own_part S c l)
unfolding from own_part own_lines sheet_from
along S c c< m [] size fit h = refl
along S c c< m (x ∷ l) size fit h =
    let one : sheet_in S c (step m x) ≡ sheet_step_by c (sheet_in S c m) (own S c x) = square S c c< m size x (unfold sheet_in in fit) in
    along S c c< (step m x) l (sized_step m size x) (rw one (fits S c (sheet_in S c m) fit x (holds_left S _ _ h))) (holds_right S _ _ h)
    ∙ rw one (sym (from_added c (sheet_in S c m) (own S c x) (own_part S c l)))

fit_start : (S : Lines) (c : ℕ) → c < 128 → Fits S (sheet_in S c machine0).counter.input
unfolding sheet0
fit_start S c c< = rw (start S c c<) (fits_start S)

-- what a counter shows in the machine is what its sheet shows
shows_sheet : (S : Lines) (c : ℕ) → c < 128 → (m : Machine) → Sized m → shows c m ≡ sheet_shows (sheet_in S c m)
unfolding shows sheet_shows sheet_in
shows_sheet S c c< m size = grind (arith, over_bit, under_bit)

-- for every set of lines that has c's own
pub isolation_in : (S : Lines) (c : ℕ) → c < 128 → (l : List Call) → Holds S (own_lines c l) →
    shows c (after l) ≡ sheet_shows (sheet_after c (own_part S c l))
unfolding after sheet_after
isolation_in S c c< l h =
    shows_sheet S c c< (from machine0 l) (sized_after l)
    ∙ ap sheet_shows
    (along S c c< machine0 l sized_start (fit_start S c c<) h ∙ ap (λ (s : Sheet). sheet_from c s (own_part S c l)) (start S c c<))

pub isolation : (c : ℕ) → c < 128 → (l : List Call) → shows c (after l) ≡ sheet_shows (sheet_after c (own_part (own_lines c l) c l))
isolation c c< l = isolation_in (own_lines c l) c c< l (holds_all (own_lines c l))

-- the own lines of a list are own lines of every list that begins with it
pub holds_begin : (c : ℕ) (l₁ l₂ : List Call) (S : Lines) → Holds S (own_lines c (l₁ ++ l₂)) → Holds S (own_lines c l₁)
unfolding own_lines
holds_begin c [] l₂ S h = holds_none S
holds_begin c (x ∷ l₁) l₂ S h = holds_both S _ _ (holds_left S _ _ h) (holds_begin c l₁ l₂ S (holds_right S _ _ h))

-- after each call of a longer list, with that list's own lines
pub isolation_each : (c : ℕ) → c < 128 → (l₁ l₂ : List Call) →
    shows c (after l₁) ≡ sheet_shows (sheet_after c (own_part (own_lines c (l₁ ++ l₂)) c l₁))
isolation_each c c< l₁ l₂ = isolation_in _ c c< l₁ (holds_begin c l₁ l₂ _ (holds_all _))

-- two lists, cut anywhere so that their beginnings have the same own part
pub alike_cut : (c : ℕ) → c < 128 → (l₁ l₂ m₁ m₂ : List Call) →
    own_part (own_lines c (l₁ ++ l₂)) c l₁ ≡ own_part (own_lines c (m₁ ++ m₂)) c m₁ → shows c (after l₁) ≡ shows c (after m₁)
alike_cut c c< l₁ l₂ m₁ m₂ e =
    isolation_each c c< l₁ l₂ ∙ ap (λ (parts : List Part). sheet_shows (sheet_after c parts)) e ∙ sym (isolation_each c c< m₁ m₂)

-- ---- after each call of the own part

added_append : (o : Option Part) (ps qs : List Part) → added o (ps ++ qs) ≡ added o ps ++ qs
unfolding added
added_append o ps qs = grind arith

pub own_part_append : (S : Lines) (c : ℕ) (l₁ l₂ : List Call) → own_part S c (l₁ ++ l₂) ≡ own_part S c l₁ ++ own_part S c l₂
unfolding own_part
own_part_append S c [] l₂ = refl
own_part_append S c (x ∷ l₁) l₂ = rw (own_part_append S c l₁ l₂) (added_append (own S c x) (own_part S c l₁) (own_part S c l₂))

cut_call : (S : Lines) (c : ℕ) (x : Call) (l : List Call) (ps qs : List Part) →
    ((ps qs : List Part) → own_part S c l ≡ ps ++ qs → Cut S c l ps) →
    (o : Option Part) → own S c x ≡ o → added o (own_part S c l) ≡ ps ++ qs → Cut S c (x ∷ l) ps
unfolding own_part added
cut_call S c x l ps qs more None f e =
    let r = more ps qs e in
    record { first = x ∷ r.first; rest = r.rest; whole = ap {B = List Call} (λ k. x ∷ k) r.whole; part = rw f r.part }
cut_call S c x l [] qs more (Some p) f e = record { first = []; rest = x ∷ l; whole = refl; part = refl }
cut_call S c x l (q ∷ ps) qs more (Some p) f e =
    let r = more ps qs (cc) in
    let s : p ≡ q = cc in
    record { first = x ∷ r.first; rest = r.rest; whole = ap {B = List Call} (λ k. x ∷ k) r.whole; part = rw (f, s, r.part) }

pub cut : (S : Lines) (c : ℕ) (l : List Call) (ps qs : List Part) → own_part S c l ≡ ps ++ qs → Cut S c l ps
unfolding own_part
cut S c [] [] qs e = record { first = []; rest = []; whole = refl; part = refl }
cut S c [] (p ∷ ps) qs e = let z : ◌≡◌ {A = ℕ} 0 1 = cc in absurd (omega arith)
cut S c (x ∷ l) ps qs e = cut_call S c x l ps qs (cut S c l) (own S c x) refl e

-- wherever one of two lists with the same own part is cut, the other can be cut so that the beginnings have the same own part
pub alike : (c : ℕ) → c < 128 → (l m : List Call) → own_part (own_lines c l) c l ≡ own_part (own_lines c m) c m →
    (l₁ l₂ : List Call) → l ≡ l₁ ++ l₂ →
    (k : Cut (own_lines c m) c m (own_part (own_lines c l) c l₁)) × (shows c (after l₁) ≡ shows c (after k.first))
alike c c< l m e l₁ l₂ p =
    let k : Cut (own_lines c m) c m (own_part (own_lines c l) c l₁) =
    cut (own_lines c m) c m _ (own_part (own_lines c l) c l₂) (sym e ∙ ap (own_part (own_lines c l) c) p ∙ own_part_append (own_lines c l) c l₁ l₂) in (
      k,
      isolation_in (own_lines c l) c c< l₁ (holds_begin c l₁ l₂ _ (rw (← p) (holds_all (own_lines c l))))
          ∙ ap (λ (parts : List Part). sheet_shows (sheet_after c parts)) (sym k.part)
          ∙ sym (isolation_in (own_lines c m) c c< k.first (holds_begin c k.first k.rest _ (rw (← k.whole) (holds_all (own_lines c m))))),
    )
