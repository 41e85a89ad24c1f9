-- Two lists with the same settled part: they are cut alike, have the same own lines, and show the counter alike.
use Prim.Native.Nat.{ℕ, ◌<◌}
use native.Mathlib.Omega.{arith}
use mathlib.Core.Bool.{Bool, true, false}
use mathlib.Core.List.{List, [], ◌∷◌, ◌++◌}
use mathlib.Core.Logic.{◌↔◌}
use mathlib.Core.Path.{◌≡◌, refl, sym, ap, ◌∙◌}
use borrow.Author.Tests.{eqb-true}
use Rattle.std.proofs.Common.{rules}
use Rattle.std.proofs.Common.{Option}
use Rattle.bools.proofs.Tests.{cases}
use Rattle.device.specs.declared.map.Register.TheVariants.{Input}
use Rattle.device.specs.Map.{kept}
use Rattle.registers.specs.Calls.{Call, after}
use Rattle.sheet.specs.Lines.{Holds, Lines, join, no_lines, own_lines}
use Rattle.sheet.specs.OwnPart.{Part, patched, added, own, own_part}
use Rattle.sheet.specs.Settled.{SettledCut, repeats, settled, settled_from, settled_part_of}
use Rattle.sheet.specs.Sheet.{Sheet, sheet0, sheet_after, sheet_from, sheet_shows, sheet_step}
use Rattle.sheet.specs.Shows.{shows}
use Rattle.sheet.proofs.Isolation.{cut, holds_begin, isolation_in, own_part_append}
use Rattle.sheet.proofs.Kept.{fits_part, fits_start, holds_all, holds_both, holds_left, holds_none, holds_right, holds_word, lines_call, lines_kept, lines_by, part_lines}
use Rattle.sheet.proofs.Projection.{Fits}
use Rattle.sheet.proofs.Settled.{settled_same}

-- ---- cuts

settled_append : (c : ℕ) (s : Sheet) (ps qs : List Part) → settled_from c s (ps ++ qs) ≡ settled_from c s ps ++ settled_from c (sheet_from c s ps) qs
unfolding settled_from sheet_from
settled_append c s [] qs = refl
settled_append c s (p ∷ ps) qs =
    cases (repeats c s p)
    (λ e. rw e (settled_append c (sheet_step c s p) ps qs))
    (λ e. rw e (ap (λ (r : List Part). p ∷ r) (settled_append c (sheet_step c s p) ps qs)))

-- parts cut behind a beginning of the settled ones
record PartsCut (c : ℕ) (s : Sheet) (parts ps : List Part) : Type 0 where
  first : List Part
  rest : List Part
  whole : parts ≡ first ++ rest
  part : settled_from c s first ≡ ps

-- one part more in front: a repeat, or the first of the settled ones
cut_repeat : (c : ℕ) (s : Sheet) (p : Part) (parts ps : List Part) → repeats c s p ≡ true → PartsCut c (sheet_step c s p) parts ps →
    PartsCut c s (p ∷ parts) ps
unfolding settled_from
cut_repeat c s p parts ps b r =
    record { first = p ∷ r.first; rest = r.rest; whole = ap {B = List Part} (λ k. p ∷ k) r.whole; part = rw b r.part }

cut_new : (c : ℕ) (s : Sheet) (p : Part) (parts ps : List Part) → repeats c s p ≡ false → PartsCut c (sheet_step c s p) parts ps →
    PartsCut c s (p ∷ parts) (p ∷ ps)
unfolding settled_from
cut_new c s p parts ps b r =
    record { first = p ∷ r.first; rest = r.rest; whole = ap {B = List Part} (λ k. p ∷ k) r.whole; part = rw (b, r.part) }

parts_cut : (c : ℕ) (s : Sheet) (parts ps qs : List Part) → settled_from c s parts ≡ ps ++ qs → PartsCut c s parts ps
unfolding settled_from
parts_cut c s [] [] qs e = record { first = []; rest = []; whole = refl; part = refl }
parts_cut c s [] (q ∷ ps) qs e = let z : ◌≡◌ {A = ℕ} 0 1 = cc in absurd (omega arith)
parts_cut c s (p ∷ parts) [] qs e = record { first = []; rest = p ∷ parts; whole = refl; part = refl }
parts_cut c s (p ∷ parts) (q ∷ ps) qs e =
    cases (repeats c s p)
    (λ b. cut_repeat c s p parts (q ∷ ps) b (parts_cut c (sheet_step c s p) parts (q ∷ ps) qs (rw b at e)))
    (λ b.
    let f : p ∷ settled_from c (sheet_step c s p) parts ≡ q ∷ (ps ++ qs) = rw b at e in
    let h : p ≡ q = cc in
    rw (← h) (cut_new c s p parts ps b (parts_cut c (sheet_step c s p) parts ps qs (cc))))

pub settled_cut : (S : Lines) (c : ℕ) (l : List Call) (ps qs : List Part) → settled c (own_part S c l) ≡ ps ++ qs → SettledCut S c l ps
unfolding settled
settled_cut S c l ps qs e =
    let r = parts_cut c sheet0 (own_part S c l) ps qs e in
    let k = cut S c l r.first r.rest r.whole in
    record { first = k.first; rest = k.rest; whole = k.whole; part = rw k.part r.part }

-- ---- two cuts with the same settled part show the counter alike

pub shows_settled : (S : Lines) (c : ℕ) → c < 128 → (l : List Call) → Holds S (own_lines c l) →
    shows c (after l) ≡ sheet_shows (sheet_after c (settled c (own_part S c l)))
shows_settled S c c< l h = isolation_in S c c< l h ∙ ap sheet_shows (sym (settled_same c (own_part S c l)))

pub alike_settled_cut : (S T : Lines) (c : ℕ) → c < 128 → (l m : List Call) → Holds S (own_lines c l) → Holds T (own_lines c m) →
    settled c (own_part S c l) ≡ settled c (own_part T c m) → shows c (after l) ≡ shows c (after m)
alike_settled_cut S T c c< l m p q e =
    shows_settled S c c< l p ∙ ap (λ (parts : List Part). sheet_shows (sheet_after c parts)) e ∙ sym (shows_settled T c c< m q)

-- ---- the settled part has all own lines

unfoldable parts_lines : List Part → Lines
parts_lines [] = no_lines
parts_lines (p ∷ parts) = join (part_lines p) (parts_lines parts)

lines_added : (o : Option Part) (parts : List Part) → parts_lines (added o parts) ≡ join (lines_by o) (parts_lines parts)
unfolding added parts_lines join
lines_added o parts = search rules

-- the own lines can be read off the own part, whatever set it was taken with
lines_parts : (S : Lines) (c : ℕ) (l : List Call) → parts_lines (own_part S c l) ≡ own_lines c l
unfolding own_part own_lines parts_lines
lines_parts S c [] = refl
lines_parts S c (x ∷ l) = lines_added (own S c x) (own_part S c l) ∙ rw (lines_call S c x, lines_parts S c l)

module _ (A : Lines) (c : ℕ) where
  -- A has the lines that the sheet's input register selects
  abbrev At : Sheet → Type 0
  At s = Fits A s.counter.input

  -- a repeat brings no new line
  at_repeat : (s : Sheet) → At s → (p : Part) → repeats c s p ≡ true → Holds A (part_lines p)
  unfolding repeats
  at_repeat s a (patched w) e = rw (← (lines_kept c w), eqb-true (kept (Input c) w) s.counter.input e) (holds_word A s.counter.input a)
  at_repeat s a p e = holds_none A

  -- what is dropped has no lines of its own ..
  lines_all : (s : Sheet) → At s → (parts : List Part) → Holds A (parts_lines (settled_from c s parts)) → Holds A (parts_lines parts)
  unfolding settled_from parts_lines
  lines_all s a [] h = h
  lines_all s a (p ∷ parts) h =
      cases (repeats c s p)
      (λ e.
      let q : Holds A (part_lines p) = at_repeat s a p e in
      holds_both A _ _ q (lines_all (sheet_step c s p) (fits_part A c s a p q) parts (rw e at h)))
      (λ e.
      let k : Holds A (join (part_lines p) (parts_lines (settled_from c (sheet_step c s p) parts))) = rw e at h in
      let q : Holds A (part_lines p) = holds_left A _ _ k in
      holds_both A _ _ q (lines_all (sheet_step c s p) (fits_part A c s a p q) parts (holds_right A _ _ k)))

  -- .. and nothing is added
  lines_settled : (s : Sheet) (parts : List Part) → Holds A (parts_lines parts) → Holds A (parts_lines (settled_from c s parts))
  unfolding settled_from parts_lines
  lines_settled s [] h = h
  lines_settled s (p ∷ parts) h =
      cases (repeats c s p)
      (λ e. rw e (lines_settled (sheet_step c s p) parts (holds_right A _ _ h)))
      (λ e. rw e (holds_both A _ _ (holds_left A _ _ h) (lines_settled (sheet_step c s p) parts (holds_right A _ _ h))))

  at_start : At sheet0
  unfolding sheet0
  at_start = fits_start A

same_test : (a b : Bool) → (a ≡ true → b ≡ true) → (b ≡ true → a ≡ true) → a ≡ b
same_test a b f g = grind arith

-- a set that has the own lines of the one list has those of the other ..
lines_held : (S T : Lines) (c : ℕ) (l m : List Call) → settled c (own_part S c l) ≡ settled c (own_part T c m) →
    (A : Lines) → Holds A (own_lines c l) → Holds A (own_lines c m)
unfolding settled
lines_held S T c l m e A h =
    rw (lines_parts T c m) at
    (lines_all A c sheet0 (at_start A c) (own_part T c m)
    (rw e at (lines_settled A c sheet0 (own_part S c l) (rw (lines_parts S c l) h))))

-- .. so two lists with the same settled part have the same own lines, whatever sets it was taken with
pub lines_alike : (S T : Lines) (c : ℕ) (l m : List Call) → settled c (own_part S c l) ≡ settled c (own_part T c m) → own_lines c l ≡ own_lines c m
lines_alike S T c l m e =
    let p : Holds (own_lines c m) (own_lines c l) = lines_held T S c m l (sym e) (own_lines c m) (holds_all (own_lines c m)) in
    let q : Holds (own_lines c l) (own_lines c m) = lines_held S T c l m e (own_lines c l) (holds_all (own_lines c l)) in
    λ i. record {
      inputs = λ n. same_test ((own_lines c l).inputs n) ((own_lines c m).inputs n) (p.inputs n) (q.inputs n) i;
      gates = λ n. same_test ((own_lines c l).gates n) ((own_lines c m).gates n) (p.gates n) (q.gates n) i;
    }

-- so the own lines of the one list are enough to compare both
pub settled_by_one : (c : ℕ) (l m : List Call) →
    (settled_part_of c l ≡ settled c (own_part (own_lines c l) c m)) ↔ (settled_part_of c l ≡ settled_part_of c m)
settled_by_one c l m = grind (arith, lines_alike)

-- ---- wherever the one list is cut

pub alike_settled_in : (S T : Lines) (c : ℕ) → c < 128 → (l m : List Call) → Holds S (own_lines c l) → Holds T (own_lines c m) →
    settled c (own_part S c l) ≡ settled c (own_part T c m) → (l₁ l₂ : List Call) → l ≡ l₁ ++ l₂ →
    (k : SettledCut T c m (settled c (own_part S c l₁))) × (shows c (after l₁) ≡ shows c (after k.first))
unfolding settled
alike_settled_in S T c c< l m p q e l₁ l₂ w =
    let k : SettledCut T c m (settled c (own_part S c l₁)) =
    settled_cut T c m _ (settled_from c (sheet_from c sheet0 (own_part S c l₁)) (own_part S c l₂))
    (sym e ∙ ap (λ (x : List Call). settled_from c sheet0 (own_part S c x)) w
    ∙ ap (settled_from c sheet0) (own_part_append S c l₁ l₂) ∙ settled_append c sheet0 (own_part S c l₁) (own_part S c l₂)) in (
      k,
      alike_settled_cut S T c c< l₁ k.first (holds_begin c l₁ l₂ S (rw (← w) p))
          (holds_begin c k.first k.rest T (rw (← k.whole) q))
          (sym k.part),
    )
