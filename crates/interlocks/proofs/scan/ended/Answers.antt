-- `ended` meets its contract: after k words it keeps `ended_after` of them, whether word k is read (`ended_more`) or nobody selects
-- anything in it (`ended_unwanted`).
use Prim.Native.Nat.{ℕ, ◌+◌}
use native.Mathlib.Omega.{arith}
use mathlib.Core.Bool.{false, not, true≢false}
use mathlib.Core.List.{List}
use mathlib.Core.Path.{◌≡◌, sym, ◌∙◌}
use lib.Dec.{eqb}
use lib.Pointwise.{pointwise}
use Rattle.std.proofs.Common.{None}
use Rattle.std.specs.Cmp.Lexicographic.{same_text}
use Rattle.bools.proofs.Tests.{cases}
use Rattle.lists.proofs.Tables.{tabulate_fill}
use Rattle.interlocks.specs.Interlock.{signals}
use Rattle.interlocks.specs.Together.{ended_next, words_next}
use Rattle.interlocks.proofs.Scanning.{ended_all, ended_more, ended_none, ended_unwanted}
use Rattle.interlocks.proofs.scan.ended.Goals as goal
use Rattle.interlocks.proofs.scan.ended.Goals.{then-ne, else-ne}

alike : (xs ys : List ℕ) → not (pointwise eqb xs ys) ≡ false → xs ≡ ys
alike xs ys e =
    cases (pointwise eqb xs ys)
    (λ p. same_text xs ys (sym p))
    (λ p. absurd (true≢false (rw p at e)))

pub loop-k-init : goal.loop-k-init
loop-k-init c = sym (tabulate_fill 6 None) ∙ ended_none c.args.s.now.settings.selections (signals c.args.s.now)

pub loop-k-preserved : goal.loop-k-preserved
loop-k-preserved c =
    let s = c.args.s.now in
    let l = c.loop-k in
    let chosen = s.settings.selections in
    let words = c.words_next-words.ensures ∙ (λ i. words_next (l.invariant i) chosen l.k) in
    elim c.if-ne.branch [
      | then-ne w ↦
          w.ended-is
          ∙ w.ended_next-next.ensures
          ∙ (λ i. ended_next (l.invariant i) (words i) (w.signals.ensures i) (l.k + 1))
          ∙ ended_more chosen (signals s) l.k
      | else-ne w ↦
          w.ended-is
          ∙ l.invariant
          ∙ ended_unwanted chosen (signals s) l.k (sym words ∙ alike _ _ (sym c.ne.ensures ∙ w.if-ne.false) ∙ sym (tabulate_fill 6 0))
    ]

pub returns : goal.returns
returns c =
    let l = c.loop-k in
    let e : l.k ≡ 22 = omega arith in (rw e at l.invariant) ∙ ended_all c.args.s.now
