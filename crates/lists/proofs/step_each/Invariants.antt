use Rattle.std.proofs.Common.{◌≡◌, ◌<◌, ◌≤◌, ℕ, get_or}
use Rattle.lists.proofs.step_each.Given as goal

-- the elements before the one whose turn it is are what a call made of them, and the others are as they were
abbrev pub invariant-loop-i : goal.invariant-loop-i
invariant-loop-i g l =
    ((d : g.row.T.Denot) (k : ℕ) → k < l.i → g.F.Fn.post l.step (k, (get_or l.initial.xs k d, tt)) (get_or l.xs k d))
    × ((d : g.row.T.Denot) (k : ℕ) → l.i ≤ k → get_or l.xs k d ≡ get_or l.initial.xs k d)
