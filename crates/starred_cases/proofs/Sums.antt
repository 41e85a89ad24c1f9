-- Worked cases of sliding sums over the longest windows, written out by hand from document 02, CR 4.
use Prim.Native.Nat.{ℕ, ◌-◌}
use mathlib.Core.List.{[], ◌∷◌, ◌++◌}
use mathlib.Core.Path.{◌≡◌, refl}
use lib.IntN.{ℤ, pos, negsuc}
use lib.ListN.{replicate}
use Rattle.std.specs.declared.result.Result.TheVariants.{Ok, Err}
use Rattle.sums.specs.Fresh.{fresh_sum, last_of, total}
use Rattle.sums.specs.Sums.{is_ready, number_of, refusal, sample_of, sample_outcome, sliding, start_of, start_outcome}

abbrev minus : ℕ → ℤ
minus n = negsuc (n - 1)

-- a window of 65,536 is taken, one of 65,537 is refused, at a start and at a sample
largest : number_of (start_of 65536 (replicate 65536 (pos 7))).answer ≡ 0
unfolding start_of is_ready
largest = refl

too_large : start_of 65537 (replicate 65537 (pos 7)) ≡ start_outcome (Err refusal) (replicate 65537 (pos 7))
unfolding start_of is_ready
too_large = refl

window_too_large : sample_of (sliding 65537 0 (pos 9)) (replicate 65537 (pos 7)) (pos 1) ≡
    sample_outcome (Err refusal) (sliding 65537 0 (pos 9)) (replicate 65537 (pos 7))
unfolding sample_of is_ready
window_too_large = refl

-- 65,536 of the smallest samples: -140,737,488,355,328, which does not wrap; and of the largest: 140,737,488,289,792
fresh_largest : fresh_sum 65536 (replicate 65536 (minus 2147483648)) ≡ minus 140737488355328
unfolding fresh_sum last_of total
fresh_largest = refl

fresh_top : fresh_sum 65536 (replicate 65536 (pos 2147483647)) ≡ pos 140737488289792
unfolding fresh_sum last_of total
fresh_top = refl

-- the last of the smallest fed in: the sum, and the place behind the window's last word
last_of_largest : (sample_of (sliding 65536 65535 (minus 140735340871680)) (replicate 65535 (minus 2147483648) ++ (pos 0 ∷ [])) (minus 2147483648)).answer ≡
    Ok (minus 140737488355328)
unfolding sample_of is_ready
last_of_largest = refl

first_again : (sample_of (sliding 65536 65535 (pos 0)) (replicate 65536 (pos 0)) (pos 1)).state.place ≡ 0
unfolding sample_of is_ready
first_again = refl
