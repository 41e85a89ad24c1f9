-- What the test before a start and before a sample says.
use Rattle.std.proofs.Common.{◌≡◌, ℕ, ◌<◌, ◌≤◌, true, arith}
use Rattle.std.proofs.lemmas.Bool.Decides.{nat_tests}
use Rattle.sums.specs.Sums.{is_ready, largest_window}

pub record Ready (window place words : ℕ) : Type 0 where
  pub most : window ≤ largest_window
  pub in_ring : window ≤ words
  pub in_window : place < window

pub ready_of : (window place words : ℕ) → is_ready window place words ≡ true → Ready window place words
unfolding is_ready
ready_of window place words e =
    record {
      most = grind (arith, nat_tests);
      in_ring = grind (arith, nat_tests);
      in_window = grind (arith, nat_tests);
    }
