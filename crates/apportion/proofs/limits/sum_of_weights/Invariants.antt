-- Assumes nothing.
use Rattle.std.proofs.Common.{◌≡◌, ◌+◌, ◌*◌, ◌≤◌, drop}
use Rattle.apportion.specs.Places.{sum_below}
use Rattle.apportion.specs.Splits.{weight_at}
use Rattle.apportion.specs.Refusals.{most_weight, each_share, some_weight}
use Rattle.apportion.proofs.limits.sum_of_weights.Given as goal

-- What is left of the shares decides the answer, and the weights so far are summed.
abbrev pub invariant-loop-i : goal.invariant-loop-i
invariant-loop-i l =
    (each_share (l.i + 1) (drop l.i l.shares) (some_weight l.shares) ≡ each_share 1 l.shares (some_weight l.shares))
    × (l.sum ≡ sum_below (weight_at l.shares) l.i)
    × (l.sum ≤ l.i * most_weight)
