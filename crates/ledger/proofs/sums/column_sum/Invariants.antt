-- The sum so far and that of the legs left are the whole. Assumes nothing.
use Rattle.std.proofs.Common.{◌≡◌, ◌*◌, ◌^◌, ◌≤◌, drop, ◌+ℤ◌, nat_abs}
use Rattle.ledger.specs.Legs.{column_sum}
use Rattle.ledger.proofs.sums.column_sum.Given as goal

abbrev pub invariant-loop-leg : goal.invariant-loop-leg
invariant-loop-leg l = (l.sum +ℤ column_sum (drop l.leg-index l.legs) l.column ≡ column_sum l.legs l.column) × (nat_abs l.sum ≤ l.leg-index * 2 ^ 63)
