-- The sum so far and that of the legs left are the whole. Assumes nothing.
use Rattle.std.proofs.Common.{◌≡◌, ◌*◌, ◌^◌, ◌≤◌, drop, ◌+ℤ◌, nat_abs}
use Rattle.ledger.specs.Legs.{rise}
use Rattle.ledger.proofs.sums.rise.Given as goal

abbrev pub invariant-loop-leg : goal.invariant-loop-leg
invariant-loop-leg l = (l.sum +ℤ rise (drop l.leg-index l.legs) l.account l.column ≡ rise l.legs l.account l.column) × (nat_abs l.sum ≤ l.leg-index * 2 ^ 63)
