-- The sum so far and that of the records left are the whole. Assumes nothing.
use Rattle.std.proofs.Common.{◌≡◌, ◌*◌, ◌≤◌, drop, ◌+ℤ◌, nat_abs}
use Rattle.money.specs.Conversions.{most_amount}
use Rattle.journal.specs.Journal.{recorded}
use Rattle.journal.proofs.sums.recorded.Given as goal

abbrev pub invariant-loop-leg : goal.invariant-loop-leg
invariant-loop-leg l = (l.sum +ℤ recorded (drop l.leg-index l.records) l.account l.column ≡ recorded l.records l.account l.column) × (nat_abs l.sum ≤ l.leg-index * most_amount)
