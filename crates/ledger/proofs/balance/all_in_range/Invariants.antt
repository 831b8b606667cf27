-- What the legs left say is what all say. Assumes nothing.
use Rattle.std.proofs.Common.{◌≡◌, drop}
use Rattle.ledger.specs.Entries.{all_in_range}
use Rattle.ledger.proofs.balance.all_in_range.Given as goal

abbrev pub invariant-loop-leg : goal.invariant-loop-leg
invariant-loop-leg l = all_in_range (drop l.leg-index l.legs) ≡ all_in_range l.legs
