-- What the legs left say is what all say. Assumes nothing.
use Rattle.std.proofs.Common.{◌≡◌, drop}
use Rattle.ledger.specs.Entries.{zero_at_each}
use Rattle.ledger.proofs.balance.zero_at_each.Given as goal

abbrev pub invariant-loop-leg : goal.invariant-loop-leg
invariant-loop-leg l = zero_at_each l.legs (drop l.leg-index l.legs) ≡ zero_at_each l.legs l.legs
