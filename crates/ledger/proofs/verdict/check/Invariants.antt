-- What the legs left say is what all say. Assumes nothing.
use Rattle.std.proofs.Common.{◌≡◌}
use Rattle.ledger.proofs.Walk.{left}
use Rattle.ledger.proofs.verdict.check.Given as goal

abbrev pub invariant-loop-i : goal.invariant-loop-i
invariant-loop-i g l = let m = g.B.Balances.meaning l.ledger in left m l.legs l.i ≡ left m l.legs 0
