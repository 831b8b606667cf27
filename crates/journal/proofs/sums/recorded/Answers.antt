-- One record more in the sum, and none left at the end. Assumes nothing.
use Rattle.std.proofs.Common.{pos, arith}
use Rattle.std.proofs.lemmas.Int.{ints}
use Rattle.ledger.specs.Legs.{leg}
use Rattle.journal.proofs.Records.{left_more, left_all}
use Rattle.journal.proofs.sums.recorded.Goals as goal

pub loop-leg-preserved : goal.loop-leg-preserved
loop-leg-preserved c = (
  omega (arith, ints, c.in_record-sum.ensures.value, c.in_record-sum.ensures.bound, left_more c.args.records.now c.loop-leg.leg-index (leg 0 0 (pos 0)) c.args.account c.args.column c.loop-leg-test.true),
  omega (arith, ints),
)

pub returns : goal.returns
returns c = omega (arith, ints, left_all c.args.records.now c.loop-leg.leg-index c.args.account c.args.column c.loop-leg-test.false)
