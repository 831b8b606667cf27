-- The leg stands in the column, or not. Assumes nothing.
use Rattle.std.proofs.Common.{arith}
use Rattle.std.proofs.lemmas.Int.{ints}
use Rattle.ledger.proofs.Rises.{in_column_here, in_column_off}
use Rattle.ledger.proofs.sums.in_column.Goals as goal

pub returns-then-leg-column : goal.returns-then-leg-column
returns-then-leg-column c = omega (arith, ints, in_column_here c.args.leg c.args.column c.if-leg-column.true)

pub returns-else-leg-column : goal.returns-else-leg-column
returns-else-leg-column c = omega (arith, ints, in_column_off c.args.leg c.args.column c.if-leg-column.false)
