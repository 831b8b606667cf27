-- The leg stands in the account, or not. Assumes nothing.
use Rattle.std.proofs.Common.{arith}
use Rattle.std.proofs.lemmas.Int.{ints}
use Rattle.ledger.proofs.Rises.{in_cell_here, in_cell_off}
use Rattle.ledger.proofs.sums.in_cell.Goals as goal

pub returns-then-leg-account : goal.returns-then-leg-account
returns-then-leg-account c = omega (arith, ints, c.in_column.ensures, in_cell_here c.args.leg c.args.account c.args.column c.if-leg-account.true)

pub returns-else-leg-account : goal.returns-else-leg-account
returns-else-leg-account c = omega (arith, ints, in_cell_off c.args.leg c.args.account c.args.column c.if-leg-account.false)
