-- The records so far are in the row. Assumes nothing.
use Rattle.journal.proofs.Rows.{Row}
use Rattle.journal.proofs.sums.recorded_row.Given as goal

abbrev pub invariant-loop-leg : goal.invariant-loop-leg
invariant-loop-leg l = Row l.records l.account l.leg-index l.row
