-- Both accounts are zero in the columns so far. Assumes nothing.
use Rattle.std.proofs.Common.{◌≡◌, true}
use Rattle.model.specs.State.{all_below, clear_at}
use Rattle.book.proofs.book.is_clear.Given as goal

abbrev pub invariant-loop-column : goal.invariant-loop-column
invariant-loop-column g l = all_below (clear_at (g.L.Balances.meaning l.ledger)) l.column ≡ true
