-- Each number is one column's. Assumes nothing.
use Rattle.ledger.proofs.Columns.{columns_numbered}
use Rattle.ledger.proofs.laws.columns_are_numbered.Goals as goal

pub returns : goal.returns
returns c = columns_numbered
