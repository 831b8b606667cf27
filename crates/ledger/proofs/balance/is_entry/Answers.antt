-- The tests one after the other are the test. Assumes nothing.
use Rattle.std.proofs.Common.{rules}
use Rattle.ledger.specs.Entries.{is_entry}
use Rattle.ledger.proofs.balance.is_entry.Goals as goal

pub returns-then-all_in_range : goal.returns-then-all_in_range
unfolding is_entry
returns-then-all_in_range c = search rules

pub returns-else-all_in_range : goal.returns-else-all_in_range
unfolding is_entry
returns-else-all_in_range c = search rules
