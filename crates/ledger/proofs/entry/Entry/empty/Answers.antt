-- No legs make an entry. Assumes nothing.
use Rattle.std.proofs.Common.{ap, ◌∙◌}
use Rattle.ledger.specs.Entries.{is_entry}
use Rattle.ledger.proofs.Entries.{empty_entry}
use Rattle.ledger.proofs.entry.Entry.empty.Goals as goal

pub invariant_of-result : goal.invariant_of-result
invariant_of-result c = record { ok = ap is_entry c.new.ensures ∙ empty_entry }
