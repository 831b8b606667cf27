-- What an entry holds makes one. Assumes nothing.
use Rattle.std.proofs.Common.{ap, ◌∙◌}
use Rattle.ledger.specs.Entries.{is_entry}
use Rattle.ledger.proofs.Entries.{entry_legs_lem}
use Rattle.ledger.proofs.entry.Entry.legs.Goals as goal

pub returns-clause-lawful : goal.returns-clause-lawful
returns-clause-lawful c = entry_legs_lem _ (ap is_entry c.as_slice.ensures.value ∙ c.args.self.now.ok)
