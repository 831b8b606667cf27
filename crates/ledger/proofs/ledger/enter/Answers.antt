-- Every ledger keeps what its contract says of one entry. Assumes nothing.
use Rattle.ledger.proofs.Conserving.{conserves}
use Rattle.ledger.proofs.Entries.{entry_legs_lem}
use Rattle.ledger.proofs.ledger.enter.Goals as goal

pub returns : goal.returns
returns g c = record {
  refused = c.take.ensures.refused;
  meaning = c.take.ensures.meaning;
  conserved = conserves _ _ _ _ (entry_legs_lem _ c.args.entry.now.ok) c.take.ensures.refused c.take.ensures.meaning;
}
