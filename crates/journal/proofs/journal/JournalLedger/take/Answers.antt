-- What was decided is what is written. Assumes nothing.
use Rattle.std.proofs.Common.{sym, ap, ◌∙◌}
use Rattle.ledger.specs.Meaning.{verdict}
use Rattle.ledger.proofs.Walk.{verdict_taken}
use Rattle.journal.proofs.journal.JournalLedger.take.Goals as goal

pub write-requires : goal.write-requires
write-requires c =
    record {
      room = (verdict_taken _ c.legs.result.now (ap (verdict _) c.legs.ensures.value ∙ sym c.in_ok-decide.ensures)).0;
      lawful = c.legs.ensures.lawful;
    }
