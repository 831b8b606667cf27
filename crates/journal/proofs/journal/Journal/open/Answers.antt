-- No record is taken. Assumes nothing.
use Rattle.std.proofs.Common.{refl}
use Rattle.journal.proofs.Records.{opened}
use Rattle.journal.proofs.journal.Journal.open.Goals as goal

pub returns : goal.returns
returns c = record { meaning = opened c.args.records.now; records = refl; named = refl; taken = refl }
