-- Assumes nothing.
use Rattle.model.proofs.Examples.{worked_run}
use Rattle.model.proofs.laws.worked_run.Goals as goal

pub returns : goal.returns
returns c = worked_run
