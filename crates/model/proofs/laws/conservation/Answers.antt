-- Assumes nothing.
use Rattle.model.proofs.Runs.{conservation}
use Rattle.model.proofs.laws.conservation.Goals as goal

pub returns : goal.returns
returns c = conservation
