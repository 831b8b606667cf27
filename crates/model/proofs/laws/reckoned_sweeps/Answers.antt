-- Assumes nothing.
use Rattle.model.proofs.Examples.{reckoned_sweeps}
use Rattle.model.proofs.laws.reckoned_sweeps.Goals as goal

pub returns : goal.returns
returns c = reckoned_sweeps
