-- Assumes nothing.
use Rattle.model.proofs.Examples.{reckoned_refusals}
use Rattle.model.proofs.laws.reckoned_refusals.Goals as goal

pub returns : goal.returns
returns c = reckoned_refusals
