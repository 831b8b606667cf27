-- Assumes nothing.
use Rattle.model.proofs.EveryCall.{fitness_clear}
use Rattle.model.proofs.laws.fit_if_clear.Goals as goal

pub returns : goal.returns
returns c = fitness_clear
