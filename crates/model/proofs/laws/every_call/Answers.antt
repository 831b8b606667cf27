-- Assumes nothing.
use Rattle.model.proofs.EveryCall.{every_call}
use Rattle.model.proofs.laws.every_call.Goals as goal

pub returns : goal.returns
returns c = every_call
