-- Assumes nothing.
use Rattle.register.proofs.Names.{names_each_fault}
use Rattle.register.proofs.laws.register_names_each_fault.Goals as goal

pub returns : goal.returns
returns c = names_each_fault
