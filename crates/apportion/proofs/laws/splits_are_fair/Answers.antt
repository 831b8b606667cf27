-- Assumes nothing.
use Rattle.apportion.proofs.Fairness.{always_fair}
use Rattle.apportion.proofs.Uniqueness.{only_fair}
use Rattle.apportion.proofs.laws.splits_are_fair.Goals as goal

pub returns : goal.returns
returns c = record { fair = always_fair; only = only_fair }
