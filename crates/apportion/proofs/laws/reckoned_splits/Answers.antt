-- Each example is computed. Assumes nothing.
use Rattle.std.proofs.Common.{refl}
use Rattle.apportion.specs.Splits.{all_weights, quotient, remainder, units_left, before, rank, served, portion, fraction, portions, fractions}
use Rattle.apportion.proofs.laws.reckoned_splits.Goals as goal

pub returns : goal.returns
unfolding all_weights quotient remainder units_left before rank served portion fraction portions fractions
returns c =
    record { thirds = λ _ _ _. refl; thirds_owed = λ _ _ _. refl; place_first = λ _ _ _. refl; weight_first = λ _ _ _. refl }
