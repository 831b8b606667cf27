-- Each example is computed. Assumes nothing.
use Rattle.std.proofs.Common.{refl}
use Rattle.money.specs.Rounding.{half_up, residue_of}
use Rattle.money.proofs.laws.reckoned_conversions.Goals as goal

pub returns : goal.returns
unfolding half_up residue_of
returns c =
    record { mark = refl; half = refl; nine_lire = refl; ten_lire = refl; through_mills = refl; francs = refl }
