-- Assumes nothing.
use Rattle.std.proofs.Common.{ℕ, ◌^◌, length, ◌∙◌, arith, rules}
use Rattle.std.proofs.lemmas.Iterator.{YieldsList-from_range, YieldsList-from_map}
use Rattle.std.proofs.lemmas.Iterator.Consumers.{sum_from_yields_List, fits_from_yields_list}
use Rattle.apportion.specs.Splits.{quotient}
use Rattle.apportion.proofs.Bounds.{units_within}
use Rattle.apportion.proofs.Counts.{sum_mapped}
use Rattle.apportion.proofs.split.Division.units_given.Goals as goal

pub sum-requires-clause-fits : goal.sum-requires-clause-fits
sum-requires-clause-fits g c =
    let d = c.args.self.now in
    let n = length d.shares.now in
    let q : ℕ → ℕ = quotient d.amount d.shares.now in
    let most = d.divisible.amount_most in
    fits_from_yields_list c.map.result (2 ^ 64)
    (YieldsList-from_map _ q (YieldsList-from_range 0 n n c.map.ensures.source (omega arith)) c.map.ensures.closure (λ x r f k. search rules))
    (omega (arith, sum_mapped q n, units_within d.amount d.shares.now d.weights d.divisible))

pub returns : goal.returns
returns g c =
    let d = c.args.self.now in
    let n = length d.shares.now in
    let q : ℕ → ℕ = quotient d.amount d.shares.now in
    sum_from_yields_List c.map.result _ c.sum.ensures.ran
    (YieldsList-from_map _ q (YieldsList-from_range 0 n n c.map.ensures.source (omega arith)) c.map.ensures.closure (λ x r f k. search rules))
    ∙ sum_mapped q n
