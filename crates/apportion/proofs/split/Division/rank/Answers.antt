-- Assumes nothing.
use Rattle.std.proofs.Common.{ℕ, ◌^◌, Bool, true, length, refl, ◌∙◌, arith, rules}
use Rattle.std.proofs.lemmas.Iterator.{YieldsList-from_range, YieldsList-from_map}
use Rattle.std.proofs.lemmas.Iterator.Consumers.{sum_from_yields_List, fits_from_yields_list}
use Rattle.apportion.specs.Places.{one_if}
use Rattle.apportion.specs.Splits.{before, rank}
use Rattle.apportion.proofs.Counts.{sum_mapped, count_mono, count_all}
use Rattle.apportion.proofs.split.Division.rank.Goals as goal

pub sum-requires-clause-fits : goal.sum-requires-clause-fits
sum-requires-clause-fits g c =
    let d = c.args.self.now in
    let n = length d.shares.now in
    let p : ℕ → Bool = λ k. before (g.R.TieRule.tie d.rule.now) d.amount d.shares.now k c.args.i in
    let q : ℕ → ℕ = λ k. one_if (p k) in
    let most = d.divisible.shares_most in
    fits_from_yields_list c.map.result (2 ^ 64)
    (YieldsList-from_map _ q (YieldsList-from_range 0 n n c.map.ensures.source (omega arith)) c.map.ensures.closure (λ x r f k. search rules))
    (omega (arith, sum_mapped q n, count_mono p (λ _. true) n (λ _ _ _. refl), count_all n))

pub returns : goal.returns
unfolding rank
returns g c =
    let d = c.args.self.now in
    let n = length d.shares.now in
    let p : ℕ → Bool = λ k. before (g.R.TieRule.tie d.rule.now) d.amount d.shares.now k c.args.i in
    let q : ℕ → ℕ = λ k. one_if (p k) in
    sum_from_yields_List c.map.result _ c.sum.ensures.ran
    (YieldsList-from_map _ q (YieldsList-from_range 0 n n c.map.ensures.source (omega arith)) c.map.ensures.closure (λ x r f k. search rules))
    ∙ sum_mapped q n
