-- Assumes nothing.
use Rattle.std.proofs.Common.{ℤ, ap, arith, rules}
use Rattle.std.proofs.lemmas.Int.{ints}
use Rattle.apportion.specs.Splits.{fraction_of}
use Rattle.apportion.proofs.Bounds.{weights_small, portion_served, portion_unserved}
use Rattle.apportion.proofs.split.Division.part.Goals as goal

pub overflow_cast-remainder : goal.overflow_cast-remainder
overflow_cast-remainder g c =
    let d = c.args.self.now in
    let b = weights_small d.amount d.shares.now d.weights d.divisible in
    search rules

pub overflow_cast-result : goal.overflow_cast-result
overflow_cast-result g c =
    let d = c.args.self.now in
    let b = weights_small d.amount d.shares.now d.weights d.divisible in
    search rules

pub overflow_sub-result : goal.overflow_sub-result
overflow_sub-result g c =
    let d = c.args.self.now in
    let b = weights_small d.amount d.shares.now d.weights d.divisible in
    search (rules, ints)

pub returns-then-rank-left : goal.returns-then-rank-left
returns-then-rank-left g c =
    let d = c.args.self.now in
    let b = weights_small d.amount d.shares.now d.weights d.divisible in
    let p = portion_served d.amount d.shares.now d.weights d.divisible (g.R.TieRule.tie d.rule.now) c.args.i (omega (arith, c.rank.ensures, c.requires.left)) in
    record { portion = ap (λ (z : ℤ). record { 0 = z }) (omega (arith, ints, p.0)); fraction = ap fraction_of (omega (arith, ints, p.1)) }

pub returns-else-rank-left : goal.returns-else-rank-left
returns-else-rank-left g c =
    let d = c.args.self.now in
    let b = weights_small d.amount d.shares.now d.weights d.divisible in
    let p = portion_unserved d.amount d.shares.now d.weights d.divisible (g.R.TieRule.tie d.rule.now) c.args.i (omega (arith, c.rank.ensures, c.requires.left)) in
    record { portion = ap (λ (z : ℤ). record { 0 = z }) (omega (arith, ints, p.0)); fraction = ap fraction_of (omega (arith, ints, p.1)) }
