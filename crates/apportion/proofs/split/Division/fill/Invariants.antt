-- Assumes nothing.
use Rattle.money.specs.Conversions.{minors}
use Rattle.apportion.specs.Splits.{portion, fraction, fraction_of}
use Rattle.apportion.proofs.Filled.{Filled}
use Rattle.apportion.proofs.split.Division.fill.Given as goal

abbrev pub invariant-loop-i : goal.invariant-loop-i
invariant-loop-i g l = record {
  portions : Filled (λ k. minors (portion (g.R.TieRule.tie l.self.rule.now) l.self.amount l.self.shares.now k)) l.initial.portions l.portions l.i;
  fractions : Filled (λ k. fraction_of (fraction (g.R.TieRule.tie l.self.rule.now) l.self.amount l.self.shares.now k)) l.initial.fractions l.fractions l.i;
}
